-- The beginning of a job that loads.
use Rattle.std.proofs.Common.{◌≡◌, ◌∙◌, ℕ, ◌+◌, false, inr, Option, unwrap_or, [], refl, ap, arith}
use Rattle.std.specs.FinMap.{get}
use Rattle.os8_dir.specs.Files.{FileData, files_of}
use Rattle.os8_files.specs.Mounted.{MountState}
use Rattle.os8_files.specs.Service.{blocks_in, blocks_of}
use Rattle.os8_files.specs.Calls as call
use Rattle.core_load.specs.Loading as load
use Rattle.core_load.specs.Load.{IsFed}
use Rattle.volume_jobs.specs.Reading.{HasTaken}
use Rattle.volume_jobs.specs.Steps.{HasBegunLoading}

none_taken : (loader : load.Loading) → IsFed loader [] → HasTaken loader []
none_taken loader fed = record {
  fed = fed;
  fine = inr ([], [], record { frames = refl; is_prefix = tt; begun = tt });
}

pub begun_loading : (old new : MountState) (name hold blocks : ℕ) (loader : load.Loading) (found : Option ℕ) → call.HasTaken old name hold new → (new.stopped ≡ false → found ≡ blocks_of (get (files_of new.blocks) name)) → blocks ≡ unwrap_or found 0 → IsFed loader []
    → HasBegunLoading old name (record { hold = hold; blocks_read = 0; offset = 0; loader = loader }) (blocks + 1) new
begun_loading old new name hold blocks loader found taken looked is fed = record {
  running = taken.running;
  words = taken.file.1;
  has = (taken.file.0, taken.there);
  stands = record {
    whole = taken.whole;
    turns = omega (arith, count);
    more = omega arith;
    offset = omega arith;
    taken = none_taken loader fed;
    at_end = λ one. absurd (never one);
  };
  turns = omega (arith, count);
  holds = taken.names;
  fits = record { more = omega arith; offset = omega arith; turns = omega (arith, count, taken.most) };
  others = taken.others;
}
  where
    count : blocks ≡ blocks_in taken.file
    count =
        is
        ∙ ap (λ o. unwrap_or o 0) (looked (ap (λ (m : MountState). m.stopped) taken.others ∙ taken.running))
        ∙ ap (λ (m : MountState). unwrap_or (blocks_of (get (files_of m.blocks) name)) 0) taken.others
        ∙ ap (λ (o : Option FileData). unwrap_or (blocks_of o) 0) taken.there

    never : blocks + 1 ≡ 1 → ⊥
    never one = omega (arith, one, count, taken.some)
