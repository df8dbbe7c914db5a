-- The frames of a block that a loader takes.
use Rattle.std.proofs.Common.{◌≡◌, ◌∙◌, ℕ, ◌+◌, ◌<◌, suc, List, [], ◌∷◌, ◌++◌, length, take, drop, slice_index, Ok, Err, ap, sym, subst, append_assoc}
use Rattle.bin_tape.specs.Fault.{IsFault}
use Rattle.bin_tape.specs.declared.faults.TapeFault.{TapeFault}
use Rattle.bin_tape.specs.declared.faults.TapeFault.TheVariants.{BadFrame, NoOrigin, CheckSum, NoTrailer, Memory}
use Rattle.char_pack.specs.Packing.{frames}
use Rattle.char_pack.specs.declared.packing.TheConstants.{BLOCK_FRAMES}
use Rattle.core_load.specs.Loading.{Loading}
use Rattle.core_load.specs.Load.{FeedsFrames, IsFed, IsFine}
use Rattle.volume_jobs.specs.Reading.{HasTaken}
use Rattle.volume_jobs.specs.Steps.{TakesFrames}
use Rattle.volume_jobs.proofs.FrameLemmas.{one_frame, split_frames}

pub following : (before fs : List ℕ) (i : ℕ) → i < length fs → (before ++ take i fs) ++ slice_index fs i ∷ [] ≡ before ++ take (i + 1) fs
following before fs i inside = append_assoc before (take i fs) (slice_index fs i ∷ []) ∙ ap (λ l. before ++ l) (sym (one_frame fs i inside))

whole : (before fs : List ℕ) (i : ℕ) → i < length fs → (before ++ take i fs) ++ slice_index fs i ∷ drop (suc i) fs ≡ before ++ fs
whole before fs i inside = append_assoc before (take i fs) (slice_index fs i ∷ drop (suc i) fs) ∙ ap (λ l. before ++ l) (sym (split_frames fs i inside))

pub joined : (before fs : List ℕ) (i frame : ℕ) → i < length fs → frame ≡ slice_index fs i → ((before ++ take i fs) ++ frame ∷ []) ++ drop (suc i) fs ≡ before ++ fs
joined before fs i frame inside is =
    append_assoc (before ++ take i fs) (frame ∷ []) (drop (suc i) fs)
    ∙ ap (λ f. (before ++ take i fs) ++ f ∷ drop (suc i) fs) is
    ∙ whole before fs i inside

-- one frame more is taken
pub taken_more : (before fs : List ℕ) (i frame : ℕ) (old new : Loading) → i < length fs → frame ≡ slice_index fs i → FeedsFrames (before ++ take i fs) (frame ∷ []) old new (Ok tt)
    → HasTaken new (before ++ take (i + 1) fs)
taken_more before fs i frame old new inside is feeds =
    let same : (before ++ take i fs) ++ frame ∷ [] ≡ before ++ take (i + 1) fs = ap (λ f. (before ++ take i fs) ++ f ∷ []) is ∙ following before fs i inside in
    record { fed = subst (λ l. IsFed new l) same feeds.0; fine = subst (λ l. IsFine l) same feeds.1 }

-- one frame is refused, or memory ran out
pub refused : (before block : List ℕ) (i frame : ℕ) (old new : Loading) (fault : TapeFault) → i < length (frames block) → i < BLOCK_FRAMES → frame ≡ slice_index (frames block) i
    → HasTaken old (before ++ take i (frames block)) → FeedsFrames (before ++ take i (frames block)) (frame ∷ []) old new (Err fault) → TakesFrames before block (Err fault) new i
refused before block i frame old new (BadFrame at) inside low is taken feeds =
    subst (λ l. IsFault l (BadFrame at)) (joined before (frames block) i frame inside is) (feeds.1 (drop (suc i) (frames block)))
refused before block i frame old new NoOrigin inside low is taken feeds =
    subst (λ l. IsFault l NoOrigin) (joined before (frames block) i frame inside is) (feeds.1 (drop (suc i) (frames block)))
refused before block i frame old new (CheckSum found computed) inside low is taken feeds =
    subst (λ l. IsFault l (CheckSum found computed)) (joined before (frames block) i frame inside is) (feeds.1 (drop (suc i) (frames block)))
refused before block i frame old new NoTrailer inside low is taken feeds = absurd feeds
refused before block i frame old new Memory inside low is taken feeds = (subst (λ l. HasTaken l (before ++ take i (frames block))) (sym feeds.1) taken, low)
