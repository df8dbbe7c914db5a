use Rattle.std.proofs.Common.{ℕ, List, subst, sym}
use Rattle.volume_image.specs.Image.{IsImageOf}
use Rattle.keeper_laws.specs.Sound.{kept_names}
use Rattle.keeper_laws.proofs.SoundLemmas.{sound-with}
use Rattle.keeper_laws.proofs.laws.rescued_is_sound.Goals as goal

pub returns : goal.returns
returns c name form is_whole ok old new rescued answer some checks =
    sound-with c.image_round_trip.ensures.written_is_read_back rescued.salvage.image.items (kept_names rescued.from.items rescued.salvage rescued.salvages) rescued.salvages.of_blocks.fitted.rescued.blocks
    (subst (λ (bytes : List ℕ). IsImageOf bytes rescued.salvages.of_blocks.fitted.rescued.blocks) (sym rescued.salvages.of_blocks.image) rescued.salvages.of_blocks.fitted.rescued.is_image)
    (c.salvaged_files.ensures.order rescued.from.items rescued.salvage rescued.salvages) some answer checks
