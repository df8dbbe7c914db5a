use Rattle.volume_image.proofs.Copies.{slice_index-replicate-of}
use Rattle.volume_image.proofs.fuses.spoilt_block.Goals as goal

pub returns : goal.returns
returns c = λ k d h. slice_index-replicate-of 256 _ 2730 k d c.low.ensures.value h
