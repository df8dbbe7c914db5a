use Rattle.std.proofs.Common.{◌∙◌}
use Rattle.volume_image.proofs.Copies.{slice_index-replicate-zero}
use Rattle.volume_image.proofs.ImageWords.{new_word-other}
use Rattle.volume_image.proofs.images.new_block.Goals as goal

pub lay_directory-requires-clause-zeros : goal.lay_directory-requires-clause-zeros
lay_directory-requires-clause-zeros c = slice_index-replicate-zero 256

pub returns-else-number-eq1 : goal.returns-else-number-eq1
returns-else-number-eq1 c = λ k h. slice_index-replicate-zero 256 k ∙ new_word-other c.args.count c.args.number k c.if-number-eq1.false
