use Rattle.std.proofs.Common.{ℕ, ◌<◌}
use Rattle.volume_image.specs.Image.{image_word}
use Rattle.volume_image.proofs.images.first_bad_word.Given as goal

-- no word so far has more than twelve bits
abbrev pub invariant-loop-number : goal.invariant-loop-number
invariant-loop-number l = (k : ℕ) → k < l.number → image_word l.bytes k < 4096
