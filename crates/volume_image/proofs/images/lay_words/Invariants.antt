use Rattle.std.proofs.Common.{◌≡◌, ℕ, ◌+◌, ◌%◌, ◌<◌, slice_index}
use Rattle.volume_image.specs.Image.{image_word}
use Rattle.volume_image.proofs.images.lay_words.Given as goal

-- the words so far are those of the image
abbrev pub invariant-loop-k : goal.invariant-loop-k
invariant-loop-k l = (j : ℕ) → j < l.k → slice_index l.words j ≡ image_word l.bytes (l.first + j) % 4096
