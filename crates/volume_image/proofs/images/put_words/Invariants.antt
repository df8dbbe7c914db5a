use Rattle.std.proofs.Common.{◌≡◌, ℕ, ◌+◌, ◌<◌, slice_index}
use Rattle.volume_image.specs.Image.{image_word}
use Rattle.volume_image.proofs.images.put_words.Given as goal

-- the words so far stand in the image, and those before them are as they were
abbrev pub invariant-loop-k : goal.invariant-loop-k
invariant-loop-k l = record {
  words : (j : ℕ) → j < l.k → image_word l.bytes (l.first + j) ≡ slice_index l.words j;
  range : (j : ℕ) → j < l.k → image_word l.bytes (l.first + j) < 4096;
  before : (j : ℕ) → j < l.first → image_word l.bytes j ≡ image_word l.initial.bytes j;
}
