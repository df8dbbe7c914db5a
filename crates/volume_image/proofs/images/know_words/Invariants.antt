use Rattle.std.proofs.Common.{ℕ, ◌<◌, slice_index}
use Rattle.volume_image.proofs.images.know_words.Given as goal

-- the words so far have twelve bits
abbrev pub invariant-loop-word : goal.invariant-loop-word
invariant-loop-word l = (k : ℕ) → k < l.word-index → slice_index l.words k < 4096
