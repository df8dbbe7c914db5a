use Rattle.std.proofs.Common.{◌≡◌, ℕ, ◌%◌, ◌<◌, ◌≤◌, slice_index}
use Rattle.rk8e.specs.Packs.{file_word}
use Rattle.rk8e.proofs.packs.lay_words.Given as goal

-- the words so far are those of the file, and the others zeros
abbrev pub invariant-loop-k : goal.invariant-loop-k
invariant-loop-k l = record {
  words : (j : ℕ) → j < l.k → slice_index l.words j ≡ file_word l.bytes j % 4096;
  zeros : (j : ℕ) → l.k ≤ j → slice_index l.words j ≡ 0;
}
