use Rattle.std.proofs.Common.{◌≡◌, ℕ, ◌<◌, slice_index}
use Rattle.rk8e.specs.Packs.{file_word}
use Rattle.rk8e.proofs.packs.put_words.Given as goal

-- the words so far stand in the file
abbrev pub invariant-loop-k : goal.invariant-loop-k
invariant-loop-k l = (j : ℕ) → j < l.k → file_word l.bytes j ≡ slice_index l.words j
