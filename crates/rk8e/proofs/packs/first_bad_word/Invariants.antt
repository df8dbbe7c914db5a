use Rattle.std.proofs.Common.{ℕ, ◌<◌}
use Rattle.rk8e.specs.Packs.{file_word}
use Rattle.rk8e.proofs.packs.first_bad_word.Given as goal

-- no word so far has more than twelve bits
abbrev pub invariant-loop-number : goal.invariant-loop-number
invariant-loop-number l = (k : ℕ) → k < l.number → file_word l.bytes k < 4096
