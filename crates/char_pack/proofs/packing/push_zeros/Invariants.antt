use Rattle.std.proofs.Common.{◌≡◌, ◌++◌, replicate}
use Rattle.char_pack.proofs.packing.push_zeros.Given as goal

abbrev pub invariant-loop : goal.invariant-loop
invariant-loop l = l.words.items ≡ l.fn.words.items ++ replicate l.counter 0
