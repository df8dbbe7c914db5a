use Rattle.std.proofs.Common.{◌≡◌, ◌++◌, length}
use Rattle.char_pack.specs.Packing.{words_of_bytes}
use Rattle.char_pack.proofs.packing.push_packed.Given as goal

abbrev pub invariant-loop-rest : goal.invariant-loop-rest
invariant-loop-rest l = l.words.items ++ words_of_bytes l.rest ≡ l.fn.words.items ++ words_of_bytes l.bytes

abbrev pub decreases-loop-rest : goal.decreases-loop-rest
decreases-loop-rest l = length l.rest
