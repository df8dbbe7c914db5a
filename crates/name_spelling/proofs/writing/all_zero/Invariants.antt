use Rattle.std.proofs.Common.{◌≡◌, length}
use Rattle.name_spelling.specs.Spelling.{all_zero}
use Rattle.name_spelling.proofs.writing.all_zero.Given as goal

abbrev pub invariant-loop-rest : goal.invariant-loop-rest
invariant-loop-rest l = all_zero l.rest ≡ all_zero l.fn.codes

abbrev pub decreases-loop-rest : goal.decreases-loop-rest
decreases-loop-rest l = length l.rest
