use Rattle.std.proofs.Common.{◌≡◌, length}
use Rattle.pal_sym.specs.Names.{all_coded}
use Rattle.pal_sym.proofs.names.all_coded.Given as goal

abbrev pub invariant-loop-rest : goal.invariant-loop-rest
invariant-loop-rest l = all_coded l.rest ≡ all_coded l.fn.text

abbrev pub decreases-loop-rest : goal.decreases-loop-rest
decreases-loop-rest l = length l.rest
