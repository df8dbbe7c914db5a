use Rattle.std.proofs.Common.{◌≡◌, length}
use Rattle.put_commands.specs.Putting.{has_empty}
use Rattle.put_commands.proofs.putting.has_empty.Given as goal

abbrev pub invariant-loop-rest : goal.invariant-loop-rest
invariant-loop-rest l = has_empty l.rest ≡ has_empty l.fn.files

abbrev pub decreases-loop-rest : goal.decreases-loop-rest
decreases-loop-rest l = length l.rest
