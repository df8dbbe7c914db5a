use Rattle.std.proofs.Common.{◌≡◌, length}
use Rattle.show_commands.specs.Dumping.{owner_in}
use Rattle.show_commands.proofs.owners.owner_in.Given as goal

abbrev pub invariant-loop-rest : goal.invariant-loop-rest
invariant-loop-rest l = owner_in l.rest l.block ≡ owner_in l.fn.files l.fn.block

abbrev pub decreases-loop-rest : goal.decreases-loop-rest
decreases-loop-rest l = length l.rest
