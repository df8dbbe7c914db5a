use Rattle.std.proofs.Common.{◌≡◌, false, length}
use Rattle.get_commands.specs.GettingMany.{needs_slash_after}
use Rattle.get_commands.proofs.giving.needs_slash.Given as goal

abbrev pub invariant-loop-rest : goal.invariant-loop-rest
invariant-loop-rest l = needs_slash_after l.needs l.rest ≡ needs_slash_after false l.fn.folder

abbrev pub decreases-loop-rest : goal.decreases-loop-rest
decreases-loop-rest l = length l.rest
