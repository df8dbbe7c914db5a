use Rattle.std.proofs.Common.{◌≡◌, length}
use Rattle.command_refusals.specs.Refusals.{has_sign}
use Rattle.command_refusals.proofs.missing.has_sign.Given as goal

abbrev pub invariant-loop-rest : goal.invariant-loop-rest
invariant-loop-rest l = has_sign l.rest ≡ has_sign l.name

abbrev pub decreases-loop-rest : goal.decreases-loop-rest
decreases-loop-rest l = length l.rest
