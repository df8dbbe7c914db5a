use Rattle.std.proofs.Common.{◌≡◌, length}
use Rattle.archive_many.specs.Putting as spec
use Rattle.put_commands.proofs.putting.most_wanted.Given as goal

abbrev pub invariant-loop-rest : goal.invariant-loop-rest
invariant-loop-rest l = spec.most_wanted l.most l.given l.rest ≡ spec.most_wanted 0 l.given l.files

abbrev pub decreases-loop-rest : goal.decreases-loop-rest
decreases-loop-rest l = length l.rest
