use Rattle.std.proofs.Common.{◌≡◌, ◌+◌, length}
use Rattle.put_commands.specs.Putting.{loss_from}
use Rattle.put_commands.proofs.putting.loss_in.Given as goal

abbrev pub invariant-loop-rest : goal.invariant-loop-rest
invariant-loop-rest l = record {
  loss : loss_from l.older l.place l.rest ≡ loss_from l.fn.older 0 l.fn.files;
  count : l.place + length l.rest ≡ length l.fn.files;
}

abbrev pub decreases-loop-rest : goal.decreases-loop-rest
decreases-loop-rest l = length l.rest
