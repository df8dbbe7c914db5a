use Rattle.std.proofs.Common.{◌+◌, ◌<◌, IfSome, length}
use Rattle.history8.proofs.checkpoints.dispensable_checkpoint.Given as goal

abbrev pub invariant-loop-index : goal.invariant-loop-index
invariant-loop-index l = IfSome l.found (λ index. (0 < index) × (index + l.newest < length l.checkpoints))
