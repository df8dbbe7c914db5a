use Rattle.std.proofs.Common.{◌+◌, ◌<◌, IfSome, length, subst, sym, arith}
use Rattle.history8.proofs.checkpoints.dispensable_checkpoint.Goals as goal
use Rattle.history8.proofs.checkpoints.dispensable_checkpoint.Goals.{then-gap-least, else-gap-least}

pub loop-index-preserved : goal.loop-index-preserved
loop-index-preserved c = elim c.if-gap-least.branch [
  | then-gap-least w ↦ subst (λ f. IfSome f (λ index. (0 < index) × (index + c.args.newest < length c.args.checkpoints.now))) (sym w.found-is)
      (omega (arith, c.loop-index.auto.index), omega (arith, c.loop-index-test.true, c.saturating_sub-end.ensures))
  | else-gap-least w ↦ subst (λ f. IfSome f (λ index. (0 < index) × (index + c.args.newest < length c.args.checkpoints.now))) (sym w.found-is) c.loop-index.invariant
]
