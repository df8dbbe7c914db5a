use Rattle.std.proofs.Common.{◌≤◌, ap, arith, slice_index}
use Rattle.history8.specs.CheckpointSteps.{counts_of}
use Rattle.history8.proofs.CheckpointLemmas.{count-at, counts-next}
use Rattle.history8.proofs.checkpoints.first_later.Goals as goal

pub loop-left-init : goal.loop-left-init
loop-left-init c = λ k some below. absurd (omega (arith, some, below))

pub loop-left-preserved : goal.loop-left-preserved
loop-left-preserved c =
    let list = c.args.checkpoints.now in
    let at = count-at list c.loop-left.left c.index-checkpoints-left.result c.loop-left-test.true c.index-checkpoints-left.is in
    let view = ap (λ x. x.count) c.checkpoint.view_is in
    let here : slice_index (counts_of list) c.loop-left.left ≤ c.args.count = omega (arith, at, view, c.if-checkpoint-count.false) in
    counts-next list c.loop-left.left c.args.count c.loop-left.invariant here

pub returns-clause-within : goal.returns-clause-within
returns-clause-within c = λ k some below. c.loop-left.invariant k some (omega (arith, below, c.loop-left-test.false))
