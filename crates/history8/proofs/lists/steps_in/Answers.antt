use Rattle.std.proofs.Common.{arith}
use Rattle.history8.proofs.ListLemmas.{counts-next}
use Rattle.history8.proofs.lists.steps_in.Goals as goal

pub overflow_add-steps : goal.overflow_add-steps
overflow_add-steps c =
    let next = counts-next c.args.entries.now c.loop-entry.entry-index c.entry-item.result c.loop-entry-test.true c.entry-item.is in
    omega (arith, next.steps, next.steps_within, c.loop-entry.invariant, c.step_count_of-steps.ensures, c.requires, c.ranges.count)

pub loop-entry-preserved : goal.loop-entry-preserved
loop-entry-preserved c =
    let next = counts-next c.args.entries.now c.loop-entry.entry-index c.entry-item.result c.loop-entry-test.true c.entry-item.is in
    omega (arith, next.steps, c.loop-entry.invariant, c.step_count_of-steps.ensures)
