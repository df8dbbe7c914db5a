use Rattle.std.proofs.Common.{◌-◌, ◌<◌, ◌≤◌, [], length, arith, ap, ◌∙◌}
use Rattle.std.proofs.lemmas.List.{take_all}
use Rattle.history8.specs.History.{step_count}
use Rattle.history8.specs.Entries.{changes_of, with_entry}
use Rattle.history8.proofs.ListLemmas.{counts-next, to-step-in, to-step-end}
use Rattle.history8.proofs.lists.changes_to_step.Goals as goal

pub overflow_add-result : goal.overflow_add-result
overflow_add-result c =
    let next = counts-next c.args.entries.now c.loop-entry.entry-index c.entry-item.result c.loop-entry-test.true c.entry-item.is in
    let one = next.entry_within in
    omega (arith, c.if-more-steps.true, c.step_count_of-more.ensures, next.changes, next.changes_within, one, c.loop-entry.invariant.changes, c.requires, c.ranges.count)

pub returns-then-more-steps : goal.returns-then-more-steps
returns-then-more-steps c =
    let i = c.loop-entry.invariant in
    let less : c.args.steps - c.loop-entry.before < step_count (with_entry c.entry-item.result []) = omega (arith, c.if-more-steps.true, c.step_count_of-more.ensures) in
    let e = to-step-in c.args.entries.now c.loop-entry.entry-index c.loop-entry.before c.args.steps c.entry-item.result c.loop-entry-test.true c.entry-item.is
    i.before i.within less in
    omega (arith, e, i.changes)

pub overflow_add-changes : goal.overflow_add-changes
overflow_add-changes c =
    let next = counts-next c.args.entries.now c.loop-entry.entry-index c.entry-item.result c.loop-entry-test.true c.entry-item.is in
    omega (arith, next.changes, next.changes_within, c.loop-entry.invariant.changes, c.change_count_of-changes.ensures, c.requires, c.ranges.count)

pub overflow_add-before : goal.overflow_add-before
overflow_add-before c =
    let next = counts-next c.args.entries.now c.loop-entry.entry-index c.entry-item.result c.loop-entry-test.true c.entry-item.is in
    omega (arith, next.steps, next.steps_within, c.loop-entry.invariant.before, c.step_count_of-more.ensures, c.requires, c.ranges.count)

pub loop-entry-preserved : goal.loop-entry-preserved
loop-entry-preserved c =
    let next = counts-next c.args.entries.now c.loop-entry.entry-index c.entry-item.result c.loop-entry-test.true c.entry-item.is in
    record {
      changes = omega (arith, next.changes, c.loop-entry.invariant.changes, c.change_count_of-changes.ensures);
      before = omega (arith, next.steps, c.loop-entry.invariant.before, c.step_count_of-more.ensures);
      within = omega (arith, c.if-more-steps.false, c.loop-entry.invariant.within);
    }

pub returns : goal.returns
returns c =
    let es = c.args.entries.now in
    let all = take_all c.loop-entry.entry-index es c.loop-entry-test.false in
    let i = c.loop-entry.invariant in
    let few : step_count (changes_of es) ≤ c.args.steps = omega (arith, i.before, i.within, ap (λ xs. step_count (changes_of xs)) all) in
    i.changes ∙ ap (λ xs. length (changes_of xs)) all ∙ to-step-end c.args.steps es few
