use Rattle.std.proofs.Common.{◌-◌, arith}
use Rattle.history8.specs.declared.entries.Entry.TheVariants as kept
use Rattle.history8.proofs.ListLemmas.{last-within, adds-steps, adds-entry, over-items}
use Rattle.history8.proofs.lists.add_steps.Goals as goal

pub overflow_add-count : goal.overflow_add-count
overflow_add-count c =
    let ends = over-items c.deref.result.now c.args.entries.now.items c.args.quick c.in-Some.count c.deref.ensures.value c.in-Some.ensures in
    let within = last-within c.args.entries.now.items ends.0 c.args.quick c.in-Some.count ends.1 in
    omega (arith, within, c.requires.count)

pub returns-in-Some : goal.returns-in-Some
returns-in-Some c =
    let ends = over-items c.deref.result.now c.args.entries.now.items c.args.quick c.in-Some.count c.deref.ensures.value c.in-Some.ensures in
    let adds = adds-steps c.args.entries.now.items (c.len-last.result - 1) c.args.quick c.in-Some.count c.args.steps ends.0 ends.1
    (omega (arith, c.len-last.ensures, c.args.entries.now.ok.0)) c.requires.some (omega (arith, c.if-steps-eq0.false)) in
    record { changes = adds.is; some = adds.some; places = adds.places }

pub returns : goal.returns
returns c =
    let adds = adds-entry c.args.entries.now.items c.push_reserved.new.self.items (kept.Steps c.args.quick c.args.steps) c.requires.some
    (omega (arith, c.if-steps-eq0.false)) c.push_reserved.ensures.items in
    record { changes = adds.is; some = adds.some; places = adds.places }
