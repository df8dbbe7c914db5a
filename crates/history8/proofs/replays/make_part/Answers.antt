use Rattle.std.proofs.Common.{◌≡◌, ◌+◌, ◌<◌, ◌≤◌, arith, length, refl}
use Rattle.cpu8.specs.Go.{characters_of}
use Rattle.history8.proofs.ListLemmas.{no-step-of}
use Rattle.history8.proofs.PlaceLemmas.{place-few, steps-left}
use Rattle.history8.proofs.ReplayLemmas.{part-by-steps, part-by-change, printed-len}
use Rattle.history8.proofs.replays.make_part.Goals as goal

pub overflow_sub-left : goal.overflow_sub-left
overflow_sub-left g c =
    let w = c.without_whole_entry-place in
    let less = steps-left c.args.entries.now w.result.entry w.result.steps c.index-entries-place.result c.in-Steps.quick c.in-Steps.count w.ensures.entry
    c.index-entries-place.is c.in-Steps.is w.ensures.more in
    omega (arith, less)

pub make_steps-steps-requires-clause-some : goal.make_steps-steps-requires-clause-some
make_steps-steps-requires-clause-some g c =
    let w = c.without_whole_entry-place in
    let less = steps-left c.args.entries.now w.result.entry w.result.steps c.index-entries-place.result c.in-Steps.quick c.in-Steps.count w.ensures.entry
    c.index-entries-place.is c.in-Steps.is w.ensures.more in
    omega (arith, less, w.ensures.count, c.requires.before)

pub after_steps-requires-clause-steps : goal.after_steps-requires-clause-steps
after_steps-requires-clause-steps g c =
    let w = c.without_whole_entry-place in
    let few = place-few c.args.entries.now w.result.count w.result.entry w.result.steps w.ensures.place in
    omega (arith, few, w.ensures.count, c.requires.before, c.make_steps-steps.ensures.steps.made.within)

pub returns-in-Steps-clause-place : goal.returns-in-Steps-clause-place
returns-in-Steps-clause-place g c =
    let w = c.without_whole_entry-place in
    let p = w.result in
    let m = c.make_steps-steps in
    let less : p.steps < c.in-Steps.count = steps-left c.args.entries.now p.entry p.steps c.index-entries-place.result c.in-Steps.quick c.in-Steps.count w.ensures.entry
    c.index-entries-place.is c.in-Steps.is w.ensures.more in
    let room : p.steps + m.result.count ≤ c.in-Steps.count = omega (arith, less, m.ensures.steps.made.within) in
    let printed : c.len.result ≡ length (characters_of c.in-Steps.quick m.result.count c.args.machine.now) =
    let e = printed-len _ _ _ m.ensures.printed c.clear.ensures.items in
    omega (arith, e, c.len.ensures, m.new.printed.ok.0) in
    (part-by-steps (g.W.Watch.condition c.args.watch.now) c.args.entries.now c.args.from.count p.count p.entry p.steps c.after_steps.result.count c.after_steps.result.entry
    c.after_steps.result.steps c.index-entries-place.result c.in-Steps.quick c.in-Steps.count _ m.result.count c.args.machine.now m.new.machine c.len.result m.result.is_met
    w.ensures.place w.ensures.entry c.index-entries-place.is c.in-Steps.is room m.ensures.steps printed
    w.ensures.count c.after_steps.ensures.count c.after_steps.ensures.entry c.after_steps.ensures.steps).place

pub returns-in-Steps-clause-made : goal.returns-in-Steps-clause-made
returns-in-Steps-clause-made g c =
    let w = c.without_whole_entry-place in
    let p = w.result in
    let m = c.make_steps-steps in
    let less : p.steps < c.in-Steps.count = steps-left c.args.entries.now p.entry p.steps c.index-entries-place.result c.in-Steps.quick c.in-Steps.count w.ensures.entry
    c.index-entries-place.is c.in-Steps.is w.ensures.more in
    let room : p.steps + m.result.count ≤ c.in-Steps.count = omega (arith, less, m.ensures.steps.made.within) in
    let printed : c.len.result ≡ length (characters_of c.in-Steps.quick m.result.count c.args.machine.now) =
    let e = printed-len _ _ _ m.ensures.printed c.clear.ensures.items in
    omega (arith, e, c.len.ensures, m.new.printed.ok.0) in
    (part-by-steps (g.W.Watch.condition c.args.watch.now) c.args.entries.now c.args.from.count p.count p.entry p.steps c.after_steps.result.count c.after_steps.result.entry
    c.after_steps.result.steps c.index-entries-place.result c.in-Steps.quick c.in-Steps.count _ m.result.count c.args.machine.now m.new.machine c.len.result m.result.is_met
    w.ensures.place w.ensures.entry c.index-entries-place.is c.in-Steps.is room m.ensures.steps printed
    w.ensures.count c.after_steps.ensures.count c.after_steps.ensures.entry c.after_steps.ensures.steps).made

pub returns-in-Steps-clause-few : goal.returns-in-Steps-clause-few
returns-in-Steps-clause-few g c =
    let w = c.without_whole_entry-place in
    let p = w.result in
    let m = c.make_steps-steps in
    let less : p.steps < c.in-Steps.count = steps-left c.args.entries.now p.entry p.steps c.index-entries-place.result c.in-Steps.quick c.in-Steps.count w.ensures.entry
    c.index-entries-place.is c.in-Steps.is w.ensures.more in
    let room : p.steps + m.result.count ≤ c.in-Steps.count = omega (arith, less, m.ensures.steps.made.within) in
    let printed : c.len.result ≡ length (characters_of c.in-Steps.quick m.result.count c.args.machine.now) =
    let e = printed-len _ _ _ m.ensures.printed c.clear.ensures.items in
    omega (arith, e, c.len.ensures, m.new.printed.ok.0) in
    (part-by-steps (g.W.Watch.condition c.args.watch.now) c.args.entries.now c.args.from.count p.count p.entry p.steps c.after_steps.result.count c.after_steps.result.entry
    c.after_steps.result.steps c.index-entries-place.result c.in-Steps.quick c.in-Steps.count _ m.result.count c.args.machine.now m.new.machine c.len.result m.result.is_met
    w.ensures.place w.ensures.entry c.index-entries-place.is c.in-Steps.is room m.ensures.steps printed
    w.ensures.count c.after_steps.ensures.count c.after_steps.ensures.entry c.after_steps.ensures.steps).few

pub returns-in-Steps-clause-found : goal.returns-in-Steps-clause-found
returns-in-Steps-clause-found g c =
    let w = c.without_whole_entry-place in
    let p = w.result in
    let m = c.make_steps-steps in
    let less : p.steps < c.in-Steps.count = steps-left c.args.entries.now p.entry p.steps c.index-entries-place.result c.in-Steps.quick c.in-Steps.count w.ensures.entry
    c.index-entries-place.is c.in-Steps.is w.ensures.more in
    let room : p.steps + m.result.count ≤ c.in-Steps.count = omega (arith, less, m.ensures.steps.made.within) in
    let printed : c.len.result ≡ length (characters_of c.in-Steps.quick m.result.count c.args.machine.now) =
    let e = printed-len _ _ _ m.ensures.printed c.clear.ensures.items in
    omega (arith, e, c.len.ensures, m.new.printed.ok.0) in
    (part-by-steps (g.W.Watch.condition c.args.watch.now) c.args.entries.now c.args.from.count p.count p.entry p.steps c.after_steps.result.count c.after_steps.result.entry
    c.after_steps.result.steps c.index-entries-place.result c.in-Steps.quick c.in-Steps.count _ m.result.count c.args.machine.now m.new.machine c.len.result m.result.is_met
    w.ensures.place w.ensures.entry c.index-entries-place.is c.in-Steps.is room m.ensures.steps printed
    w.ensures.count c.after_steps.ensures.count c.after_steps.ensures.entry c.after_steps.ensures.steps).found

pub returns-in_default : goal.returns-in_default
returns-in_default g c =
    let w = c.without_whole_entry-place in
    let p = w.result in
    let no_step = no-step-of c.index-entries-place.result c.in_default.not-Steps in
    let made = part-by-change (g.W.Watch.condition c.args.watch.now) c.args.entries.now c.args.from.count p.count p.entry p.steps c.after_change.result.count c.after_change.result.entry
    c.after_change.result.steps c.index-entries-place.result c.args.machine.now c.make_change.new.machine w.ensures.place w.ensures.entry c.index-entries-place.is no_step
    (c.make_change.ensures no_step) w.ensures.count c.after_change.ensures.count c.after_change.ensures.entry c.after_change.ensures.steps in
    record {
      place = made.place;
      further = omega (arith, w.ensures.count, c.after_change.ensures.count);
      within = omega (arith, w.ensures.count, c.after_change.ensures.count, c.requires.before);
      made = made.made;
      few = made.few;
      found = made.found;
      room = refl;
    }
