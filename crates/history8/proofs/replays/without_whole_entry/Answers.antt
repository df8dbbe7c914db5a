use Rattle.std.proofs.Common.{arith}
use Rattle.history8.proofs.ListLemmas.{no-step-of}
use Rattle.history8.proofs.PlaceLemmas.{place-within, whole-place, start-more, steps-more-left, other-more}
use Rattle.history8.proofs.replays.without_whole_entry.Goals as goal

pub bounds-entries-place : goal.bounds-entries-place
bounds-entries-place c =
    let p = c.args.place in
    place-within c.args.entries.now p.count p.entry p.steps c.requires.place c.requires.before

pub returns-then-count-place : goal.returns-then-count-place
returns-then-count-place c =
    let p = c.args.place in
    let es = c.args.entries.now in
    let within = place-within es p.count p.entry p.steps c.requires.place c.requires.before in
    let r = c.entry_after.result in
    let e = c.entry_after.ensures in
    let new = whole-place es p.count p.entry p.steps r.count r.entry r.steps c.index-entries-place.result c.in-Steps.quick c.in-Steps.count c.requires.place within
    c.index-entries-place.is c.in-Steps.is c.if-count-place.true e.count e.entry e.steps in
    let below = place-within es r.count r.entry r.steps new (omega (arith, e.count, c.requires.before)) in
    record { place = new; count = e.count; entry = below; more = start-more es r.entry r.steps c.requires.some below e.steps }

pub returns-else-count-place-clause-entry : goal.returns-else-count-place-clause-entry
returns-else-count-place-clause-entry c =
    let p = c.args.place in
    place-within c.args.entries.now p.count p.entry p.steps c.requires.place c.requires.before

pub returns-else-count-place-clause-more : goal.returns-else-count-place-clause-more
returns-else-count-place-clause-more c =
    let p = c.args.place in
    let es = c.args.entries.now in
    steps-more-left es p.entry p.steps c.index-entries-place.result c.in-Steps.quick c.in-Steps.count
    (place-within es p.count p.entry p.steps c.requires.place c.requires.before) c.index-entries-place.is c.in-Steps.is c.requires.place.within c.if-count-place.false

pub returns-in_default-clause-entry : goal.returns-in_default-clause-entry
returns-in_default-clause-entry c =
    let p = c.args.place in
    place-within c.args.entries.now p.count p.entry p.steps c.requires.place c.requires.before

pub returns-in_default-clause-more : goal.returns-in_default-clause-more
returns-in_default-clause-more c =
    let p = c.args.place in
    let es = c.args.entries.now in
    other-more es p.entry p.steps c.index-entries-place.result (place-within es p.count p.entry p.steps c.requires.place c.requires.before)
    c.index-entries-place.is (no-step-of c.index-entries-place.result c.in_default.not-Steps) c.requires.place.within
