use Rattle.std.proofs.Common.{arith, subst, sym}
use Rattle.history8.proofs.PlaceLemmas.{next-some}
use Rattle.history8.proofs.ListLemmas.{Cuts, cuts-whole, cuts-part, part-steps}
use Rattle.history8.proofs.lists.cut_entries.Goals as goal

pub returns-then-place-eq0 : goal.returns-then-place-eq0
returns-then-place-eq0 c =
    let p = c.args.place in
    let items = c.args.entries.now.items in
    let cut = subst (λ xs. Cuts items xs p.entry p.steps p.count) (sym c.truncate.ensures.items)
    (cuts-whole items p.entry p.steps p.count c.requires.place c.requires.some c.if-place-eq0.true) in
    record { changes = cut.changes; some = cut.some; places = cut.places }

pub index-entry-requires : goal.index-entry-requires
index-entry-requires c =
    let p = c.args.place in
    let below = next-some c.args.entries.now.items p.entry p.steps c.requires.place.within (omega (arith, c.if-place-eq0.false)) in
    omega (arith, below, c.args.entries.now.ok.0)

pub index_mut-requires : goal.index_mut-requires
index_mut-requires c =
    let p = c.args.place in
    let below = next-some c.args.entries.now.items p.entry p.steps c.requires.place.within (omega (arith, c.if-place-eq0.false)) in
    omega (arith, below, c.args.entries.now.ok.0)

pub overflow_add-place : goal.overflow_add-place
overflow_add-place c =
    let p = c.args.place in
    let below = next-some c.args.entries.now.items p.entry p.steps c.requires.place.within (omega (arith, c.if-place-eq0.false)) in
    omega (arith, below, c.args.entries.now.ok.0, c.args.entries.now.ok.1)

pub returns-in-Steps : goal.returns-in-Steps
returns-in-Steps c =
    let p = c.args.place in
    let items = c.args.entries.now.items in
    let cut = subst (λ xs. Cuts items xs p.entry p.steps p.count) (sym c.truncate-in-Steps.ensures.items)
    (cuts-part items p.entry p.steps p.count c.index-entry.result.now c.in-Steps.quick c.in-Steps.count c.requires.place c.requires.some
    (omega (arith, c.if-place-eq0.false)) c.index-entry.ensures c.in-Steps.is) in
    record { changes = cut.changes; some = cut.some; places = cut.places }

pub returns-in_default : goal.returns-in_default
returns-in_default c =
    let p = c.args.place in
    absurd (part-steps c.args.entries.now.items p.entry p.steps p.count c.index-entry.result.now c.requires.place (omega (arith, c.if-place-eq0.false)) c.index-entry.ensures c.in_default.not-Steps)
