use Rattle.std.proofs.Common.{ap, arith, length, subst, sym, ◌∙◌}
use Rattle.history8.specs.Entries.{AreSome, changes_of}
use Rattle.history8.proofs.BackLemmas.{are-over, back-over}
use Rattle.history8.proofs.histories.History.last.Goals as goal

pub last_place-found-requires-clause-count : goal.last_place-found-requires-clause-count
last_place-found-requires-clause-count g c = c.self.invariant.0.counted ∙ ap (λ es. length (changes_of es)) (sym c.deref-2.ensures.value)

pub last_place-found-requires-clause-checkpoints : goal.last_place-found-requires-clause-checkpoints
last_place-found-requires-clause-checkpoints g c = are-over c.self.inside.journal.entries.items c.deref-2.result.now c.self.inside.checkpoints.items c.deref.result.now c.deref-2.ensures.value c.deref.ensures.value c.self.invariant.0.are

pub last_place-found-requires-clause-some : goal.last_place-found-requires-clause-some
last_place-found-requires-clause-some g c = subst (λ es. AreSome es) (sym c.deref-2.ensures.value) c.self.invariant.0.some

pub invariant_of-self : goal.invariant_of-self
invariant_of-self g c = (
  c.self.invariant.0,
  c.self.invariant.1,
  c.self.invariant.2,
  omega (arith, c.self.invariant.3, c.last_place-found.ensures.room),
)

pub returns-clause-history : goal.returns-clause-history
returns-clause-history g c = c.self.view_is

pub returns-clause-last : goal.returns-clause-last
returns-clause-last g c =
    back-over (g.W.Watch.condition c.args.watch.now) c.self.inside.journal.entries.items c.deref-2.result.now c.self.inside.checkpoints.items c.deref.result.now c.self.inside.machine c.self.inside.journal.count c.self.inside.journal.characters.items c.args.self.now c.last_place-found.result c.changes_since.result
    c.deref-2.ensures.value c.deref.ensures.value c.self.invariant.0 c.self.view_is c.last_place-found.ensures.place c.changes_since.ensures
