use Rattle.std.proofs.Common.{ap, arith, length, subst, sym, ◌∙◌}
use Rattle.cpu8.specs.State.{State}
use Rattle.history8.specs.Entries.{AreSome, IsFixedPlace, changes_of}
use Rattle.history8.specs.History.{History}
use Rattle.history8.proofs.HistoryLemmas.{keeps-checkpoint}
use Rattle.history8.proofs.histories.History.keep_checkpoint.Goals as goal

pub end_of-requires-clause-count : goal.end_of-requires-clause-count
end_of-requires-clause-count c = c.self.invariant.0.counted ∙ ap (λ xs. length (changes_of xs)) (sym c.deref.ensures.value)

pub end_of-requires-clause-some : goal.end_of-requires-clause-some
end_of-requires-clause-some c = subst (λ xs. AreSome xs) (sym c.deref.ensures.value) c.self.invariant.0.some

pub invariant_of-self : goal.invariant_of-self
invariant_of-self c = (
  (keeps-checkpoint c.self.inside.journal.entries.items c.self.inside.checkpoints.items c.keep_checkpoint.new.checkpoints.items c.self.inside.machine c.self.inside.journal.count c.self.inside.journal.characters.items
      c.end_of.result.count c.end_of.result.entry c.end_of.result.steps c.len.result c.self.invariant.0 c.end_of.ensures.count
      (subst (λ xs. IsFixedPlace xs c.end_of.result.count c.end_of.result.entry c.end_of.result.steps) c.deref.ensures.value c.end_of.ensures.place)
      (omega (arith, c.len.ensures, c.self.inside.journal.characters.ok.0)) c.keep_checkpoint.ensures.checkpoints).keeps,
  c.keep_checkpoint.ensures.most,
  omega (arith, c.keep_checkpoint.ensures.room, c.self.invariant.2),
  c.self.invariant.3,
)

pub returns : goal.returns
returns c =
    let history : State → History = λ s. record { first = s; changes = changes_of c.self.inside.journal.entries.items } in
    ap history (keeps-checkpoint c.self.inside.journal.entries.items c.self.inside.checkpoints.items c.keep_checkpoint.new.checkpoints.items c.self.inside.machine c.self.inside.journal.count c.self.inside.journal.characters.items
    c.end_of.result.count c.end_of.result.entry c.end_of.result.steps c.len.result c.self.invariant.0 c.end_of.ensures.count
    (subst (λ xs. IsFixedPlace xs c.end_of.result.count c.end_of.result.entry c.end_of.result.steps) c.deref.ensures.value c.end_of.ensures.place)
    (omega (arith, c.len.ensures, c.self.inside.journal.characters.ok.0)) c.keep_checkpoint.ensures.checkpoints).same ∙ c.self.view_is
