use Rattle.std.proofs.Common.{ap, arith, length, refl, subst, sym, ◌∙◌}
use Rattle.history8.specs.Entries.{AreSome, IsPlace, changes_of}
use Rattle.history8.specs.Checkpoints.{first_state}
use Rattle.history8.specs.CheckpointSteps.{AreWithin}
use Rattle.history8.proofs.CheckpointLemmas.{earlier-ones, some-of}
use Rattle.history8.proofs.BackLemmas.{are-over, first-are, goes-back, remade-over, stays-here}
use Rattle.history8.proofs.histories.History.back.Goals as goal

pub returns-then-target-self : goal.returns-then-target-self
returns-then-target-self c =
    stays-here c.self.inside.journal.entries.items c.self.inside.journal.count c.args.count (first_state c.self.inside.checkpoints.items) c.args.self.now c.self.invariant.0.counted (sym c.saturating_sub-target.ensures ∙ c.if-target-self.true) c.self.view_is

pub forget_later-left-requires : goal.forget_later-left-requires
forget_later-left-requires c =
    let some = some-of c.self.inside.journal.entries.items (first_state c.self.inside.checkpoints.items) c.self.inside.checkpoints.items c.self.invariant.0.are in
    omega (arith, some, c.self.inside.checkpoints.ok.0)

pub remake_machine-replay-requires-clause-checkpoints : goal.remake_machine-replay-requires-clause-checkpoints
remake_machine-replay-requires-clause-checkpoints c =
    are-over c.self.inside.journal.entries.items c.deref-2.result.now c.forget_later-left.new.checkpoints.items c.deref.result.now c.deref-2.ensures.value c.deref.ensures.value
    (first-are c.self.inside.journal.entries.items (first_state c.self.inside.checkpoints.items) c.self.inside.checkpoints.items c.forget_later-left.new.checkpoints.items c.saturating_sub-target.result (earlier-ones c.self.inside.journal.entries.items (first_state c.self.inside.checkpoints.items) c.self.inside.checkpoints.items c.forget_later-left.new.checkpoints.items c.forget_later-left.result c.saturating_sub-target.result c.self.invariant.0.are c.forget_later-left.ensures.some c.forget_later-left.ensures.items c.forget_later-left.ensures.within) refl)

pub remake_machine-replay-requires-clause-some : goal.remake_machine-replay-requires-clause-some
remake_machine-replay-requires-clause-some c = subst (λ es. AreSome es) (sym c.deref-2.ensures.value) c.self.invariant.0.some

pub remake_machine-replay-requires-clause-target : goal.remake_machine-replay-requires-clause-target
remake_machine-replay-requires-clause-target c =
    omega (arith, c.saturating_sub-target.ensures, c.self.invariant.0.counted, ap (λ es. length (changes_of es)) c.deref-2.ensures.value)

pub remake_machine-replay-requires-clause-within : goal.remake_machine-replay-requires-clause-within
remake_machine-replay-requires-clause-within c = subst (λ cs. AreWithin c.saturating_sub-target.result cs) (sym c.deref.ensures.value) (earlier-ones c.self.inside.journal.entries.items (first_state c.self.inside.checkpoints.items) c.self.inside.checkpoints.items c.forget_later-left.new.checkpoints.items c.forget_later-left.result c.saturating_sub-target.result c.self.invariant.0.are c.forget_later-left.ensures.some c.forget_later-left.ensures.items c.forget_later-left.ensures.within).within

pub cut-requires-clause-place : goal.cut-requires-clause-place
cut-requires-clause-place c =
    subst (λ es. IsPlace es c.remake_machine-replay.result.place.count c.remake_machine-replay.result.place.entry c.remake_machine-replay.result.place.steps) c.deref-2.ensures.value c.remake_machine-replay.ensures.place

pub cut-requires-clause-some : goal.cut-requires-clause-some
cut-requires-clause-some c = c.self.invariant.0.some

pub invariant_of-self : goal.invariant_of-self
invariant_of-self c = (
  (goes-back c.self.inside.journal.entries.items c.cut.new.self.entries.items c.self.inside.checkpoints.items c.forget_later-left.new.checkpoints.items c.self.inside.machine c.remake_machine-replay.new.machine c.self.inside.journal.count c.cut.new.self.count c.remake_machine-replay.result.place.count c.saturating_sub-target.result c.args.count c.self.inside.journal.characters.items c.cut.new.self.characters.items
      c.remake_machine-replay.result.characters c.remake_machine-replay.result.place.entry c.remake_machine-replay.result.place.steps c.args.self.now c.self.invariant.0 c.self.view_is (earlier-ones c.self.inside.journal.entries.items (first_state c.self.inside.checkpoints.items) c.self.inside.checkpoints.items c.forget_later-left.new.checkpoints.items c.forget_later-left.result c.saturating_sub-target.result c.self.invariant.0.are c.forget_later-left.ensures.some c.forget_later-left.ensures.items c.forget_later-left.ensures.within)
      (remade-over c.self.inside.journal.entries.items c.deref-2.result.now c.forget_later-left.new.checkpoints.items c.deref.result.now c.saturating_sub-target.result c.remake_machine-replay.new.machine c.remake_machine-replay.result.characters c.deref-2.ensures.value c.deref.ensures.value c.remake_machine-replay.ensures.machine c.remake_machine-replay.ensures.characters)
      (subst (λ es. IsPlace es c.remake_machine-replay.result.place.count c.remake_machine-replay.result.place.entry c.remake_machine-replay.result.place.steps) c.deref-2.ensures.value c.remake_machine-replay.ensures.place) c.remake_machine-replay.ensures.count
      c.cut.ensures.changes c.cut.ensures.some c.cut.ensures.places c.cut.ensures.characters c.saturating_sub-target.ensures c.cut.ensures.count).keeps,
  omega (arith, c.forget_later-left.ensures.less, c.self.invariant.1),
  omega (arith, c.forget_later-left.ensures.capacity, c.self.invariant.2),
  omega (arith, c.remake_machine-replay.ensures.room, c.self.invariant.3),
)

pub returns : goal.returns
returns c = (goes-back c.self.inside.journal.entries.items c.cut.new.self.entries.items c.self.inside.checkpoints.items c.forget_later-left.new.checkpoints.items c.self.inside.machine c.remake_machine-replay.new.machine c.self.inside.journal.count c.cut.new.self.count c.remake_machine-replay.result.place.count c.saturating_sub-target.result c.args.count c.self.inside.journal.characters.items c.cut.new.self.characters.items
    c.remake_machine-replay.result.characters c.remake_machine-replay.result.place.entry c.remake_machine-replay.result.place.steps c.args.self.now c.self.invariant.0 c.self.view_is (earlier-ones c.self.inside.journal.entries.items (first_state c.self.inside.checkpoints.items) c.self.inside.checkpoints.items c.forget_later-left.new.checkpoints.items c.forget_later-left.result c.saturating_sub-target.result c.self.invariant.0.are c.forget_later-left.ensures.some c.forget_later-left.ensures.items c.forget_later-left.ensures.within)
    (remade-over c.self.inside.journal.entries.items c.deref-2.result.now c.forget_later-left.new.checkpoints.items c.deref.result.now c.saturating_sub-target.result c.remake_machine-replay.new.machine c.remake_machine-replay.result.characters c.deref-2.ensures.value c.deref.ensures.value c.remake_machine-replay.ensures.machine c.remake_machine-replay.ensures.characters)
    (subst (λ es. IsPlace es c.remake_machine-replay.result.place.count c.remake_machine-replay.result.place.entry c.remake_machine-replay.result.place.steps) c.deref-2.ensures.value c.remake_machine-replay.ensures.place) c.remake_machine-replay.ensures.count
    c.cut.ensures.changes c.cut.ensures.some c.cut.ensures.places c.cut.ensures.characters c.saturating_sub-target.ensures c.cut.ensures.count).view
