use Rattle.std.proofs.Common.{ap, arith, true, subst, ◌∙◌}
use Rattle.history8.specs.History.{machine_of, steps_before}
use Rattle.history8.specs.Entries.{changes_of}
use Rattle.history8.specs.Checkpoints.{first_state}
use Rattle.history8.proofs.HistoryLemmas.{on-err, counted-changes, keeps-same, keeps-steps, viewed-change}
use Rattle.cpu8.specs.Unasked.{AreUnasked}
use Rattle.history8.proofs.HistoryLemmas.{unasked-printed}
use Rattle.history8.proofs.histories.History.go_unasked.Goals as goal

pub invariant_of-self-2 : goal.invariant_of-self-2
invariant_of-self-2 c = (
  keeps-steps c.reserve.new.self.entries.items c.note_steps.new.self.entries.items c.self.inside.checkpoints.items true c.run_unasked-steps.result c.self.inside.machine c.run_unasked-steps.new.self c.reserve.new.self.count c.note_steps.new.self.count c.reserve.new.self.characters.items c.note_steps.new.self.characters.items
      (keeps-same c.self.inside.journal.entries.items c.reserve.new.self.entries.items c.self.inside.checkpoints.items c.self.inside.machine c.self.inside.journal.count c.reserve.new.self.count c.self.inside.journal.characters.items c.reserve.new.self.characters.items c.self.invariant.0
      c.reserve.ensures.entries c.reserve.ensures.count c.reserve.ensures.characters) c.note_steps.ensures.changes c.note_steps.ensures.some c.note_steps.ensures.places c.run_unasked-steps.ensures.state c.note_steps.ensures.count
      (c.note_steps.ensures.characters ∙ unasked-printed c.run_unasked-steps.result c.self.inside.machine c.reserve.new.self.characters.items c.run_unasked-steps.ensures.unasked),
  c.self.invariant.1,
  c.self.invariant.2,
  c.self.invariant.3,
)

pub invariant_of-self : goal.invariant_of-self
invariant_of-self c = (
  (keeps-same c.self.inside.journal.entries.items c.reserve.new.self.entries.items c.self.inside.checkpoints.items c.self.inside.machine c.self.inside.journal.count c.reserve.new.self.count c.self.inside.journal.characters.items c.reserve.new.self.characters.items c.self.invariant.0
      c.reserve.ensures.entries c.reserve.ensures.count c.reserve.ensures.characters),
  c.self.invariant.1,
  c.self.invariant.2,
  c.self.invariant.3,
)

pub note_steps-requires-clause-count : goal.note_steps-requires-clause-count
note_steps-requires-clause-count c =
    let counted = counted-changes c.self.inside.journal.entries.items c.self.inside.checkpoints.items c.self.inside.machine c.self.inside.journal.count c.self.inside.journal.characters.items (first_state c.self.inside.checkpoints.items) c.args.self.now c.self.invariant.0 c.self.view_is in
    omega (arith, counted, c.reserve.ensures.count, c.requires, c.run_unasked-steps.ensures.within)

pub note_steps-requires-clause-length : goal.note_steps-requires-clause-length
note_steps-requires-clause-length c = (keeps-same c.self.inside.journal.entries.items c.reserve.new.self.entries.items c.self.inside.checkpoints.items c.self.inside.machine c.self.inside.journal.count c.reserve.new.self.count c.self.inside.journal.characters.items c.reserve.new.self.characters.items c.self.invariant.0
    c.reserve.ensures.entries c.reserve.ensures.count c.reserve.ensures.characters).counted

pub note_steps-requires-clause-some : goal.note_steps-requires-clause-some
note_steps-requires-clause-some c = (keeps-same c.self.inside.journal.entries.items c.reserve.new.self.entries.items c.self.inside.checkpoints.items c.self.inside.machine c.self.inside.journal.count c.reserve.new.self.count c.self.inside.journal.characters.items c.reserve.new.self.characters.items c.self.invariant.0
    c.reserve.ensures.entries c.reserve.ensures.count c.reserve.ensures.characters).some

pub returns-clause-history : goal.returns-clause-history
returns-clause-history c =
    c.keep_checkpoint.ensures ∙ viewed-change (first_state c.self.inside.checkpoints.items) (changes_of c.self.inside.journal.entries.items) (changes_of c.note_steps.new.self.entries.items) c.args.self.now
    (λ xs. steps_before true c.run_unasked-steps.result xs) c.self.view_is (c.note_steps.ensures.changes ∙ ap (λ es. steps_before true c.run_unasked-steps.result (changes_of es)) c.reserve.ensures.entries)

pub returns-clause-unasked : goal.returns-clause-unasked
returns-clause-unasked c = subst (λ s. AreUnasked s c.run_unasked-steps.result) (c.self.invariant.0.left ∙ ap (λ h. machine_of h) c.self.view_is) c.run_unasked-steps.ensures.unasked

pub returns-in_err-reserve-clause-err : goal.returns-in_err-reserve-clause-err
returns-in_err-reserve-clause-err c = on-err c.from_residual.result _ (viewed-change (first_state c.self.inside.checkpoints.items) (changes_of c.self.inside.journal.entries.items) (changes_of c.reserve.new.self.entries.items) c.args.self.now (λ xs. xs) c.self.view_is (ap (λ es. changes_of es) c.reserve.ensures.entries))
