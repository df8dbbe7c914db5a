use Rattle.std.proofs.Common.{ap, arith, ◌∙◌}
use Rattle.history8.specs.Entries.{changes_of, with_entry}
use Rattle.history8.specs.Checkpoints.{first_state}
use Rattle.history8.proofs.HistoryLemmas.{on-err, counted-changes, keeps-change, keeps-same, viewed-change}
use Rattle.history8.proofs.histories.History.change.Goals as goal

pub invariant_of-self : goal.invariant_of-self
invariant_of-self c = (
  (keeps-same c.self.inside.journal.entries.items c.reserve.new.self.entries.items c.self.inside.checkpoints.items c.self.inside.machine c.self.inside.journal.count c.reserve.new.self.count c.self.inside.journal.characters.items c.reserve.new.self.characters.items c.self.invariant.0
      c.reserve.ensures.entries c.reserve.ensures.count c.reserve.ensures.characters),
  c.self.invariant.1,
  c.self.invariant.2,
  c.self.invariant.3,
)

pub returns-in_err-reserve-clause-err : goal.returns-in_err-reserve-clause-err
returns-in_err-reserve-clause-err c = on-err c.from_residual.result _ (viewed-change (first_state c.self.inside.checkpoints.items) (changes_of c.self.inside.journal.entries.items) (changes_of c.reserve.new.self.entries.items) c.args.self.now (λ xs. xs) c.self.view_is (ap (λ es. changes_of es) c.reserve.ensures.entries))

pub note_change-requires-clause-count : goal.note_change-requires-clause-count
note_change-requires-clause-count c =
    let counted = counted-changes c.self.inside.journal.entries.items c.self.inside.checkpoints.items c.self.inside.machine c.self.inside.journal.count c.self.inside.journal.characters.items (first_state c.self.inside.checkpoints.items) c.args.self.now c.self.invariant.0 c.self.view_is in
    omega (arith, counted, c.reserve.ensures.count, c.requires)

pub note_change-requires-clause-some : goal.note_change-requires-clause-some
note_change-requires-clause-some c = (keeps-same c.self.inside.journal.entries.items c.reserve.new.self.entries.items c.self.inside.checkpoints.items c.self.inside.machine c.self.inside.journal.count c.reserve.new.self.count c.self.inside.journal.characters.items c.reserve.new.self.characters.items c.self.invariant.0
    c.reserve.ensures.entries c.reserve.ensures.count c.reserve.ensures.characters).some

pub invariant_of-self-2 : goal.invariant_of-self-2
invariant_of-self-2 c = (
  keeps-change c.reserve.new.self.entries.items c.note_change.new.self.entries.items c.self.inside.checkpoints.items c.args.entry c.self.inside.machine c.make_change.new.machine c.reserve.new.self.count c.note_change.new.self.count c.reserve.new.self.characters.items c.note_change.new.self.characters.items
      (keeps-same c.self.inside.journal.entries.items c.reserve.new.self.entries.items c.self.inside.checkpoints.items c.self.inside.machine c.self.inside.journal.count c.reserve.new.self.count c.self.inside.journal.characters.items c.reserve.new.self.characters.items c.self.invariant.0
      c.reserve.ensures.entries c.reserve.ensures.count c.reserve.ensures.characters) c.note_change.ensures.changes c.note_change.ensures.some c.note_change.ensures.places c.requires.no_step (c.make_change.ensures c.requires.no_step)
      c.note_change.ensures.count c.note_change.ensures.characters,
  c.self.invariant.1,
  c.self.invariant.2,
  c.self.invariant.3,
)

pub returns-clause-ok : goal.returns-clause-ok
returns-clause-ok c =
    c.keep_checkpoint.ensures ∙ viewed-change (first_state c.self.inside.checkpoints.items) (changes_of c.self.inside.journal.entries.items) (changes_of c.note_change.new.self.entries.items) c.args.self.now
    (λ xs. with_entry c.args.entry xs) c.self.view_is (c.note_change.ensures.changes ∙ ap (λ es. with_entry c.args.entry (changes_of es)) c.reserve.ensures.entries)
