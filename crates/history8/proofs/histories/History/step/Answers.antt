use Rattle.std.proofs.Common.{◌∷◌, ◌++◌, ap, arith, ◌∙◌}
use Rattle.cpu8.specs.Go.{character_of, printing_step}
use Rattle.history8.specs.Changes.{Step}
use Rattle.history8.specs.History.{machine_of}
use Rattle.history8.specs.Entries.{changes_of}
use Rattle.history8.specs.Checkpoints.{first_state}
use Rattle.history8.proofs.HistoryLemmas.{on-err, counted-changes, keeps-same, keeps-step, viewed-change}
use Rattle.history8.proofs.histories.History.step.Goals as goal

pub invariant_of-self : goal.invariant_of-self
invariant_of-self c = (
  (keeps-same c.self.inside.journal.entries.items c.reserve.new.self.entries.items c.self.inside.checkpoints.items c.self.inside.machine c.self.inside.journal.count c.reserve.new.self.count c.self.inside.journal.characters.items c.reserve.new.self.characters.items c.self.invariant.0
      c.reserve.ensures.entries c.reserve.ensures.count c.reserve.ensures.characters),
  c.self.invariant.1,
  c.self.invariant.2,
  c.self.invariant.3,
)

pub returns-in_err-reserve-clause-err : goal.returns-in_err-reserve-clause-err
returns-in_err-reserve-clause-err c = on-err c.from_residual.result _ (viewed-change (first_state c.self.inside.checkpoints.items) (changes_of c.self.inside.journal.entries.items) (changes_of c.reserve.new.self.entries.items) c.args.self.now (λ xs. xs) c.self.view_is (ap (λ es. changes_of es) c.reserve.ensures.entries))

pub note_step-requires-clause-count : goal.note_step-requires-clause-count
note_step-requires-clause-count c =
    let counted = counted-changes c.self.inside.journal.entries.items c.self.inside.checkpoints.items c.self.inside.machine c.self.inside.journal.count c.self.inside.journal.characters.items (first_state c.self.inside.checkpoints.items) c.args.self.now c.self.invariant.0 c.self.view_is in
    omega (arith, counted, c.reserve.ensures.count, c.requires)

pub note_step-requires-clause-length : goal.note_step-requires-clause-length
note_step-requires-clause-length c = (keeps-same c.self.inside.journal.entries.items c.reserve.new.self.entries.items c.self.inside.checkpoints.items c.self.inside.machine c.self.inside.journal.count c.reserve.new.self.count c.self.inside.journal.characters.items c.reserve.new.self.characters.items c.self.invariant.0
    c.reserve.ensures.entries c.reserve.ensures.count c.reserve.ensures.characters).counted

pub note_step-requires-clause-some : goal.note_step-requires-clause-some
note_step-requires-clause-some c = (keeps-same c.self.inside.journal.entries.items c.reserve.new.self.entries.items c.self.inside.checkpoints.items c.self.inside.machine c.self.inside.journal.count c.reserve.new.self.count c.self.inside.journal.characters.items c.reserve.new.self.characters.items c.self.invariant.0
    c.reserve.ensures.entries c.reserve.ensures.count c.reserve.ensures.characters).some

pub invariant_of-self-2 : goal.invariant_of-self-2
invariant_of-self-2 c = (
  keeps-step c.reserve.new.self.entries.items c.note_step.new.self.entries.items c.self.inside.checkpoints.items c.args.quick c.self.inside.machine c.make_step-did.new.machine c.reserve.new.self.count c.note_step.new.self.count c.reserve.new.self.characters.items c.note_step.new.self.characters.items
      (keeps-same c.self.inside.journal.entries.items c.reserve.new.self.entries.items c.self.inside.checkpoints.items c.self.inside.machine c.self.inside.journal.count c.reserve.new.self.count c.self.inside.journal.characters.items c.reserve.new.self.characters.items c.self.invariant.0
      c.reserve.ensures.entries c.reserve.ensures.count c.reserve.ensures.characters) c.note_step.ensures.changes c.note_step.ensures.some c.note_step.ensures.places c.make_step-did.ensures.state c.note_step.ensures.count
      (c.note_step.ensures.characters ∙ ap (λ d. c.reserve.new.self.characters.items ++ character_of d) c.make_step-did.ensures.answer),
  c.self.invariant.1,
  c.self.invariant.2,
  c.self.invariant.3,
)

pub returns-clause-ok : goal.returns-clause-ok
returns-clause-ok c =
    c.keep_checkpoint.ensures ∙ viewed-change (first_state c.self.inside.checkpoints.items) (changes_of c.self.inside.journal.entries.items) (changes_of c.note_step.new.self.entries.items) c.args.self.now
    (λ xs. Step c.args.quick ∷ xs) c.self.view_is (c.note_step.ensures.changes ∙ ap (λ es. Step c.args.quick ∷ changes_of es) c.reserve.ensures.entries)

pub returns-clause-answer : goal.returns-clause-answer
returns-clause-answer c =
    c.make_step-did.ensures.answer ∙ ap (λ s. (printing_step c.args.quick s).1) (c.self.invariant.0.left ∙ ap (λ h. machine_of h) c.self.view_is)
