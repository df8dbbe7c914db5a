use Rattle.std.proofs.Common.{ap, arith, ◌∙◌}
use Rattle.history8.specs.History.{machine_of, steps_before}
use Rattle.history8.specs.Entries.{changes_of}
use Rattle.history8.specs.Checkpoints.{first_state}
use Rattle.history8.proofs.HistoryLemmas.{counted-changes, keeps-same, keeps-steps, viewed-change}
use Rattle.history8.proofs.RunLemmas.{part-made, part-none}
use Rattle.history8.proofs.histories.History.run_to_checkpoint.Goals as goal

pub invariant_of-self : goal.invariant_of-self
invariant_of-self g c = (
  keeps-steps c.reserve.new.self.entries.items c.note_steps.new.self.entries.items c.self.inside.checkpoints.items c.args.quick c.make_steps-made.result.count c.self.inside.machine c.make_steps-made.new.machine c.reserve.new.self.count c.note_steps.new.self.count c.reserve.new.self.characters.items c.note_steps.new.self.characters.items
      (keeps-same c.self.inside.journal.entries.items c.reserve.new.self.entries.items c.self.inside.checkpoints.items c.self.inside.machine c.self.inside.journal.count c.reserve.new.self.count c.self.inside.journal.characters.items c.reserve.new.self.characters.items c.self.invariant.0
      c.reserve.ensures.entries c.reserve.ensures.count c.reserve.ensures.characters) c.note_steps.ensures.changes c.note_steps.ensures.some c.note_steps.ensures.places c.make_steps-made.ensures.steps.made.state c.note_steps.ensures.count
      (c.note_steps.ensures.characters ∙ c.make_steps-made.ensures.printed),
  c.self.invariant.1,
  c.self.invariant.2,
  c.self.invariant.3,
)

pub invariant_of-self-in-Err : goal.invariant_of-self-in-Err
invariant_of-self-in-Err g c = (
  (keeps-same c.self.inside.journal.entries.items c.reserve.new.self.entries.items c.self.inside.checkpoints.items c.self.inside.machine c.self.inside.journal.count c.reserve.new.self.count c.self.inside.journal.characters.items c.reserve.new.self.characters.items c.self.invariant.0
      c.reserve.ensures.entries c.reserve.ensures.count c.reserve.ensures.characters),
  c.self.invariant.1,
  c.self.invariant.2,
  c.self.invariant.3,
)

pub note_steps-requires-clause-count : goal.note_steps-requires-clause-count
note_steps-requires-clause-count g c =
    let counted = counted-changes c.self.inside.journal.entries.items c.self.inside.checkpoints.items c.self.inside.machine c.self.inside.journal.count c.self.inside.journal.characters.items (first_state c.self.inside.checkpoints.items) c.args.self.now c.self.invariant.0 c.self.view_is in
    omega (arith, counted, c.reserve.ensures.count, c.requires.room, c.make_steps-made.ensures.steps.made.within)

pub note_steps-requires-clause-length : goal.note_steps-requires-clause-length
note_steps-requires-clause-length g c = (keeps-same c.self.inside.journal.entries.items c.reserve.new.self.entries.items c.self.inside.checkpoints.items c.self.inside.machine c.self.inside.journal.count c.reserve.new.self.count c.self.inside.journal.characters.items c.reserve.new.self.characters.items c.self.invariant.0
    c.reserve.ensures.entries c.reserve.ensures.count c.reserve.ensures.characters).counted

pub note_steps-requires-clause-some : goal.note_steps-requires-clause-some
note_steps-requires-clause-some g c = (keeps-same c.self.inside.journal.entries.items c.reserve.new.self.entries.items c.self.inside.checkpoints.items c.self.inside.machine c.self.inside.journal.count c.reserve.new.self.count c.self.inside.journal.characters.items c.reserve.new.self.characters.items c.self.invariant.0
    c.reserve.ensures.entries c.reserve.ensures.count c.reserve.ensures.characters).some

pub returns-in-Ok-clause-run : goal.returns-in-Ok-clause-run
returns-in-Ok-clause-run g c =
    let left = c.self.invariant.0.left ∙ ap (λ h. machine_of h) c.self.view_is in
    part-made c.args.quick (g.W.Watch.condition c.args.watch.now) c.self.inside.machine (machine_of c.args.self.now) c.make_steps-made.new.machine c.min-most.result c.args.most c.make_steps-made.result.count
    c.is_running-runs.result c.make_steps-made.result.is_met c.end_after.result left (omega arith) c.make_steps-made.ensures.steps c.is_running-runs.ensures c.end_after.ensures

pub returns-in-Ok-clause-history : goal.returns-in-Ok-clause-history
returns-in-Ok-clause-history g c =
    c.keep_checkpoint.ensures ∙ viewed-change (first_state c.self.inside.checkpoints.items) (changes_of c.self.inside.journal.entries.items) (changes_of c.note_steps.new.self.entries.items) c.args.self.now
    (λ xs. steps_before c.args.quick c.make_steps-made.result.count xs) c.self.view_is (c.note_steps.ensures.changes ∙ ap (λ es. steps_before c.args.quick c.make_steps-made.result.count (changes_of es)) c.reserve.ensures.entries)

pub returns-in-Err-clause-run : goal.returns-in-Err-clause-run
returns-in-Err-clause-run g c = part-none c.args.quick (g.W.Watch.condition c.args.watch.now) (machine_of c.args.self.now) c.args.most

pub returns-in-Err-clause-history : goal.returns-in-Err-clause-history
returns-in-Err-clause-history g c = viewed-change (first_state c.self.inside.checkpoints.items) (changes_of c.self.inside.journal.entries.items) (changes_of c.reserve.new.self.entries.items) c.args.self.now (λ xs. xs) c.self.view_is (ap (λ es. changes_of es) c.reserve.ensures.entries)
