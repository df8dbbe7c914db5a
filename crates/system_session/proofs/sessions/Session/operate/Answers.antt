use Rattle.std.proofs.Common.{◌≡◌, true, sym, subst, ap, Err, ◌∙◌}
use Rattle.debug8.specs.declared.faults.DebugFault.TheVariants.{TooManyBreaks, Memory}
use Rattle.volume_jobs.specs.Settled.{plain_jobs}
use Rattle.system_session.specs.ConsoleSteps.{ConsoleDoes}
use Rattle.script8.specs.declared.entries.Entry.TheVariants as entry
use Rattle.system_session.specs.Console.{is_within_limits}
use Rattle.system_session.specs.Session.{SessionView}
use Rattle.system_session.proofs.SessionLemmas.{console_shown, console_undone, console_full, console_unlimited}
use Rattle.system_session.proofs.LeavesLemmas.{leaves_same}
use Rattle.system_session.proofs.sessions.Session.operate.Goals.{in-Ok, in-Err-TooManyBreaks, in-Err-Memory}
use Rattle.system_session.proofs.sessions.Session.operate.Goals as goal

pub returns-clause-does : goal.returns-clause-does
returns-clause-does g c =
    let old : SessionView = record { volume = c.self.inside.files; jobs = plain_jobs c.self.inside.jobs; console = c.self.inside.console } in
    let within : is_within_limits c.args.asked.now ≡ true = sym c.is_within_limits.ensures ∙ c.if-not-is_within_limits.false in
    elim c.match-enter.branch [
      | in-Ok w ↦ rw (w.result-is, ← c.self.view_is)
          (console_shown c.args.asked.now old w.in-Ok.reply c.enter.new.self within (subst (λ r. ConsoleDoes c.args.asked.now c.self.inside.console r c.enter.new.self) w.in-Ok.is c.enter.ensures))
      | in-Err-TooManyBreaks w ↦ rw (w.result-is, ← c.self.view_is)
          (let full : ConsoleDoes c.args.asked.now c.self.inside.console (Err TooManyBreaks) c.enter.new.self = subst (λ r. ConsoleDoes c.args.asked.now c.self.inside.console r c.enter.new.self) (w.in-Err-TooManyBreaks.is ∙ ap Err w.in-Err-TooManyBreaks.field-0-is) c.enter.ensures in
          console_full c.args.asked.now old c.enter.new.self full.0 full.1)
      | in-Err-Memory w ↦ rw (w.result-is, ← c.self.view_is)
          (let lacks : ConsoleDoes c.args.asked.now c.self.inside.console (Err Memory) c.enter.new.self = subst (λ r. ConsoleDoes c.args.asked.now c.self.inside.console r c.enter.new.self) (w.in-Err-Memory.is ∙ ap Err w.in-Err-Memory.field-0-is) c.enter.ensures in
          console_undone c.args.asked.now old c.enter.new.self within lacks.0 lacks.1)
    ]

pub returns-then-not-is_within_limits-clause-does : goal.returns-then-not-is_within_limits-clause-does
returns-then-not-is_within_limits-clause-does g c = console_unlimited c.args.asked.now c.args.self.now (sym c.is_within_limits.ensures ∙ c.if-not-is_within_limits.true)

pub returns-clause-leaves : goal.returns-clause-leaves
returns-clause-leaves g c = leaves_same (entry.Console c.args.asked.now) c.args.self.now _ (ap (λ (s : SessionView). s.volume) c.self.view_is)
