use Rattle.std.proofs.Common.{Ok, List, sym, subst}
use Rattle.terminal8.specs.declared.absences.Absence.{Absence}
use Rattle.terminal8e.specs.AnyRun.{RunsProgram}
use Rattle.drive_files.specs.Consoles.{console_acts}
use Rattle.drive_files.proofs.rounds.break_run.Goals as goal

pub returns-clause-runs : goal.returns-clause-runs
returns-clause-runs c = λ first keyed before left written contents come.
    let t = c.args.sitting in
    subst (λ (a : List Absence). RunsProgram console_acts keyed t.operator.input t.steps first c.args.console.now before left written contents a (Ok c.end_at_break-ended.result))
    (sym c.into_absences.ensures)
    (c.end_at_break-ended.ensures.runs first keyed before left written contents come)
