use Rattle.std.proofs.Common.{◌≡◌, ◌∙◌, Some, ap, subst, sym}
use Rattle.outcome.specs.Notes.{text_on_file}
use Rattle.outcome.specs.Outcomes as spec
use Rattle.outcome.specs.Shown.{writing_of}
use Rattle.outcome.specs.declared.notes.FileNote.TheVariants.{Busy}
use Rattle.program_reports.specs.Program.{program_line}
use Rattle.outcome.proofs.outcomes.ending_outcome.Goals as goal

pub returns-in-Busy : goal.returns-in-Busy
returns-in-Busy c = subst (λ ending. writing_of c.refusal-in-Busy.result ≡ spec.ending_outcome c.args.is_data ending) (sym c.in-Busy.is)
    (c.refusal-in-Busy.ensures ∙ ap (λ line. spec.refusal c.args.is_data (text_on_file (Some (Busy, c.in-Busy.content))) (program_line line)) c.line_of_busy-line.ensures)
