use Rattle.std.proofs.Common.{inl, inr, refl}
use Rattle.show_commands.proofs.volumes.report_at.Goals as goal

pub returns-in-Ok : goal.returns-in-Ok
returns-in-Ok g c = inl (c.in-Ok.image, c.in-Ok.ensures, rw c.deref.ensures.value at c.report_or_line.ensures)

pub returns-in-Err : goal.returns-in-Err
returns-in-Err g c = inr (c.in-Err.ending, c.in-Err.ensures, c.refusal_report.ensures, refl)
