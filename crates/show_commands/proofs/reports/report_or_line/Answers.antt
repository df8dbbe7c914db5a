use Rattle.std.proofs.Common.{inl, inr, refl}
use Rattle.show_commands.proofs.reports.report_or_line.Goals as goal

pub returns-in-Ok : goal.returns-in-Ok
returns-in-Ok g c = inl (c.in-Ok.report, c.in-Ok.ensures, refl, refl)

pub returns-in-Err : goal.returns-in-Err
returns-in-Err g c = inr (c.in-Err.fault, c.refuse_image-ending.result, c.in-Err.ensures, (c.refuse_image-ending.ensures.ends, c.refuse_image-ending.ensures.notes), c.refusal_report.ensures)
