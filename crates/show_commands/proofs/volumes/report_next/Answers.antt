use Rattle.std.proofs.Common.{Ok, Err}
use Rattle.show_commands.proofs.volumes.report_next.Goals as goal

pub returns-in-Ok : goal.returns-in-Ok
returns-in-Ok g c = (Ok c.in-Ok.bytes, g.H.Host.history c.look_image.new.host, c.in-Ok.ensures.looks, c.report_among.ensures)

pub returns-in-Err : goal.returns-in-Err
returns-in-Err g c = (Err c.in-Err.ending, g.H.Host.history c.look_image.new.host, c.in-Err.ensures.looks, c.report_refusal.ensures)
