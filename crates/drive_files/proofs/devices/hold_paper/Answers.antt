use Rattle.std.proofs.Common.{rules}
use Rattle.drive_files.proofs.devices.hold_paper.Goals as goal

pub returns-in-Err : goal.returns-in-Err
returns-in-Err g c = (
  c.in-Err.fault,
  search rules,
  record { between = g.H.Host.history c.hold_file.new.host; idle = search rules; failed = c.in-Err.ensures.cause; last = search rules; tells = c.tell_fault.ensures },
)
