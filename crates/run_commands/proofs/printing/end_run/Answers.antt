use Rattle.std.proofs.Common.{inr}
use Rattle.run_commands.proofs.printing.end_run.Goals as goal

pub returns-in_ok-note_absences-in-Ok : goal.returns-in_ok-note_absences-in-Ok
returns-in_ok-note_absences-in-Ok g c = rw c.in-Ok.is (inr (record {
  given = tt;
  between = g.H.Host.history c.note_absences.new.host;
  done = rw c.as_slice.ensures at c.in_ok-note_absences-in-Ok.ensures;
  after = c.tell_end.ensures;
}))
