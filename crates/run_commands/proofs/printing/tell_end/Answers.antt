use Rattle.std.proofs.Common.{inr, refl}
use Rattle.run_commands.proofs.printing.tell_end.Goals as goal

pub returns : goal.returns
returns g c = inr (record {
  given = tt;
  between = g.H.Host.history c.tell_run.new.host;
  done = rw c.line_of_end.ensures at c.in_ok-tell_run.ensures;
  after = (c.end_of.ensures, refl);
})
