use Rattle.std.proofs.Common.{rules, inr, refl}
use Rattle.run_commands.proofs.printing.end_trace.Goals as goal

pub returns-in_ok-line-in-Ok : goal.returns-in_ok-line-in-Ok
returns-in_ok-line-in-Ok g c = rw c.in-Ok.is (inr (record {
  given = c.in_ok-line-in-Ok.line;
  between = g.H.Host.history c.args.host.now;
  done = (search rules, refl);
  after = rw c.deref.ensures.value at c.print.ensures;
}))
