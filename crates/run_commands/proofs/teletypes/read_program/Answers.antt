use Rattle.std.proofs.Common.{inr}
use Rattle.run_commands.proofs.teletypes.read_program.Goals as goal

pub returns : goal.returns
returns g c = inr (record {
  given = c.in_ok-tape.tape;
  between = g.H.Host.history c.program_of.new.host;
  done = c.in_ok-tape.ensures;
  after = rw c.start_or-start.ensures at (rw c.deref.ensures.value at c.core_program.ensures);
})
