use Rattle.std.proofs.Common.{inr}
use Rattle.get_commands.proofs.getting.give_next.Goals as goal

pub returns-clause-gives : goal.returns-clause-gives
returns-clause-gives g c = inr (record { given = tt; between = g.H.Host.history c.tell.new.host; done = (tt, c.tell.ensures.tells); after = c.give_noted.ensures })
