use Rattle.std.proofs.Common.{inr, rules}
use Rattle.get_commands.proofs.giving.refuse_over.Goals as goal

pub returns : goal.returns
returns g c = inr (record { given = tt; between = g.H.Host.history c.tell_pair.new.host; done = search rules; after = search rules })
