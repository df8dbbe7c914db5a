use Rattle.std.proofs.Common.{inr, rules}
use Rattle.assemble_commands.proofs.places.keep_inputs.Goals as goal

pub returns : goal.returns
returns g c = inr (record { given = tt; between = g.H.Host.history c.keep_listing.new.host; done = search rules; after = search rules })
