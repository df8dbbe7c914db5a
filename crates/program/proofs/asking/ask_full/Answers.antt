use Rattle.std.proofs.Common.{rules, inl, inr, refl}
use Rattle.program.proofs.asking.ask_full.Goals as goal

pub returns : goal.returns
returns g c = inr (record { given = c.has_bytes-is_full.result; between = g.H.Host.history c.has_bytes-is_full.new.host; done = c.has_bytes-is_full.ensures; after = c.ask_if_full.ensures })
