use Rattle.std.proofs.Common.{rules, inl, inr, refl}
use Rattle.program.proofs.asking.ask_seen.Goals as goal

pub returns : goal.returns
returns g c = inr (record { given = c.is_terminal-is_seen.result; between = g.H.Host.history c.is_terminal-is_seen.new.self; done = search rules; after = c.ask_if_seen.ensures })
