use Rattle.std.proofs.Common.{inl, inr, refl, rules}
use Rattle.assemble_commands.proofs.assembling.noted_pal8.Goals as goal

pub returns-in_err-note_if : goal.returns-in_err-note_if
returns-in_err-note_if g c = inr (record { given = c.in_ok-made.made; between = g.H.Host.history c.pal8_assembled.new.host; done = search rules; after = inl (search rules) })

pub returns : goal.returns
returns g c = inr (record { given = c.in_ok-made.made; between = g.H.Host.history c.pal8_assembled.new.host; done = search rules; after = inr (record { given = tt; between = g.H.Host.history c.note_if.new.host; done = search rules; after = (refl, refl) }) })
