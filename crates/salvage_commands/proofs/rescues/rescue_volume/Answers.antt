use Rattle.std.proofs.Common.{rules, inl, inr, refl}
use Rattle.salvage_commands.proofs.rescues.rescue_volume.Goals as goal

pub returns-in_err-lines : goal.returns-in_err-lines
returns-in_err-lines g c = inr (record { given = c.in_ok-salvage.salvage; between = g.H.Host.history c.salvage_of.new.host; done = c.in_ok-salvage.ensures; after = inl (search rules) })

pub returns-in_err-make_first : goal.returns-in_err-make_first
returns-in_err-make_first g c = inr (record { given = c.in_ok-salvage.salvage; between = g.H.Host.history c.salvage_of.new.host; done = c.in_ok-salvage.ensures; after = inr (record { given = c.in_ok-lines.lines; between = g.H.Host.history c.salvage_of.new.host; done = (c.in_ok-lines.ensures, refl); after = inl (search rules) }) })

pub returns : goal.returns
returns g c = inr (record { given = c.in_ok-salvage.salvage; between = g.H.Host.history c.salvage_of.new.host; done = c.in_ok-salvage.ensures; after = inr (record { given = c.in_ok-lines.lines; between = g.H.Host.history c.salvage_of.new.host; done = (c.in_ok-lines.ensures, refl); after = inr (record { given = tt; between = g.H.Host.history c.make_first.new.host; done = search rules; after = search rules }) }) })
