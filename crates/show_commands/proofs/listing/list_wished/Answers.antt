use Rattle.std.proofs.Common.{rules, inl, inr, refl}
use Rattle.show_commands.proofs.listing.list_wished.Goals as goal

pub returns-in_err-text : goal.returns-in_err-text
returns-in_err-text g c = inr (record { given = c.in_ok-lines.lines; between = g.H.Host.history c.lines_of.new.host; done = search rules; after = inl (search rules) })

pub returns-in_err-part_after : goal.returns-in_err-part_after
returns-in_err-part_after g c = inr (record { given = c.in_ok-lines.lines; between = g.H.Host.history c.lines_of.new.host; done = search rules; after = inr (record { given = c.in_ok-text.text; between = g.H.Host.history c.lines_of.new.host; done = (search rules, refl); after = inl (search rules) }) })

pub returns : goal.returns
returns g c = inr (record { given = c.in_ok-lines.lines; between = g.H.Host.history c.lines_of.new.host; done = search rules; after = inr (record { given = c.in_ok-text.text; between = g.H.Host.history c.lines_of.new.host; done = (search rules, refl); after = inr (record { given = tt; between = g.H.Host.history c.print.new.host; done = search rules; after = (search rules, refl) }) }) })
