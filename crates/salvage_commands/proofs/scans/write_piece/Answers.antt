use Rattle.std.proofs.Common.{rules, inl, inr, refl}
use Rattle.salvage_commands.proofs.scans.write_piece.Goals as goal

pub returns-in_err-path : goal.returns-in_err-path
returns-in_err-path g c = inr (record { given = c.in_ok-bytes.bytes; between = g.H.Host.history c.bytes_of.new.host; done = search rules; after = inl (search rules) })

pub returns-in_err-line : goal.returns-in_err-line
returns-in_err-line g c = inr (record { given = c.in_ok-bytes.bytes; between = g.H.Host.history c.bytes_of.new.host; done = search rules; after = inr (record { given = c.in_ok-path.path; between = g.H.Host.history c.bytes_of.new.host; done = (c.in_ok-path.ensures, refl); after = inl (search rules) }) })

pub returns-in_err-lay_first : goal.returns-in_err-lay_first
returns-in_err-lay_first g c = inr (record { given = c.in_ok-bytes.bytes; between = g.H.Host.history c.bytes_of.new.host; done = search rules; after = inr (record { given = c.in_ok-path.path; between = g.H.Host.history c.bytes_of.new.host; done = (c.in_ok-path.ensures, refl); after = inr (record { given = c.in_ok-line.line; between = g.H.Host.history c.bytes_of.new.host; done = (c.in_ok-line.ensures, refl); after = inl (search rules) }) }) })

pub returns : goal.returns
returns g c = inr (record { given = c.in_ok-bytes.bytes; between = g.H.Host.history c.bytes_of.new.host; done = search rules; after = inr (record { given = c.in_ok-path.path; between = g.H.Host.history c.bytes_of.new.host; done = (c.in_ok-path.ensures, refl); after = inr (record { given = c.in_ok-line.line; between = g.H.Host.history c.bytes_of.new.host; done = (c.in_ok-line.ensures, refl); after = inr (record { given = tt; between = g.H.Host.history c.lay_first.new.host; done = search rules; after = search rules }) }) }) })
