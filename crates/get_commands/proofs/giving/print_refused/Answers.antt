use Rattle.std.proofs.Common.{rules, inl, inr, refl}
use Rattle.get_commands.proofs.giving.print_refused.Goals as goal

pub returns-in_err-part_after : goal.returns-in_err-part_after
returns-in_err-part_after g c = inr (record { given = c.in_ok-lines.lines; between = g.H.Host.history c.args.host.now; done = (search rules, refl); after = inl (search rules) })

pub returns : goal.returns
returns g c = inr (record { given = c.in_ok-lines.lines; between = g.H.Host.history c.args.host.now; done = (search rules, refl); after = inr (record { given = tt; between = g.H.Host.history c.print.new.host; done = search rules; after = (refl, refl) }) })
