use Rattle.std.proofs.Common.{rules, inl, inr, refl}
use Rattle.get_commands.proofs.giving.print_got.Goals as goal

pub returns-in_err-print : goal.returns-in_err-print
returns-in_err-print g c = inr (record { given = c.in_ok-text.text; between = g.H.Host.history c.args.host.now; done = (search rules, refl); after = inl (search rules) })

pub returns : goal.returns
returns g c = inr (record { given = c.in_ok-text.text; between = g.H.Host.history c.args.host.now; done = (search rules, refl); after = inr (record { given = tt; between = g.H.Host.history c.print.new.host; done = search rules; after = (refl, refl) }) })
