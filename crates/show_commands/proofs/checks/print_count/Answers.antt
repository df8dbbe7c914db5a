use Rattle.std.proofs.Common.{rules, inl, inr, refl}
use Rattle.show_commands.proofs.checks.print_count.Goals as goal

pub returns-in_err-part_after : goal.returns-in_err-part_after
returns-in_err-part_after g c = inr (record { given = c.in_ok-line.line; between = g.H.Host.history c.args.host.now; done = (c.in_ok-line.ensures, refl); after = inl (search rules) })

pub returns : goal.returns
returns g c = inr (record { given = c.in_ok-line.line; between = g.H.Host.history c.args.host.now; done = (c.in_ok-line.ensures, refl); after = inr (record { given = tt; between = g.H.Host.history c.print.new.host; done = search rules; after = (search rules, refl) }) })
