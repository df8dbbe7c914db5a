use Rattle.std.proofs.Common.{rules, inl, inr, refl}
use Rattle.change_commands.proofs.creating.make_volume.Goals as goal

pub returns-in_err-make_wanted : goal.returns-in_err-make_wanted
returns-in_err-make_wanted g c = inr (record { given = c.in_ok-line.line; between = g.H.Host.history c.args.host.now; done = (search rules, refl); after = inl (search rules) })

pub returns : goal.returns
returns g c = inr (record { given = c.in_ok-line.line; between = g.H.Host.history c.args.host.now; done = (search rules, refl); after = inr (record { given = tt; between = g.H.Host.history c.make_wanted.new.host; done = search rules; after = search rules }) })
