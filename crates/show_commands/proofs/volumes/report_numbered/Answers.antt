use Rattle.std.proofs.Common.{inl, inr, refl, rules}
use Rattle.show_commands.proofs.volumes.report_numbered.Goals as goal

pub returns-in_err-copy : goal.returns-in_err-copy
returns-in_err-copy g c = inr (record { given = c.in_ok-name.name; between = g.H.Host.history c.args.host.now; done = (c.in_ok-name.ensures, refl); after = inl (search rules) })

pub returns : goal.returns
returns g c = inr (record { given = c.in_ok-name.name; between = g.H.Host.history c.args.host.now; done = (c.in_ok-name.ensures, refl); after = inr (record { given = c.in_ok-copy.copy; between = g.H.Host.history c.args.host.now; done = (c.in_ok-copy.ensures, refl); after = rw c.as_str.ensures.value at c.report_volume.ensures }) })
