use Rattle.std.proofs.Common.{rules, inl, inr, refl}
use Rattle.get_commands.proofs.giving.give_file.Goals as goal

pub returns-in_err-name : goal.returns-in_err-name
returns-in_err-name g c = inr (record { given = c.in_ok-bytes.bytes; between = g.H.Host.history c.args.host.now; done = (rw c.get_form.ensures at c.in_ok-bytes.ensures, refl); after = inl (search rules) })

pub returns-in_err-path : goal.returns-in_err-path
returns-in_err-path g c = inr (record { given = c.in_ok-bytes.bytes; between = g.H.Host.history c.args.host.now; done = (rw c.get_form.ensures at c.in_ok-bytes.ensures, refl); after = inr (record { given = c.in_ok-name.name; between = g.H.Host.history c.args.host.now; done = (c.in_ok-name.ensures, refl); after = inl (search rules) }) })

pub returns : goal.returns
returns g c = inr (record { given = c.in_ok-bytes.bytes; between = g.H.Host.history c.args.host.now; done = (rw c.get_form.ensures at c.in_ok-bytes.ensures, refl); after = inr (record { given = c.in_ok-name.name; between = g.H.Host.history c.args.host.now; done = (c.in_ok-name.ensures, refl); after = inr (record { given = c.in_ok-path.path; between = g.H.Host.history c.args.host.now; done = (search rules, refl); after = search rules }) }) })
