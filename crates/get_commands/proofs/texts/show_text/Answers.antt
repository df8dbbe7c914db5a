use Rattle.std.proofs.Common.{rules, inl, inr, refl}
use Rattle.get_commands.proofs.texts.show_text.Goals as goal

pub returns-in_err-text : goal.returns-in_err-text
returns-in_err-text g c = inr (record { given = c.in_ok-name.name; between = g.H.Host.history c.args.host.now; done = (c.in_ok-name.ensures, refl); after = inl (search rules) })

pub returns-in_err-print : goal.returns-in_err-print
returns-in_err-print g c = inr (record { given = c.in_ok-name.name; between = g.H.Host.history c.args.host.now; done = (c.in_ok-name.ensures, refl); after = inr (record { given = c.in_ok-text.text; between = g.H.Host.history c.args.host.now; done = (c.in_ok-text.ensures, refl); after = inr (record { given = c.in_ok-bytes.bytes; between = g.H.Host.history c.args.host.now; done = (rw (c.as_str.ensures.value, c.deref.ensures.value) at c.in_ok-bytes.ensures, refl); after = inl (search rules) }) }) })

pub returns : goal.returns
returns g c = inr (record { given = c.in_ok-name.name; between = g.H.Host.history c.args.host.now; done = (c.in_ok-name.ensures, refl); after = inr (record { given = c.in_ok-text.text; between = g.H.Host.history c.args.host.now; done = (c.in_ok-text.ensures, refl); after = inr (record { given = c.in_ok-bytes.bytes; between = g.H.Host.history c.args.host.now; done = (rw (c.as_str.ensures.value, c.deref.ensures.value) at c.in_ok-bytes.ensures, refl); after = inr (record { given = tt; between = g.H.Host.history c.print.new.host; done = search rules; after = (refl, refl) }) }) }) })
