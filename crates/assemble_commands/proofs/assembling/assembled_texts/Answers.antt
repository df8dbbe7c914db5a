use Rattle.std.proofs.Common.{inl, inr, refl, rules}
use Rattle.assemble_commands.proofs.assembling.assembled_texts.Goals as goal

pub returns-in_err-names : goal.returns-in_err-names
returns-in_err-names g c = inr (record { given = c.in_ok-sources.sources; between = g.H.Host.history c.args.host.now; done = (c.in_ok-sources.ensures, refl); after = inl (search rules) })

pub returns : goal.returns
returns g c = inr (record { given = c.in_ok-sources.sources; between = g.H.Host.history c.args.host.now; done = (c.in_ok-sources.ensures, refl); after = inr (record { given = c.in_ok-names.names; between = g.H.Host.history c.args.host.now; done = (search rules, refl); after = rw c.deref-3.ensures.value at (rw c.deref-2.ensures.value at c.assembled_sources.ensures) }) })
