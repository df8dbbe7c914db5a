use Rattle.std.proofs.Common.{rules, inl, inr, refl}
use Rattle.change_commands.proofs.changes.rename_file.Goals as goal

pub returns-in_err-new : goal.returns-in_err-new
returns-in_err-new g c = inr (record { given = c.in_ok-image.image; between = g.H.Host.history c.open.new.host; done = c.in_ok-image.ensures.opens; after = inl (search rules) })

pub returns-in_err-line : goal.returns-in_err-line
returns-in_err-line g c = inr (record { given = c.in_ok-image.image; between = g.H.Host.history c.open.new.host; done = c.in_ok-image.ensures.opens; after = inr (record { given = c.in_ok-new.new; between = g.H.Host.history c.renamed_image.new.host; done = search rules; after = inl (search rules) }) })

pub returns : goal.returns
returns g c = inr (record { given = c.in_ok-image.image; between = g.H.Host.history c.open.new.host; done = c.in_ok-image.ensures.opens; after = inr (record { given = c.in_ok-new.new; between = g.H.Host.history c.renamed_image.new.host; done = search rules; after = inr (record { given = c.in_ok-line.line; between = g.H.Host.history c.renamed_image.new.host; done = (c.in_ok-line.ensures, refl); after = rw c.deref-2.ensures.value at (rw c.deref-3.ensures.value at c.store.ensures) }) }) })
