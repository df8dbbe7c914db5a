use Rattle.std.proofs.Common.{rules, inl, inr, refl}
use Rattle.assemble_commands.proofs.outputs.put_tape.Goals as goal

pub returns-in_err-line : goal.returns-in_err-line
returns-in_err-line g c = inr (record { given = c.in_ok-new.new; between = g.H.Host.history c.image_with.new.host; done = search rules; after = inl (search rules) })

pub returns : goal.returns
returns g c = inr (record { given = c.in_ok-new.new; between = g.H.Host.history c.image_with.new.host; done = search rules; after = inr (record { given = c.in_ok-line.line; between = g.H.Host.history c.image_with.new.host; done = (c.in_ok-line.ensures, refl); after = rw c.deref-2.ensures.value at (rw c.deref-3.ensures.value at c.store.ensures) }) })
