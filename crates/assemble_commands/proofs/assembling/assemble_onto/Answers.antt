use Rattle.std.proofs.Common.{inl, inr, rules}
use Rattle.assemble_commands.proofs.assembling.assemble_onto.Goals as goal

pub returns-in_err-tape : goal.returns-in_err-tape
returns-in_err-tape g c = inr (record { given = c.in_ok-image.image; between = g.H.Host.history c.open.new.host; done = c.in_ok-image.ensures.opens; after = inl (search rules) })

pub returns : goal.returns
returns g c = inr (record { given = c.in_ok-image.image; between = g.H.Host.history c.open.new.host; done = c.in_ok-image.ensures.opens; after = inr (record { given = c.in_ok-tape.tape; between = g.H.Host.history c.list_tape.new.host; done = search rules; after = rw c.deref.ensures.value at c.put_tape.ensures }) })
