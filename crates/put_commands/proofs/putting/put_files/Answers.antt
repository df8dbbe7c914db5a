use Rattle.std.proofs.Common.{rules, inl, inr}
use Rattle.put_commands.proofs.putting.put_files.Goals as goal

pub returns-in_err-image : goal.returns-in_err-image
returns-in_err-image g c = inr (record { given = tt; between = g.H.Host.history c.take_lists.new.host; done = search rules; after = inl (search rules) })

pub returns-in_err-files : goal.returns-in_err-files
returns-in_err-files g c = inr (record { given = tt; between = g.H.Host.history c.take_lists.new.host; done = search rules; after = inr (record { given = c.in_ok-image.image; between = g.H.Host.history c.open.new.host; done = c.in_ok-image.ensures.opens; after = inl (search rules) }) })

pub returns : goal.returns
returns g c = inr (record { given = tt; between = g.H.Host.history c.take_lists.new.host; done = search rules; after = inr (record { given = c.in_ok-image.image; between = g.H.Host.history c.open.new.host; done = c.in_ok-image.ensures.opens; after = inr (record { given = c.in_ok-files.files; between = g.H.Host.history c.read_files.new.host; done = c.in_ok-files.ensures; after = rw c.deref.ensures.value at c.put_into.ensures }) }) })
