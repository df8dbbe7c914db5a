use Rattle.std.proofs.Common.{rules, inl, inr, refl}
use Rattle.tape_commands.proofs.rims.write_rim.Goals as goal

pub returns-in_err-bytes : goal.returns-in_err-bytes
returns-in_err-bytes g c = inr (record { given = c.in_ok-frames.frames; between = g.H.Host.history c.given_frames.new.host; done = c.in_ok-frames.ensures; after = inl (search rules) })

pub returns : goal.returns
returns g c = inr (record { given = c.in_ok-frames.frames; between = g.H.Host.history c.given_frames.new.host; done = c.in_ok-frames.ensures; after = inr (record { given = c.in_ok-bytes.bytes; between = g.H.Host.history c.given_frames.new.host; done = (search rules, refl); after = rw c.deref-2.ensures.value at c.print.ensures }) })
