use Rattle.std.proofs.Common.{rules, inl, inr, refl}
use Rattle.program.proofs.asking.change_asked.Goals as goal

pub returns : goal.returns
returns g c = inr (record { given = tt; between = g.H.Host.history c.ask_first.new.host; done = rw c.file_replaced.ensures at c.in_ok-ask_first.ensures; after = c.change_image.ensures })
