use Rattle.std.proofs.Common.{rules, inr}
use Rattle.put_commands.proofs.putting.keep_all.Goals as goal

pub returns : goal.returns
returns g c = inr (record { given = c.in_ok-older.older; between = g.H.Host.history c.files_on.new.host; done = search rules; after = rw c.deref-2.ensures.value at (rw c.deref.ensures.value at (rw c.loss_in-loss.ensures at c.refuse_loss.ensures)) })
