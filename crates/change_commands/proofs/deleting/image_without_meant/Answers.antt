use Rattle.std.proofs.Common.{rules, inr}
use Rattle.change_commands.proofs.deleting.image_without_meant.Goals as goal

pub returns : goal.returns
returns g c = inr (record { given = c.in_ok-files.files; between = g.H.Host.history c.files_meant.new.host; done = search rules; after = rw c.deref.ensures.value at c.image_without.ensures })
