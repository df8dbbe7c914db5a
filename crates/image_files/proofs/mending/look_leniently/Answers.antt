use Rattle.std.proofs.Common.{inr, rules}
use Rattle.image_files.proofs.mending.look_leniently.Goals as goal

pub returns : goal.returns
returns g c = inr (record { given = c.in_ok-file.file; between = g.H.Host.history c.look_file.new.host; done = search rules; after = c.mended_bytes.ensures })
