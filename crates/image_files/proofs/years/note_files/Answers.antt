use Rattle.std.proofs.Common.{rules, inr}
use Rattle.image_files.proofs.years.note_files.Goals as goal

pub returns : goal.returns
returns g c = inr (record { given = c.in_ok-volume.volume; between = g.H.Host.history c.open_volume.new.host; done = search rules; after = rw c.last_word.ensures at (rw c.last_year.ensures.year at c.tell_files.ensures) })
