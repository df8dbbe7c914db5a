use Rattle.std.proofs.Common.{rules, inr, refl}
use Rattle.image_files.proofs.information.take_some.Goals as goal

pub returns : goal.returns
returns g c = inr (record { given = c.in_ok-volume.volume; between = g.H.Host.history c.open_volume.new.host; done = search rules; after = (rw c.information_words.ensures at c.fit_words.ensures, refl) })
