use Rattle.std.proofs.Common.{rules, inl, inr, refl}
use Rattle.image_files.specs.Reading.{LooksAt}
use Rattle.image_files.proofs.WorkLemmas.{ends_with}
use Rattle.show_commands.proofs.listing.list_some.Goals as goal

pub returns-in_err-volume : goal.returns-in_err-volume
returns-in_err-volume g c = inr (record { given = c.in_ok-image.image; between = g.H.Host.history c.look_at.new.host; done = c.in_ok-image.ensures.looks; after = inl (search rules) })

pub returns-in_err-wishes : goal.returns-in_err-wishes
returns-in_err-wishes g c = inr (record { given = c.in_ok-image.image; between = g.H.Host.history c.look_at.new.host; done = c.in_ok-image.ensures.looks; after = inr (record { given = c.in_ok-volume.volume; between = g.H.Host.history c.open_volume.new.host; done = rw c.deref.ensures.value at c.in_ok-volume.ensures; after = inl (search rules) }) })

pub returns : goal.returns
returns g c = inr (record { given = c.in_ok-image.image; between = g.H.Host.history c.look_at.new.host; done = c.in_ok-image.ensures.looks; after = inr (record { given = c.in_ok-volume.volume; between = g.H.Host.history c.open_volume.new.host; done = rw c.deref.ensures.value at c.in_ok-volume.ensures; after = inr (record { given = c.in_ok-wishes.wishes; between = g.H.Host.history c.open_volume.new.host; done = (search rules, refl); after = search rules }) }) })

pub returns-in_err-image : goal.returns-in_err-image
returns-in_err-image g c = inl (ends_with (LooksAt c.args.form.now.image) _ _ _ _ c.in_err-image.ensures.looks c.from_residual.ensures)
