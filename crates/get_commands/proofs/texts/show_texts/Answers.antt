use Rattle.std.proofs.Common.{rules, inl, inr, refl}
use Rattle.image_files.specs.Reading.{LooksAt}
use Rattle.image_files.proofs.WorkLemmas.{ends_with}
use Rattle.get_commands.proofs.texts.show_texts.Goals as goal

pub returns-in_err-volume : goal.returns-in_err-volume
returns-in_err-volume g c = inr (record { given = c.in_ok-bytes.bytes; between = g.H.Host.history c.look_at.new.host; done = c.in_ok-bytes.ensures.looks; after = inl (search rules) })

pub returns-in_err-wishes : goal.returns-in_err-wishes
returns-in_err-wishes g c = inr (record { given = c.in_ok-bytes.bytes; between = g.H.Host.history c.look_at.new.host; done = c.in_ok-bytes.ensures.looks; after = inr (record { given = c.in_ok-volume.volume; between = g.H.Host.history c.open_volume.new.host; done = rw c.deref.ensures.value at c.in_ok-volume.ensures; after = inl (search rules) }) })

pub returns-in_err-are_several : goal.returns-in_err-are_several
returns-in_err-are_several g c = inr (record { given = c.in_ok-bytes.bytes; between = g.H.Host.history c.look_at.new.host; done = c.in_ok-bytes.ensures.looks; after = inr (record { given = c.in_ok-volume.volume; between = g.H.Host.history c.open_volume.new.host; done = rw c.deref.ensures.value at c.in_ok-volume.ensures; after = inr (record { given = c.in_ok-wishes.wishes; between = g.H.Host.history c.open_volume.new.host; done = (search rules, refl); after = inl (search rules) }) }) })

pub returns-in_err-are_there : goal.returns-in_err-are_there
returns-in_err-are_there g c = inr (record { given = c.in_ok-bytes.bytes; between = g.H.Host.history c.look_at.new.host; done = c.in_ok-bytes.ensures.looks; after = inr (record { given = c.in_ok-volume.volume; between = g.H.Host.history c.open_volume.new.host; done = rw c.deref.ensures.value at c.in_ok-volume.ensures; after = inr (record { given = c.in_ok-wishes.wishes; between = g.H.Host.history c.open_volume.new.host; done = (search rules, refl); after = inr (record { given = c.in_ok-are_several.are_several; between = g.H.Host.history c.open_volume.new.host; done = (rw c.deref-2.ensures.value at c.in_ok-are_several.ensures, refl); after = inl (search rules) }) }) }) })

pub returns : goal.returns
returns g c = inr (record { given = c.in_ok-bytes.bytes; between = g.H.Host.history c.look_at.new.host; done = c.in_ok-bytes.ensures.looks; after = inr (record { given = c.in_ok-volume.volume; between = g.H.Host.history c.open_volume.new.host; done = rw c.deref.ensures.value at c.in_ok-volume.ensures; after = inr (record { given = c.in_ok-wishes.wishes; between = g.H.Host.history c.open_volume.new.host; done = (search rules, refl); after = inr (record { given = c.in_ok-are_several.are_several; between = g.H.Host.history c.open_volume.new.host; done = (rw c.deref-2.ensures.value at c.in_ok-are_several.ensures, refl); after = inr (record { given = c.in_ok-are_there.are_there; between = g.H.Host.history c.show_each.new.host; done = rw c.deref-3.ensures.value at c.in_ok-are_there.ensures; after = (c.end_sound.ensures, refl) }) }) }) }) })

pub returns-in_err-bytes : goal.returns-in_err-bytes
returns-in_err-bytes g c = inl (ends_with (LooksAt c.args.image.now) _ _ _ c.in_err-bytes.field-0.0 c.in_err-bytes.ensures.looks c.from_residual.ensures)
