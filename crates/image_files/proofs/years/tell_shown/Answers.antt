use Rattle.image_files.proofs.years.tell_shown.Goals as goal

pub returns : goal.returns
returns g c = rw (c.date_of.ensures, c.date_of-2.ensures) at c.tell_unless.ensures
