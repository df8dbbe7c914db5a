use Rattle.std.proofs.Common.{inl, inr, refl}
use Rattle.drive_files.specs.Opening.{OpensDrive}
use Rattle.image_files.proofs.WorkLemmas.{ends_with}
use Rattle.drive_files.proofs.OpenLemmas.{are-not-open}
use Rattle.drive_files.proofs.opening.open_drives.Goals as goal

pub returns-in_err-disk0 : goal.returns-in_err-disk0
returns-in_err-disk0 g c = inl (ends_with (OpensDrive 0 c.args.form.now.drive0 c.args.form.now) _ _ _ _ c.in_err-disk0.ensures c.from_residual.ensures)

pub returns-in_err-disk1 : goal.returns-in_err-disk1
returns-in_err-disk1 g c = inr (record { given = c.in_ok-disk0.disk0; between = g.H.Host.history c.open_drive.new.host; done = c.in_ok-disk0.ensures; after = inl (ends_with (OpensDrive 1 c.args.form.now.drive1 c.args.form.now) _ _ _ _ c.in_err-disk1.ensures c.from_residual-in_err-disk1.ensures) })

pub returns-in_err-disk2 : goal.returns-in_err-disk2
returns-in_err-disk2 g c = inr (record { given = c.in_ok-disk0.disk0; between = g.H.Host.history c.open_drive.new.host; done = c.in_ok-disk0.ensures; after = inr (record { given = c.in_ok-disk1.disk1; between = g.H.Host.history c.open_drive-2.new.host; done = c.in_ok-disk1.ensures; after = inl (ends_with (OpensDrive 2 c.args.form.now.drive2 c.args.form.now) _ _ _ _ c.in_err-disk2.ensures c.from_residual-in_err-disk2.ensures) }) })

pub returns-in_err-disk3 : goal.returns-in_err-disk3
returns-in_err-disk3 g c = inr (record { given = c.in_ok-disk0.disk0; between = g.H.Host.history c.open_drive.new.host; done = c.in_ok-disk0.ensures; after = inr (record { given = c.in_ok-disk1.disk1; between = g.H.Host.history c.open_drive-2.new.host; done = c.in_ok-disk1.ensures; after = inr (record { given = c.in_ok-disk2.disk2; between = g.H.Host.history c.open_drive-3.new.host; done = c.in_ok-disk2.ensures; after = inl (ends_with (OpensDrive 3 c.args.form.now.drive3 c.args.form.now) _ _ _ _ c.in_err-disk3.ensures c.from_residual-in_err-disk3.ensures) }) }) })

pub returns-in_err-rooms : goal.returns-in_err-rooms
returns-in_err-rooms g c = inr (record { given = c.in_ok-disk0.disk0; between = g.H.Host.history c.open_drive.new.host; done = c.in_ok-disk0.ensures; after = inr (record { given = c.in_ok-disk1.disk1; between = g.H.Host.history c.open_drive-2.new.host; done = c.in_ok-disk1.ensures; after = inr (record { given = c.in_ok-disk2.disk2; between = g.H.Host.history c.open_drive-3.new.host; done = c.in_ok-disk2.ensures; after = inr (record { given = c.in_ok-disk3.disk3; between = g.H.Host.history c.open_drive-4.new.host; done = c.in_ok-disk3.ensures; after = (are-not-open c.in_ok-disk0.disk0 c.in_ok-disk1.disk1 c.in_ok-disk2.disk2 c.in_ok-disk3.disk3 _ c.from_residual-in_err-rooms.ensures, refl) }) }) }) })

pub returns : goal.returns
returns g c = inr (record { given = c.in_ok-disk0.disk0; between = g.H.Host.history c.open_drive.new.host; done = c.in_ok-disk0.ensures; after = inr (record { given = c.in_ok-disk1.disk1; between = g.H.Host.history c.open_drive-2.new.host; done = c.in_ok-disk1.ensures; after = inr (record { given = c.in_ok-disk2.disk2; between = g.H.Host.history c.open_drive-3.new.host; done = c.in_ok-disk2.ensures; after = inr (record { given = c.in_ok-disk3.disk3; between = g.H.Host.history c.open_drive-4.new.host; done = c.in_ok-disk3.ensures; after = ((refl, refl, refl, refl, c.in_ok-rooms.ensures), refl) }) }) }) })
