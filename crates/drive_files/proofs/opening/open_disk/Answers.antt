use Rattle.std.proofs.Common.{Err, inl, inr, refl, subst}
use Rattle.drive_files.specs.Opening.{HoldsIf, LooksIn, TakesPack}
use Rattle.image_files.proofs.WorkLemmas.{ends_with}
use Rattle.drive_files.proofs.opening.open_disk.Goals as goal

pub returns-in_err-place : goal.returns-in_err-place
returns-in_err-place g c = inl (ends_with (HoldsIf c.args.is_kept c.args.seconds c.args.name.now) _ _ _ _ c.in_err-place.ensures c.from_residual.ensures)

pub returns-in_err-bytes : goal.returns-in_err-bytes
returns-in_err-bytes g c = inr (record { given = c.in_ok-place.place; between = g.H.Host.history c.hold_if.new.host; done = c.in_ok-place.ensures; after = inl (ends_with (LooksIn c.in_ok-place.place c.args.name.now) _ _ _ _ c.in_err-bytes.ensures c.from_residual-in_err-bytes.ensures) })

pub returns-in_err-pack : goal.returns-in_err-pack
returns-in_err-pack g c = inr (record { given = c.in_ok-place.place; between = g.H.Host.history c.hold_if.new.host; done = c.in_ok-place.ensures; after = inr (record { given = c.in_ok-bytes.bytes; between = g.H.Host.history c.look_in.new.host; done = c.in_ok-bytes.ensures; after = inl (ends_with (TakesPack c.args.name.now c.in_ok-bytes.bytes.items) _ _ _ _ (subst (λ bytes. TakesPack c.args.name.now bytes (g.H.Host.history c.look_in.new.host) (Err c.in_err-pack.field-0.0) (g.H.Host.history c.take_pack.new.host)) c.deref.ensures.value c.in_err-pack.ensures) c.from_residual-in_err-pack.ensures) }) })

pub returns : goal.returns
returns g c = inr (record { given = c.in_ok-place.place; between = g.H.Host.history c.hold_if.new.host; done = c.in_ok-place.ensures; after = inr (record { given = c.in_ok-bytes.bytes; between = g.H.Host.history c.look_in.new.host; done = c.in_ok-bytes.ensures; after = inr (record { given = c.in_ok-pack.pack; between = g.H.Host.history c.take_pack.new.host; done = rw c.deref.ensures.value at c.in_ok-pack.ensures; after = (refl, refl) }) }) })
