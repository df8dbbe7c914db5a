use Rattle.std.proofs.Common.{Some, Ok, inr, refl, subst, sym}
use Rattle.drive_files.specs.Opening.{HoldsIf}
use Rattle.drive_files.proofs.opening.hold_if.Goals as goal

pub returns : goal.returns
returns g c = subst (λ is. HoldsIf is c.args.seconds c.args.name.now (g.H.Host.history c.args.host.now) (Ok (Some c.in_ok-place.place)) (g.H.Host.history c.hold_to_write.new.host)) (sym c.if-not-is_kept.false)
    (inr (record { given = c.in_ok-place.place; between = g.H.Host.history c.hold_to_write.new.host; done = c.in_ok-place.ensures; after = (refl, refl) }))
