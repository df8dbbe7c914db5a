use Rattle.std.proofs.Common.{inr}
use Rattle.drive_files.proofs.OpenLemmas.{is-refused, is-writable}
use Rattle.drive_files.proofs.opening.hold_to_write.Goals as goal

pub returns-then-not-place : goal.returns-then-not-place
returns-then-not-place g c = inr (record { given = c.in_ok-place.place; between = g.H.Host.history c.hold_within.new.host; done = c.in_ok-place.ensures; after = is-refused c.in_ok-place.place c.args.name.now _ _ c.if-not-place.true c.tell_reason.ensures })

pub returns : goal.returns
returns g c = inr (record { given = c.in_ok-place.place; between = g.H.Host.history c.hold_within.new.host; done = c.in_ok-place.ensures; after = is-writable c.in_ok-place.place c.args.name.now _ c.if-not-place.false })
