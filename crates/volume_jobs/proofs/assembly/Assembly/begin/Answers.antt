use Rattle.std.proofs.Common.{◌∙◌, refl, sym}
use Rattle.volume_jobs.proofs.HoldLemmas.{held_again, not_begun, is_busy, begun_assembly}
use Rattle.volume_jobs.proofs.assembly.Assembly.begin.Goals as goal

pub returns-in-Err : goal.returns-in-Err
returns-in-Err g c =
    not_begun c.args.files.now c.release_all.new.files c.args.to c.args.from.now c.hold_all.new.places c.hold_all.new.blocks.items c.in-Err.fault
    (held_again c.counted_holds.ensures.released c.args.files.now c.hold_all.new.files c.release_all.new.files c.hold_all.new.places c.in-Err.ensures.held c.release_all.ensures) c.in-Err.ensures.all

pub returns-then-is_held : goal.returns-then-is_held
returns-then-is_held g c = (
  refl,
  c.in-Ok.ensures.all.there,
  is_busy c.counted_holds.ensures.held c.args.files.now c.hold_all.new.files c.args.to c.args.from.now c.hold_all.new.places c.in-Ok.ensures.held c.in-Ok.ensures.all.names_are (sym c.is_held.ensures ∙ c.if-is_held.true),
  held_again c.counted_holds.ensures.released c.args.files.now c.hold_all.new.files c.release_all-then-is_held.new.files c.hold_all.new.places c.in-Ok.ensures.held c.release_all-then-is_held.ensures,
)

pub returns-else-is_held : goal.returns-else-is_held
returns-else-is_held g c =
    begun_assembly c.counted_holds.ensures.held c.args.files.now c.hold_all.new.files c.args.to c.args.from.now c.hold_all.new.places c.hold_all.new.blocks.items c.in-Ok.total c.new-assembling.result c.requires.named c.requires.some c.in-Ok.ensures.held c.in-Ok.ensures.all (sym c.is_held.ensures ∙ c.if-is_held.false)
    c.new-assembling.ensures
