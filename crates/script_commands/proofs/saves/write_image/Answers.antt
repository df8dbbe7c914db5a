use Rattle.std.proofs.Common.{inl, inr, refl, rules}
use Rattle.outcome.specs.declared.reasons.Reason.TheVariants.{Fault, NoRoom}
use Rattle.script_commands.proofs.SaveLemmas.{written_so}
use Rattle.script_commands.proofs.saves.write_image.Goals as goal

pub returns-then-not-image : goal.returns-then-not-image
returns-then-not-image g c = inr (inl (refl, Fault c.args.image.now.place.why, rw c.as_str-name.ensures.value at c.tell_reason.ensures))

pub returns-then-not-lay : goal.returns-then-not-lay
returns-then-not-lay g c = inr (inl (refl, NoRoom, rw c.as_str-name.ensures.value at c.tell_reason-then-not-lay.ensures))

pub returns-in-None : goal.returns-in-None
returns-in-None g c =
    written_so c.args.is_told c.args.image.now _ c.args.bytes.now c.args.bytes.now c.write_around.result _ _ (search rules) refl refl refl (search rules)
    (rw (c.as_str-name.ensures.value, c.as_str-path.ensures.value) at c.write_around.ensures)

pub returns-else-not-lay : goal.returns-else-not-lay
returns-else-not-lay g c =
    written_so c.args.is_told c.args.image.now _ c.args.bytes.now c.bytes.result.now c.write_around-in-Some.result _ _ (search rules) refl refl refl (search rules)
    (rw (c.as_str-name.ensures.value, c.as_str-path.ensures.value) at c.write_around-in-Some.ensures)
