use Rattle.std.proofs.Common.{◌+◌, ◌≤◌, get_or, refl, ap, sym, subst, ◌∙◌}
use Rattle.pal8_tape.specs.Places.{column_with}
use Rattle.pal8_tape.proofs.PlaceLemmas.{column_more, column_bound}
use Rattle.pal8_tape.proofs.places.column_after.Goals as goal

pub loop-byte-preserved : goal.loop-byte-preserved
loop-byte-preserved c =
    let byte = get_or c.args.text.now c.loop-byte.byte-index 0 in
    record {
      same = c.column_with-column.ensures ∙ ap (column_with byte) c.loop-byte.invariant.same
          ∙ sym (column_more c.args.text.now c.loop-byte.byte-index byte c.loop-byte-test.true refl);
      bound = subst (λ n. n ≤ c.loop-byte.byte-index + 1 + 1) (sym c.column_with-column.ensures)
          (column_bound byte c.loop-byte.column c.loop-byte.byte-index c.loop-byte.invariant.bound);
    }
