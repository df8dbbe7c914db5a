use Rattle.std.proofs.Common.{◌+◌, ◌≤◌, nat_eq, if◌then◌else◌, get_or, refl, ap, sym, subst, ◌∙◌}
use Rattle.source_places.proofs.PlaceLemmas.{column_more, column_bound}
use Rattle.source_places.proofs.places.next_column.Goals as goal

pub loop-byte-preserved : goal.loop-byte-preserved
loop-byte-preserved c =
    let byte = get_or c.args.text.now c.loop-byte.byte-index 0 in
    record {
      same = c.column_after-column.ensures ∙ ap (λ n. if nat_eq byte 10 then 1 else n + 1) c.loop-byte.invariant.same
          ∙ sym (column_more c.args.text.now c.loop-byte.byte-index byte c.loop-byte-test.true refl);
      bound = subst (λ n. n ≤ c.loop-byte.byte-index + 1 + 1) (sym c.column_after-column.ensures) (column_bound (nat_eq byte 10) c.loop-byte.column c.loop-byte.byte-index c.loop-byte.invariant.bound);
    }
