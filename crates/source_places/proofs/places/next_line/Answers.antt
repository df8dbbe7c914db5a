use Rattle.std.proofs.Common.{◌+◌, ◌≤◌, nat_eq, if◌then◌else◌, get_or, refl, ap, sym, subst, ◌∙◌}
use Rattle.source_places.proofs.PlaceLemmas.{line_more, line_bound}
use Rattle.source_places.proofs.places.next_line.Goals as goal

pub loop-byte-preserved : goal.loop-byte-preserved
loop-byte-preserved c =
    let byte = get_or c.args.text.now c.loop-byte.byte-index 0 in
    record {
      same = c.line_after-line.ensures ∙ ap (λ n. (if nat_eq byte 10 then 1 else 0) + n) c.loop-byte.invariant.same ∙ sym (line_more c.args.text.now c.loop-byte.byte-index byte c.loop-byte-test.true refl);
      bound = subst (λ n. n ≤ c.loop-byte.byte-index + 1 + 1) (sym c.line_after-line.ensures) (line_bound (nat_eq byte 10) c.loop-byte.line c.loop-byte.byte-index c.loop-byte.invariant.bound);
    }
