use Rattle.std.proofs.Common.{◌≡◌, ◌<◌, ◌-◌, arith, refl, inl, inr, ◌∙◌, ap, sym, take, drop, ◌+◌, length}
use Rattle.script8.specs.Items.{ended_lines}
use Rattle.script8.proofs.CutLemmas.{all_found, last_found, none_found, next_end, next_byte, ends_more, ends_same, block_passed, block_ends}
use Rattle.script8.proofs.CutLemmas.{taken, size_from}
use Rattle.script8.proofs.items.lines_length.Goals as goal
use Rattle.script8.proofs.items.lines_length.Goals.{then-text-place-eq10, else-text-place-eq10}
use Rattle.script8.proofs.items.lines_length.Goals.{then-left-gt1-via-then-left-gt1, then-left-gt1-via-else-left-gt1+then-not-is_begun, then-left-gt1-via-else-left-gt1+else-not-is_begun+then-not-is_end}

pub returns-then-left-eq0 : goal.returns-then-left-eq0
returns-then-left-eq0 c = all_found _ _ _ _ _ _ _ c.loop-place.invariant.found c.if-left-eq0.true refl

pub loop-place-preserved : goal.loop-place-preserved
loop-place-preserved c = record {
  found = c.loop-place.invariant.found ∙ (elim c.if-text-place-eq10.branch [
    | then-text-place-eq10 w ↦ next_end _ _ _ _ _ _ c.loop-place-test.true (omega (arith, c.if-left-eq0.false)) w.left-is w.if-text-place-eq10.true
        ∙ ap (λ g. size_from (c.loop-place.place + 1) (taken c.args.is_end g c.if-text-place-eq10.left (drop (c.loop-place.place + 1) c.args.text.now))) (sym w.is_begun-is)
    | else-text-place-eq10 w ↦ next_byte _ _ _ _ _ c.loop-place-test.true (omega (arith, c.if-left-eq0.false)) w.if-text-place-eq10.false
        ∙ ap (λ g. size_from (c.loop-place.place + 1) (taken c.args.is_end g c.loop-place.left (drop (c.loop-place.place + 1) c.args.text.now))) (sym w.is_begun-is)
        ∙ ap (λ n. size_from (c.loop-place.place + 1) (taken c.args.is_end c.if-text-place-eq10.is_begun n (drop (c.loop-place.place + 1) c.args.text.now))) (sym w.left-is)
  ]);
  ends = elim c.if-text-place-eq10.branch [
    | then-text-place-eq10 w ↦ omega (arith, c.loop-place.invariant.ends, w.left-is, c.if-left-eq0.false, ends_more _ _ c.loop-place-test.true w.if-text-place-eq10.true)
    | else-text-place-eq10 w ↦ omega (arith, c.loop-place.invariant.ends, w.left-is, ends_same _ _ c.loop-place-test.true w.if-text-place-eq10.false)
  ];
}

pub returns-then-left-eq0-2 : goal.returns-then-left-eq0-2
returns-then-left-eq0-2 c = all_found c.args.text.now c.args.is_end c.loop-place.is_begun c.args.lines c.loop-place.left c.loop-place.place (length c.args.text.now) c.loop-place.invariant.found c.if-left-eq0-2.true (omega (arith, c.loop-place-test.false, c.loop-place.auto.place-end))

pub returns-then-left-gt1 : goal.returns-then-left-gt1
returns-then-left-gt1 c = none_found _ _ _ _ _ _ c.loop-place.invariant.found c.loop-place-test.false (omega (arith, c.if-left-eq0-2.false)) (elim c.then-left-gt1.branch [
  | then-left-gt1-via-then-left-gt1 w ↦ inl w.if-left-gt1.true
  | then-left-gt1-via-else-left-gt1+then-not-is_begun w ↦ inr (inl w.if-not-is_begun.true)
  | then-left-gt1-via-else-left-gt1+else-not-is_begun+then-not-is_end w ↦ inr (inr w.if-not-is_end.true)
]) c.loop-place.invariant.ends

pub returns : goal.returns
returns c = last_found c.args.text.now c.args.is_end c.loop-place.is_begun c.args.lines c.loop-place.left c.loop-place.place (length c.args.text.now) c.loop-place.invariant.found c.loop-place-test.false (omega (arith, c.if-left-eq0-2.false, c.if-left-gt1.false)) c.if-not-is_begun.false c.if-not-is_end.false (omega (arith, c.loop-place-test.false, c.loop-place.auto.place-end))

pub loop-begin-preserved : goal.loop-begin-preserved
loop-begin-preserved c =
    let text = c.args.text.now in
    let begin = c.loop-begin.begin in
    let left = c.loop-begin.left in
    let less = left - c.ends_in-ends.result in
    let n = begin + 64 - begin in
    let block = take n (drop begin text) in
    let few : c.ends_in-ends.result < left = omega (arith, c.if-ends-left.false) in
    let ends : left ≡ less + length (ended_lines block) = omega (arith, few, c.ends_in-ends.ensures) in
    let inside : begin + 64 < length text = omega (arith, c.loop-begin-test.true) in
    record {
      found = c.loop-begin.invariant.found ∙ block_passed text block c.args.is_end left less begin n 64 refl (omega arith) inside (omega (arith, few)) ends;
      ends = omega (arith, ends, c.loop-begin.invariant.ends, block_ends text block begin n 64 refl (omega arith));
      within = omega (arith, inside);
    }
