use Rattle.std.proofs.Common.{get_or, refl, sym, ◌-◌, ◌∙◌, arith}
use Rattle.pal8_tape.proofs.PauseLemmas.{last_dropped, line_by_last}
use Rattle.pal8_tape.proofs.pauses.is_line_open.Goals as goal

pub returns-then-not-is_dropped : goal.returns-then-not-is_dropped
returns-then-not-is_dropped c =
    line_by_last c.args.text.now c.loop-left.left (get_or c.args.text.now (c.loop-left.left - 1) 0) c.loop-left-test.true c.loop-left.invariant.inside refl
    (sym c.is_dropped.ensures ∙ c.if-not-is_dropped.true) c.loop-left.invariant.same

pub loop-left-preserved : goal.loop-left-preserved
loop-left-preserved c = record {
  same = last_dropped c.args.text.now c.loop-left.left (get_or c.args.text.now (c.loop-left.left - 1) 0) c.loop-left-test.true c.loop-left.invariant.inside refl
      (sym c.is_dropped.ensures ∙ c.if-not-is_dropped.false) c.loop-left.invariant.same;
  inside = omega (arith, c.loop-left.invariant.inside);
}
