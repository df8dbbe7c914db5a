use Rattle.std.proofs.Common.{◌∙◌, ap, arith, drop, sym}
use Rattle.debug_lines.specs.BreakSteps.{joint_end}
use Rattle.debug_lines.specs.Breaks.{with_comparisons, with_number}
use Rattle.debug_lines.proofs.BreakLemmas.{read_more, read_last, reads_same}
use Rattle.debug_lines.proofs.breaks.with_comparisons.Goals as goal

pub loop-rest-preserved : goal.loop-rest-preserved
loop-rest-preserved c =
    c.loop-rest.invariant
    ∙ read_more c.args.line.now c.args.spot c.loop-rest.items.items c.put_comparison.new.items.items c.loop-rest.place c.loop-rest.rest.now c.in-Some.end
    (omega (arith, c.loop-rest-test.true)) c.in_ok-put_comparison.ensures
    (sym (ap (λ those. joint_end c.args.line.now those) c.split_at.ensures.back) ∙ sym c.joint_end.ensures.place ∙ c.in-Some.is)
    ∙ ap (λ those. with_comparisons c.args.line.now c.args.spot c.put_comparison.new.items.items c.in-Some.end those)
    (sym (c.split_at-in-Some.ensures.back ∙ ap (λ those. drop 1 those) c.split_at.ensures.back))

pub returns-in-None : goal.returns-in-None
returns-in-None c =
    reads_same _ _ _
    (c.loop-rest.invariant
    ∙ read_last c.args.line.now c.args.spot c.loop-rest.items.items c.put_comparison.new.items.items c.loop-rest.place c.loop-rest.rest.now
    (omega (arith, c.loop-rest-test.true)) c.in_ok-put_comparison.ensures
    (sym (ap (λ those. joint_end c.args.line.now those) c.split_at.ensures.back) ∙ sym c.joint_end.ensures.place ∙ c.in-None.is)
    ∙ ap (λ those. with_number c.args.line.now c.args.spot c.put_comparison.new.items.items those) (sym c.split_at.ensures.back))
    c.finished_break.ensures
