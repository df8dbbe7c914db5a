use Rattle.std.proofs.Common.{◌+◌, true, slice_set, arith, ap, sym, ◌∙◌}
use Rattle.debug8.proofs.BreakLemmas.{IsKept, kept-set}
use Rattle.debug8.proofs.debuggers.Debugger.set_break.Goals as goal

kept : (c : goal.After-self-2-1) → IsKept (slice_set c.self.inside.breaks.items c.index-3.result true) (c.self.inside.count + 1)
kept c = kept-set c.self.inside.breaks.items c.self.inside.count c.index.result c.index-3.result c.index-2.result.now c.self.invariant
    c.index.ensures.range (c.index-3.ensures.value ∙ sym c.index.ensures.value) c.index-2.ensures c.if-index.false c.if-self-eq-MOST_BREAKS.false

pub invariant_of-self : goal.invariant_of-self
invariant_of-self c = kept c

pub returns : goal.returns
returns c = (
  ap (λ bs. slice_set bs c.index-3.result true) c.self.view_is ∙ ap (λ i. slice_set c.args.self.now i true) c.index-3.ensures.value,
  omega (arith, (kept c).1, (kept c).2),
)
