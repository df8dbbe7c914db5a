use Rattle.std.proofs.Common.{sym, ◌∙◌}
use Rattle.debug8.proofs.BreakLemmas.{kept-positive, kept-cleared}
use Rattle.debug8.proofs.debuggers.Debugger.clear_break.Goals as goal

pub overflow_sub-self : goal.overflow_sub-self
overflow_sub-self c = kept-positive c.self.inside.breaks.items c.self.inside.count c.index.result c.index-2.result.now c.self.invariant
    c.index.ensures.range c.index-2.ensures c.if-index.true

pub invariant_of-self : goal.invariant_of-self
invariant_of-self c = kept-cleared c.self.inside.breaks.items c.self.inside.count c.index.result c.index-then-index.result c.index-2.result.now
    c.self.invariant c.index.ensures.range (c.index-then-index.ensures.value ∙ sym c.index.ensures.value) c.index-2.ensures c.if-index.true
