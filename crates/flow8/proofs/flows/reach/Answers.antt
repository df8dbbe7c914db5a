use Rattle.std.proofs.Common.{sym, subst, ◌∙◌}
use Rattle.flow8.proofs.FlowLemmas.{IsOnTheWay, begins, goes_on, ends, fewer, none_waits}
use Rattle.flow8.proofs.flows.reach.Goals as goal

pub loop-cell-init : goal.loop-cell-init
loop-cell-init c =
    begins c.args.words.now c.args.starts.now c.args.reached.now c.mark_starts.new.reached c.new-waiting.result.items c.mark_starts.new.waiting.items c.requires.reached
    c.requires.none c.new-waiting.ensures.items c.in_ok-mark_starts.ensures

pub loop-cell-preserved : goal.loop-cell-preserved
loop-cell-preserved c =
    goes_on c.args.words.now c.args.starts.now c.loop-cell.reached c.mark_exits.new.reached c.loop-cell.waiting.items c.pop.new.self.items c.mark_exits.new.waiting.items
    c.in-Some.cell c.loop-cell.invariant c.in-Some.ensures.items c.in_ok-mark_exits.ensures

pub loop-cell-smaller : goal.loop-cell-smaller
loop-cell-smaller c =
    fewer c.args.words.now c.loop-cell.reached c.mark_exits.new.reached c.loop-cell.waiting.items c.pop.new.self.items c.mark_exits.new.waiting.items c.in-Some.cell
    c.in-Some.ensures.items c.in_ok-mark_exits.ensures

pub returns : goal.returns
returns c =
    let none = none_waits c.loop-cell.waiting.items (sym c.in_default.ensures.cases.0 ∙ c.loop-cell.waiting.ok.0) in
    ends c.args.words.now c.args.starts.now c.loop-cell.reached (subst (λ l. IsOnTheWay c.args.words.now c.args.starts.now c.loop-cell.reached l) none c.loop-cell.invariant)
