use Rattle.std.proofs.Common.{◌+◌, ◌*◌, length}
use Rattle.flow8.specs.FlowSteps.{count_of_unmarked}
use Rattle.flow8.proofs.FlowLemmas.{IsOnTheWay}
use Rattle.flow8.proofs.flows.reach.Given as goal

abbrev pub invariant-loop-cell : goal.invariant-loop-cell
invariant-loop-cell l = IsOnTheWay l.words l.starts l.reached l.waiting.items

-- each cell waits once at most
abbrev pub decreases-loop-cell : goal.decreases-loop-cell
decreases-loop-cell l = 2 * count_of_unmarked l.reached + length l.waiting.items
