use Rattle.std.proofs.Common.{◌≡◌, ◌+◌, ◌*◌, length}
use Rattle.pointer_flow.specs.Programs.{Program}
use Rattle.pointer_flow.specs.States.{IsOneOf, IsState}
use Rattle.pointer_flow.specs.Steps.{count_of_unmarked}
use Rattle.pointer_flow.specs.Tables.{AreFacts}
use Rattle.pointer_flow.specs.declared.states.State.{State}
use Rattle.pointer_flow.proofs.WalkLemmas.{IsOnTheWay}
use Rattle.pointer_flow.proofs.walks.reach.Given as goal

abbrev pub invariant-loop-state : goal.invariant-loop-state
invariant-loop-state l = record {
  states : (s : State) → IsOneOf s l.waiting.items → IsState s;
  way : (p : Program) → AreFacts p l.rules.facts.now.words.now l.rules.facts.now.data_flags.now l.rules.facts.now.increments.items l.rules.facts.now.arguments.items
      l.rules.facts.now.handlers.items → p.starts ≡ l.starts → IsOnTheWay p l.rules.pointers.now l.rules.no_skip_cells.now l.reached.bits.items l.waiting.items;
}

-- each state waits once at most
abbrev pub decreases-loop-state : goal.decreases-loop-state
decreases-loop-state l = 2 * count_of_unmarked l.reached.bits.items + length l.waiting.items
