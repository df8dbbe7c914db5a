use Rattle.pointer_flow.specs.declared.states.State.{State}
use Rattle.pointer_flow.proofs.SettledLemmas.{IsMarkedBelow}
use Rattle.pointer_flow.proofs.cell_states.has_any.Given as goal

abbrev pub invariant-loop-number : goal.invariant-loop-number
invariant-loop-number l = (s : State) → IsMarkedBelow l.states.bits.items l.cell l.number s → ⊥
