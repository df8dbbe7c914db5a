use Rattle.pointer_flow.specs.Settled.{IsSettled}
use Rattle.pointer_flow.proofs.SettledLemmas.{IsMarkedBelow}
use Rattle.pointer_flow.proofs.cell_states.settled_data.Given as goal

abbrev pub invariant-loop-number : goal.invariant-loop-number
invariant-loop-number l = IsSettled (IsMarkedBelow l.states.bits.items l.cell l.number) (λ s. s.data_field) l.settled
