use Rattle.pointer_flow.specs.Programs.{Program}
use Rattle.pointer_flow.specs.Calls.{call_of}
use Rattle.pointer_flow.specs.Settled.{IsEarliest}
use Rattle.pointer_flow.specs.Tables.{AreFacts}
use Rattle.pointer_flow.proofs.SettledLemmas.{IsMarkedBelow}
use Rattle.pointer_flow.proofs.cell_states.earliest_call.Given as goal

abbrev pub invariant-loop-number : goal.invariant-loop-number
invariant-loop-number l = (p : Program) → AreFacts p l.facts.words.now l.facts.data_flags.now l.facts.increments.items l.facts.arguments.items l.facts.handlers.items
    → IsEarliest (IsMarkedBelow l.states.bits.items l.cell l.number) (λ s. call_of p s l.word) l.found
