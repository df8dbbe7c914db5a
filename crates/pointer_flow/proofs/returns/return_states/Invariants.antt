use Rattle.std.proofs.Common.{ℕ}
use Rattle.pointer_flow.specs.Programs.{Program}
use Rattle.pointer_flow.specs.Tables.{AreFacts}
use Rattle.pointer_flow.proofs.ReturnLemmas.{AreReturnsBelow}
use Rattle.pointer_flow.proofs.returns.return_states.Given as goal

abbrev pub invariant-loop-number : goal.invariant-loop-number
invariant-loop-number l = (p : Program) → AreFacts p l.facts.words.now l.facts.data_flags.now l.facts.increments.items l.facts.arguments.items l.facts.handlers.items
    → AreReturnsBelow p l.reached.bits.items l.states.bits.items l.number
