use Rattle.std.proofs.Common.{◌≡◌, length}
use Rattle.word12.specs.declared.sizes.TheConstants.{CORE}
use Rattle.pointer_flow.specs.Programs.{Program}
use Rattle.pointer_flow.specs.Tables.{AreFacts}
use Rattle.pointer_flow.proofs.WriteLemmas.{AreWritersBelow}
use Rattle.pointer_flow.proofs.writes.first_writers.Given as goal

abbrev pub invariant-loop-number : goal.invariant-loop-number
invariant-loop-number l = record {
  size : length l.writers.items ≡ CORE;
  below : (p : Program) → AreFacts p l.rules.facts.now.words.now l.rules.facts.now.data_flags.now l.rules.facts.now.increments.items l.rules.facts.now.arguments.items l.rules.facts.now.handlers.items
      → AreWritersBelow p l.rules.pointers.now l.reached.bits.items l.writers.items l.number;
}
