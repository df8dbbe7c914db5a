use Rattle.std.proofs.Common.{◌≡◌, ◌++◌, length, map}
use Rattle.pal8_tape.specs.FaultLines.{fault_text}
use Rattle.assemble_commands.proofs.faults.pal8_texts_of.Given as goal

abbrev pub invariant-loop-rest : goal.invariant-loop-rest
invariant-loop-rest l = map (λ text. text.items) l.texts.items ++ map (fault_text l.fn.sources l.fn.names) l.rest ≡ map (fault_text l.fn.sources l.fn.names) l.fn.faults

abbrev pub decreases-loop-rest : goal.decreases-loop-rest
decreases-loop-rest l = length l.rest
