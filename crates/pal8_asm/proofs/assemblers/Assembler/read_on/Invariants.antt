use Rattle.std.proofs.Common.{ℕ, List, length}
use Rattle.pal8_asm.specs.Steps.{IsOnTheWay}
use Rattle.pal8_places.specs.declared.options.Options.{Options}
use Rattle.pal8_asm.proofs.assemblers.Assembler.read_on.Given as goal

-- what the bytes leave that were read is taken
abbrev pub invariant-loop-rest : goal.invariant-loop-rest
invariant-loop-rest l = (options : Options) (whole : List ℕ) → IsOnTheWay options whole l.fn.text l.fn.lexer l.fn.at l.fn.self → IsOnTheWay options whole l.rest l.lexer l.at l.self

abbrev pub decreases-loop-rest : goal.decreases-loop-rest
decreases-loop-rest l = length l.rest
