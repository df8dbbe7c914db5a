use Rattle.std.proofs.Common.{◌≡◌, ◌<◌, Some, length}
use Rattle.pal_sym.specs.Values.{symbol_value}
use Rattle.pal_asm.specs.Expressions.{value_after, value_of}
use Rattle.pal_asm.specs.Faults.{terms_fault}
use Rattle.pal_asm.proofs.expressions.value_of.Given as goal

abbrev pub invariant-loop-rest : goal.invariant-loop-rest
invariant-loop-rest l = record {
  value : value_after (symbol_value l.fn.symbols) l.fn.location (Some l.value) l.rest ≡ value_of (symbol_value l.fn.symbols) l.fn.location l.fn.parts;
  fault : terms_fault (symbol_value l.fn.symbols) l.fn.location l.rest ≡ terms_fault (symbol_value l.fn.symbols) l.fn.location l.fn.parts;
  range : l.value < 4096;
}

abbrev pub decreases-loop-rest : goal.decreases-loop-rest
decreases-loop-rest l = length l.rest
