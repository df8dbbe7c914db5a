use Rattle.std.proofs.Common.{◌≡◌, length}
use Rattle.pal_sym.specs.Values.{symbol_value}
use Rattle.pal_asm.specs.Faults.{tags_fault}
use Rattle.pal_asm.proofs.names.judge_tags.Given as goal

abbrev pub invariant-loop-rest : goal.invariant-loop-rest
invariant-loop-rest l = tags_fault (symbol_value l.symbols) l.location l.rest ≡ tags_fault (symbol_value l.fn.symbols) l.fn.location l.fn.tags

abbrev pub decreases-loop-rest : goal.decreases-loop-rest
decreases-loop-rest l = length l.rest
