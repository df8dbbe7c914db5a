use Rattle.std.proofs.Common.{◌≡◌, ℕ, length}
use Rattle.pal_sym.specs.Values.{symbol_value}
use Rattle.pal_asm.specs.PassSteps.{with_tags_again}
use Rattle.pal_asm.proofs.again.set_tags.Given as goal

abbrev pub invariant-loop-rest : goal.invariant-loop-rest
invariant-loop-rest l = (n : ℕ) → with_tags_again l.rest l.fn.place (symbol_value l.symbols) n ≡ with_tags_again l.fn.tags l.fn.place (symbol_value l.fn.symbols) n

abbrev pub decreases-loop-rest : goal.decreases-loop-rest
decreases-loop-rest l = length l.rest
