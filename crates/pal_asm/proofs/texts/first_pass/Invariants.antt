use Rattle.std.proofs.Common.{◌≡◌, ℕ, List, ◌++◌, length}
use Rattle.pal_lex.specs.Joins.{join_of}
use Rattle.pal_asm.specs.Texts.{texts}
use Rattle.pal_asm.specs.TextSteps.{BeginsPass}
use Rattle.pal_asm.proofs.texts.first_pass.Given as goal

abbrev pub invariant-loop-rest : goal.invariant-loop-rest
invariant-loop-rest l = record {
  before : List ℕ;
  begins : BeginsPass before (texts l.rest) l.pass;
  whole : join_of (texts l.fn.sources) ≡ join_of (texts l.rest) ++ before;
}

abbrev pub decreases-loop-rest : goal.decreases-loop-rest
decreases-loop-rest l = length l.rest
