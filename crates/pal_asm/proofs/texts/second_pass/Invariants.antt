use Rattle.std.proofs.Common.{◌≡◌, ℕ, List, ◌++◌, length}
use Rattle.pal_lex.specs.Statements.{statements}
use Rattle.pal_lex.specs.Joins.{join_of}
use Rattle.pal_asm.specs.Texts.{texts}
use Rattle.pal_asm.specs.TextSteps.{BeginsAgain}
use Rattle.pal_asm.proofs.texts.second_pass.Given as goal

abbrev pub invariant-loop-rest : goal.invariant-loop-rest
invariant-loop-rest l = record {
  before : List ℕ;
  begins : BeginsAgain (statements (join_of (texts l.fn.sources))) before (texts l.rest) l.pass l.pairs.items;
  whole : join_of (texts l.fn.sources) ≡ join_of (texts l.rest) ++ before;
}

abbrev pub decreases-loop-rest : goal.decreases-loop-rest
decreases-loop-rest l = length l.rest
