use Rattle.std.proofs.Common.{◌≡◌, ℕ, ◌-◌, ◌≤◌, List, length}
use Rattle.pal_lex.specs.Progress.{setting}
use Rattle.pal_lex.specs.Reading.{HasRead, ReadsOn}
use Rattle.pal_lex.specs.declared.lexing.State.TheVariants.{Reading}
use Rattle.pal_lex.proofs.lexing.Lexer.take.Given as goal

abbrev pub invariant-loop-taken : goal.invariant-loop-taken
invariant-loop-taken l = record {
  range : l.taken ≤ length l.bytes;
  state : l.self.state ≡ Reading;
  setting : setting l.self ≡ setting l.fn.self;
  read : (seam : ℕ) (text : List ℕ) → HasRead l.fn.self seam text → ReadsOn seam text l.bytes l.taken l.self;
}

abbrev pub decreases-loop-taken : goal.decreases-loop-taken
decreases-loop-taken l = length l.bytes - l.taken
