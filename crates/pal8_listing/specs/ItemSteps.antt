-- What the small steps of looking through a text give, for private clauses.
use Rattle.std.specs.Prelude.{◌≡◌, ℕ, List, ◌++◌}
use Rattle.pal8_lex.specs.Reading as lex
use Rattle.pal8_lex.specs.Reading.{HasRead}
use Rattle.pal8_asm.specs.Sources.{PassResult, Statement, statements, with_next}
use Rattle.pal8_tape.specs.Joins.{pass_on}
use Rattle.pal8_tape.specs.Passing.{Follows, PassState}
use Rattle.pal8_listing.specs.Items.{items_after}

-- what is found in a statement is put after the rest, and it is passed
abbrev pub LooksAtOne : {A : Type 0} → (PassResult → Statement → List A) → PassResult → Statement → List A → List A → PassState → Type 0
LooksAtOne in_statement left s old new pass = (new ≡ old ++ in_statement left s) × Follows pass (with_next s left)

-- These bytes were read, and what is found in their statements is put.
pub record HasLooked {A : Type 0} (in_statement : PassResult → Statement → List A) (first : PassResult) (here : List ℕ) (found : List A) (lexer : lex.Progress) (pass : PassState) : Type 0 where
  pub has_read : HasRead lexer here
  pub follows : Follows pass (pass_on first (statements here))
  pub are : found ≡ items_after in_statement first (statements here)
