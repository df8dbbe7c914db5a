-- What was printed and not yet handed on to a writer (this project's profile).
use Rattle.std.specs.Prelude.{◌≡◌, ℕ, List, [], ◌++◌, Option, Result, Ok, Err}
use Rattle.std.specs.Io.KnownBytes.{Appends}
use Rattle.terminal8.specs.declared.outcomes.TerminalFault.{TerminalFault}
use Rattle.terminal8.specs.declared.outcomes.TerminalFault.TheVariants.{Reader, Writer}

-- These bytes were printed more: some of all went to the writer, and the others are on the paper.
pub record Passes (writer writer' : Option (List ℕ)) (paper paper' printed : List ℕ) : Type 0 where
  pub handed : List ℕ
  pub written : Appends writer writer' handed
  pub in_order : handed ++ paper' ≡ paper ++ printed

-- nothing more was printed, where the writer did not fail
abbrev pub Holds : {A : Type 0} → Option (List ℕ) → Option (List ℕ) → List ℕ → List ℕ → Result A TerminalFault → Type 0
Holds writer writer' paper paper' (Ok value) = Passes writer writer' paper paper' []
Holds writer writer' paper paper' (Err Reader) = Passes writer writer' paper paper' []
Holds writer writer' paper paper' (Err Writer) = Unit {0}
