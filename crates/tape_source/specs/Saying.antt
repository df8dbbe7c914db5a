-- What a whole source says, for private clauses.
use Rattle.std.specs.Prelude.{◌≡◌, ℕ, ◌<◌, Option, None, List}
use Rattle.word12.specs.declared.sizes.TheConstants.{CORE}
use Rattle.bin_tape.specs.Items.{Item, IsPrefix, tape_map}
use Rattle.tape_source.specs.Looks.{Look, AreNotes, IsNaming}
use Rattle.tape_source.specs.Lines.{source_with}
use Rattle.tape_source.specs.Sources.{Says, words_of_tape}
use Rattle.tape_source.specs.Steps.{HoldsMap}
use Rattle.tape_source.specs.declared.faults.ListFault.{ListFault}
use Rattle.tape_source.specs.declared.faults.ListFault.TheVariants.{Tape, NoWord, NoStart, Names, Memory}

-- two looks show the same of each cell
pub record SameLook (one other : Look) : Type 0 where
  pub names : (cell : ℕ) → cell < CORE → one.name cell ≡ other.name cell
  pub named : (cell : ℕ) → cell < CORE → one.has_name cell ≡ other.has_name cell
  pub code : (cell : ℕ) → cell < CORE → one.is_code cell ≡ other.is_code cell
  pub above : (cell : ℕ) → cell < CORE → one.above cell ≡ other.above cell
  pub remark : (cell : ℕ) → cell < CORE → one.remark cell ≡ other.remark cell
  pub gaps : (cell : ℕ) → cell < CORE → one.has_gap cell ≡ other.has_gap cell

-- a text says these words, and looks like each look that shows the same as this one
abbrev pub SaysWords : List (Option ℕ) → Look → List ℕ → Type 0
SaysWords words look text =
    (other : Look) (items : List Item) → IsPrefix items → HoldsMap items words → SameLook look other → AreNotes other → IsNaming other.name
    → (text ≡ source_with other (words_of_tape items)) × Says text items

-- why words have no source
abbrev pub IsNoSource : List (Option ℕ) → ListFault → Type 0
IsNoSource words (Tape fault) = ⊥
IsNoSource words NoWord = (items : List Item) → IsPrefix items → HoldsMap items words → (cell : ℕ) → tape_map items cell ≡ None
IsNoSource words (NoStart start) = ⊥
IsNoSource words (Names line why) = ⊥
IsNoSource words Memory = Unit {0}
