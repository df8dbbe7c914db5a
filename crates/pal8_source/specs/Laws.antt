-- Laws of sources that come back.
use Rattle.std.specs.Prelude.{◌≡◌, ℕ, ◌<◌, true, is_some, Option, Some, List, [], ◌∷◌, ◌++◌}
use Rattle.std.specs.Borrow.{Bor}
use Rattle.word12.specs.declared.sizes.TheConstants.{CORE}
use Rattle.bin_tape.specs.Items.{Item}
use Rattle.bin_tape.specs.Tape.{IsTape}
use Rattle.tape_source.specs.Sources.{SaysTheSame}
use Rattle.pal8_tape.specs.Joins.{bytes_in}
use Rattle.pal8_tape.specs.Answers as pal8_tape
use Rattle.pal8_tape.specs.declared.faults.Fault.{Fault}
use Rattle.pal8_tape.specs.declared.faults.SourceFault.TheVariants.{At}
use Rattle.pal8_source.specs.Plain.{plain_source}
use Rattle.pal8_source.specs.Checked.{ComesBack, IsCheckedSource, as_profile}

-- The source of a tape is the only source that is assembled. The tape that it is assembled to gives each cell what the first one gave it.
abbrev pub TapeComesBack : Type 0
TapeComesBack =
    (frames starts : List ℕ) (names : Option (List ℕ)) (text : List ℕ) (items : List Item) → IsCheckedSource frames starts names text → IsTape frames items
    → (sources : List (Bor (List ℕ))) → bytes_in sources ≡ text ∷ [] → (made rest : List ℕ) → pal8_tape.IsTape as_profile sources made
    → SaysTheSame (made ++ rest) items

-- it has no fault
abbrev pub HasNoFault : Type 0
HasNoFault =
    (frames starts : List ℕ) (names : Option (List ℕ)) (text : List ℕ) → IsCheckedSource frames starts names text
    → (sources : List (Bor (List ℕ))) → bytes_in sources ≡ text ∷ [] → (fault : Fault) → pal8_tape.IsTold as_profile sources (At fault) → ⊥

-- the plain source of words of twelve bits comes back, if a cell has one
abbrev pub PlainComesBack : Type 0
PlainComesBack =
    (words : ℕ → Option ℕ) → ((cell word : ℕ) → cell < CORE → words cell ≡ Some word → word < 0o10000) → (cell : ℕ) → cell < CORE
    → is_some (words cell) ≡ true → ComesBack words (plain_source words)
