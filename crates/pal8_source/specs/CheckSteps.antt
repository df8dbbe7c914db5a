-- What the steps to a checked source have, for private clauses.
use Rattle.std.specs.Prelude.{◌≡◌, ◌≢◌, ◌⊎◌, ℕ, ◌<◌, Bool, true, false, Option, Result, Ok, Err, List}
use Rattle.word12.specs.declared.sizes.TheConstants.{CORE}
use Rattle.flow8.specs.Flow.{word_in}
use Rattle.tape_source.specs.declared.faults.ListFault.TheVariants as list
use Rattle.pal8_source.specs.declared.faults.Pal8Fault.{Pal8Fault}
use Rattle.pal8_source.specs.declared.faults.Pal8Fault.TheVariants.{List as InList}
use Rattle.pal8_source.specs.Checked.{ComesBack, GivesOther, HasFault}

-- the same word or none for each cell
abbrev pub AreSame : List (Option ℕ) → List (Option ℕ) → Type 0
AreSame these those = (cell : ℕ) → cell < CORE → word_in these cell ≡ word_in those cell

-- another word, or one and none, for a cell
abbrev pub DifferAt : List (Option ℕ) → List (Option ℕ) → ℕ → Type 0
DifferAt these those cell = (cell < CORE) × (word_in these cell ≢ word_in those cell)

-- whether a text comes back to words; or memory ran out
abbrev pub Judges : List (Option ℕ) → List ℕ → Result Bool Pal8Fault → Type 0
Judges words text (Ok true) = ComesBack (word_in words) text
Judges words text (Ok false) = HasFault text ⊎ GivesOther (word_in words) text
Judges words text (Err fault) = fault ≡ InList list.Memory
