-- The answers of an assembler.
use Rattle.std.specs.Prelude.{◌≡◌, ℕ, Bool, Option, Some, Result, Ok, Err, List, ◌++◌}
use Rattle.std.specs.Global.{Vec}
use Rattle.pal8_places.specs.declared.names.KnownNames.{KnownNames}
use Rattle.pal8_pools.specs.Cells.{ArePairs}
use Rattle.pal8_pools.specs.Pooled.{Holds, PoolTable}
use Rattle.pal8_places.specs.Passing.{standing}
use Rattle.pal8_asm.specs.Tapes.{TapeWords}
use Rattle.pal8_asm.specs.Assembled.{result_of_text}
use Rattle.pal8_asm.specs.Sources.{Entry, Remainder, PassResult, at_place, remainder_of_text}
use Rattle.pal8_asm.specs.declared.faults.Fault.{Fault}
use Rattle.pal8_asm.specs.declared.faults.Place.{Place}
use Rattle.pal8_asm.specs.declared.faults.AsmFault.{AsmFault}
use Rattle.pal8_asm.specs.declared.faults.AsmFault.TheVariants as asm
use Rattle.pal8_asm.specs.declared.words.MadeWords.{MadeWords}
use Rattle.pal8_places.specs.declared.options.Options.{Options}
use Rattle.pal8_places.specs.declared.places.Position.{Position}

-- How far an assembler is.
pub record Progress : Type 0 where
  pub names : KnownNames
  pub position : Position
  pub entries : List Entry
  pub brackets : List Bool
  pub end : Option Place

-- what the statements before leave
abbrev pub remainder_of : Progress → Remainder
remainder_of a = record { standing = standing a.names a.position; entries = a.entries; brackets = a.brackets; end = a.end }

-- a statement is taken, or its fault is answered; or memory ran out
abbrev pub Takes : PassResult → Result (Unit {0}) AsmFault → Progress → Type 0
Takes whole (Ok nothing) new = whole ≡ Ok (remainder_of new)
Takes whole (Err (asm.At code place)) new = whole ≡ Err (at_place place code)
Takes whole (Err asm.Memory) new = Unit {0}

-- what a text leaves to be made was taken, and its `$` has this place; or its fault; or memory ran out
abbrev pub ReadsText : Options → List ℕ → Result Place AsmFault → Progress → Type 0
ReadsText options text (Ok place) a = (remainder_of_text options text ≡ Ok (remainder_of a)) × (a.end ≡ Some place)
ReadsText options text (Err (asm.At code place)) a = remainder_of_text options text ≡ Err (at_place place code)
ReadsText options text (Err asm.Memory) a = Unit {0}

-- Entries were made, after others: these are the words so far, and the pools hold what was asked.
pub record IsMade (whole : Result TapeWords Fault) (pools : PoolTable) (pairs : List (ℕ × ℕ)) : Type 0 where
  pub made : TapeWords
  pub is_whole : whole ≡ Ok made
  pub words : pairs ≡ made.words
  pub holds : Holds pools made.asks made.punched

-- the words are answered, and the pools hold what they asked; or the first fault of a word; or memory ran out
abbrev pub MakesWords : Result TapeWords Fault → Result MadeWords AsmFault → Type 0
MakesWords whole (Ok made) = IsMade whole made.pools made.pairs.items
MakesWords whole (Err (asm.At code place)) = whole ≡ Err (at_place place code)
MakesWords whole (Err asm.Memory) = Unit {0}

-- The pairs are the punched words of what was made, and then each cell that they ask for with its value, by rising cell.
pub record IsAssembled (whole : Result TapeWords Fault) (pairs : List (ℕ × ℕ)) : Type 0 where
  pub made : TapeWords
  pub is_whole : whole ≡ Ok made
  pub pool : List (ℕ × ℕ)
  pub are : pairs ≡ made.words ++ pool
  pub is_pool : ArePairs made.asks made.punched pool

-- a text is assembled, or its first fault is answered; or memory ran out
abbrev pub Assembles : Options → List ℕ → Result (Vec (ℕ × ℕ)) AsmFault → Type 0
Assembles options text (Ok pairs) = IsAssembled (result_of_text options text) pairs.items
Assembles options text (Err (asm.At code place)) = result_of_text options text ≡ Err (at_place place code)
Assembles options text (Err asm.Memory) = Unit {0}
