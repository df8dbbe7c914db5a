-- The steps of reading names, for private clauses.
use Rattle.std.specs.Prelude.{◌≡◌, ℕ, suc, nat_eq, if◌then◌else◌, Option, Some, None, Result, Ok, Err, List, [], ◌∷◌, length, slice_index_or}
use Rattle.word12.specs.declared.sizes.TheConstants.{CORE}
use Rattle.pal_sym.specs.Permanent.{permanent}
use Rattle.pal_sym.specs.SymbolTable.{SymbolTable}
use Rattle.pal_sym.specs.Values.{if_none, symbol_value}
use Rattle.source_names.specs.Names.{Entry, Reading, name_at, names_number, read_of, with_line}
use Rattle.source_names.specs.declared.faults.NamesFault.{NamesFault}
use Rattle.source_names.specs.declared.faults.NamesFault.TheVariants.{At, Memory}

-- how many bytes stand before the first LF
abbrev pub line_length : List ℕ → ℕ
line_length [] = 0
line_length (byte ∷ bytes) = if nat_eq byte 0o12 then 0 else suc (line_length bytes)

-- a table and a set of names hold what was given
pub record Holds (table : List (Option (List ℕ))) (given : SymbolTable) (entries : List Entry) : Type 0 where
  pub size : length table ≡ CORE
  pub names : (cell : ℕ) → slice_index_or table cell None ≡ name_at entries cell
  pub numbers : (number : ℕ) → symbol_value given number ≡ if_none (permanent number) (if names_number entries number then Some 0 else None)

-- what a line that is read after others changes
abbrev pub TakesLine : (ℕ → Option ℕ) → Reading → List ℕ → List (Option (List ℕ)) → SymbolTable → Result (Unit {0}) NamesFault → Type 0
TakesLine words read line table given (Ok done) = (now : Reading) × (with_line words read line ≡ Ok now) × Holds table given now.entries
TakesLine words read line table given (Err (At number why)) = with_line words read line ≡ Err (At number why)
TakesLine words read line table given (Err Memory) = Unit {0}

-- what further lines change
pub record TakesText (words : ℕ → Option ℕ) (text : List ℕ) (table : List (Option (List ℕ))) (given : SymbolTable) : Type 0 where
  pub read : Reading
  pub is : read_of words text ≡ Ok read
  pub holds : Holds table given read.entries
