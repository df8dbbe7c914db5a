-- The tags that are made of cells, and the cells to which instructions refer (PAL III Symbolic Assembler manual, and this project's profile of it).
use Rattle.std.specs.Prelude.{ℕ, ◌%◌, nat_eq, Bool, false, ◌&&◌, ◌||◌, List, [], ◌∷◌}
use Rattle.word12.specs.declared.sizes.TheConstants.{FIELD}
use Rattle.word12.specs.Octal.{octal5}
use Rattle.flow8.specs.Exits.{referred_cell}
pub use Rattle.source_notes.specs.Notes.{is_flagged}
use Rattle.tape_source.specs.References.{is_reference}

-- the tag of a cell: `A`, its field and its address in octal, six characters
abbrev pub tag : ℕ → List ℕ
tag cell = 0o101 ∷ octal5 cell

-- a word stands in this cell
abbrev pub is_given : List (ℕ × ℕ) → ℕ → Bool
is_given [] cell = false
is_given (pair ∷ others) cell = nat_eq pair.0 cell || is_given others cell

-- one of the words is an instruction, a memory reference that names this cell
abbrev pub is_referred : (ℕ → Bool) → List (ℕ × ℕ) → ℕ → Bool
is_referred is_code [] cell = false
is_referred is_code (pair ∷ others) cell = (is_code pair.0 && (is_reference (pair.0 % FIELD) pair.1 && nat_eq (referred_cell pair.0 pair.1) cell)) || is_referred is_code others cell
