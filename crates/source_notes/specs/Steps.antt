-- The steps of finding who refers to a cell, for private clauses.
use Rattle.std.specs.Prelude.{◌≡◌, ℕ, ◌%◌, Bool, ◌&&◌, not, if◌then◌else◌, Option, Some, None, List, length, slice_index_or, slice_set}
use Rattle.word12.specs.declared.sizes.TheConstants.{CORE, FIELD}
use Rattle.flow8.specs.Exits.{referred_cell}
use Rattle.source_notes.specs.Referrers.{is_call, is_reference}
use Rattle.source_notes.specs.declared.references.Kind.{Kind}
use Rattle.source_notes.specs.declared.references.Kind.TheVariants.{Call, Other}

-- ## Kinds of references

abbrev pub is_of_kind : Kind → ℕ → Bool
is_of_kind Call word = is_call (Some word)
is_of_kind Other word = not (is_call (Some word))

-- the cell to which a word in a cell refers in this way
abbrev pub cell_named_in : Kind → ℕ → Option ℕ → Option ℕ
cell_named_in kind cell None = None
cell_named_in kind cell (Some word) = if is_of_kind kind word && is_reference (cell % FIELD) word then Some (referred_cell cell word) else None

-- and to which an instruction does
abbrev pub cell_named_by : Kind → (ℕ → Option ℕ) → (ℕ → Bool) → ℕ → Option ℕ
cell_named_by kind words is_code cell = if is_code cell then cell_named_in kind cell (words cell) else None

-- ## Chains

-- no cell is linked yet
pub record AreUnlinked (cells : List (Option ℕ)) : Type 0 where
  pub size : length cells ≡ CORE
  pub none : (cell : ℕ) → slice_index_or cells cell None ≡ None

-- the tables after a cell that names one, or none
abbrev pub first_with : Option ℕ → ℕ → List (Option ℕ) → List (Option ℕ)
first_with None cell first = first
first_with (Some named) cell first = slice_set first named (Some cell)

abbrev pub next_with : Option ℕ → ℕ → List (Option ℕ) → List (Option ℕ) → List (Option ℕ)
next_with None cell first next = next
next_with (Some named) cell first next = slice_set next cell (slice_index_or first named None)
