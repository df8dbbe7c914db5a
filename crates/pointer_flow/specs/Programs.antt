-- A program whose flow is asked: the words that a tape gives cells, and what is said of them.
use Rattle.std.specs.Prelude.{ℕ, suc, zero, ◌+◌, ◌%◌, ◌/◌, Bool, false, ◌&&◌, ◌||◌, not, nat_eq, if◌then◌else◌, is_some, List, [], ◌∷◌, Option, Some, None, slice_index_or}
use Rattle.word12.specs.declared.sizes.TheConstants.{FIELD}
use Rattle.cpu8.specs.State.{place}
use Rattle.flow8.specs.Exits.{cell_after}
use Rattle.flow8.specs.Flow.{word_in}

pub record Program : Type 0 where
  -- the word that the tape gives a cell, if it gives it one
  pub words : ℕ → Option ℕ
  -- the cell was said to be no instruction
  pub is_data : ℕ → Bool
  -- the cells at which it starts
  pub starts : List ℕ
  -- the cells that were said to hold the entry of a device handler
  pub handlers : List ℕ

-- the program of these lists: a word or none, and a flag, for each cell of core
abbrev pub program_of : List (Option ℕ) → List Bool → List ℕ → List ℕ → Program
program_of words data_flags starts handlers = record {
  words = word_in words;
  is_data = λ cell. slice_index_or data_flags cell false;
  starts = starts;
  handlers = handlers;
}

-- an instruction may stand in a cell: it has a word, and wasn't said to be data
abbrev pub is_open : Program → ℕ → Bool
is_open p cell = is_some (p.words cell) && not (p.is_data cell)

-- ## Cells

-- an auto-index, 0010 to 0017 of a field (Small Computer Handbook)
abbrev pub is_auto_index : ℕ → Bool
is_auto_index cell = nat_eq (cell % FIELD / 0o10) 1

-- the cell before this one, in its field
abbrev pub cell_before : ℕ → ℕ
cell_before cell = cell_after 0o7777 cell

-- so many cells of a cell's field, from the one that is so many words after it
abbrev pub cells_from : ℕ → ℕ → ℕ → List ℕ
cells_from cell first zero = []
cells_from cell first (suc count) = cell_after first cell ∷ cells_from cell (first + 1) count

-- the cell at an address of a field, where both are known
abbrev pub place_in : Option ℕ → Option ℕ → Option ℕ
place_in None None = None
place_in None (Some address) = None
place_in (Some field) None = None
place_in (Some field) (Some address) = Some (place field address)

-- there is a number, and it is this one
abbrev pub is_number : Option ℕ → ℕ → Bool
is_number None number = false
is_number (Some other) number = nat_eq other number

-- it is one of these
abbrev pub is_listed : ℕ → List ℕ → Bool
is_listed number [] = false
is_listed number (first ∷ others) = nat_eq number first || is_listed number others

-- how many of the numbers below one are so
unfoldable pub count_below : (ℕ → Bool) → ℕ → ℕ
count_below is zero = 0
count_below is (suc number) = count_below is number + (if is number then 1 else 0)

-- whether one of them is so
unfoldable pub is_some_below : (ℕ → Bool) → ℕ → Bool
is_some_below is zero = false
is_some_below is (suc number) = is_some_below is number || is number
