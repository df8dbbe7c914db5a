-- Who refers to a cell (PAL III Symbolic Assembler manual, Small Computer Handbook). There is one word or none for each cell, and some
-- words are known to be instructions.
use Rattle.std.specs.Prelude.{ℕ, zero, suc, ◌/◌, ◌%◌, nat_eq, nat_lt, nat_le, Bool, false, ◌&&◌, ◌||◌, not, if◌then◌else◌, Option, Some, None, List, [], ◌∷◌, ◌++◌}
use Rattle.word12.specs.declared.sizes.TheConstants.{CORE, FIELD, PAGE}
use Rattle.flow8.specs.Exits.{referred_cell}

-- Whether a word at an address is that of a memory reference: an operation below 6; on page zero the assembler leaves the
-- page bit, 0200, clear.
abbrev pub is_reference : ℕ → ℕ → Bool
is_reference at word = nat_lt word 0o6000 && (nat_eq (word / 0o200 % 2) 0 || nat_le PAGE at)

-- the word of a cell is a memory reference that names a cell
abbrev pub names_cell : ℕ → Option ℕ → ℕ → Bool
names_cell from None named = false
names_cell from (Some word) named = is_reference (from % FIELD) word && nat_eq (referred_cell from word) named

-- it is a direct JMS, which calls a subroutine there
abbrev pub is_call : Option ℕ → Bool
is_call None = false
is_call (Some word) = nat_eq (word / 0o400) 0o10

-- an instruction calls the subroutine that begins with a cell
abbrev pub calls : (ℕ → Option ℕ) → (ℕ → Bool) → ℕ → ℕ → Bool
calls words is_code named from = is_code from && (names_cell from (words from) named && is_call (words from))

-- it refers to it otherwise
abbrev pub refers : (ℕ → Option ℕ) → (ℕ → Bool) → ℕ → ℕ → Bool
refers words is_code named from = is_code from && (names_cell from (words from) named && not (is_call (words from)))

-- the cells below a number of which this is true, the lowest first
unfoldable pub cells_below : (ℕ → Bool) → ℕ → List ℕ
cells_below is zero = []
cells_below is (suc cell) = cells_below is cell ++ (if is cell then cell ∷ [] else [])

-- the cells of the instructions that call the subroutine of a cell
abbrev pub callers : (ℕ → Option ℕ) → (ℕ → Bool) → ℕ → List ℕ
callers words is_code named = cells_below (calls words is_code named) CORE

-- and of those that refer to it otherwise
abbrev pub referrers : (ℕ → Option ℕ) → (ℕ → Bool) → ℕ → List ℕ
referrers words is_code named = cells_below (refers words is_code named) CORE
