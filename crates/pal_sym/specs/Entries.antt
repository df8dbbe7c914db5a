-- Entries in the order of their names, as a table keeps them.
use Rattle.std.specs.Prelude.{ℕ, ◌<◌, false, List, length, slice_index_or}
use Rattle.pal_sym.specs.declared.symbols.Symbol.{Symbol}

abbrev pub Entries : Type 0
Entries = List (ℕ × Symbol)

-- what stands past the end of entries
abbrev pub no_entry : ℕ × Symbol
no_entry = (0, record { value = 0; is_tag = false })

-- the name of the entry at a place
abbrev pub name_at : Entries → ℕ → ℕ
name_at entries place = let entry = slice_index_or entries place no_entry in entry.0

-- the names rise strictly
abbrev pub Rise : Entries → Type 0
Rise entries = (i j : ℕ) → i < j → j < length entries → name_at entries i < name_at entries j
