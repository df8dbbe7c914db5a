-- The first lines of a listing by pointers (this project's profile): where the program starts, and what is assumed of it.
use Rattle.std.specs.Prelude.{ℕ, ◌/◌, nat_eq, Bool, false, ◌&&◌, ◌||◌, not, Option, Some, None, List, ◌∷◌, ◌++◌, codes}
use Rattle.word12.specs.declared.sizes.TheConstants.{CORE}
use Rattle.flow8.specs.Exits.{referred_cell}
use Rattle.source_notes.specs.Notes.{cells_line, some_cells}
use Rattle.source_notes.specs.Referrers.{cells_below}
use Rattle.pointer_flow.specs.Programs.{is_auto_index}
use Rattle.pointer_notes.specs.Views.{View}

-- ISZ, DCA and JMS through a pointer, 2400 to 2777, 3400 to 3777 and 4400 to 4777
abbrev pub stores_through : ℕ → Bool
stores_through word = nat_eq (word / 0o400) 5 || (nat_eq (word / 0o400) 7 || nat_eq (word / 0o400) 0o11)

-- a word in a cell stores through an auto-index, or through a pointer that isn't known
abbrev pub stores_somewhere : View → ℕ → Option ℕ → Bool
stores_somewhere view cell None = false
stores_somewhere view cell (Some word) =
    stores_through word && (is_auto_index (referred_cell cell word) || not (view.answers (referred_cell cell word)).is_known)

-- An instruction stores in a cell that isn't known, and it is no call of the monitor. It is assumed to change no pointer.
abbrev pub is_assumed : View → ℕ → Bool
is_assumed view cell = view.is_code cell && (not (view.answers cell).is_call && stores_somewhere view cell (view.words cell))

abbrev pub assumed_cells : View → List ℕ
assumed_cells view = cells_below (is_assumed view) CORE

-- Where the program starts, in the order that was given, and what is assumed. There are eight cells at most of each, and `..` after them where
-- there are more.
abbrev pub head : View → List ℕ → List (List ℕ)
head view starts =
    (codes " BY POINTERS FROM" ++ some_cells 8 starts) ∷ cells_line (codes " ASSUMED: STORES CHANGE NO POINTER AT") (assumed_cells view)
