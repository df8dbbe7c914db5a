-- The steps of marking, for private clauses.
use Rattle.std.specs.Prelude.{◌≡◌, ◌⊎◌, ℕ, ◌+◌, ◌*◌, ◌≤◌, Bool, true, false, if◌then◌else◌, List, [], length, Option, Some, None, slice_index_or, ◌++◌, option_to_list, sum_by}
use Rattle.flow8.specs.Exits.{exits}
use Rattle.flow8.specs.Flow.{IsAmong, word_in}

-- a list gives the cell this word
abbrev pub GivesWord : List (Option ℕ) → ℕ → ℕ → Type 0
GivesWord words cell word = word_in words cell ≡ Some word

-- how many cells are not marked
abbrev pub count_of_unmarked : List Bool → ℕ
count_of_unmarked reached = sum_by (λ mark. if mark then 0 else 1) reached

-- a cell of the table is marked
abbrev pub IsMarked : List Bool → ℕ → Type 0
IsMarked reached cell = slice_index_or reached cell false ≡ true

-- none is
abbrev pub AreUnmarked : List Bool → Type 0
AreUnmarked reached = (cell : ℕ) → IsMarked reached cell → ⊥

-- These cells are marked, except those to which the tape gives no word; each that wasn't before waits.
pub record MarksCells (words : List (Option ℕ)) (old new : List Bool) (waiting waiting' : List ℕ) (cells : List ℕ) : Type 0 where
  pub size : length new ≡ length old
  pub marks : (cell word : ℕ) → IsAmong cell cells → GivesWord words cell word → IsMarked new cell
  pub kept : (cell : ℕ) → IsMarked old cell → IsMarked new cell
  pub only : (cell : ℕ) → IsMarked new cell → IsMarked old cell ⊎ (IsAmong cell cells × ((word : ℕ) × GivesWord words cell word))
  pub waits : (cell : ℕ) → IsMarked new cell → IsMarked old cell ⊎ IsAmong cell waiting'
  pub still_waits : (cell : ℕ) → IsAmong cell waiting → IsAmong cell waiting'
  pub waiting_are : (cell : ℕ) → IsAmong cell waiting' → IsAmong cell waiting ⊎ IsMarked new cell
  pub sum : 2 * count_of_unmarked new + length waiting' ≤ 2 * count_of_unmarked old + length waiting

-- the exits of a word, as a list
abbrev pub exit_list : ℕ → Option ℕ → List ℕ
exit_list cell None = []
exit_list cell (Some word) = option_to_list (exits cell word).0 ++ option_to_list (exits cell word).1

-- those of the word that the tape gives a cell
abbrev pub cells_after : List (Option ℕ) → ℕ → List ℕ
cells_after words cell = exit_list cell (slice_index_or words cell None)
