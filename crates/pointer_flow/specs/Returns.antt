-- Where a subroutine comes back to, by the words alone (this project's reading of a program's flow).
use Rattle.std.specs.Prelude.{ℕ, ◌+◌, ◌-◌, ◌/◌, ◌%◌, min, Bool, false, ◌&&◌, nat_eq, nat_lt, nat_le, if◌then◌else◌, is_some, List, [], ◌∷◌, Option, Some, None}
use Rattle.word12.specs.declared.sizes.TheConstants.{CORE, FIELD, PAGE}
use Rattle.cpu8.specs.Decoding.{is_indirect}
use Rattle.flow8.specs.Exits.{cell_after, referred_cell}
use Rattle.source_notes.specs.Referrers.{names_cell}
use Rattle.pointer_flow.specs.States.{jump_field}
use Rattle.pointer_flow.specs.Programs.{cells_from, count_below, is_auto_index, place_in}
use Rattle.pointer_flow.specs.declared.states.State.{State}

-- a direct ISZ
abbrev pub is_increment : Option ℕ → Bool
is_increment None = false
is_increment (Some word) = nat_eq (word / 0o400) 4

-- an AND, TAD, ISZ or DCA through a pointer
abbrev pub is_reference_through : Option ℕ → Bool
is_reference_through None = false
is_reference_through (Some word) = nat_lt word 0o4000 && is_indirect word

-- a cell of the page of a subroutine's first cell has a word that names that one
abbrev pub names_first : (ℕ → Option ℕ) → ℕ → ℕ → Bool
names_first words first cell = nat_eq (cell / PAGE) (first / PAGE) && names_cell cell (words cell) first

-- by how many words a subroutine moves its return on, at most
abbrev pub increment_count : (ℕ → Option ℕ) → ℕ → ℕ
increment_count words first = count_below (λ cell. names_first words first cell && is_increment (words cell)) CORE

-- how many words it takes from after its call; an auto-index is no pointer to them
abbrev pub argument_count : (ℕ → Option ℕ) → ℕ → ℕ
argument_count words first =
    if is_auto_index first then 0 else count_below (λ cell. names_first words first cell && is_reference_through (words cell)) CORE

-- ## The first cell

-- a word that isn't 0: this is what a subroutine's first cell holds before it is called
abbrev pub nonzero : Option ℕ → Option ℕ
nonzero None = None
nonzero (Some word) = if nat_eq word 0 then None else Some word

-- the address of the first cell of what a JMS of this word in a cell calls, where the words show it
abbrev pub called_address : (ℕ → Option ℕ) → ℕ → ℕ → Option ℕ
called_address words cell word =
    if is_indirect word then (if is_auto_index (referred_cell cell word) then None else nonzero (words (referred_cell cell word)))
    else Some (referred_cell cell word % FIELD)

abbrev pub first_cell : (ℕ → Option ℕ) → State → ℕ → Option ℕ
first_cell words s word = place_in (jump_field s.cell s.buffer) (called_address words s.cell word)

-- ## Returns

-- It comes back after the words that it takes, or, as often as it moves its return on further, after as many words more.
abbrev pub moved_returns : ℕ → ℕ → ℕ → List ℕ
moved_returns cell moves takes = cells_from cell (1 + min takes moves) (1 + (moves - min takes moves))

-- The cells at which a subroutine comes back to a JMS in a cell. It is the next one where its first cell isn't known or has no word, and where
-- more than three ISZ of its page would move its return on.
abbrev pub returns_to : (ℕ → Option ℕ) → ℕ → Option ℕ → List ℕ
returns_to words cell None = cell_after 1 cell ∷ []
returns_to words cell (Some first) =
    if is_some (words first) && nat_le (increment_count words first) 3
    then moved_returns cell (increment_count words first) (argument_count words first)
    else cell_after 1 cell ∷ []

-- So many words are before the first of these cells: the inline arguments of a subroutine that begins with a cell.
abbrev pub inline_count : (ℕ → Option ℕ) → ℕ → ℕ
inline_count words first =
    if is_some (words first) && nat_le (increment_count words first) 3 then min (argument_count words first) (increment_count words first) else 0
