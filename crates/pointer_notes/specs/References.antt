-- Who refers to a cell through a known pointer, or to another field (Small Computer Handbook, and this project's profile).
use Rattle.std.specs.Prelude.{ℕ, ◌/◌, nat_eq, Bool, false, ◌&&◌, ◌||◌, not, if◌then◌else◌, is_some, Option, Some, None, List, [], ◌∷◌}
use Rattle.word12.specs.declared.sizes.TheConstants.{CORE, FIELD}
use Rattle.cpu8.specs.Decoding.{is_indirect}
use Rattle.flow8.specs.Exits.{referred_cell}
use Rattle.source_notes.specs.Referrers.{calls, cells_below, refers}
use Rattle.pointer_flow.specs.Programs.{is_number, is_some_below}
use Rattle.pointer_notes.specs.Views.{View}

-- ## Targets

-- a JMS, 4000 to 4777
abbrev pub is_jms : Option ℕ → Bool
is_jms None = false
is_jms (Some word) = nat_eq (word / 0o1000) 4

-- a word refers through a pointer
abbrev pub is_through : Option ℕ → Bool
is_through None = false
is_through (Some word) = is_indirect word

-- the cell to which a jump goes, where that is in another field
abbrev pub place_apart : ℕ → Option ℕ → Option ℕ
place_apart cell None = None
place_apart cell (Some place) = if nat_eq (place / FIELD) (cell / FIELD) then None else Some place

-- The cell to which an instruction leads that its word alone doesn't name. That is one through a known pointer, or one in another field to
-- which a direct jump goes.
abbrev pub shown_target : View → ℕ → Option ℕ
shown_target view cell = if is_through (view.words cell) then (view.answers cell).target else place_apart cell (view.answers cell).place

-- ## Who refers

-- an instruction leads so to a cell
abbrev pub leads_to : View → ℕ → ℕ → Bool
leads_to view named from = is_number (shown_target view from) named

-- an instruction calls the subroutine that begins with a cell, by its word or so
abbrev pub calls_cell : View → ℕ → ℕ → Bool
calls_cell view named from = calls view.words view.is_code named from || (is_jms (view.words from) && leads_to view named from)

-- it refers to it otherwise
abbrev pub refers_to_cell : View → ℕ → ℕ → Bool
refers_to_cell view named from = refers view.words view.is_code named from || (not (is_jms (view.words from)) && leads_to view named from)

abbrev pub callers : View → ℕ → List ℕ
callers view cell = cells_below (calls_cell view cell) CORE

abbrev pub referrers : View → ℕ → List ℕ
referrers view cell = cells_below (refers_to_cell view cell) CORE

-- ## Which cells are tagged for it, and which data are shown by a tag

-- a cell has a word, and some instruction leads to it
abbrev pub is_target : View → ℕ → Bool
is_target view cell = is_some (view.words cell) && is_some_below (leads_to view cell) CORE

-- there is a cell, and it has a word
abbrev pub is_given_cell : View → Option ℕ → Bool
is_given_cell view None = false
is_given_cell view (Some cell) = is_some (view.words cell)

-- the pointer of a word in a cell
abbrev pub pointer_of : ℕ → Option ℕ → Option ℕ
pointer_of cell None = None
pointer_of cell (Some word) = if is_indirect word then Some (referred_cell cell word) else None

-- an instruction leads through a pointer to a cell that has a word
abbrev pub leads_through : View → ℕ → ℕ → Bool
leads_through view pointer from = is_given_cell view (view.answers from).target && is_number (pointer_of from (view.words from)) pointer

-- the lowest of cells that are listed so
abbrev pub lowest : List ℕ → Option ℕ
lowest [] = None
lowest (cell ∷ cells) = Some cell

abbrev pub target_of : View → Option ℕ → Option ℕ
target_of view None = None
target_of view (Some from) = (view.answers from).target

-- The cell by whose tag a pointer is shown, in whatever field that is. The lowest instruction that leads through it decides.
abbrev pub datum_target : View → ℕ → Option ℕ
datum_target view pointer = target_of view (lowest (cells_below (leads_through view pointer) CORE))
