-- The steps of finding who refers to a cell, and who passes its word, for private clauses.
use Rattle.std.specs.Prelude.{◌≡◌, ℕ, ◌-◌, ◌/◌, ◌%◌, nat_eq, nat_le, nat_lt, Bool, true, false, ◌&&◌, not, if◌then◌else◌, Option, Some, None, List, [], ◌∷◌, length, slice_index_or, slice_set}
use Rattle.word12.specs.declared.sizes.TheConstants.{FIELD}
use Rattle.flow8.specs.Exits.{cell_after, referred_cell}
use Rattle.source_notes.specs.Referrers.{is_call, is_reference}
use Rattle.pointer_flow.specs.Programs.{is_number}
use Rattle.pointer_notes.specs.Views.{View}
use Rattle.pointer_notes.specs.References.{is_given_cell, is_jms, pointer_of, shown_target}
use Rattle.pointer_notes.specs.Notes.{first_called}
use Rattle.pointer_notes.specs.Tables.{view_of}
use Rattle.pointer_notes.specs.declared.answers.Views.{Views}
use Rattle.pointer_notes.specs.declared.references.Kind.{Kind}
use Rattle.pointer_notes.specs.declared.references.Kind.TheVariants.{Call, Reference, Target, Pointer}

-- the view that is lent
abbrev pub view_in : Views → View
view_in views = view_of views.words.now views.code.now views.answers.now

-- ## What one cell refers to

-- a cell, if this is so
abbrev pub cell_if : Bool → Option ℕ → Option ℕ
cell_if false cell = None
cell_if true cell = cell

-- the cell that a reference of this word names
abbrev pub named_cell : ℕ → Option ℕ → Option ℕ
named_cell cell None = None
named_cell cell (Some word) = if is_reference (cell % FIELD) word then Some (referred_cell cell word) else None

-- the cell that an instruction names by its own word, in this way; its pointer stands for where it leads
abbrev pub own_cell : Kind → View → ℕ → Option ℕ
own_cell Call view cell = cell_if (view.is_code cell && is_call (view.words cell)) (named_cell cell (view.words cell))
own_cell Reference view cell = cell_if (view.is_code cell && not (is_call (view.words cell))) (named_cell cell (view.words cell))
own_cell Target view cell = None
own_cell Pointer view cell = cell_if (is_given_cell view (view.answers cell).target) (pointer_of cell (view.words cell))

-- the cell to which it leads, in this way
abbrev pub led_cell : Kind → View → ℕ → Option ℕ
led_cell Call view cell = cell_if (is_jms (view.words cell)) (shown_target view cell)
led_cell Reference view cell = cell_if (not (is_jms (view.words cell))) (shown_target view cell)
led_cell Target view cell = shown_target view cell
led_cell Pointer view cell = None

-- a cell, where it isn't the other
abbrev pub other_than : Option ℕ → Option ℕ → Option ℕ
other_than own None = None
other_than own (Some led) = if is_number own led then None else Some led

-- what a number stands for: the cell that its half names, or that to which it leads
abbrev pub node_cell : Kind → View → ℕ → Option ℕ
node_cell kind view node =
    if nat_eq (node % 2) 0 then own_cell kind view (node / 2) else other_than (own_cell kind view (node / 2)) (led_cell kind view (node / 2))

-- ## Chains

-- no cell or number is linked yet
pub record AreUnlinked (nodes : List (Option ℕ)) (count : ℕ) : Type 0 where
  pub size : length nodes ≡ count
  pub none : (node : ℕ) → slice_index_or nodes node None ≡ None

-- the tables after a number that stands for a cell, or for none
abbrev pub first_with : Option ℕ → ℕ → List (Option ℕ) → List (Option ℕ)
first_with None node first = first
first_with (Some named) node first = slice_set first named (Some node)

abbrev pub next_with : Option ℕ → ℕ → List (Option ℕ) → List (Option ℕ) → List (Option ℕ)
next_with None node first next = next
next_with (Some named) node first next = slice_set next node (slice_index_or first named None)

-- ## Cells of numbers

abbrev pub half_of : Option ℕ → Option ℕ
half_of None = None
half_of (Some node) = Some (node / 2)

-- a cell after others, if this is so
abbrev pub with_cell_if : Bool → ℕ → List ℕ
with_cell_if false cell = []
with_cell_if true cell = cell ∷ []

-- ## Who passes a word

-- a subroutine takes so many words or more
abbrev pub takes : View → Option ℕ → ℕ → Bool
takes view None count = false
takes view (Some first) count = nat_le count (view.answers first).inline_count

-- the JMS that is so many words before a cell, where it passes as many words
abbrev pub passer : View → ℕ → ℕ → Option ℕ
passer view cell count =
    if takes view (first_called view (cell_after (FIELD - count) cell)) count then Some (cell_after (FIELD - count) cell) else None

abbrev pub lower : Option ℕ → Option ℕ → Option ℕ
lower None other = other
lower (Some cell) None = Some cell
lower (Some cell) (Some other) = if nat_lt other cell then Some other else Some cell
