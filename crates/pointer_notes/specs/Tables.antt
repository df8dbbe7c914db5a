-- The tables in which notes are found.
use Rattle.std.specs.Prelude.{◌≡◌, ◌<◌, ℕ, ◌*◌, ◌/◌, Bool, false, Option, Some, None, List, [], ◌∷◌, length, slice_index_or}
use Rattle.word12.specs.declared.sizes.TheConstants.{CORE}
use Rattle.flow8.specs.Flow.{word_in}
use Rattle.source_notes.specs.Notes.{Notes, is_flagged}
use Rattle.source_notes.specs.Referrers.{cells_below}
use Rattle.pointer_notes.specs.Views.{View}
use Rattle.pointer_notes.specs.References.{calls_cell, leads_through, leads_to, refers_to_cell}
use Rattle.pointer_notes.specs.Heads.{assumed_cells}
use Rattle.pointer_notes.specs.declared.answers.CellAnswers.{CellAnswers}
use Rattle.pointer_notes.specs.declared.chains.Chains.{Chains}
use Rattle.pointer_notes.specs.declared.references.Kind.{Kind}
use Rattle.pointer_notes.specs.declared.references.Kind.TheVariants.{Call, Reference, Target, Pointer}

-- ## The answers of cells

abbrev pub no_answers : CellAnswers
no_answers = record { target = None; place = None; writer = None; inline_count = 0; is_call = false; is_known = false; is_return = false }

abbrev pub answers_in : List CellAnswers → ℕ → CellAnswers
answers_in answers cell = slice_index_or answers cell no_answers

-- a view by lists: a word or none, a flag of instructions, and the answers, for each cell
abbrev pub view_of : List (Option ℕ) → List Bool → List CellAnswers → View
view_of words code answers = record {
  words = word_in words;
  is_code = is_flagged code;
  answers = answers_in answers;
}

-- notes as contracts see them
pub record NotesTables : Type 0 where
  pub words : List (Option ℕ)
  pub code : List Bool
  pub answers : List CellAnswers
  pub starts : List ℕ

abbrev pub notes_view : NotesTables → View
notes_view notes = view_of notes.words notes.code notes.answers

-- ## Chains

-- an instruction refers in this way to a cell
abbrev pub names_by : Kind → View → ℕ → ℕ → Bool
names_by Call view named from = calls_cell view named from
names_by Reference view named from = refers_to_cell view named from
names_by Target view named from = leads_to view named from
names_by Pointer view named from = leads_through view named from

-- a table leads from a number on, if there is one, through just these
abbrev pub IsChain : List (Option ℕ) → Option ℕ → List ℕ → Type 0
IsChain next None [] = Unit {0}
IsChain next None (node ∷ nodes) = ⊥
IsChain next (Some first) [] = ⊥
IsChain next (Some first) (node ∷ nodes) = (first ≡ node) × IsChain next (slice_index_or next first None) nodes

-- Each cell has two numbers: twice its own for what its word names, and the next one for where it leads.
abbrev pub halves : List ℕ → List ℕ
halves [] = []
halves (node ∷ nodes) = node / 2 ∷ halves nodes

-- a chain of these cells
pub record HasCells (next : List (Option ℕ)) (first : Option ℕ) (cells : List ℕ) : Type 0 where
  pub nodes : List ℕ
  pub chain : IsChain next first nodes
  pub are : halves nodes ≡ cells

-- two tables lead from each cell through those that refer to it
pub record AreChains (names : ℕ → ℕ → Bool) (first next : List (Option ℕ)) : Type 0 where
  pub first_size : length first ≡ CORE
  pub next_size : length next ≡ 2 * CORE
  pub chains : (named : ℕ) → named < CORE → HasCells next (slice_index_or first named None) (cells_below (names named) CORE)

-- the tables of all four ways
pub record AreTied (view : View) (calls others targets pointers : Chains) : Type 0 where
  pub callers : AreChains (names_by Call view) calls.first.items calls.next.items
  pub referrers : AreChains (names_by Reference view) others.first.items others.next.items
  pub targeted : AreChains (names_by Target view) targets.first.items targets.next.items
  pub pointed : AreChains (names_by Pointer view) pointers.first.items pointers.next.items

-- lists as long as core, the notes of the words and flags, the tables, and the cells that are assumed to change no pointer
pub record AreFound (words : List (Option ℕ)) (code : List Bool) (answers : List CellAnswers) (notes : Notes) (calls others targets pointers : Chains)
    (assumed : List ℕ) : Type 0 where
  pub words_size : length words ≡ CORE
  pub code_size : length code ≡ CORE
  pub answers_size : length answers ≡ CORE
  pub noted_words : notes.words ≡ words
  pub noted_code : notes.code ≡ code
  pub tied : AreTied (view_of words code answers) calls others targets pointers
  pub assumed_are : assumed ≡ assumed_cells (view_of words code answers)
