-- The tables in which those who refer to a cell are found: chains that lead from each cell through them.
use Rattle.std.specs.Prelude.{◌≡◌, ◌<◌, ℕ, Bool, Option, Some, None, List, [], ◌∷◌, length, slice_index_or}
use Rattle.word12.specs.declared.sizes.TheConstants.{CORE}
use Rattle.flow8.specs.Flow.{word_in}
use Rattle.source_notes.specs.Notes.{is_flagged}
use Rattle.source_notes.specs.Referrers.{calls, cells_below, refers}
use Rattle.source_notes.specs.declared.chains.Chains.{Chains}
use Rattle.source_notes.specs.declared.references.Kind.{Kind}
use Rattle.source_notes.specs.declared.references.Kind.TheVariants.{Call, Other}

-- an instruction refers in this way to a cell
abbrev pub names_by : Kind → (ℕ → Option ℕ) → (ℕ → Bool) → ℕ → ℕ → Bool
names_by Call words is_code named from = calls words is_code named from
names_by Other words is_code named from = refers words is_code named from

-- a table leads from a cell on, if there is one, through just these
abbrev pub IsChain : List (Option ℕ) → Option ℕ → List ℕ → Type 0
IsChain next None [] = Unit {0}
IsChain next None (cell ∷ cells) = ⊥
IsChain next (Some first) [] = ⊥
IsChain next (Some first) (cell ∷ cells) = (first ≡ cell) × IsChain next (slice_index_or next first None) cells

-- two tables lead from each cell through those that refer to it
pub record AreChains (names : ℕ → ℕ → Bool) (first next : List (Option ℕ)) : Type 0 where
  pub first_size : length first ≡ CORE
  pub next_size : length next ≡ CORE
  pub chains : (named : ℕ) → named < CORE → IsChain next (slice_index_or first named None) (cells_below (names named) CORE)

-- two pairs of tables lead from each cell through those that call it, and those that refer to it otherwise
pub record AreTied (words : List (Option ℕ)) (code : List Bool) (calls others : Chains) : Type 0 where
  pub words_size : length words ≡ CORE
  pub code_size : length code ≡ CORE
  pub callers : AreChains (names_by Call (word_in words) (is_flagged code)) calls.first.items calls.next.items
  pub referrers : AreChains (names_by Other (word_in words) (is_flagged code)) others.first.items others.next.items
