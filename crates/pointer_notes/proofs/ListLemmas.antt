-- Lists that grow by one entry for each cell, and lists of cells in comments.
use Rattle.std.proofs.Common.{◌≡◌, ◌==◌, inl, inr, ℕ, suc, ◌+◌, ◌<◌, true, false, true≢false, List, [], ◌∷◌, ◌++◌, drop, length, slice_index_or, Bool, if◌then◌else◌, append-nil, append_assoc, refl, ap, sym, subst, ◌∙◌, arith}
use Rattle.std.proofs.lemmas.Bool.{cases_eq}
use Rattle.std.proofs.lemmas.List.{get_or_append_left, get_or_push, length_push}
use Rattle.std.specs.Prelude.{codes}
use Rattle.word12.specs.Octal.{octal5}
use Rattle.source_notes.specs.Notes.{cells_line, some_cells}
use Rattle.source_notes.specs.Referrers.{cells_below}
use Rattle.pointer_notes.specs.Steps.{with_cell_if}
use Rattle.pointer_notes.proofs.ChainLemmas.{below_more}

-- ## An entry for each cell

-- one value more of a list by cells
pub pushed : {X : Type 0} (Is : ℕ → X → Type 0) (old new : List X) (value none : X) (number : ℕ) → new ≡ old ++ value ∷ [] → length old ≡ number
    → ((cell : ℕ) → cell < number → Is cell (slice_index_or old cell none)) → Is number value
    → (cell : ℕ) → cell < number + 1 → Is cell (slice_index_or new cell none)
pushed Is old new value none number made size before is = λ cell small. elim (cases_eq cell number) [
  | inl same ↦
      subst (Is cell) (sym (ap (λ l. slice_index_or l cell none) made ∙ get_or_push old value none cell (size ∙ sym same))) (subst (λ n. Is n value) (sym same) is)
  | inr apart ↦
      subst (Is cell) (sym (ap (λ l. slice_index_or l cell none) made ∙ get_or_append_left old (value ∷ []) none cell (omega (arith, small, apart, size))))
      (before cell (omega (arith, small, apart)))
]

pub pushed_size : {X : Type 0} (old new : List X) (value : X) (number : ℕ) → new ≡ old ++ value ∷ [] → length old ≡ number → length new ≡ number + 1
pushed_size old new value number made size = ap length made ∙ length_push old value ∙ ap (λ n. n + 1) size

-- ## Cells of which something is true

if_is : (b : Bool) (cell : ℕ) → with_cell_if b cell ≡ (if b then cell ∷ [] else [])
if_is true cell = refl
if_is false cell = refl

pub listed_more : (is : ℕ → Bool) (old new : List ℕ) (number cell : ℕ) (b : Bool) → cell ≡ number → b ≡ is cell → new ≡ old ++ with_cell_if b cell
    → old ≡ cells_below is number → new ≡ cells_below is (number + 1)
listed_more is old new number cell b here told more before =
    more
    ∙ ap (λ l. l ++ with_cell_if b cell) before
    ∙ ap (λ l. cells_below is number ++ l) (if_is b cell ∙ ap (λ x. if x then cell ∷ [] else []) told ∙ ap (λ n. if is n then n ∷ [] else []) here)
    ∙ sym (below_more is number)
    ∙ ap (cells_below is) next
  where
    next : suc number ≡ number + 1
    next = omega arith

-- ## Cells in a comment

-- what is still to be put: so many cells at most
abbrev pub LeavesCells : List ℕ → List ℕ → List ℕ → ℕ → ℕ → Type 0
LeavesCells whole text cells index left = whole ≡ text ++ some_cells left (drop index cells)

pub cells_begin : (text cells : List ℕ) → LeavesCells (text ++ some_cells 8 cells) text cells 0 8
cells_begin text cells = refl

pub cells_more : (whole text text' cells : List ℕ) (index left left' cell : ℕ) → suc left' ≡ left → drop index cells ≡ cell ∷ drop (index + 1) cells
    → text' ≡ text ++ 0o40 ∷ octal5 cell → LeavesCells whole text cells index left → LeavesCells whole text' cells (index + 1) left'
cells_more whole text text' cells index left left' cell less next more before =
    before
    ∙ ap (λ l. text ++ some_cells left l) next
    ∙ ap (λ n. text ++ some_cells n (cell ∷ drop (index + 1) cells)) (sym less)
    ∙ sym (append_assoc text (0o40 ∷ octal5 cell) (some_cells left' (drop (index + 1) cells)))
    ∙ ap (λ l. l ++ some_cells left' (drop (index + 1) cells)) (sym more)

pub cells_many : (whole text text' cells : List ℕ) (index left cell : ℕ) → left ≡ 0 → drop index cells ≡ cell ∷ drop (index + 1) cells
    → text' ≡ text ++ codes " .." → LeavesCells whole text cells index left → text' ≡ whole
cells_many whole text text' cells index left cell full next more before =
    more ∙ sym (before ∙ ap (λ l. text ++ some_cells left l) next ∙ ap (λ n. text ++ some_cells n (cell ∷ drop (index + 1) cells)) full)

pub cells_end : (whole text cells : List ℕ) (index left : ℕ) → drop index cells ≡ [] → LeavesCells whole text cells index left → text ≡ whole
cells_end whole text cells index left none before = sym (before ∙ ap (λ l. text ++ some_cells left l) none ∙ append-nil text)

-- the comment of cells that aren't none
pub line_of : (words cells : List ℕ) → false ≡ (length cells == 0) → cells_line words cells ≡ (words ++ some_cells 8 cells) ∷ []
line_of words [] some = absurd (true≢false (sym some))
line_of words (cell ∷ cells) some = refl
