-- What laying the words of a tape over core leaves in each cell.
use Rattle.std.proofs.Common.{◌≡◌, ℕ, ◌<◌, inl, inr, nat_eq, if◌then◌else◌, Option, Some, unwrap_or, ◌∙◌, ap, refl, sym, subst, length, slice_index, slice_set, List, [], ◌∷◌, ◌++◌, get_or-set_other, length-set}
use Rattle.std.proofs.lemmas.Bool.Decides.{eqb_tells}
use Rattle.std.proofs.lemmas.Grind.{get_or-set_at}
use Rattle.bin_tape.specs.Items.{Item, Leader, Field, Origin, Word, cell_after, words_of, tape_map}
use Rattle.core_load.specs.Load.{IsOverlaid}
use Rattle.core_load.specs.Steps.{core_with}

laid-append : (xs ys : List (ℕ × ℕ)) (core : List ℕ) → core_with (xs ++ ys) core ≡ core_with ys (core_with xs core)
laid-append [] ys core = refl
laid-append (x ∷ xs) ys core = laid-append xs ys (slice_set core x.0 x.1)

length-laid : (words : List (ℕ × ℕ)) (core : List ℕ) → length (core_with words core) ≡ length core
length-laid [] core = refl
length-laid (word ∷ words) core = length-laid words (slice_set core word.0 word.1) ∙ length-set core word.0 word.1

-- one word more, over words that were laid
one_more : (core older : List ℕ) (at word cell : ℕ) (map : Option ℕ) → cell < length older
    → slice_index older cell ≡ unwrap_or map (slice_index core cell)
    → slice_index (slice_set older at word) cell ≡ unwrap_or (if nat_eq at cell then Some word else map) (slice_index core cell)
one_more core older at word cell map inside before =
    elim (eqb_tells at cell) [
      | inl same ↦
          get_or-set_at older at cell word 0 (sym same.1) (subst (λ (n : ℕ). n < length older) (sym same.1) inside)
          ∙ sym (ap (λ b. unwrap_or (if b then Some word else map) (slice_index core cell)) same.0)
      | inr other ↦
          get_or-set_other older at cell word 0 (λ e. other.1 (sym e))
          ∙ before
          ∙ sym (ap (λ b. unwrap_or (if b then Some word else map) (slice_index core cell)) other.0)
    ]

laid_cell : (items : List Item) (core : List ℕ) (cell : ℕ) → cell < length core
    → slice_index (core_with (words_of items) core) cell ≡ unwrap_or (tape_map items cell) (slice_index core cell)
laid_cell [] core cell inside = refl
laid_cell (Leader f ∷ older) core cell inside = laid_cell older core cell inside
laid_cell (Field n ∷ older) core cell inside = laid_cell older core cell inside
laid_cell (Origin high low ∷ older) core cell inside = laid_cell older core cell inside
laid_cell (Word high low ∷ older) core cell inside =
    ap (λ c. slice_index c cell) (laid-append (words_of older) ((cell_after older, _) ∷ []) core)
    ∙ one_more core (core_with (words_of older) core) (cell_after older) _ cell (tape_map older cell)
    (subst (λ (n : ℕ). cell < n) (sym (length-laid (words_of older) core)) inside)
    (laid_cell older core cell inside)

pub is_overlaid : (items : List Item) (core : List ℕ) → IsOverlaid items core (core_with (words_of items) core)
is_overlaid items core = record {
  same_size = length-laid (words_of items) core;
  cells = laid_cell items core;
}
