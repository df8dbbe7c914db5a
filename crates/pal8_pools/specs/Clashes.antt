-- Words on pools' cells (PAL8, in this project's profile): a cell that holds the value of a literal or a link is no word's.
use Rattle.std.specs.Prelude.{◌≡◌, ℕ, nat_eq, nat_lt, Bool, true, false, ◌&&◌, ◌||◌, if◌then◌else◌, slice_index_or, Option, Some, None, List, [], ◌∷◌, ◌++◌}
use Rattle.pal8_pools.specs.Asks.{Ask, items_of_page}
use Rattle.pal8_pools.specs.Pooled.{is_cell_of}

-- the lower of two cells, if there is one
abbrev pub lower : Option ℕ → Option ℕ → Option ℕ
lower None other = other
lower (Some c) None = Some c
lower (Some c) (Some d) = if nat_lt d c then Some d else Some c

abbrev pub cell_if : Bool → ℕ → Option ℕ
cell_if false c = None
cell_if true c = Some c

-- the lowest of the cells of words that is a pool's
abbrev pub lowest_clash : List Ask → List (ℕ × ℕ) → Option ℕ
lowest_clash asks [] = None
lowest_clash asks (word ∷ others) = lower (lowest_clash asks others) (cell_if (is_cell_of asks asks word.0) word.0)

-- one of the words has the cell
abbrev pub has_word : List (ℕ × ℕ) → ℕ → Bool
has_word [] c = false
has_word (word ∷ others) c = nat_eq word.0 c || has_word others c

-- the words with one more, if it is punched
abbrev pub with_word : Bool → ℕ → ℕ → List (ℕ × ℕ) → List (ℕ × ℕ)
with_word true c word words = words ++ (c, word) ∷ []
with_word false c word words = words

-- By cell, whether one of the words has it.
abbrev pub AreMarks : List Bool → List (ℕ × ℕ) → Type 0
AreMarks marks words = (c : ℕ) → slice_index_or marks c false ≡ has_word words c

-- nothing was asked but of this page of a field and of its page zero
abbrev pub OthersStay : ℕ → ℕ → List Ask → List Ask → Type 0
OthersStay f p before after = (g q : ℕ) → (nat_eq f g && (nat_eq p q || nat_eq 0 q)) ≡ false → items_of_page after g q ≡ items_of_page before g q
