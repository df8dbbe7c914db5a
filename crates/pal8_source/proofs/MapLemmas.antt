-- The words of a tape's map, cell by cell.
use Rattle.std.proofs.Common.{◌≡◌, inl, inr, ℕ, ◌<◌, ◌≤◌, false, true≢false, length, is_some, Option, Some, None, List, [], ◌∷◌, refl, sym, ◌∙◌, arith}
use Rattle.std.proofs.lemmas.Bool.{cases_lt}
use Rattle.std.proofs.lemmas.Bool.Decides.{eqb_tells}
use Rattle.std.proofs.Math.ListN.{get_or-eq_default}
use Rattle.bin_tape.specs.Items.{Item, Leader, Field, Origin, Word, IsPrefix, cell_after, tape_map}
use Rattle.flow8.specs.Flow.{word_in}
use Rattle.tape_source.specs.Steps.{HoldsMap}
use Rattle.tape_source.proofs.TapeLemmas.{field_small, address_small}

-- a tape gives no cell past core a word
past : (items : List Item) → IsPrefix items → (cell : ℕ) → 32768 ≤ cell → tape_map items cell ≡ None
past [] prefix cell high = refl
past (Leader f ∷ older) prefix cell high = past older prefix.2 cell high
past (Field n ∷ older) prefix cell high = past older prefix.1 cell high
past (Origin high low ∷ older) prefix cell far = past older prefix.2 cell far
past (Word high low ∷ older) prefix cell far =
    elim (eqb_tells (cell_after older) cell) [
      | inl same ↦
          absurd (
          let f = field_small older prefix.3 in
          let a = address_small older prefix.3 in
          let e = same.1 in
          omega (arith, f, a, e, far))
      | inr other ↦ rw other.0 (past older prefix.3 cell far)
    ]

-- a list holds the map of a tape, also where neither has a word
everywhere : (words : List (Option ℕ)) (items : List Item) → length words ≡ 32768 → IsPrefix items → HoldsMap items words → (cell : ℕ)
    → word_in words cell ≡ tape_map items cell
everywhere words items size prefix held cell =
    elim (cases_lt cell 32768) [
      | inl low ↦ held cell low
      | inr high ↦ get_or-eq_default words None (omega (arith, size, high)) ∙ sym (past items prefix cell high)
    ]

pub map_is : (words : List (Option ℕ)) (items : List Item) → length words ≡ 32768 → IsPrefix items → HoldsMap items words → word_in words ≡ tape_map items
map_is words items size prefix held = λ i. λ cell. everywhere words items size prefix held cell i

none_is : (word : Option ℕ) → is_some word ≡ false → word ≡ None
none_is None none = refl
none_is (Some word) none = absurd (true≢false none)

-- a tape of no word gives no cell one
pub no_word : (words : List (Option ℕ)) (items : List Item) → IsPrefix items → HoldsMap items words
    → ((cell : ℕ) → cell < 32768 → is_some (word_in words cell) ≡ false) → (cell : ℕ) → tape_map items cell ≡ None
no_word words items prefix held none cell =
    elim (cases_lt cell 32768) [
      | inl low ↦ sym (held cell low) ∙ none_is (word_in words cell) (none cell low)
      | inr high ↦ past items prefix cell high
    ]
