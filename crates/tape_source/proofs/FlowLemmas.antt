-- The flow of a program over a tape's map, and starts to which it gives no word.
use Rattle.std.proofs.Common.{◌≡◌, ◌≢◌, ◌⊎◌, inl, inr, ℕ, suc, ◌<◌, length, take, drop, slice_index_or, true, false, true≢false, is_some, Option, None, Some, List, [], ◌∷◌, ◌++◌, refl, ap, sym, ◌∙◌, arith}
use Rattle.std.proofs.lemmas.Bool.{cases_lt}
use Rattle.std.proofs.lemmas.List.{get_or_default}
use Rattle.std.proofs.Math.ListN.{get_or-eq_default}
use Rattle.std.proofs.Math.Seq.{split_at}
use Rattle.bin_tape.specs.Items.{Item, IsPrefix, tape_map}
use Rattle.flow8.specs.Flow.{IsAmong, word_in}
use Rattle.tape_source.specs.Sources.{AllGiven, IsFirstWithout}
use Rattle.tape_source.specs.Steps.{HoldsMap}
use Rattle.tape_source.proofs.TapeLemmas.{map_fits, outside}

-- a list holds the map of a tape, also where neither has a word
everywhere : (words : List (Option ℕ)) (items : List Item) → length words ≡ 32768 → IsPrefix items → HoldsMap items words → (cell : ℕ)
    → word_in words cell ≡ tape_map items cell
everywhere words items size prefix held cell =
    elim (cases_lt cell 32768) [
      | inl low ↦ held cell low
      | inr high ↦ get_or-eq_default words None (omega (arith, size, high)) ∙ outside (tape_map items cell) cell (map_fits items prefix cell) high
    ]

pub map_is : (words : List (Option ℕ)) (items : List Item) → length words ≡ 32768 → IsPrefix items → HoldsMap items words → word_in words ≡ tape_map items
map_is words items size prefix held = λ i. λ cell. everywhere words items size prefix held cell i

among_more : (cell : ℕ) (cells : List ℕ) (last : ℕ) → IsAmong cell (cells ++ last ∷ []) → IsAmong cell cells ⊎ (cell ≡ last)
among_more cell [] last (inl same) = inr same
among_more cell [] last (inr never) = absurd never
among_more cell (first ∷ cells) last (inl same) = inl (inl same)
among_more cell (first ∷ cells) last (inr others) = elim (among_more cell cells last others) [ inl among ↦ inl (inr among) | inr same ↦ inr same ]

-- one more has a word
pub given_more : (words : ℕ → Option ℕ) (cells : List ℕ) (last : ℕ) → AllGiven words cells → words last ≢ None → AllGiven words (cells ++ last ∷ [])
given_more words cells last all some cell among = elim (among_more cell cells last among) [
  | inl before ↦ all cell before
  | inr same ↦ λ none. some (ap words (sym same) ∙ none)
]

-- what is read in place of a list, as its word for that cell
pub read_word : (words : List (Option ℕ)) (index cell : ℕ) (word : Option ℕ) → length words ≡ 32768 → word ≡ slice_index_or words index word → index ≡ cell → index < 32768
    → word_in words cell ≡ word
read_word words index cell word size is same inside =
    ap (word_in words) (sym same) ∙ sym (is ∙ get_or_default words index word None (omega (arith, size, inside)))

pub some_is : (word : Option ℕ) → is_some word ≡ true → word ≢ None
some_is None some = absurd (true≢false (sym some))
some_is (Some word) some = λ none. cc

pub none_is : (word : Option ℕ) → is_some word ≡ false → word ≡ None
none_is None none = refl
none_is (Some word) none = absurd (true≢false none)

-- the one at this place, after those before it
pub first_at : (words : ℕ → Option ℕ) (cells : List ℕ) (place cell : ℕ) → place < length cells → cell ≡ slice_index_or cells place cell → AllGiven words (take place cells)
    → words cell ≡ None → IsFirstWithout words cells cell
first_at words cells place cell inside is given none = record {
  before = take place cells;
  after = drop (suc place) cells;
  split = split_at cells place cell inside ∙ ap (λ c. take place cells ++ c ∷ drop (suc place) cells) (sym is);
  given = given;
  none = none;
}
