-- The tagged cells of a tape are those that its memory references name.
use Rattle.std.proofs.Common.{◌≡◌, ◌≢◌, ◌↔◌, ℕ, ◌<◌, ◌%◌, nat_eq, Bool, true, false, ◌&&◌, ◌||◌, ◌⊎◌, inl, inr, Option, Some, None, is_some, zero, suc, List, refl, ap, sym, ◌∙◌, arith}
use Rattle.std.proofs.lemmas.Bool.Decides.{eqb_tells}
use Rattle.bin_tape.specs.Items.{Item, IsPrefix, tape_map}
use Rattle.flow8.specs.Exits.{referred_cell}
use Rattle.tape_source.specs.References.{is_reference}
use Rattle.tape_source.specs.Tags.{is_given, is_referred}
use Rattle.tape_source.specs.Looks.{Look}
use Rattle.tape_source.specs.Sources.{with_word, words_below}
use Rattle.tape_source.specs.Defined.{Refers}
use Rattle.tape_source.proofs.ByteLemmas.{both}
use Rattle.tape_source.proofs.TapeLemmas.{Fits, map_fits, below_none, below_more}
use Rattle.tape_source.proofs.MarkLemmas.{given_below}

-- ## A memory reference is found

equal : (a b : ℕ) → nat_eq a b ≡ true → a ≡ b
equal a b e = elim (eqb_tells a b) [ inl same ↦ same.1 | inr other ↦ absurd (clash (nat_eq a b) e other.0) ]
  where
    clash : (t : Bool) → t ≡ true → t ≡ false → ⊥
    clash true e f = cc
    clash false e f = cc

either_of : (a b : Bool) → (a || b) ≡ true → (a ≡ true) ⊎ (b ≡ true)
either_of true b e = inl refl
either_of false b e = inr e

found_at : (is_code : ℕ → Bool) (items : List Item) (word : Option ℕ) (cell named : ℕ) (below : List (ℕ × ℕ)) → tape_map items cell ≡ word
    → is_referred is_code (with_word word cell below) named ≡ true → Refers is_code items named ⊎ (is_referred is_code below named ≡ true)
found_at is_code items None cell named below there e = inr e
found_at is_code items (Some word) cell named below there e =
    elim (either_of (is_code cell && (is_reference (cell % 4096) word && nat_eq (referred_cell cell word) named)) (is_referred is_code below named) e) [
      | inl here ↦
          let code = both (is_code cell) (is_reference (cell % 4096) word && nat_eq (referred_cell cell word) named) here in
          let parts = both (is_reference (cell % 4096) word) (nat_eq (referred_cell cell word) named) code.1 in
          inl record { cell = cell; word = word; there = there; code = code.0; reference = parts.0; names = equal (referred_cell cell word) named parts.1 }
      | inr rest ↦ inr rest
    ]

not_found : false ≡ true → ⊥
not_found e = cc

found : (is_code : ℕ → Bool) (items : List Item) (count named : ℕ) → is_referred is_code (words_below items count) named ≡ true → Refers is_code items named
found is_code items zero named e = absurd (not_found (ap (λ l. is_referred is_code l named) (sym (below_none items)) ∙ e))
found is_code items (suc count) named e =
    elim (found_at is_code items (tape_map items count) count named (words_below items count) refl (ap (λ l. is_referred is_code l named) (sym (below_more items count)) ∙ e)) [
      | inl refers ↦ refers
      | inr rest ↦ found is_code items count named rest
    ]

-- ## What is there is found

or_right : (a b : Bool) → b ≡ true → (a || b) ≡ true
or_right true b e = refl
or_right false b e = e

stays : (is_code : ℕ → Bool) (word : Option ℕ) (cell named : ℕ) (below : List (ℕ × ℕ)) → is_referred is_code below named ≡ true → is_referred is_code (with_word word cell below) named ≡ true
stays is_code None cell named below e = e
stays is_code (Some word) cell named below e = or_right (is_code cell && (is_reference (cell % 4096) word && nat_eq (referred_cell cell word) named)) (is_referred is_code below named) e

same_number : (a b : ℕ) → a ≡ b → nat_eq a b ≡ true
same_number a b e = elim (eqb_tells a b) [ inl same ↦ same.0 | inr other ↦ absurd (other.1 e) ]

there_found : (is_code : ℕ → Bool) (items : List Item) (count named : ℕ) (is : Refers is_code items named) → is.cell < count → is_referred is_code (words_below items count) named ≡ true
there_found is_code items zero named is low = absurd (omega (arith, low))
there_found is_code items (suc count) named is low =
    ap (λ l. is_referred is_code l named) (below_more items count)
    ∙ elim (eqb_tells is.cell count) [
      | inl same ↦
          let there : tape_map items count ≡ Some is.word = ap (tape_map items) (sym same.1) ∙ is.there in
          let reference : is_reference (count % 4096) is.word ≡ true = ap (λ c. is_reference (c % 4096) is.word) (sym same.1) ∙ is.reference in
          let code : is_code count ≡ true = ap is_code (sym same.1) ∙ is.code in
          let names = same_number (referred_cell count is.word) named (ap (λ c. referred_cell c is.word) (sym same.1) ∙ is.names) in
          ap (λ w. is_referred is_code (with_word w count (words_below items count)) named) there
          ∙ here (is_code count) (is_reference (count % 4096) is.word) (nat_eq (referred_cell count is.word) named) (is_referred is_code (words_below items count) named) code reference names
      | inr other ↦
          let ne = other.1 in
          stays is_code (tape_map items count) count named (words_below items count) (there_found is_code items count named is (under is.cell count low ne))
    ]
  where
    here : (a b c d : Bool) → a ≡ true → b ≡ true → c ≡ true → ((a && (b && c)) || d) ≡ true
    here a b c d e f g = rw (e, f, g) refl

    under : (cell count : ℕ) → cell < suc count → cell ≢ count → cell < count
    under cell count low ne = omega (arith, low, ne)

-- ## Tagged cells

inside : (word : Option ℕ) (cell value : ℕ) → Fits word cell → word ≡ Some value → cell < 32768
inside None cell value fits e = absurd (cc e)
inside (Some word) cell value fits e = fits.1

some_not_none : (o : Option ℕ) → is_some o ≡ true → o ≢ None
some_not_none None e none = not_found e
some_not_none (Some word) e none = cc none

not_none_some : (o : Option ℕ) → o ≢ None → is_some o ≡ true
not_none_some None ne = absurd (ne refl)
not_none_some (Some word) ne = refl

pub tags_what_is_named : (look : Look) (items : List Item) (count : ℕ) → count ≡ 32768 → IsPrefix items → (cell : ℕ) → cell < count
    → ((is_given (words_below items count) cell && (look.has_name cell || is_referred look.is_code (words_below items count) cell)) ≡ true)
    ↔ ((tape_map items cell ≢ None) × ((look.has_name cell ≡ true) ⊎ Refers look.is_code items cell))
tags_what_is_named look items count size prefix cell small = (
  λ e.
      let parts = both (is_given (words_below items count) cell) (look.has_name cell || is_referred look.is_code (words_below items count) cell) e in (
        some_not_none (tape_map items cell) (sym (given_below items count cell small) ∙ parts.0),
        elim (either_of (look.has_name cell) (is_referred look.is_code (words_below items count) cell) parts.1) [
          | inl own ↦ inl own
          | inr refers ↦ inr (found look.is_code items count cell refers)
        ],
      ),
  λ named.
      let given = given_below items count cell small ∙ not_none_some (tape_map items cell) named.0 in
      elim named.1 [
        | inl own ↦ rw (given, own) refl
        | inr is ↦
            let low = inside (tape_map items is.cell) is.cell is.word (map_fits items prefix is.cell) is.there in
            rw given
            (or_right (look.has_name cell) (is_referred look.is_code (words_below items count) cell)
            (there_found look.is_code items count cell is (omega (arith, low, size))))
      ],
)
