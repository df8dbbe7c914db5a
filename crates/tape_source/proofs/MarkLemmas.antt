-- Which cells are tagged, cell by cell.
use Rattle.std.proofs.Common.{◌≡◌, ◌≢◌, ℕ, ◌%◌, ◌<◌, ◌≤◌, nat_eq, Bool, true, false, true≢false, ◌&&◌, ◌||◌, inl, inr, Option, Some, None, is_some, zero, suc, length, slice_set, get_or-set_other, List, refl, ap, sym, ◌∙◌, arith}
use Rattle.std.proofs.lemmas.Bool.Decides.{eqb_tells}
use Rattle.std.proofs.lemmas.Grind.{get_or-set_at}
use Rattle.bin_tape.specs.Items.{Item, tape_map}
use Rattle.flow8.specs.Exits.{referred_cell}
use Rattle.tape_source.specs.References.{is_reference}
use Rattle.flow8.specs.Flow.{word_in}
use Rattle.tape_source.specs.Tags.{is_flagged, is_given, is_referred}
use Rattle.tape_source.specs.Looks.{Look}
use Rattle.tape_source.specs.Sources.{with_word, words_below, words_of_tape}
use Rattle.tape_source.specs.Steps.{tagged_below, name_by, HoldsFlags, HoldsMap, HoldsNames}
use Rattle.tape_source.proofs.TapeLemmas.{below_none, below_more}

-- ## The cells with words

given_one : (word : Option ℕ) (at cell : ℕ) (below : List (ℕ × ℕ)) → is_given (with_word word at below) cell ≡ ((is_some word && nat_eq at cell) || is_given below cell)
given_one None at cell below = refl
given_one (Some word) at cell below = refl

given_above : (items : List Item) (n cell : ℕ) → n ≤ cell → is_given (words_below items n) cell ≡ false
given_above items zero cell high = ap (λ l. is_given l cell) (below_none items)
given_above items (suc n) cell high =
    ap (λ l. is_given l cell) (below_more items n)
    ∙ given_one (tape_map items n) n cell (words_below items n)
    ∙ rw (not_same n cell high, given_above items n cell (omega (arith, high))) (neither (is_some (tape_map items n)))
  where
    not_same : (n cell : ℕ) → suc n ≤ cell → nat_eq n cell ≡ false
    not_same n cell high = elim (eqb_tells n cell) [ inl same ↦ absurd (let e = same.1 in omega (arith, e, high)) | inr other ↦ other.0 ]

    neither : (b : Bool) → ((b && false) || false) ≡ false
    neither true = refl
    neither false = refl

pub given_below : (items : List Item) (n cell : ℕ) → cell < n → is_given (words_below items n) cell ≡ is_some (tape_map items cell)
given_below items zero cell low = absurd (omega (arith, low))
given_below items (suc n) cell low =
    ap (λ l. is_given l cell) (below_more items n)
    ∙ given_one (tape_map items n) n cell (words_below items n)
    ∙ elim (eqb_tells n cell) [
      | inl same ↦
          let e = same.1 in
          rw (same.0, given_above items n cell (omega (arith, e))) (alone (is_some (tape_map items n)) ∙ ap (λ c. is_some (tape_map items c)) e)
      | inr other ↦ rw (other.0, given_below items n cell (let ne = other.1 in under n cell low (λ e. ne (sym e)))) (first (is_some (tape_map items n)) (is_some (tape_map items cell)))
    ]
  where
    alone : (b : Bool) → ((b && true) || false) ≡ b
    alone true = refl
    alone false = refl

    first : (a b : Bool) → ((a && false) || b) ≡ b
    first true b = refl
    first false b = refl

    under : (n cell : ℕ) → cell < suc n → cell ≢ n → cell < n
    under n cell low ne = omega (arith, low, ne)

-- ## One cell more

-- no memory reference stands in the cell
pub mark_none : (look : Look) (items : List Item) (cell : ℕ) (tags : List Bool) → tape_map items cell ≡ None → HoldsFlags (tagged_below look items cell) tags
    → HoldsFlags (tagged_below look items (suc cell)) tags
mark_none look items cell tags none before other small =
    before other small
    ∙ sym (ap (λ l. is_given (words_of_tape items) other && (look.has_name other || is_referred look.is_code l other))
    (below_more items cell ∙ ap (λ w. with_word w cell (words_below items cell)) none))

pub mark_no_reference : (look : Look) (items : List Item) (cell word : ℕ) (tags : List Bool) → tape_map items cell ≡ Some word
    → (look.is_code cell && is_reference (cell % 4096) word) ≡ false → HoldsFlags (tagged_below look items cell) tags
    → HoldsFlags (tagged_below look items (suc cell)) tags
mark_no_reference look items cell word tags there no_reference before other small =
    before other small
    ∙ sym (ap (λ l. is_given (words_of_tape items) other && (look.has_name other || is_referred look.is_code l other))
    (below_more items cell ∙ ap (λ w. with_word w cell (words_below items cell)) there)
    ∙ ap (λ b. is_given (words_of_tape items) other && (look.has_name other || (b || is_referred look.is_code (words_below items cell) other)))
    (neither (look.is_code cell) (is_reference (cell % 4096) word) (nat_eq (referred_cell cell word) other) no_reference))
  where
    neither : (a b c : Bool) → (a && b) ≡ false → (a && (b && c)) ≡ false
    neither false b c e = refl
    neither true false c e = refl
    neither true true c e = absurd (true≢false e)

-- one stands there
pub mark_reference : (look : Look) (items : List Item) (cell word named : ℕ) (value : Bool) (tags : List Bool) → length tags ≡ 32768 → tape_map items cell ≡ Some word
    → look.is_code cell ≡ true → is_reference (cell % 4096) word ≡ true → named ≡ referred_cell cell word → named < 32768 → value ≡ is_some (tape_map items named)
    → HoldsFlags (tagged_below look items cell) tags → HoldsFlags (tagged_below look items (suc cell)) (slice_set tags named value)
mark_reference look items cell word named value tags size there code reference is inside has before other small =
    elim (eqb_tells named other) [
      | inl same ↦
          get_or-set_at tags named other value false (sym same.1) (omega (arith, size, inside))
          ∙ has
          ∙ ap (λ c. is_some (tape_map items c)) same.1
          ∙ sym (given_below items 32768 other small)
          ∙ sym (grown
          ∙ ap (λ b. is_given (words_of_tape items) other && (look.has_name other || (b || is_referred look.is_code (words_below items cell) other))) same.0
          ∙ whole (is_given (words_of_tape items) other) (look.has_name other))
      | inr differ ↦
          get_or-set_other tags named other value false (λ e. differ.1 (sym e))
          ∙ before other small
          ∙ sym (grown
          ∙ ap (λ b. is_given (words_of_tape items) other && (look.has_name other || (b || is_referred look.is_code (words_below items cell) other))) differ.0)
    ]
  where
    grown : tagged_below look items (suc cell) other
        ≡ (is_given (words_of_tape items) other && (look.has_name other || (nat_eq named other || is_referred look.is_code (words_below items cell) other)))
    grown =
        ap (λ r. is_given (words_of_tape items) other && (look.has_name other || r))
        (ap (λ l. is_referred look.is_code l other) (below_more items cell ∙ ap (λ w. with_word w cell (words_below items cell)) there)
        ∙ ap (λ b. (b && (is_reference (cell % 4096) word && nat_eq (referred_cell cell word) other)) || is_referred look.is_code (words_below items cell) other) code
        ∙ ap (λ b. (b && nat_eq (referred_cell cell word) other) || is_referred look.is_code (words_below items cell) other) reference
        ∙ ap (λ c. nat_eq c other || is_referred look.is_code (words_below items cell) other) (sym is))

    whole : (b named : Bool) → (b && (named || true)) ≡ b
    whole true true = refl
    whole true false = refl
    whole false named = refl

-- where no instruction was looked at those are tagged that have a word and a name
pub mark_first : (look : Look) (items : List Item) (words : List (Option ℕ)) (names : Option (List (Option (List ℕ)))) (tags : List Bool) → HoldsMap items words
    → HoldsNames look.has_name names
    → ((cell : ℕ) → cell < 32768 → is_flagged tags cell ≡ (is_some (word_in words cell) && is_some (name_by names cell)))
    → HoldsFlags (tagged_below look items 0) tags
mark_first look items words names tags holds named flags other small =
    flags other small
    ∙ ap (λ o. is_some o && is_some (name_by names other)) (holds other small)
    ∙ ap (λ b. is_some (tape_map items other) && b) (named other small)
    ∙ ap (λ b. b && look.has_name other) (sym (given_below items 32768 other small))
    ∙ ap (λ b. is_given (words_of_tape items) other && b) (alone (look.has_name other))
    ∙ sym (ap (λ l. is_given (words_of_tape items) other && (look.has_name other || is_referred look.is_code l other)) (below_none items))
  where
    alone : (b : Bool) → b ≡ (b || false)
    alone true = refl
    alone false = refl
