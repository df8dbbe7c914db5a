-- The words of a tape, cell by cell.
use Rattle.std.proofs.Common.{◌≡◌, ◌≢◌, ℕ, ◌<◌, ◌≤◌, nat_eq, Bool, true, false, if◌then◌else◌, inl, inr, Option, Some, None, zero, suc, length, replicate, reverse, take, drop, List, [], ◌∷◌, ◌++◌, ◌⊎◌, refl, ap, sym, subst, ◌∙◌, arith}
use Rattle.std.specs.Option.{option_or}
use Rattle.std.proofs.lemmas.Bool.Decides.{eqb_tells, leb_tells}
use Rattle.std.proofs.lemmas.List.{get_or-replicate, reverse-append}
use Rattle.std.proofs.Math.Seq.{take-append_seam}
use Rattle.bin_tape.specs.Items.{Item, Leader, Field, Origin, Word, IsPrefix, field_after, address_after, cell_after, tape_map}
use Rattle.bin_tape.specs.Pairs.{last_word, ArePairs}
use Rattle.tape_source.specs.Sources.{with_word, words_below}
use Rattle.tape_source.specs.Tags.{is_flagged}

-- ## The last word of a cell

pub last_append : (pairs : List (ℕ × ℕ)) (at word cell : ℕ) → last_word (pairs ++ (at, word) ∷ []) cell ≡ (if nat_eq at cell then Some word else last_word pairs cell)
last_append [] at word cell = refl
last_append (pair ∷ pairs) at word cell =
    ap (λ o. option_or o (if nat_eq pair.0 cell then Some pair.1 else None)) (last_append pairs at word cell)
    ∙ moved (nat_eq at cell) word (last_word pairs cell) (if nat_eq pair.0 cell then Some pair.1 else None)
  where
    moved : (b : Bool) (word : ℕ) (later first : Option ℕ) → option_or (if b then Some word else later) first ≡ (if b then Some word else option_or later first)
    moved true word later first = refl
    moved false word later first = refl

pub told_all : (count cell : ℕ) → cell < count → is_flagged (replicate count true) cell ≡ true
told_all count cell inside = get_or-replicate count cell true false inside

-- what a slice of a whole vector leaves of it
pub whole_written : {A : Type 0} (count : ℕ) (new old : List A) → length new ≡ count → take count (new ++ drop (length new) old) ≡ new
whole_written count new old size = rw (sym size) (take-append_seam new (drop (length new) old))

-- ## The words of a tape are words, and its cells are cells

abbrev pub Fits : Option ℕ → ℕ → Type 0
Fits None cell = Unit {0}
Fits (Some word) cell = (word < 4096) × (cell < 32768)

pub field_small : (items : List Item) → IsPrefix items → field_after items < 8
field_small [] prefix = omega arith
field_small (Leader f ∷ older) prefix = field_small older prefix.2
field_small (Field n ∷ older) prefix = prefix.0
field_small (Origin high low ∷ older) prefix = field_small older prefix.2
field_small (Word high low ∷ older) prefix = field_small older prefix.3

pub address_small : (items : List Item) → IsPrefix items → address_after items < 4096
address_small [] prefix = omega arith
address_small (Leader f ∷ older) prefix = address_small older prefix.2
address_small (Field n ∷ older) prefix = address_small older prefix.1
address_small (Origin high low ∷ older) prefix = let h = prefix.0 in let l = prefix.1 in omega (arith, h, l)
address_small (Word high low ∷ older) prefix = omega arith

pub map_fits : (items : List Item) → IsPrefix items → (cell : ℕ) → Fits (tape_map items cell) cell
map_fits [] prefix cell = tt
map_fits (Leader f ∷ older) prefix cell = map_fits older prefix.2 cell
map_fits (Field n ∷ older) prefix cell = map_fits older prefix.1 cell
map_fits (Origin high low ∷ older) prefix cell = map_fits older prefix.2 cell
map_fits (Word high low ∷ older) prefix cell =
    elim (eqb_tells (cell_after older) cell) [
      | inl same ↦
          let h = prefix.0 in
          let l = prefix.1 in
          let f = field_small older prefix.3 in
          let a = address_small older prefix.3 in
          let e = same.1 in
          rw same.0 (omega (arith, h, l), omega (arith, f, a, e))
      | inr other ↦ rw other.0 (map_fits older prefix.3 cell)
    ]

-- ## The words below a cell

pub below_none : (items : List Item) → words_below items 0 ≡ []
unfolding words_below
below_none items = refl

pub below_more : (items : List Item) (cell : ℕ) → words_below items (suc cell) ≡ with_word (tape_map items cell) cell (words_below items cell)
unfolding words_below
below_more items cell = refl

one_word : (word : Option ℕ) (at cell : ℕ) (below : List (ℕ × ℕ))
    → last_word (reverse (with_word word at below)) cell ≡ (if nat_eq at cell then option_or word (last_word (reverse below) cell) else last_word (reverse below) cell)
one_word None at cell below = same (nat_eq at cell) (last_word (reverse below) cell)
  where
    same : (b : Bool) (o : Option ℕ) → o ≡ (if b then option_or None o else o)
    same true o = refl
    same false o = refl
one_word (Some word) at cell below =
    ap (λ l. last_word l cell) (reverse-append ((at, word) ∷ []) below)
    ∙ last_append (reverse below) at word cell

-- cells at a number and above it have no word below it
above : (items : List Item) (n cell : ℕ) → n ≤ cell → last_word (reverse (words_below items n)) cell ≡ None
above items zero cell high = ap (λ l. last_word (reverse l) cell) (below_none items)
above items (suc n) cell high =
    ap (λ l. last_word (reverse l) cell) (below_more items n)
    ∙ one_word (tape_map items n) n cell (words_below items n)
    ∙ ap (λ (b : Bool). if b then option_or (tape_map items n) (last_word (reverse (words_below items n)) cell) else last_word (reverse (words_below items n)) cell) (not_same n cell high)
    ∙ above items n cell (omega (arith, high))
  where
    not_same : (n cell : ℕ) → suc n ≤ cell → nat_eq n cell ≡ false
    not_same n cell high = elim (eqb_tells n cell) [ inl same ↦ absurd (let e = same.1 in omega (arith, e, high)) | inr other ↦ other.0 ]

below : (items : List Item) (n cell : ℕ) → cell < n → last_word (reverse (words_below items n)) cell ≡ tape_map items cell
below items zero cell low = absurd (omega (arith, low))
below items (suc n) cell low =
    ap (λ l. last_word (reverse l) cell) (below_more items n)
    ∙ one_word (tape_map items n) n cell (words_below items n)
    ∙ elim (eqb_tells n cell) [
      | inl same ↦
          let e = same.1 in
          rw same.0 (ap (option_or (tape_map items n)) (above items n cell (omega (arith, e))) ∙ or_none (tape_map items n) ∙ ap (tape_map items) e)
      | inr other ↦ rw other.0 (below items n cell (let ne = other.1 in under n cell low (λ e. ne (sym e))))
    ]
  where
    or_none : (o : Option ℕ) → option_or o None ≡ o
    or_none None = refl
    or_none (Some w) = refl

    under : (n cell : ℕ) → cell < suc n → cell ≢ n → cell < n
    under n cell low ne = omega (arith, low, ne)

pub outside : (word : Option ℕ) (cell : ℕ) → Fits word cell → 32768 ≤ cell → None ≡ word
outside None cell fits high = refl
outside (Some w) cell fits high = absurd (let small = fits.1 in omega (arith, small, high))

either : (n cell : ℕ) → (cell < n) ⊎ (n ≤ cell)
either n cell = elim (leb_tells n cell) [ inl high ↦ inr high.1 | inr low ↦ inl low.1 ]

-- the last words of cells are those of the tape
pub last_of_tape : (count : ℕ) (items : List Item) → 32768 ≤ count → IsPrefix items → (cell : ℕ) → last_word (reverse (words_below items count)) cell ≡ tape_map items cell
last_of_tape count items enough prefix cell =
    elim (either count cell) [
      | inl low ↦ below items count cell low
      | inr high ↦ above items count cell high ∙ outside (tape_map items cell) cell (map_fits items prefix cell) (omega (arith, high, enough))
    ]

pairs_more : (word : Option ℕ) (cell : ℕ) (below : List (ℕ × ℕ)) → Fits word cell → ArePairs below → ArePairs (with_word word cell below)
pairs_more None cell below fits pairs = pairs
pairs_more (Some word) cell below fits pairs = (fits.1, fits.0, pairs)

pub below_pairs : (items : List Item) (n : ℕ) → IsPrefix items → ArePairs (words_below items n)
below_pairs items zero prefix = rw (below_none items) tt
below_pairs items (suc n) prefix = rw (below_more items n) (pairs_more (tape_map items n) n (words_below items n) (map_fits items prefix n) (below_pairs items n prefix))

pairs_one : (pairs : List (ℕ × ℕ)) (pair : ℕ × ℕ) → ArePairs pairs → pair.0 < 32768 → pair.1 < 4096 → ArePairs (pairs ++ pair ∷ [])
pairs_one [] pair all cell word = (cell, word, tt)
pairs_one (first ∷ pairs) pair all cell word = (all.0, all.1, pairs_one pairs pair all.2 cell word)

pub pairs_reverse : (pairs : List (ℕ × ℕ)) → ArePairs pairs → ArePairs (reverse pairs)
pairs_reverse [] all = tt
pairs_reverse (pair ∷ pairs) all = subst ArePairs (sym (reverse-append (pair ∷ []) pairs)) (pairs_one (reverse pairs) pair (pairs_reverse pairs all.2) all.0 all.1)
