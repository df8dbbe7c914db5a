-- What the words of cells, by rising cell, give each cell.
use Rattle.std.proofs.Common.{◌≡◌, ℕ, ◌<◌, ◌≤◌, nat_eq, Bool, true, false, if◌then◌else◌, inl, inr, zero, suc, is_some, Option, None, Some, List, [], ◌∷◌, ◌++◌, refl, ap, ◌∙◌, arith}
use Rattle.std.proofs.lemmas.Bool.Decides.{eqb_tells, nat_tests}
use Rattle.word12.specs.declared.sizes.TheConstants.{CORE}
use Rattle.bin_tape.specs.Pairs.{ArePairs}
use Rattle.pal_sym.specs.Values.{if_none}
use Rattle.pal8_asm.specs.Assembled.{has_words}
use Rattle.pal8_asm.specs.Laws.{meaning}

abbrev pub pair_if : ℕ → Option ℕ → List (ℕ × ℕ)
pair_if cell None = []
pair_if cell (Some word) = (cell, word) ∷ []

-- the cells below a number that have a word, with their words
unfoldable pub pairs_below : (ℕ → Option ℕ) → ℕ → List (ℕ × ℕ)
pairs_below words zero = []
pairs_below words (suc cell) = pairs_below words cell ++ pair_if cell (words cell)

meaning_append : (pairs later : List (ℕ × ℕ)) (c : ℕ) → meaning (pairs ++ later) c ≡ if_none (meaning later c) (meaning pairs c)
meaning_append [] later c = by_later (meaning later c)
  where
    by_later : (o : Option ℕ) → o ≡ if_none o None
    by_later None = refl
    by_later (Some w) = refl
meaning_append (pair ∷ pairs) later c =
    ap (λ o. if_none o (if nat_eq pair.0 c then Some pair.1 else None)) (meaning_append pairs later c) ∙ by_both (meaning later c) (meaning pairs c) _
  where
    by_both : (a b d : Option ℕ) → if_none (if_none a b) d ≡ if_none a (if_none b d)
    by_both None b d = refl
    by_both (Some w) b d = refl

meaning_one : (cell c : ℕ) (o before : Option ℕ) → if_none (meaning (pair_if cell o) c) before ≡ (if nat_eq cell c then if_none o before else before)
meaning_one cell c None before = by_test (nat_eq cell c)
  where
    by_test : (b : Bool) → before ≡ (if b then before else before)
    by_test true = refl
    by_test false = refl
meaning_one cell c (Some w) before = by_test (nat_eq cell c)
  where
    by_test : (b : Bool) → if_none (if b then Some w else None) before ≡ (if b then Some w else before)
    by_test true = refl
    by_test false = refl

next_is : (words : ℕ → Option ℕ) (n c : ℕ) → meaning (pairs_below words (suc n)) c ≡ (if nat_eq n c then if_none (words n) (meaning (pairs_below words n) c) else meaning (pairs_below words n) c)
unfolding pairs_below
next_is words n c =
    meaning_append (pairs_below words n) (pair_if n (words n)) c ∙ meaning_one n c (words n) (meaning (pairs_below words n) c)

none_above : (words : ℕ → Option ℕ) (n c : ℕ) → n ≤ c → meaning (pairs_below words n) c ≡ None
unfolding pairs_below
none_above words zero c high = refl
none_above words (suc n) c high =
    next_is words n c ∙ ap (λ (b : Bool). if b then if_none (words n) (meaning (pairs_below words n) c) else meaning (pairs_below words n) c) (differs n c high)
    ∙ none_above words n c (omega (arith, high))
  where
    differs : (n c : ℕ) → suc n ≤ c → nat_eq n c ≡ false
    differs n c high = grind (arith, nat_tests)

if_none_none : (o : Option ℕ) → if_none o None ≡ o
if_none_none None = refl
if_none_none (Some w) = refl

-- what these pairs give each cell
pub means : (words : ℕ → Option ℕ) (n c : ℕ) → c < n → meaning (pairs_below words n) c ≡ words c
means words zero c low = absurd (omega (arith, low))
means words (suc n) c low =
    elim (eqb_tells n c) [
      | inl same ↦
          next_is words n c ∙ ap (λ (b : Bool). if b then if_none (words n) (meaning (pairs_below words n) c) else meaning (pairs_below words n) c) same.0
          ∙ ap (if_none (words n)) (none_above words n c (omega (arith, same.1))) ∙ if_none_none (words n) ∙ ap words same.1
      | inr other ↦
          next_is words n c ∙ ap (λ (b : Bool). if b then if_none (words n) (meaning (pairs_below words n) c) else meaning (pairs_below words n) c) other.0
          ∙ means words n c (omega (arith, low, other.1))
    ]

-- ## Some word

has_more : (pairs later : List (ℕ × ℕ)) → has_words pairs ≡ true → has_words (pairs ++ later) ≡ true
has_more [] later has = absurd (cc has)
has_more (pair ∷ pairs) later has = refl

has_last : (pairs : List (ℕ × ℕ)) (cell : ℕ) (o : Option ℕ) → is_some o ≡ true → has_words (pairs ++ pair_if cell o) ≡ true
has_last pairs cell None some = absurd (cc some)
has_last [] cell (Some w) some = refl
has_last (pair ∷ pairs) cell (Some w) some = refl

pub has_some : (words : ℕ → Option ℕ) (n c : ℕ) → c < n → is_some (words c) ≡ true → has_words (pairs_below words n) ≡ true
unfolding pairs_below
has_some words zero c low some = absurd (omega (arith, low))
has_some words (suc n) c low some =
    elim (eqb_tells n c) [
      | inl same ↦ has_last (pairs_below words n) n (words n) (ap (λ m. is_some (words m)) same.1 ∙ some)
      | inr other ↦ has_more (pairs_below words n) (pair_if n (words n)) (has_some words n c (omega (arith, low, other.1)) some)
    ]

-- ## Cells of core, and words of twelve bits

pairs_more : (pairs later : List (ℕ × ℕ)) → ArePairs pairs → ArePairs later → ArePairs (pairs ++ later)
pairs_more [] later are more = more
pairs_more (pair ∷ pairs) later are more = (are.0, are.1, pairs_more pairs later are.2 more)

pair_is : (cell : ℕ) (o : Option ℕ) → cell < CORE → ((word : ℕ) → o ≡ Some word → word < 4096) → ArePairs (pair_if cell o)
pair_is cell None low small = tt
pair_is cell (Some word) low small = (low, small word refl, tt)

pub in_range : (words : ℕ → Option ℕ) → ((cell word : ℕ) → cell < CORE → words cell ≡ Some word → word < 4096) → (n : ℕ) → ((cell : ℕ) → cell < n → cell < CORE)
    → ArePairs (pairs_below words n)
unfolding pairs_below
in_range words small zero low = tt
in_range words small (suc n) low =
    pairs_more (pairs_below words n) (pair_if n (words n)) (in_range words small n (λ cell below. low cell (omega (arith, below))))
    (pair_is n (words n) (low n (omega arith)) (λ word is. small n word (low n (omega arith)) is))
