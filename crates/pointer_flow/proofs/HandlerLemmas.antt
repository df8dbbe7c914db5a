-- Flags of cells that hold the entry of a handler.
use Rattle.std.proofs.Common.{◌≡◌, inl, inr, ℕ, suc, ◌+◌, ◌<◌, Bool, true, false, nat_eq, ◌||◌, List, [], ◌∷◌, ◌++◌, drop, length, replicate, take, Option, Some, None, slice_index_or, slice_set, get_or-set_other, get_or-set_same, refl, ap, sym, subst, ◌∙◌, arith}
use Rattle.std.proofs.lemmas.Bool.{eq-eqb, ne_eqb}
use Rattle.std.proofs.lemmas.Bool.Decides.{eqb_tells}
use Rattle.std.proofs.lemmas.List.{get_or-replicate, length-replicate, length-set}
use Rattle.std.proofs.Math.Seq.{take-append_seam}
use Rattle.std.specs.Prelude.{IfSome}
use Rattle.pointer_flow.specs.Programs.{is_listed, is_number, is_some_below}
use Rattle.pointer_flow.specs.Steps.{with_flag}
use Rattle.pointer_flow.proofs.CountLemmas.{some_more, some_none}

or_none : (b : Bool) → (b || false) ≡ b
or_none true = refl
or_none false = refl

or_some : (b : Bool) → (b || true) ≡ true
or_some true = refl
or_some false = refl

pub flag_after : (flags : List Bool) (o : Option ℕ) (cell : ℕ) → IfSome o (λ c. c < length flags)
    → slice_index_or (with_flag flags o) cell false ≡ (slice_index_or flags cell false || is_number o cell)
flag_after flags None cell inside = sym (or_none (slice_index_or flags cell false))
flag_after flags (Some other) cell inside = elim (eqb_tells other cell) [
  | inl same ↦
      ap (λ n. slice_index_or (slice_set flags n true) cell false) same.1
      ∙ get_or-set_same flags cell true false (subst (λ n. n < length flags) same.1 inside)
      ∙ sym (ap (λ b. slice_index_or flags cell false || b) same.0 ∙ or_some (slice_index_or flags cell false))
  | inr apart ↦
      get_or-set_other flags other cell true false (λ is. apart.1 (sym is))
      ∙ sym (ap (λ b. slice_index_or flags cell false || b) apart.0 ∙ or_none (slice_index_or flags cell false))
]

pub flags_size : (flags : List Bool) (o : Option ℕ) → length (with_flag flags o) ≡ length flags
flags_size flags None = refl
flags_size flags (Some cell) = length-set flags cell true

-- what slices of whole vectors leave of them
pub whole : {X : Type 0} (count : ℕ) (new old : List X) → length new ≡ count → take count (new ++ drop (length new) old) ≡ new
whole count new old size = rw (sym size) (take-append_seam new (drop (length new) old))

pub replicated_size : {X : Type 0} (count : ℕ) (xs : List X) (x : X) → xs ≡ replicate count x → length xs ≡ count
replicated_size count xs x is = ap length is ∙ length-replicate count x

-- ## A flag for each cell that one of those below a number leads to

pub flags_none : (flags : List Bool) (count cell : ℕ) (is : ℕ → Bool) → flags ≡ replicate count false → cell < count
    → slice_index_or flags cell false ≡ is_some_below is 0
flags_none flags count cell is nothing inside =
    ap (λ l. slice_index_or l cell false) nothing ∙ get_or-replicate count cell false false inside ∙ sym (some_none is)

pub flags_more : (flags : List Bool) (o : Option ℕ) (cell number : ℕ) (is : ℕ → Bool) → IfSome o (λ c. c < length flags)
    → is_number o cell ≡ is number → slice_index_or flags cell false ≡ is_some_below is number
    → slice_index_or (with_flag flags o) cell false ≡ is_some_below is (suc number)
flags_more flags o cell number is inside same before =
    flag_after flags o cell inside ∙ ap (λ b. slice_index_or flags cell false || b) same ∙ ap (λ b. b || is number) before ∙ sym (some_more is number)

-- one more step of a loop over the cells
pub flags_step : (is : ℕ → ℕ → Bool) (number count size : ℕ) (old lent new : List Bool) (o : Option ℕ) → length old ≡ size → count ≡ length old → lent ≡ old
    → new ≡ with_flag lent o → IfSome o (λ c. c < size) → ((cell : ℕ) → is_number o cell ≡ is cell number)
    → ((cell : ℕ) → cell < size → slice_index_or old cell false ≡ is_some_below (is cell) number)
    → (length (take count (new ++ drop (length new) old)) ≡ size)
    × ((cell : ℕ) → cell < size → slice_index_or (take count (new ++ drop (length new) old)) cell false ≡ is_some_below (is cell) (number + 1))
flags_step is number count size old lent new o sized counted same set inside leads before = (
  ap length all ∙ ap length made ∙ flags_size old o ∙ sized,
  λ cell small.
      ap (λ l. slice_index_or l cell false) (all ∙ made)
      ∙ flags_more old o cell number (is cell) (subst (λ n. IfSome o (λ c. c < n)) (sym sized) inside) (leads cell) (before cell small)
      ∙ ap (is_some_below (is cell)) next,
)
  where
    made : new ≡ with_flag old o
    made = set ∙ ap (λ l. with_flag l o) same

    all : take count (new ++ drop (length new) old) ≡ new
    all = whole count new old (ap length made ∙ flags_size old o ∙ sym counted)

    next : suc number ≡ number + 1
    next = omega arith

-- ## Listed cells

pub listed_more : (cell last : ℕ) (cells : List ℕ) → is_listed cell (cells ++ last ∷ []) ≡ (is_listed cell cells || nat_eq cell last)
listed_more cell last [] = or_none (nat_eq cell last)
listed_more cell last (first ∷ others) = ap (λ b. nat_eq cell first || b) (listed_more cell last others) ∙ regroup (nat_eq cell first) (is_listed cell others) (nat_eq cell last)
  where
    regroup : (a b c : Bool) → (a || (b || c)) ≡ ((a || b) || c)
    regroup true b c = refl
    regroup false b c = refl

pub listed_step : (flags old : List Bool) (cell last : ℕ) (cells : List ℕ) → last < length flags
    → slice_index_or flags cell false ≡ (is_listed cell cells || slice_index_or old cell false)
    → slice_index_or (with_flag flags (Some last)) cell false ≡ (is_listed cell (cells ++ last ∷ []) || slice_index_or old cell false)
listed_step flags old cell last cells inside before =
    flag_after flags (Some last) cell inside
    ∙ ap (λ b. b || nat_eq last cell) before
    ∙ swapped (is_listed cell cells) (slice_index_or old cell false) (nat_eq last cell)
    ∙ ap (λ b. (is_listed cell cells || b) || slice_index_or old cell false) (flipped last cell)
    ∙ ap (λ b. b || slice_index_or old cell false) (sym (listed_more cell last cells))
  where
    swapped : (a b c : Bool) → ((a || b) || c) ≡ ((a || c) || b)
    swapped true true true = refl
    swapped true true false = refl
    swapped true false true = refl
    swapped true false false = refl
    swapped false true true = refl
    swapped false true false = refl
    swapped false false true = refl
    swapped false false false = refl

    flipped : (a b : ℕ) → nat_eq a b ≡ nat_eq b a
    flipped a b = elim (eqb_tells a b) [
      | inl same ↦ same.0 ∙ sym (eq-eqb b a (sym same.1))
      | inr apart ↦ apart.0 ∙ sym (ne_eqb b a (λ is. apart.1 (sym is)))
    ]
