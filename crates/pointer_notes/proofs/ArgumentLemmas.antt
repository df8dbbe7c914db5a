-- The lowest cell of which something is true, and the lowest JMS that passes a word, found among the three cells before it.
use Rattle.std.proofs.Common.{◌≡◌, ◌⊎◌, inl, inr, ℕ, zero, suc, ◌-◌, ◌<◌, ◌≤◌, nat_eq, nat_le, nat_lt, Bool, true, false, ◌&&◌, ◌||◌, if◌then◌else◌, is_some, Option, Some, None, List, [], ◌∷◌, ◌++◌, refl, ap, sym, subst, ◌∙◌, arith}
use Rattle.std.specs.Prelude.{min}
use Rattle.std.proofs.Math.Nat.{min-eq_left}
use Rattle.std.proofs.lemmas.Bool.{and_from, and_left, and_right, cases_Bool, cases_eq, cases_lt, eq-eqb, le-leb, le-ltb, lt-ltb, ne_eqb, or_from, or_left, or_right}
use Rattle.word12.specs.declared.sizes.TheConstants.{CORE, FIELD}
use Rattle.flow8.specs.Exits.{cell_after}
use Rattle.source_notes.specs.Referrers.{cells_below}
use Rattle.pointer_flow.specs.Programs.{cells_from, is_listed, is_some_below}
use Rattle.pointer_notes.specs.Views.{View}
use Rattle.pointer_notes.specs.Notes.{cells_passed, first_called, passes}
use Rattle.pointer_notes.specs.References.{lowest}
use Rattle.pointer_notes.specs.Steps.{lower, passer, takes}
use Rattle.pointer_notes.proofs.ChainLemmas.{below_more, below_none}

-- ## The first of two lists

lowest_left : (l m : List ℕ) (cell : ℕ) → lowest l ≡ Some cell → lowest (l ++ m) ≡ Some cell
lowest_left [] m cell is = cc
lowest_left (first ∷ l) m cell is = is

lowest_right : (l m : List ℕ) → lowest l ≡ None → lowest (l ++ m) ≡ lowest m
lowest_right [] m is = refl
lowest_right (first ∷ l) m is = cc

either_some : (l m : List ℕ) → is_some (lowest (l ++ m)) ≡ (is_some (lowest l) || is_some (lowest m))
either_some [] m = refl
either_some (first ∷ l) m = refl

some_if : (b : Bool) (cell : ℕ) → is_some (lowest (if b then cell ∷ [] else [])) ≡ b
some_if true cell = refl
some_if false cell = refl

-- ## Whether there is one

some_none : (is : ℕ → Bool) → false ≡ is_some_below is 0
unfolding is_some_below
some_none is = refl

some_more : (is : ℕ → Bool) (cell : ℕ) → (is_some_below is cell || is cell) ≡ is_some_below is (suc cell)
unfolding is_some_below
some_more is cell = refl

pub some_below : (is : ℕ → Bool) (count : ℕ) → is_some (lowest (cells_below is count)) ≡ is_some_below is count
some_below is zero = ap (λ l. is_some (lowest l)) (below_none is) ∙ some_none is
some_below is (suc count) =
    ap (λ l. is_some (lowest l)) (below_more is count)
    ∙ either_some (cells_below is count) (if is count then count ∷ [] else [])
    ∙ ap (λ b. is_some (lowest (cells_below is count)) || b) (some_if (is count) count)
    ∙ ap (λ b. b || is count) (some_below is count)
    ∙ some_more is count

-- ## The lowest

-- this is the lowest number of which it is true, of those below a count
abbrev pub IsLowest : (ℕ → Bool) → ℕ → Option ℕ → Type 0
IsLowest is count None = (cell : ℕ) → cell < count → is cell ≡ false
IsLowest is count (Some low) = (low < count) × (is low ≡ true) × ((cell : ℕ) → cell < low → is cell ≡ false)

lowest_none : (is : ℕ → Bool) (count : ℕ) → ((cell : ℕ) → cell < count → is cell ≡ false) → lowest (cells_below is count) ≡ None
lowest_none is zero none = ap lowest (below_none is)
lowest_none is (suc count) none =
    ap lowest (below_more is count)
    ∙ lowest_right (cells_below is count) (if is count then count ∷ [] else []) (lowest_none is count (λ cell small. none cell (omega (arith, small))))
    ∙ ap (λ b. lowest (if b then count ∷ [] else [])) (none count (omega arith))

lowest_some : (is : ℕ → Bool) (count low : ℕ) → low < count → is low ≡ true → ((cell : ℕ) → cell < low → is cell ≡ false)
    → lowest (cells_below is count) ≡ Some low
lowest_some is zero low small holds before = absurd (omega (arith, small))
lowest_some is (suc count) low small holds before = elim (cases_eq low count) [
  | inl same ↦
      ap lowest (below_more is count)
      ∙ lowest_right (cells_below is count) (if is count then count ∷ [] else []) (lowest_none is count (λ cell less. before cell (omega (arith, less, same))))
      ∙ ap (λ b. lowest (if b then count ∷ [] else [])) (ap is (sym same) ∙ holds)
      ∙ ap (λ n. Some n) (sym same)
  | inr apart ↦
      ap lowest (below_more is count)
      ∙ lowest_left (cells_below is count) (if is count then count ∷ [] else []) low
      (lowest_some is count low (omega (arith, small, apart)) holds before)
]

lowest_is : (is : ℕ → Bool) (count : ℕ) (o : Option ℕ) → IsLowest is count o → lowest (cells_below is count) ≡ o
lowest_is is count None are = lowest_none is count are
lowest_is is count (Some low) are = lowest_some is count low are.0 are.1 are.2

alike : (p q : ℕ → Bool) (count : ℕ) (o : Option ℕ) → ((cell : ℕ) → q cell ≡ p cell) → IsLowest p count o → IsLowest q count o
alike p q count None same are = λ cell small. same cell ∙ are cell small
alike p q count (Some low) same are = (are.0, same low ∙ are.1, λ cell less. same cell ∙ are.2 cell less)

-- the lower of two
lower_is : (p q : ℕ → Bool) (count : ℕ) (a b : Option ℕ) → IsLowest p count a → IsLowest q count b
    → IsLowest (λ cell. p cell || q cell) count (lower a b)
lower_is p q count None None ps qs = λ cell small. or_from (p cell) (q cell) (ps cell small) (qs cell small)
lower_is p q count None (Some b) ps qs = (
  qs.0,
  or_right (p b) (q b) qs.1,
  λ cell less. or_from (p cell) (q cell) (ps cell (omega (arith, less, qs.0))) (qs.2 cell less),
)
lower_is p q count (Some a) None ps qs = (
  ps.0,
  or_left (p a) (q a) ps.1,
  λ cell less. or_from (p cell) (q cell) (ps.2 cell less) (qs cell (omega (arith, less, ps.0))),
)
lower_is p q count (Some a) (Some b) ps qs = at (cases_lt b a)
  where
    at : (b < a) ⊎ (a ≤ b) → IsLowest (λ cell. p cell || q cell) count (if nat_lt b a then Some b else Some a)
    at (inl less) =
        subst (IsLowest (λ cell. p cell || q cell) count) (sym (ap (λ (t : Bool). if t then Some b else Some a) (lt-ltb b a less)))
        (qs.0, or_right (p b) (q b) qs.1, λ cell under. or_from (p cell) (q cell) (ps.2 cell (omega (arith, under, less))) (qs.2 cell under))
    at (inr more) =
        subst (IsLowest (λ cell. p cell || q cell) count) (sym (ap (λ (t : Bool). if t then Some b else Some a) (le-ltb b a more)))
        (ps.0, or_left (p a) (q a) ps.1, λ cell under. or_from (p cell) (q cell) (ps.2 cell under) (qs.2 cell (omega (arith, under, more))))

-- the only one, where it is true of that
only_is : (is : ℕ → Bool) (only count : ℕ) → only < count → IsLowest (λ cell. nat_eq cell only && is cell) count (if is only then Some only else None)
only_is is only count small = at (cases_Bool (is only))
  where
    at : (is only ≡ true) ⊎ (is only ≡ false) → IsLowest (λ cell. nat_eq cell only && is cell) count (if is only then Some only else None)
    at (inl holds) =
        subst (IsLowest (λ cell. nat_eq cell only && is cell) count) (sym (ap (λ (t : Bool). if t then Some only else None) holds)) (
          small,
          and_from (nat_eq only only) (is only) (eq-eqb only only refl) holds,
          λ cell less. and_left (nat_eq cell only) (is cell) (ne_eqb cell only (λ same. omega (arith, same, less))),
        )
    at (inr fails) =
        subst (IsLowest (λ cell. nat_eq cell only && is cell) count) (sym (ap (λ (t : Bool). if t then Some only else None) fails))
        (λ cell less. none cell (cases_eq cell only))
      where
        none : (cell : ℕ) → (cell ≡ only) ⊎ (cell ≡ only → ⊥) → (nat_eq cell only && is cell) ≡ false
        none cell (inl same) = and_right (nat_eq cell only) (is cell) (ap is same ∙ fails)
        none cell (inr apart) = and_left (nat_eq cell only) (is cell) (ne_eqb cell only apart)

-- ## The JMS before a cell

-- a cell is so many words after another where that one is as many before it
back : (count cell from : ℕ) → count ≤ 3 → nat_eq cell (cell_after count from) ≡ nat_eq from (cell_after (FIELD - count) cell)
back count cell from small = at (cases_eq cell (cell_after count from))
  where
    at : (cell ≡ cell_after count from) ⊎ (cell ≡ cell_after count from → ⊥)
        → nat_eq cell (cell_after count from) ≡ nat_eq from (cell_after (FIELD - count) cell)
    at (inl same) = eq-eqb cell (cell_after count from) same ∙ sym (eq-eqb from (cell_after (FIELD - count) cell) (omega (arith, same, small)))
    at (inr apart) =
        ne_eqb cell (cell_after count from) apart
        ∙ sym (ne_eqb from (cell_after (FIELD - count) cell) (λ is. apart (omega (arith, is, small))))

-- one of as many cells as there are, of three
pub record AreCounts (a b c : Bool) : Type 0 where
  pub none : false ≡ ((c && false) || ((b && false) || (a && false)))
  pub one : (a || false) ≡ ((c && false) || ((b && false) || (a && true)))
  pub two : (a || (b || false)) ≡ ((c && false) || ((b && true) || (a && true)))
  pub three : (a || (b || (c || false))) ≡ ((c && true) || ((b && true) || (a && true)))

counts : (a b c : Bool) → AreCounts a b c
counts true true true = record { none = refl; one = refl; two = refl; three = refl }
counts true true false = record { none = refl; one = refl; two = refl; three = refl }
counts true false true = record { none = refl; one = refl; two = refl; three = refl }
counts true false false = record { none = refl; one = refl; two = refl; three = refl }
counts false true true = record { none = refl; one = refl; two = refl; three = refl }
counts false true false = record { none = refl; one = refl; two = refl; three = refl }
counts false false true = record { none = refl; one = refl; two = refl; three = refl }
counts false false false = record { none = refl; one = refl; two = refl; three = refl }

listed_by : (cell from count : ℕ)
    → is_listed cell (cells_from from 1 (min 3 count))
    ≡ ((nat_eq cell (cell_after 3 from) && nat_le 3 count) || ((nat_eq cell (cell_after 2 from) && nat_le 2 count)
    || (nat_eq cell (cell_after 1 from) && nat_le 1 count)))
listed_by cell from zero = (counts (nat_eq cell (cell_after 1 from)) (nat_eq cell (cell_after 2 from)) (nat_eq cell (cell_after 3 from))).none
listed_by cell from (suc zero) = (counts (nat_eq cell (cell_after 1 from)) (nat_eq cell (cell_after 2 from)) (nat_eq cell (cell_after 3 from))).one
listed_by cell from (suc (suc zero)) = (counts (nat_eq cell (cell_after 1 from)) (nat_eq cell (cell_after 2 from)) (nat_eq cell (cell_after 3 from))).two
listed_by cell from (suc (suc (suc count))) =
    ap (λ n. is_listed cell (cells_from from 1 n)) (min-eq_left (omega arith))
    ∙ (counts one two three).three
    ∙ ap (λ t. (three && t) || ((two && true) || (one && true))) (sym (le-leb 3 (suc (suc (suc count))) (omega arith)))
    ∙ ap (λ t. (three && nat_le 3 (suc (suc (suc count)))) || ((two && t) || (one && true))) (sym (le-leb 2 (suc (suc (suc count))) (omega arith)))
    ∙ ap (λ t. (three && nat_le 3 (suc (suc (suc count)))) || ((two && nat_le 2 (suc (suc (suc count)))) || (one && t)))
    (sym (le-leb 1 (suc (suc (suc count))) (omega arith)))
  where
    one : Bool
    one = nat_eq cell (cell_after 1 from)

    two : Bool
    two = nat_eq cell (cell_after 2 from)

    three : Bool
    three = nat_eq cell (cell_after 3 from)

-- a JMS that is so many words before a cell passes as many words
abbrev is_passer : View → ℕ → ℕ → ℕ → Bool
is_passer view cell count from = nat_eq from (cell_after (FIELD - count) cell) && takes view (first_called view from) count

any_passer : (view : View) (cell from : ℕ) (called : Option ℕ)
    → is_listed cell (cells_passed view from called)
    ≡ ((nat_eq cell (cell_after 3 from) && takes view called 3) || ((nat_eq cell (cell_after 2 from) && takes view called 2)
    || (nat_eq cell (cell_after 1 from) && takes view called 1)))
any_passer view cell from None = (counts (nat_eq cell (cell_after 1 from)) (nat_eq cell (cell_after 2 from)) (nat_eq cell (cell_after 3 from))).none
any_passer view cell from (Some first) = listed_by cell from (view.answers first).inline_count

passes_is : (view : View) (cell from : ℕ) → passes view cell from ≡ (is_passer view cell 3 from || (is_passer view cell 2 from || is_passer view cell 1 from))
passes_is view cell from =
    any_passer view cell from called
    ∙ ap (λ b. (b && takes view called 3) || ((nat_eq cell (cell_after 2 from) && takes view called 2) || (nat_eq cell (cell_after 1 from) && takes view called 1)))
    (back 3 cell from (omega arith))
    ∙ ap (λ b. is_passer view cell 3 from || ((b && takes view called 2) || (nat_eq cell (cell_after 1 from) && takes view called 1))) (back 2 cell from (omega arith))
    ∙ ap (λ b. is_passer view cell 3 from || (is_passer view cell 2 from || (b && takes view called 1))) (back 1 cell from (omega arith))
  where
    called : Option ℕ
    called = first_called view from

passer_is : (view : View) (cell count : ℕ) → cell < CORE → count ≤ 3 → IsLowest (is_passer view cell count) CORE (passer view cell count)
passer_is view cell count small few =
    only_is (λ from. takes view (first_called view from) count) (cell_after (FIELD - count) cell) CORE (omega (arith, small, few))

pub lowest_passer_is : (view : View) (cell : ℕ) → cell < CORE
    → lower (passer view cell 3) (lower (passer view cell 2) (passer view cell 1)) ≡ lowest (cells_below (passes view cell) CORE)
lowest_passer_is view cell small =
    sym (lowest_is (passes view cell) CORE (lower three (lower two one))
    (alike (λ from. is_passer view cell 3 from || (is_passer view cell 2 from || is_passer view cell 1 from)) (passes view cell) CORE (lower three (lower two one))
    (passes_is view cell)
    (lower_is (is_passer view cell 3) (λ from. is_passer view cell 2 from || is_passer view cell 1 from) CORE three (lower two one)
    (passer_is view cell 3 small (omega arith))
    (lower_is (is_passer view cell 2) (is_passer view cell 1) CORE two one (passer_is view cell 2 small (omega arith)) (passer_is view cell 1 small (omega arith))))))
  where
    one : Option ℕ
    one = passer view cell 1

    two : Option ℕ
    two = passer view cell 2

    three : Option ℕ
    three = passer view cell 3
