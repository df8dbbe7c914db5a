-- Words on pools' cells.
use Rattle.std.proofs.Common.{◌≡◌, ℕ, ◌+◌, ◌*◌, ◌<◌, ◌≤◌, ◌↔◌, ◌&&◌, ◌||◌, ◌⊎◌, inl, inr, nat_eq, nat_lt, Bool, true, false, if◌then◌else◌, Option, Some, None, length, List, [], ◌∷◌, ◌++◌, slice_index_or, slice_set, replicate, zero, suc, refl, sym, ap, subst, ◌∙◌, arith}
use Rattle.std.proofs.lemmas.Bool.{eqb-true, eqb-false}
use Rattle.std.proofs.lemmas.Bool.Decides.{nat_tests}
use Rattle.std.proofs.lemmas.List.{get_or-set_same, get_or-set_other}
use Rattle.pal8_pools.specs.Asks.{Ask, IsAsked, cell_in, count, distinct, end}
use Rattle.pal8_pools.specs.Cells.{IsTaken}
use Rattle.pal8_pools.specs.Laws.{IsPoolCell, PoolIsPageEnd}
use Rattle.pal8_pools.specs.Pooled.{Holds, PoolTable, is_cell_of}
use Rattle.pal8_pools.specs.Clashes.{AreMarks, OthersStay, cell_if, has_word, lower, lowest_clash}
use Rattle.pal8_pools.specs.ClashLaws.{ClashIsLowest, NoClashIsApart}
use Rattle.pal8_pools.specs.ClashSteps.{IsLowestIn, is_clash}

same_number : (n : ℕ) → nat_eq n n ≡ true
same_number n = grind (arith, nat_tests)

or_true : (b : Bool) → (b || true) ≡ true
or_true true = refl
or_true false = refl

-- ## Taken cells

-- an ask of these has the cell
record HasCell (all asks : List Ask) (c : ℕ) : Type 0 where
  pub ask : Ask
  pub is_asked : IsAsked asks ask
  pub has_cell : cell_in all ask ≡ c

ask_of_cell : (all asks : List Ask) (c : ℕ) → is_cell_of all asks c ≡ true → HasCell all asks c
ask_of_cell all [] c is = absurd cc
ask_of_cell all (a ∷ older) c is = by_test (ask_of_cell all older c) (nat_eq (cell_in all a) c) refl is
  where
    by_test : (is_cell_of all older c ≡ true → HasCell all older c) → (test : Bool) → nat_eq (cell_in all a) c ≡ test → (test || is_cell_of all older c) ≡ true
        → HasCell all (a ∷ older) c
    by_test hyp true same is = record { ask = a; is_asked = inl refl; has_cell = eqb-true _ c same }
    by_test hyp false other is = let it = hyp is in record { ask = it.ask; is_asked = inr it.is_asked; has_cell = it.has_cell }

cell_of_ask : (all asks : List Ask) (c : ℕ) (a : Ask) → IsAsked asks a → cell_in all a ≡ c → is_cell_of all asks c ≡ true
cell_of_ask all [] c a is has = absurd is
cell_of_ask all (b ∷ asks) c a (inl same) has =
    ap (λ (t : Bool). t || is_cell_of all asks c) (ap (λ (k : ℕ). nat_eq k c) (ap (cell_in all) same ∙ has) ∙ same_number c)
cell_of_ask all (b ∷ asks) c a (inr is) has = rw (cell_of_ask all asks c a is has) (or_true (nat_eq (cell_in all b) c))

taken_is : (asks : List Ask) (c : ℕ) → IsTaken asks c → is_cell_of asks asks c ≡ true
taken_is asks c it = cell_of_ask asks asks c it.ask it.is_asked it.has_cell

is_taken : (asks : List Ask) (c : ℕ) → is_cell_of asks asks c ≡ true → IsTaken asks c
is_taken asks c is = let it = ask_of_cell asks asks c is in record { ask = it.ask; is_asked = it.is_asked; has_cell = it.has_cell }

-- a test of a cell answers whether it is taken
pub test_is : (asks : List Ask) (c : ℕ) (test : Bool) → (test ≡ true) ↔ IsTaken asks c → test ≡ is_cell_of asks asks c
test_is asks c test is = by_tests test (is_cell_of asks asks c) refl refl
  where
    by_tests : (t u : Bool) → test ≡ t → is_cell_of asks asks c ≡ u → t ≡ u
    by_tests true true a b = refl
    by_tests false false a b = refl
    by_tests true false a b = absurd (cc (sym (taken_is asks c (is.0 a)) ∙ b))
    by_tests false true a b = absurd (cc (sym (is.1 (is_taken asks c b)) ∙ a))

-- ## One page

and_left : (a b : Bool) → (a && b) ≡ true → a ≡ true
and_left true b is = refl
and_left false b is = absurd cc

and_right : (a b : Bool) → (a && b) ≡ true → b ≡ true
and_right true b is = is
and_right false b is = absurd cc

-- a value that is no truth is false
else_false : (b : Bool) → (b ≡ true → ⊥) → b ≡ false
else_false true never = absurd (never refl)
else_false false never = refl

-- a word's cell that is a pool's
clash_of : (words : List (ℕ × ℕ)) (asks : List Ask) (c : ℕ) → has_word words c ≡ true → is_cell_of asks asks c ≡ true → is_clash words asks c ≡ true
clash_of words asks c has is = rw (has, is) refl

-- where an ask's cell lies
record LiesAt (asks : List Ask) (c : ℕ) : Type 0 where
  pub field : ℕ
  pub page : ℕ
  pub in_field : field < 8
  pub in_page : page < 32
  pub from : 4096 * field + 128 * page ≤ c
  pub to : c < 4096 * field + 128 * page + 128
  pub cell : IsPoolCell asks field page c

lies : PoolIsPageEnd → (table : PoolTable) (asks punched : List Ask) → Holds table asks punched → (c : ℕ) → is_cell_of asks asks c ≡ true → LiesAt asks c
lies law table asks punched holds c is =
    let it = ask_of_cell asks asks c is in
    let core = holds.holds_values.in_core it.ask it.is_asked in
    let few = holds.holds_values.few it.ask.field it.ask.page core.0 core.1 in
    let cell : IsPoolCell asks it.ask.field it.ask.page c = record { ask = it.ask; is_asked = it.is_asked; in_field = refl; in_page = refl; has_cell = it.has_cell } in
    let at = (law asks it.ask.field it.ask.page c).0 cell in
    record {
      field = it.ask.field;
      page = it.ask.page;
      in_field = core.0;
      in_page = core.1;
      from = omega (arith, at.0, at.1, few);
      to = omega (arith, at.1);
      cell = cell;
    }

-- a page of which as many values are asked as before has the same cells
stays_on : PoolIsPageEnd → (before after : List Ask) (f p c : ℕ) → count after f p ≡ count before f p → IsPoolCell after f p c → is_cell_of before before c ≡ true
stays_on law before after f p c same cell =
    let at = (law after f p c).0 cell in
    let it = (law before f p c).1 (subst (λ n. end f p < c + n) same at.0, at.1) in
    cell_of_ask before before c it.ask it.is_asked it.has_cell

same_page : (f p g q c : ℕ) → p < 32 → q < 32 → 4096 * f + 128 * p ≤ c → c < 4096 * f + 128 * p + 128 → 4096 * g + 128 * q ≤ c → c < 4096 * g + 128 * q + 128 → (f ≡ g) × (p ≡ q)
same_page f p g q c a b low high low' high' = (omega (arith, a, b, low, high, low', high'), omega (arith, a, b, low, high, low', high'))

-- no cell of such a page clashes now
pub page_stays : PoolIsPageEnd → (table : PoolTable) (words : List (ℕ × ℕ)) (before after punched : List Ask) → Holds table after punched
    → ((c : ℕ) → is_clash words before c ≡ false) → (f p : ℕ) → p < 32 → count after f p ≡ count before f p
    → IsLowestIn words after (4096 * f + 128 * p) (4096 * f + 128 * p + 128) None
page_stays law table words before after punched holds none f p in_page same c low high = else_false (is_clash words after c) no
  where
    no : is_clash words after c ≡ true → ⊥
    no is =
        let at = lies law table after punched holds c (and_right (has_word words c) (is_cell_of after after c) is) in
        let page = same_page at.field at.page f p c at.in_page in_page at.from at.to low high in
        let taken : is_cell_of before before c ≡ true = stays_on law before after at.field at.page c (rw (page.0, page.1) same) at.cell in
        cc (sym (none c) ∙ clash_of words before c (and_left (has_word words c) (is_cell_of after after c) is) taken)

-- ## The lowest of all

abbrev IsLowest : List (ℕ × ℕ) → List Ask → Option ℕ → Type 0
IsLowest words asks None = (c : ℕ) → is_clash words asks c ≡ false
IsLowest words asks (Some c) = (is_clash words asks c ≡ true) × ((d : ℕ) → is_clash words asks d ≡ true → c ≤ d)

one_lowest : (words : List (ℕ × ℕ)) (asks : List Ask) (r s : Option ℕ) → IsLowest words asks r → IsLowest words asks s → r ≡ s
one_lowest words asks None None a b = refl
one_lowest words asks None (Some d) a b = absurd (cc (sym (a d) ∙ b.0))
one_lowest words asks (Some c) None a b = absurd (cc (sym (b c) ∙ a.0))
one_lowest words asks (Some c) (Some d) a b = ap Some (omega (arith, a.1 d b.0, b.1 c a.0))

abbrev is_cell : List Ask → ℕ → Bool
is_cell asks c = is_cell_of asks asks c

-- a word more
module _ (words words' : List (ℕ × ℕ)) (asks : List Ask) (w : ℕ) (more : (d : ℕ) → has_word words' d ≡ (nat_eq w d || has_word words d)) where
  own_clash : is_cell asks w ≡ true → is_clash words' asks w ≡ true
  own_clash is = rw (more w, same_number w, is) refl

  old_clash : (d : ℕ) → is_clash words asks d ≡ true → is_clash words' asks d ≡ true
  old_clash d is =
      rw (more d, and_left (has_word words d) (is_cell asks d) is, and_right (has_word words d) (is_cell asks d) is, or_true (nat_eq w d)) refl

  -- a clash is that of the word, or an old one
  either : (d : ℕ) → is_clash words' asks d ≡ true → ((w ≡ d) × (is_cell asks d ≡ true)) ⊎ (is_clash words asks d ≡ true)
  either d is = by_test (nat_eq w d) refl (ap (λ t. t && is_cell asks d) (sym (more d)) ∙ is)
    where
      by_test : (test : Bool) → nat_eq w d ≡ test → ((test || has_word words d) && is_cell asks d) ≡ true → ((w ≡ d) × (is_cell asks d ≡ true)) ⊎ (is_clash words asks d ≡ true)
      by_test true same both = inl (eqb-true w d same, both)
      by_test false other both = inr both

  lower_is : (r : Option ℕ) (test : Bool) → is_cell asks w ≡ test → IsLowest words asks r → IsLowest words' asks (lower r (cell_if test w))
  lower_is None false not none = λ c. else_false (is_clash words' asks c) (λ is. by_either c (either c is))
    where
      by_either : (c : ℕ) → ((w ≡ c) × (is_cell asks c ≡ true)) ⊎ (is_clash words asks c ≡ true) → ⊥
      by_either c (inl it) = cc (sym not ∙ ap (is_cell asks) it.0 ∙ it.1)
      by_either c (inr is) = cc (sym (none c) ∙ is)
  lower_is None true is none = (own_clash is, λ d clash. by_either d (either d clash))
    where
      by_either : (d : ℕ) → ((w ≡ d) × (is_cell asks d ≡ true)) ⊎ (is_clash words asks d ≡ true) → w ≤ d
      by_either d (inl it) = omega (arith, it.0)
      by_either d (inr is) = absurd (cc (sym (none d) ∙ is))
  lower_is (Some c) false not low = (old_clash c low.0, λ d clash. by_either d (either d clash))
    where
      by_either : (d : ℕ) → ((w ≡ d) × (is_cell asks d ≡ true)) ⊎ (is_clash words asks d ≡ true) → c ≤ d
      by_either d (inl it) = absurd (cc (sym not ∙ ap (is_cell asks) it.0 ∙ it.1))
      by_either d (inr is) = low.1 d is
  lower_is (Some c) true is low = by_test (nat_lt w c) refl
    where
      below : (a b : ℕ) → nat_lt a b ≡ true → a < b
      below a b is = grind (arith, nat_tests)

      above : (a b : ℕ) → nat_lt a b ≡ false → b ≤ a
      above a b is = grind (arith, nat_tests)

      by_either : (e d : ℕ) → e ≤ w → e ≤ c → ((w ≡ d) × (is_cell asks d ≡ true)) ⊎ (is_clash words asks d ≡ true) → e ≤ d
      by_either e d a b (inl it) = omega (arith, it.0, a)
      by_either e d a b (inr old) = omega (arith, b, low.1 d old)

      by_test : (test : Bool) → nat_lt w c ≡ test → IsLowest words' asks (if test then Some w else Some c)
      by_test true lt = (own_clash is, λ d clash. by_either w d (omega arith) (omega (arith, below w c lt)) (either d clash))
      by_test false ge = (old_clash c low.0, λ d clash. by_either c d (above w c ge) (omega arith) (either d clash))

lowest_is : (words : List (ℕ × ℕ)) (asks : List Ask) → IsLowest words asks (lowest_clash asks words)
lowest_is [] asks = λ c. refl
lowest_is (word ∷ others) asks =
    lower_is others (word ∷ others) asks word.0 (λ d. refl) (lowest_clash asks others) (is_cell asks word.0) refl (lowest_is others asks)

pub has_word_more : (words : List (ℕ × ℕ)) (c word d : ℕ) → has_word (words ++ (c, word) ∷ []) d ≡ (nat_eq c d || has_word words d)
has_word_more [] c word d = refl
has_word_more (x ∷ words) c word d = ap (λ t. nat_eq x.0 d || t) (has_word_more words c word d) ∙ swap (nat_eq x.0 d) (nat_eq c d) (has_word words d)
  where
    swap : (a b e : Bool) → (a || (b || e)) ≡ (b || (a || e))
    swap true true e = refl
    swap true false e = refl
    swap false true e = refl
    swap false false e = refl

-- no clash is none anywhere
pub none_is : (words : List (ℕ × ℕ)) (asks : List Ask) → lowest_clash asks words ≡ None → (c : ℕ) → is_clash words asks c ≡ false
none_is words asks none = subst (λ r. IsLowest words asks r) none (lowest_is words asks)

-- ## One cell after the other

pub none_so_far : (words : List (ℕ × ℕ)) (asks : List Ask) (low at : ℕ) → ((c : ℕ) → low ≤ c → c < at → is_clash words asks c ≡ false)
    → is_clash words asks at ≡ false → (c : ℕ) → low ≤ c → c < at + 1 → is_clash words asks c ≡ false
none_so_far words asks low at none own c from to = by_test (nat_lt c at) refl
  where
    below : (a b : ℕ) → nat_lt a b ≡ true → a < b
    below a b is = grind (arith, nat_tests)

    above : (a b : ℕ) → nat_lt a b ≡ false → b ≤ a
    above a b is = grind (arith, nat_tests)

    by_test : (test : Bool) → nat_lt c at ≡ test → is_clash words asks c ≡ false
    by_test true lt = none c from (below c at lt)
    by_test false ge = ap (is_clash words asks) (omega (arith, to, above c at ge)) ∙ own

pub lowest_found : (words : List (ℕ × ℕ)) (asks : List Ask) (low at high cell : ℕ) → cell ≡ at → low ≤ at → at < high → is_clash words asks at ≡ true
    → ((c : ℕ) → low ≤ c → c < at → is_clash words asks c ≡ false) → IsLowestIn words asks low high (Some cell)
lowest_found words asks low at high cell same from to is none =
    (omega (arith, same, from), omega (arith, same, to), ap (is_clash words asks) same ∙ is, λ d first last. none d first (omega (arith, same, last)))

-- ## Two pages

-- where a clash lies, after none
pub near : PoolIsPageEnd → (table : PoolTable) (words : List (ℕ × ℕ)) (before after punched : List Ask) → Holds table after punched → ((c : ℕ) → is_clash words before c ≡ false)
    → (f p : ℕ) → OthersStay f p before after → (d : ℕ) → is_clash words after d ≡ true
    → ((4096 * f ≤ d) × (d < 4096 * f + 128)) ⊎ ((4096 * f + 128 * p ≤ d) × (d < 4096 * f + 128 * p + 128))
near law table words before after punched holds none f p stay d is =
    let at = lies law table after punched holds d (and_right (has_word words d) (is_cell_of after after d) is) in
    by_test at (nat_eq f at.field && (nat_eq p at.page || nat_eq 0 at.page)) refl
  where
    by_page : (at : LiesAt after d) → f ≡ at.field → (test : Bool) → nat_eq p at.page ≡ test → (test || nat_eq 0 at.page) ≡ true
        → ((4096 * f ≤ d) × (d < 4096 * f + 128)) ⊎ ((4096 * f + 128 * p ≤ d) × (d < 4096 * f + 128 * p + 128))
    by_page at field true page one =
        inr (omega (arith, field, eqb-true p at.page page, at.from), omega (arith, field, eqb-true p at.page page, at.to))
    by_page at field false page one = inl (omega (arith, field, eqb-true 0 at.page one, at.from), omega (arith, field, eqb-true 0 at.page one, at.to))

    by_test : (at : LiesAt after d) (test : Bool) → (nat_eq f at.field && (nat_eq p at.page || nat_eq 0 at.page)) ≡ test
        → ((4096 * f ≤ d) × (d < 4096 * f + 128)) ⊎ ((4096 * f + 128 * p ≤ d) × (d < 4096 * f + 128 * p + 128))
    by_test at true one =
        by_page at (eqb-true f at.field (and_left (nat_eq f at.field) (nat_eq p at.page || nat_eq 0 at.page) one)) (nat_eq p at.page) refl
        (and_right (nat_eq f at.field) (nat_eq p at.page || nat_eq 0 at.page) one)
    by_test at false far =
        let same : count after at.field at.page ≡ count before at.field at.page = ap (λ l. length (distinct l)) (stay at.field at.page far) in
        let taken : is_cell_of before before d ≡ true = stays_on law before after at.field at.page d same at.cell in
        absurd (cc (sym (none d) ∙ clash_of words before d (and_left (has_word words d) (is_cell_of after after d) is) taken))

module _ (law : PoolIsPageEnd) (table : PoolTable) (words : List (ℕ × ℕ)) (before after punched : List Ask) (holds : Holds table after punched)
    (none : lowest_clash before words ≡ None) (f p : ℕ) (stay : OthersStay f p before after) where
  abbrev Bounds : ℕ → Option ℕ → Type 0
  Bounds d None = ⊥
  Bounds d (Some c) = c ≤ d

  abbrev Clashes : Option ℕ → Type 0
  Clashes None = Unit {0}
  Clashes (Some c) = is_clash words after c ≡ true

  clashes : (low high : ℕ) (r : Option ℕ) → IsLowestIn words after low high r → Clashes r
  clashes low high None is = tt
  clashes low high (Some c) is = is.2

  not_below : (c d : ℕ) → (d < c → ⊥) → c ≤ d
  not_below c d never = by_test (nat_lt d c) refl
    where
      below : (a b : ℕ) → nat_lt a b ≡ true → a < b
      below a b is = grind (arith, nat_tests)

      above : (a b : ℕ) → nat_lt a b ≡ false → b ≤ a
      above a b is = grind (arith, nat_tests)

      by_test : (test : Bool) → nat_lt d c ≡ test → c ≤ d
      by_test true lt = absurd (never (below d c lt))
      by_test false ge = above d c ge

  bounds : (low high : ℕ) (r : Option ℕ) → IsLowestIn words after low high r → (d : ℕ) → low ≤ d → d < high → is_clash words after d ≡ true → Bounds d r
  bounds low high None is d a b clash = cc (sym (is d a b) ∙ clash)
  bounds low high (Some c) is d a b clash = not_below c d (λ lt. cc (sym (is.3 d a lt) ∙ clash))

  bounds_left : (d : ℕ) (r s : Option ℕ) → Bounds d r → Bounds d (lower r s)
  bounds_left d None s is = absurd is
  bounds_left d (Some c) None is = is
  bounds_left d (Some c) (Some e) is = by_test (nat_lt e c) refl
    where
      below : (a b : ℕ) → nat_lt a b ≡ true → a < b
      below a b is = grind (arith, nat_tests)

      by_test : (test : Bool) → nat_lt e c ≡ test → Bounds d (if test then Some e else Some c)
      by_test true lt = omega (arith, is, below e c lt)
      by_test false ge = is

  bounds_right : (d : ℕ) (r s : Option ℕ) → Bounds d s → Bounds d (lower r s)
  bounds_right d None s is = is
  bounds_right d (Some c) None is = absurd is
  bounds_right d (Some c) (Some e) is = by_test (nat_lt e c) refl
    where
      above : (a b : ℕ) → nat_lt a b ≡ false → b ≤ a
      above a b is = grind (arith, nat_tests)

      by_test : (test : Bool) → nat_lt e c ≡ test → Bounds d (if test then Some e else Some c)
      by_test true lt = is
      by_test false ge = omega (arith, is, above e c ge)

  both_clash : (r s : Option ℕ) → Clashes r → Clashes s → Clashes (lower r s)
  both_clash None s a b = b
  both_clash (Some c) None a b = a
  both_clash (Some c) (Some e) a b = by_test (nat_lt e c)
    where
      by_test : (test : Bool) → Clashes (if test then Some e else Some c)
      by_test true = b
      by_test false = a

  as_lowest : (r : Option ℕ) → Clashes r → ((d : ℕ) → is_clash words after d ≡ true → Bounds d r) → IsLowest words after r
  as_lowest None clash bound = λ c. else_false (is_clash words after c) (λ is. bound c is)
  as_lowest (Some c) clash bound = (clash, bound)

  lowest_near : (low own : Option ℕ) → IsLowestIn words after (4096 * f) (4096 * f + 128) low
      → IsLowestIn words after (4096 * f + 128 * p) (4096 * f + 128 * p + 128) own → IsLowest words after (lower low own)
  lowest_near low own a b =
      as_lowest (lower low own) (both_clash low own (clashes _ _ low a) (clashes _ _ own b))
      (λ d is. by_page d is (near law table words before after punched holds (none_is words before none) f p stay d is))
    where
      by_page : (d : ℕ) → is_clash words after d ≡ true → ((4096 * f ≤ d) × (d < 4096 * f + 128)) ⊎ ((4096 * f + 128 * p ≤ d) × (d < 4096 * f + 128 * p + 128)) → Bounds d (lower low own)
      by_page d is (inl at) = bounds_left d low own (bounds _ _ low a d at.0 at.1 is)
      by_page d is (inr at) = bounds_right d low own (bounds _ _ own b d at.0 at.1 is)

  -- the lowest clash of all
  pub lowest_of_all : (low own : Option ℕ) → IsLowestIn words after (4096 * f) (4096 * f + 128) low
      → IsLowestIn words after (4096 * f + 128 * p) (4096 * f + 128 * p + 128) own → lower low own ≡ lowest_clash after words
  lowest_of_all low own a b = one_lowest words after _ _ (lowest_near low own a b) (lowest_is words after)

-- the lowest clash with a word more
pub lowest_more : (words : List (ℕ × ℕ)) (asks : List Ask) (c word : ℕ)
    → lower (lowest_clash asks words) (cell_if (is_cell_of asks asks c) c) ≡ lowest_clash asks (words ++ (c, word) ∷ [])
lowest_more words asks c word =
    one_lowest (words ++ (c, word) ∷ []) asks _ _
    (lower_is words (words ++ (c, word) ∷ []) asks c (has_word_more words c word) (lowest_clash asks words) (is_cell asks c) refl (lowest_is words asks))
    (lowest_is (words ++ (c, word) ∷ []) asks)

-- the same, by other names of its bounds
pub moved : (words : List (ℕ × ℕ)) (asks : List Ask) (low low' high high' : ℕ) (r : Option ℕ) → low ≡ low' → high ≡ high' → IsLowestIn words asks low high r
    → IsLowestIn words asks low' high' r
moved words asks low low' high high' r first last is = subst (λ n. IsLowestIn words asks n high' r) first (subst (λ n. IsLowestIn words asks low n r) last is)

-- ## Marks

same_at : (n q : ℕ) → slice_index_or (replicate n false) q false ≡ false
same_at zero q = refl
same_at (suc n) zero = refl
same_at (suc n) (suc q) = same_at n q

pub no_mark : (marks : List Bool) (n : ℕ) → marks ≡ replicate n false → AreMarks marks []
no_mark marks n is = λ q. ap (λ l. slice_index_or l q false) is ∙ same_at n q

-- a mark more
pub one_mark : (marks : List Bool) (words : List (ℕ × ℕ)) (c word k : ℕ) → k ≡ c → k < length marks → AreMarks marks words → AreMarks (slice_set marks k true) (words ++ (c, word) ∷ [])
one_mark marks words c word k at inside are = λ d. by_test d (nat_eq c d) refl ∙ sym (has_word_more words c word d)
  where
    by_test : (d : ℕ) (test : Bool) → nat_eq c d ≡ test → slice_index_or (slice_set marks k true) d false ≡ (nat_eq c d || has_word words d)
    by_test d true same =
        ap (λ i. slice_index_or (slice_set marks k true) i false) (sym (at ∙ eqb-true c d same)) ∙ get_or-set_same marks k true false inside ∙ ap (λ t. t || has_word words d) (sym same)
    by_test d false other =
        get_or-set_other marks k d true false (λ e. eqb-false c d other (sym at ∙ sym e)) ∙ are d ∙ ap (λ t. t || has_word words d) (sym other)

-- ## Laws

pub no_clash_is_apart : NoClashIsApart
no_clash_is_apart words asks none c has = sym (ap (λ t. t && is_cell asks c) has) ∙ none_is words asks none c

pub clash_is_lowest : ClashIsLowest
clash_is_lowest words asks c is =
    let low = subst (λ r. IsLowest words asks r) is (lowest_is words asks) in (
      and_left (has_word words c) (is_cell asks c) low.0,
      and_right (has_word words c) (is_cell asks c) low.0,
      λ d has cell. low.1 d (clash_of words asks d has cell),
    )
