-- The cells that are taken, and the pairs of cells and values.
use Rattle.std.proofs.Common.{◌≡◌, ℕ, ◌+◌, ◌-◌, ◌*◌, ◌/◌, ◌%◌, ◌<◌, ◌≤◌, ◌↔◌, ◌&&◌, ◌||◌, inl, inr, nat_eq, nat_lt, Bool, true, false, if◌then◌else◌, length, List, [], ◌∷◌, slice_index, slice_index_or, refl, sym, ap, subst, ◌∙◌, arith, zero, suc}
use Rattle.std.proofs.lemmas.Bool.{eqb-true, eqb-false}
use Rattle.std.proofs.lemmas.Bool.Decides.{nat_tests}
use Rattle.pal8_pools.specs.Asks.{Ask, IsAsked, pool_of, rank, count, cell_in, end, item_of}
use Rattle.pal8_pools.specs.Values.{HoldsValues}
use Rattle.pal8_pools.specs.Pooled.{HasSizes, Holds, PoolTable, is_cell_of}
use Rattle.pal8_pools.specs.Cells.{ArePairs, IsIn, IsPair, IsTaken, RiseFrom, is_listed, is_used, pairs_from}
use Rattle.pal8_pools.proofs.AskLemmas.{asked_among, pool_is_page_end, rank_is_below, same_number}
use Rattle.pal8_pools.proofs.TableLemmas.{made_count}
use Rattle.pal8_pools.proofs.ValueLemmas.{values_length, value_at}

pub lt_true : (a b : ℕ) → nat_lt a b ≡ true → a < b
lt_true a b is = grind (arith, nat_tests)

pub true_lt : (a b : ℕ) → a < b → nat_lt a b ≡ true
true_lt a b is = grind (arith, nat_tests)

pub false_lt : (a b : ℕ) → b ≤ a → nat_lt a b ≡ false
false_lt a b is = grind (arith, nat_tests)

-- ## A page's cells

module _ (values counts : List ℕ) (asks : List Ask) (holds : HoldsValues values counts asks) where
  counted : (f p : ℕ) → f < 8 → p < 32 → slice_index counts (32 * f + p) ≡ count asks f p
  counted f p in_field in_page = sym (values_length values (end f p) _) ∙ ap length (holds.pools f p in_field in_page)

  -- a cell that is used is that of an ask
  used_asked : (q f p c : ℕ) → q ≡ c / 0o200 → q ≡ 32 * f + p → f < 8 → p < 32 → 0o177 - c % 0o200 < slice_index counts q → IsTaken asks c
  used_asked q f p c at is in_field in_page used =
      let few : 0o177 - c % 0o200 < count asks f p = subst (λ (n : ℕ). 0o177 - c % 0o200 < n) (ap (slice_index counts) is ∙ counted f p in_field in_page) used in
      let it = (pool_is_page_end asks f p c).1 (omega (arith, at, is, few), omega (arith, at, is)) in
      record { ask = it.ask; is_asked = it.is_asked; has_cell = it.has_cell }

  pub used_taken : (c : ℕ) → c < 0o100000 → is_used counts c ≡ true → IsTaken asks c
  used_taken c small used = used_asked (c / 0o200) (c / 0o200 / 32) (c / 0o200 % 32) c refl (omega arith) (omega (arith, small)) (omega arith) (lt_true _ _ used)

  taken_at : (a : Ask) → IsAsked asks a → (c : ℕ) → cell_in asks a ≡ c → (c < 0o100000) × (c / 0o200 ≡ 32 * a.field + a.page) × (0o177 - c % 0o200 < count asks a.field a.page)
  taken_at a is c has =
      let core = holds.in_core a is in
      let few = holds.few a.field a.page core.0 core.1 in
      let small : rank (pool_of asks a.field a.page) (item_of a) < count asks a.field a.page = rank_is_below _ (item_of a) (asked_among asks a is) in
      (omega (arith, has, core.0, core.1), omega (arith, has, few, small), omega (arith, has, few, small))

  pub taken_small : (c : ℕ) → IsTaken asks c → c < 0o100000
  taken_small c it = (taken_at it.ask it.is_asked c it.has_cell).0

  pub taken_used : (c : ℕ) → IsTaken asks c → is_used counts c ≡ true
  taken_used c it =
      let core = holds.in_core it.ask it.is_asked in
      let at = taken_at it.ask it.is_asked c it.has_cell in
      true_lt _ _ (subst (λ (n : ℕ). 0o177 - c % 0o200 < n) (sym (ap (slice_index counts) at.1 ∙ counted it.ask.field it.ask.page core.0 core.1)) at.2)

-- ## Whether a cell is taken

module _ (table : PoolTable) (values counts : List ℕ) (punched : List Bool) (is : record { values = values; counts = counts; punched = punched } ≡ table)
    (asks words : List Ask) (holds : Holds table asks words) (c : ℕ) where
  inside : HoldsValues values counts asks
  inside = (subst (λ (t : PoolTable). Holds t asks words) (sym is) holds).holds_values

  pub taken_is : (number used : ℕ) → number ≡ c → c < 0o100000 → used ≡ slice_index counts (number / 0o200) → (nat_lt (0o177 - number % 0o200) used ≡ true) ↔ IsTaken asks c
  taken_is number used at small read = rw (read, at) (used_taken values counts asks inside c small, taken_used values counts asks inside c)

  pub not_taken : counts ≡ [] → (false ≡ true) ↔ IsTaken asks c
  not_taken none = ((λ e. absurd (cc e)), (λ it. sym (unused) ∙ taken_used values counts asks inside c it))
    where
      unused : is_used counts c ≡ false
      unused = rw none (false_lt (0o177 - c % 0o200) 0 (omega arith))

-- ## The pairs that are left

module _ (values counts : List ℕ) (punched : List Bool) where
  from : ℕ → ℕ → List (ℕ × ℕ)
  from c n = pairs_from values counts punched c n

  and_false : (b : Bool) → (false && b) ≡ false
  and_false b = refl

  unused_not : (c n : ℕ) → is_used counts c ≡ false → pairs_from values counts punched c (suc n) ≡ pairs_from values counts punched (c + 1) n
  unused_not c n unused = rw unused refl

  skipped : (k c n : ℕ) → k ≤ n → ((j : ℕ) → j < k → is_used counts (c + j) ≡ false) → pairs_from values counts punched c n ≡ pairs_from values counts punched (c + k) (n - k)
  skipped zero c n few unused = at_zero (c + 0) (n - 0) (omega arith) (omega arith)
    where
      at_zero : (x y : ℕ) → x ≡ c → y ≡ n → pairs_from values counts punched c n ≡ pairs_from values counts punched x y
      at_zero x y e f = rw (e, f) refl
  skipped (suc k) c zero few unused = absurd (omega (arith, few))
  skipped (suc k) c (suc n) few unused =
      unused_not c n (subst (λ (x : ℕ). is_used counts x ≡ false) (omega arith) (unused 0 (omega arith)))
      ∙ skipped k (c + 1) n (omega (arith, few)) (λ j small. subst (λ (x : ℕ). is_used counts x ≡ false) (omega arith) (unused (j + 1) (omega (arith, small))))
      ∙ moved (c + 1 + k) (n - k) (c + suc k) (suc n - suc k) (omega arith) (omega arith)
    where
      moved : (x y z w : ℕ) → x ≡ z → y ≡ w → pairs_from values counts punched x y ≡ pairs_from values counts punched z w
      moved x y z w e f = rw (e, f) refl

  moved : (x y z w : ℕ) → x ≡ z → y ≡ w → pairs_from values counts punched x y ≡ pairs_from values counts punched z w
  moved x y z w e f = rw (e, f) refl

  -- the free cells of a page are passed over
  pub passes : (size at used : ℕ) → at < size → size ≡ 0o200 * length counts → used ≡ slice_index counts (at / 0o200) → used ≤ 0o177 - at % 0o200
      → pairs_from values counts punched at (size - at) ≡ pairs_from values counts punched (at + (0o200 - at % 0o200 - used)) (size - (at + (0o200 - at % 0o200 - used)))
  passes size at used inside whole read free =
      skipped (0o200 - at % 0o200 - used) at (size - at) (omega (arith, inside, whole, free)) (λ j small. unused j small)
      ∙ moved _ _ _ _ refl (omega arith)
    where
      unused : (j : ℕ) → j < 0o200 - at % 0o200 - used → is_used counts (at + j) ≡ false
      unused j small =
          let page : (at + j) / 0o200 ≡ at / 0o200 = omega (arith, small) in
          false_lt _ _ (subst (λ (n : ℕ). n ≤ 0o177 - (at + j) % 0o200) (read ∙ ap (slice_index counts) (sym page)) (omega (arith, small, free)))

  one_more : (n size at : ℕ) → n ≡ size - at → at < size → n ≡ suc (size - (at + 1))
  one_more n size at is inside = omega (arith, is, inside)

  -- a cell that is listed comes first
  pub comes : (size at : ℕ) → at < size → is_listed counts punched at ≡ true → pairs_from values counts punched at (size - at) ≡ (at, slice_index values at % 0o10000) ∷ pairs_from values counts punched (at + 1) (size - (at + 1))
  comes size at inside listed = moved at (size - at) at (suc (size - (at + 1))) refl (one_more (size - at) size at refl inside) ∙ (rw listed refl)

  pub passes_one : (size at : ℕ) → at < size → is_listed counts punched at ≡ false → pairs_from values counts punched at (size - at) ≡ pairs_from values counts punched (at + 1) (size - (at + 1))
  passes_one size at inside listed = moved at (size - at) at (suc (size - (at + 1))) refl (one_more (size - at) size at refl inside) ∙ (rw listed refl)

  pub none_left : (size at : ℕ) → size ≤ at → pairs_from values counts punched at (size - at) ≡ []
  none_left size at past = moved at (size - at) at 0 refl (omega (arith, past))

  pub is_used_now : (at used : ℕ) → used ≡ slice_index counts (at / 0o200) → 0o177 - at % 0o200 < used → (flag : Bool) → slice_index_or punched at false ≡ flag → is_listed counts punched at ≡ flag
  is_used_now at used read more flag is = rw (is, true_lt _ _ (subst (λ (n : ℕ). 0o177 - at % 0o200 < n) read more)) refl

pub first_same : {x x' y y' : ℕ} {l : List (ℕ × ℕ)} → x ≡ x' → y ≡ y' → ((x, y) ∷ l) ≡ ((x', y') ∷ l)
first_same e f = rw (e, f) refl

-- ## What the pairs are

record IsListed (values counts : List ℕ) (punched : List Bool) (low n c v : ℕ) : Type 0 where
  above : low ≤ c
  below : c < low + n
  listed : is_listed counts punched c ≡ true
  value : v ≡ slice_index values c % 0o10000

module _ (values counts : List ℕ) (punched : List Bool) (c v : ℕ) where
  in_listed : (n low : ℕ) → IsIn c v (pairs_from values counts punched low n) → IsListed values counts punched low n c v
  in_listed zero low is = absurd is
  in_listed (suc n) low is = by_test (in_listed n (low + 1)) (is_listed counts punched low) refl is
    where
      later : IsListed values counts punched (low + 1) n c v → IsListed values counts punched low (suc n) c v
      later it = record { above = omega (arith, it.above); below = omega (arith, it.below); listed = it.listed; value = it.value }

      by_test : (IsIn c v (pairs_from values counts punched (low + 1) n) → IsListed values counts punched (low + 1) n c v) → (test : Bool) → is_listed counts punched low ≡ test
          → IsIn c v (if test then (low, slice_index values low % 0o10000) ∷ pairs_from values counts punched (low + 1) n else pairs_from values counts punched (low + 1) n)
          → IsListed values counts punched low (suc n) c v
      by_test hyp true listed (inl same) = record {
        above = omega (arith, same.0);
        below = omega (arith, same.0);
        listed = subst (λ (x : ℕ). is_listed counts punched x ≡ true) same.0 listed;
        value = sym same.1 ∙ ap (λ k. slice_index values k % 0o10000) same.0;
      }
      by_test hyp true listed (inr is) = later (hyp is)
      by_test hyp false listed is = later (hyp is)

  listed_in : (n low : ℕ) → IsListed values counts punched low n c v → IsIn c v (pairs_from values counts punched low n)
  listed_in zero low it = absurd (omega (arith, it.above, it.below))
  listed_in (suc n) low it = by_test (listed_in n (low + 1)) (is_listed counts punched low) (nat_eq low c) refl refl
    where
      later : (nat_eq low c ≡ false) → IsListed values counts punched (low + 1) n c v
      later other = record { above = next low c it.above (eqb-false low c other); below = omega (arith, it.below); listed = it.listed; value = it.value }
        where
          next : (x y : ℕ) → x ≤ y → (x ≡ y → ⊥) → x + 1 ≤ y
          next x y le other = omega (arith, le, other)

      by_test : (IsListed values counts punched (low + 1) n c v → IsIn c v (pairs_from values counts punched (low + 1) n)) → (test at : Bool) → is_listed counts punched low ≡ test → nat_eq low c ≡ at
          → IsIn c v (if test then (low, slice_index values low % 0o10000) ∷ pairs_from values counts punched (low + 1) n else pairs_from values counts punched (low + 1) n)
      by_test hyp true true listed same = inl (eqb-true low c same, ap (λ k. slice_index values k % 0o10000) (eqb-true low c same) ∙ sym it.value)
      by_test hyp true false listed other = inr (hyp (later other))
      by_test hyp false true listed same = absurd (cc (sym listed ∙ ap (is_listed counts punched) (eqb-true low c same) ∙ it.listed))
      by_test hyp false false listed other = hyp (later other)

rises : (values counts : List ℕ) (punched : List Bool) (n bound low : ℕ) → bound ≤ low → RiseFrom bound (pairs_from values counts punched low n)
rises values counts punched zero bound low le = tt
rises values counts punched (suc n) bound low le = by_test (λ b. rises values counts punched n b (low + 1)) (is_listed counts punched low)
  where
    by_test : ((b : ℕ) → b ≤ low + 1 → RiseFrom b (pairs_from values counts punched (low + 1) n)) → (test : Bool)
        → RiseFrom bound (if test then (low, slice_index values low % 0o10000) ∷ pairs_from values counts punched (low + 1) n else pairs_from values counts punched (low + 1) n)
    by_test hyp true = (le, hyp (low + 1) (omega arith))
    by_test hyp false = hyp bound (omega (arith, le))

-- a marked cell is that of an ask
cell_of : (asks words : List Ask) (c : ℕ) → is_cell_of asks words c ≡ true → (a : Ask) × IsAsked words a × (cell_in asks a ≡ c)
cell_of asks [] c is = absurd cc
cell_of asks (b ∷ words) c is = by_test (cell_of asks words c) (nat_eq (cell_in asks b) c) refl is
  where
    by_test : (is_cell_of asks words c ≡ true → (a : Ask) × IsAsked words a × (cell_in asks a ≡ c)) → (test : Bool) → nat_eq (cell_in asks b) c ≡ test → (test || is_cell_of asks words c) ≡ true
        → (a : Ask) × IsAsked (b ∷ words) a × (cell_in asks a ≡ c)
    by_test hyp true same is = (b, inl refl, eqb-true _ c same)
    by_test hyp false other is = let it = hyp is in (it.0, inr it.1, it.2)

is_of_cell : (asks words : List Ask) (c : ℕ) (a : Ask) → IsAsked words a → cell_in asks a ≡ c → is_cell_of asks words c ≡ true
is_of_cell asks [] c a is has = absurd is
is_of_cell asks (b ∷ words) c a (inl same) has = ap (λ (t : Bool). t || is_cell_of asks words c) (ap (λ (k : ℕ). nat_eq k c) (ap (cell_in asks) same ∙ has) ∙ same_number c)
is_of_cell asks (b ∷ words) c a (inr is) has = rw (is_of_cell asks words c a is has) (or_true (nat_eq (cell_in asks b) c))
  where
    or_true : (b : Bool) → (b || true) ≡ true
    or_true true = refl
    or_true false = refl

both : (a b : Bool) → (a && b) ≡ true → b ≡ true
both true b is = is
both false b is = absurd cc

within : (values counts : List ℕ) (punched : List Bool) → HasSizes values counts punched → (asks : List Ask) (c : ℕ) → HoldsValues values counts asks → IsTaken asks c → c < length punched
within values counts punched sizes asks c holds it = some counts refl
  where
    some : (xs : List ℕ) → xs ≡ counts → c < length punched
    some [] none = absurd (cc (sym (taken_used values counts asks holds c it) ∙ unused none))
      where
        unused : [] ≡ counts → is_used counts c ≡ false
        unused none = rw (← none) (false_lt (0o177 - c % 0o200) 0 (omega arith))
    some (x ∷ xs) more = omega (arith, sizes.punched_are, made_count (length counts) sizes.whole_or_none (true_lt 0 (length counts) (omega (arith, ap length more))), taken_small values counts asks holds c it)

pub are_pairs : (table : PoolTable) (values counts : List ℕ) (punched : List Bool) → record { values = values; counts = counts; punched = punched } ≡ table
    → (size : ℕ) → size ≡ length punched → HasSizes values counts punched → (asks words : List Ask) → Holds table asks words → ArePairs asks words (pairs_from values counts punched 0 size)
are_pairs table values counts punched is size whole sizes asks words holds = record {
  rise = rises values counts punched size 0 0 (omega arith);
  each = λ c v. (to_pair c v, to_in c v);
}
  where
    before : Holds (record { values = values; counts = counts; punched = punched }) asks words
    before = subst (λ (t : PoolTable). Holds t asks words) (sym is) holds

    word_in : (v stay : ℕ) → v < 0o10000 → v ≡ (v + 0o10000 * stay) % 0o10000
    word_in v stay small = omega (arith, small)

    -- the value of an ask is the word in its cell
    word_there : (a : Ask) → IsAsked asks a → a.value ≡ slice_index values (cell_in asks a) % 0o10000
    word_there a is =
        word_in a.value a.stay (before.holds_values.in_core a is).2 ∙ ap (λ n. n % 0o10000) (sym (value_at values counts asks before.holds_values a is))

    to_pair : (c v : ℕ) → IsIn c v (pairs_from values counts punched 0 size) → IsPair asks words c v
    to_pair c v there =
        let it = in_listed values counts punched c v size 0 there in
        let of = cell_of asks words c (sym (before.has_marks c) ∙ both (is_used counts c) (slice_index_or punched c false) it.listed) in
        record {
          ask = of.0;
          is_asked = of.1;
          has_cell = of.2;
          has_value = word_there of.0 (before.are_asks of.0 of.1) ∙ ap (λ k. slice_index values k % 0o10000) of.2 ∙ sym it.value;
        }

    to_in : (c v : ℕ) → IsPair asks words c v → IsIn c v (pairs_from values counts punched 0 size)
    to_in c v it =
        let asked = before.are_asks it.ask it.is_asked in
        let taken_cell : IsTaken asks c = record { ask = it.ask; is_asked = asked; has_cell = it.has_cell } in
        listed_in values counts punched c v size 0 (record {
          above = omega arith;
          below = subst (λ (k : ℕ). c < k) (omega arith) (subst (λ (k : ℕ). c < k) (sym whole) (within values counts punched sizes asks c before.holds_values taken_cell));
          listed = rw (taken_used values counts asks before.holds_values c taken_cell) (before.has_marks c ∙ is_of_cell asks words c it.ask it.is_asked it.has_cell);
          value = sym it.has_value ∙ word_there it.ask asked ∙ ap (λ k. slice_index values k % 0o10000) it.has_cell;
        })
