-- Tables of pools: how they are made, and what an ask makes of one.
use Rattle.std.proofs.Common.{◌≡◌, ℕ, ◌+◌, ◌-◌, ◌*◌, ◌<◌, ◌≤◌, ◌||◌, ◌%◌, inl, inr, nat_eq, nat_lt, Bool, true, false, Some, None, Result, Ok, Err, length, List, [], ◌∷◌, slice_index, slice_index_or, slice_set, replicate, refl, sym, ap, subst, ◌∙◌, arith, zero, suc}
use Rattle.std.proofs.lemmas.Bool.{eqb-true, eqb-false}
use Rattle.std.proofs.lemmas.Bool.Decides.{nat_tests}
use Rattle.std.proofs.lemmas.List.{length-replicate, get_or-set_same, get_or-set_other}
use Rattle.pal8_pools.specs.Asks.{Ask, IsAsked, count, pool_of, rank, cell_in, end, is_among, item_of}
use Rattle.pal8_pools.specs.Values.{values_below, HoldsValues}
use Rattle.pal8_pools.specs.Pooled.{GetsRoom, HasSizes, Holds, PoolTable, has_room, is_cell_of, with_punched, Answers}
use Rattle.pal8_pools.specs.Steps.{Puts, Ranks, with_mark}
use Rattle.pal8_pools.specs.declared.faults.PoolFault.{PoolFault}
use Rattle.pal8_pools.specs.declared.faults.PoolFault.TheVariants.{Full, Memory}
use Rattle.pal8_pools.proofs.AskLemmas.{cell_stays, same_number}
use Rattle.pal8_pools.proofs.ValueLemmas.{pool_own, values_length}

-- ## Making

length_none : {A : Type 0} (xs : List A) → length xs ≡ 0 → xs ≡ []
length_none [] e = refl
length_none (x ∷ xs) e = absurd (omega (arith, e))

pub is_none : {A : Type 0} (xs : List A) (n : ℕ) (test : Bool) → length xs ≡ n → test ≡ nat_eq n 0 → test ≡ true → xs ≡ []
is_none xs n test len is e = length_none xs (len ∙ eqb-true n 0 (sym is ∙ e))

pub no_room : (table : PoolTable) (values counts : List ℕ) (punched : List Bool) → record { values = values; counts = counts; punched = punched } ≡ table → counts ≡ [] → has_room table ≡ false
no_room table values counts punched is none = rw (← is, none) refl

same_at : {A : Type 0} (x : A) (n q : ℕ) → slice_index_or (replicate n x) q x ≡ x
same_at x zero q = refl
same_at x (suc n) zero = refl
same_at x (suc n) (suc q) = same_at x n q

some_room : (n : ℕ) → 0 < n → nat_lt 0 n ≡ true
some_room n some = grind (arith, nat_tests)

module _ (old : PoolTable) (values counts : List ℕ) (punched : List Bool) (is : record { values = values; counts = counts; punched = punched } ≡ old)
    (sizes : HasSizes values counts punched) (none : counts ≡ []) where
  no_marks : punched ≡ []
  no_marks = length_none punched (omega (arith, sizes.punched_are, ap length none))

  keeps : (new_values : List ℕ) (n m : ℕ) (asks words : List Ask) → Holds old asks words → Holds (record { values = new_values; counts = replicate n 0; punched = replicate m false }) asks words
  keeps new_values n m asks words holds = record {
    holds_values = record {
      pools = λ f p f_small p_small. rw (same_at {A = ℕ} 0 n (32 * f + p)) (was f p f_small p_small);
      few = before.holds_values.few;
      in_core = before.holds_values.in_core;
    };
    has_marks = λ c. same_at false m c ∙ not_marked c;
    are_asks = before.are_asks;
  }
    where
      before : Holds (record { values = values; counts = []; punched = [] }) asks words
      before = subst (λ (t : PoolTable). Holds t asks words) (sym is ∙ rw (none, no_marks) refl) holds

      was : (f p : ℕ) → f < 8 → p < 32 → [] ≡ pool_of asks f p
      was f p f_small p_small = before.holds_values.pools f p f_small p_small

      not_marked : (c : ℕ) → false ≡ is_cell_of asks words c
      not_marked c = before.has_marks c

  pub makes_table : (new_values new_counts : List ℕ) (new_punched : List Bool) (n m : ℕ) → new_counts ≡ replicate n 0 → new_punched ≡ replicate m false → 0 < n
      → GetsRoom old (record { values = new_values; counts = new_counts; punched = new_punched }) × (has_room (record { values = new_values; counts = new_counts; punched = new_punched }) ≡ true)
  makes_table new_values new_counts new_punched n m counts_are punched_are some = (
    record {
      keeps = λ asks words holds. rw (counts_are, punched_are) (keeps new_values n m asks words holds);
      stays = λ room. absurd (cc (sym room ∙ no_room old values counts punched is none));
    },
    ap (λ (l : List ℕ). nat_lt 0 (length l)) counts_are ∙ ap (nat_lt 0) (length-replicate n 0) ∙ some_room n some,
  )

-- the number of a page's values is that of the different ones asked of it
pub counted : (table : PoolTable) (values counts : List ℕ) (punched : List Bool) → record { values = values; counts = counts; punched = punched } ≡ table
    → (asks words : List Ask) → Holds table asks words → (f p : ℕ) → f < 8 → p < 32 → slice_index counts (32 * f + p) ≡ count asks f p
counted table values counts punched is asks words holds f p f_small p_small =
    let before : Holds (record { values = values; counts = counts; punched = punched }) asks words = subst (λ (t : PoolTable). Holds t asks words) (sym is) holds in
    sym (values_length values (end f p) (slice_index counts (32 * f + p))) ∙ ap length (before.holds_values.pools f p f_small p_small)

-- ## An ask

-- a cell stays that of an ask when one more is made
stay_cells : (a : Ask) (asks words : List Ask) → ((b : Ask) → IsAsked words b → IsAsked asks b) → (c : ℕ) → is_cell_of (a ∷ asks) words c ≡ is_cell_of asks words c
stay_cells a asks [] are c = refl
stay_cells a asks (b ∷ words) are c = rw (cell_stays a asks b (are b (inl refl)), stay_cells a asks words (λ x is. are x (inr is)) c) refl

marks_are : (a : Ask) (asks words : List Ask) (marks : List Bool) (k : ℕ) (is_word : Bool) → ((b : Ask) → IsAsked words b → IsAsked asks b) → k ≡ cell_in (a ∷ asks) a → k < length marks
    → ((c : ℕ) → slice_index_or marks c false ≡ is_cell_of asks words c)
    → (c : ℕ) → slice_index_or (with_mark is_word marks k) c false ≡ is_cell_of (a ∷ asks) (with_punched is_word a words) c
marks_are a asks words marks k false are is inside marked c = marked c ∙ sym (stay_cells a asks words are c)
marks_are a asks words marks k true are is inside marked c = by_test (nat_eq k c) refl ∙ rw is refl
  where
    by_test : (test : Bool) → nat_eq k c ≡ test → slice_index_or (slice_set marks k true) c false ≡ (nat_eq k c || is_cell_of (a ∷ asks) words c)
    by_test true same = rw (same, ← eqb-true k c same) (get_or-set_same marks k true false inside)
    by_test false other = rw other (get_or-set_other marks k c true false (λ e. eqb-false k c other (sym e)) ∙ marked c ∙ sym (stay_cells a asks words are c))

are_with : (a : Ask) (asks words : List Ask) (is_word : Bool) → ((b : Ask) → IsAsked words b → IsAsked asks b) → (b : Ask) → IsAsked (with_punched is_word a words) b → IsAsked (a ∷ asks) b
are_with a asks words false are b is = inr (are b is)
are_with a asks words true are b (inl same) = inl same
are_with a asks words true are b (inr is) = inr (are b is)

pub address_is : (f p w r address : ℕ) → w ≡ p → r < 0o200 → p < 32 → address ≡ (0o200 * w + 0o177 - r) % 0o10000 → 4096 * f + address ≡ end f p - r
address_is f p w r address is small p_small e = omega (arith, e, is, small, p_small)

pub seen : {values counts new_values new_counts : List ℕ} {marks new_marks : List Bool} (old : PoolTable) → new_values ≡ values → new_counts ≡ counts → new_marks ≡ marks
    → record { values = values; counts = counts; punched = marks } ≡ old → record { values = new_values; counts = new_counts; punched = new_marks } ≡ old
seen old e f g is = rw (e, f, g) is

module _ (a : Ask) (asks words : List Ask) (old : PoolTable) (values counts : List ℕ) (marks : List Bool) (is : record { values = values; counts = counts; punched = marks } ≡ old)
    (holds : Holds old asks words) (number : ℕ) (at : number ≡ 32 * a.field + a.page) (in_page : a.page < 32) where
  before : Holds (record { values = values; counts = counts; punched = marks }) asks words
  before = subst (λ (t : PoolTable). Holds t asks words) (sym is) holds

  pub values_hold : HoldsValues values counts asks
  values_hold = before.holds_values

  pub put_some : (is_word : Bool) (new_values new_counts : List ℕ) (new_marks : List Bool) (r w address : ℕ) → Ranks a asks values counts new_values new_counts (Some r)
      → new_marks ≡ with_mark is_word marks (0o200 * number + 0o177 - r) → a.field < 8 → length marks ≡ 0o100000 → length new_counts ≡ length counts → has_room old ≡ true
      → w ≡ a.page → address ≡ (0o200 * w + 0o177 - r) % 0o10000
      → Puts a is_word asks words old (record { values = new_values; counts = new_counts; punched = new_marks }) (Ok address)
  put_some is_word new_values new_counts new_marks r w address ranks marks_new in_field size counts_size room page e = (
    address_is a.field a.page w r address page ranks.1 in_page e ∙ ap (λ (k : ℕ). end a.field a.page - k) ranks.0,
    subst (λ (k : ℕ). k ≤ 0o177) ranks.0 (omega (arith, ranks.1)),
    record {
      holds_values = ranks.2;
      has_marks = λ c. ap (λ (l : List Bool). slice_index_or l c false) marks_new
          ∙ marks_are a asks words marks (0o200 * number + 0o177 - r) is_word before.are_asks cell (omega (arith, size, at, in_field, in_page)) before.has_marks c;
      are_asks = are_with a asks words is_word before.are_asks;
    },
    ap (nat_lt 0) counts_size ∙ ap has_room is ∙ room,
  )
    where
      end_of : (n f p : ℕ) → n ≡ 32 * f + p → 0o200 * n + 0o177 ≡ end f p
      end_of n f p at = omega (arith, at)

      cell : 0o200 * number + 0o177 - r ≡ cell_in (a ∷ asks) a
      cell = ap (λ (k : ℕ). k - r) (end_of number a.field a.page at) ∙ ap (λ (k : ℕ). end a.field a.page - k) ranks.0

  pub put_none : (new_values new_counts : List ℕ) (new_marks : List Bool) → Ranks a asks values counts new_values new_counts None → new_marks ≡ marks
      → Puts a true asks words old (record { values = new_values; counts = new_counts; punched = new_marks }) (Err Full)
  put_none new_values new_counts new_marks ranks same = (rw (ranks.0, ranks.1, same) is, ranks.2)

-- ## The sizes of a table

pub made_count : (n : ℕ) → (nat_eq n 0 || nat_eq n 0o400) ≡ true → nat_lt 0 n ≡ true → n ≡ 0o400
made_count n is some = by_test (nat_eq n 0) refl is
  where
    by_test : (test : Bool) → nat_eq n 0 ≡ test → (test || nat_eq n 0o400) ≡ true → n ≡ 0o400
    by_test true none is = absurd (cc (sym some ∙ ap (nat_lt 0) (eqb-true n 0 none)))
    by_test false other is = eqb-true n 0o400 is

pub marks_size : (old : PoolTable) (values counts : List ℕ) (marks : List Bool) → record { values = values; counts = counts; punched = marks } ≡ old → HasSizes values counts marks → has_room old ≡ true
    → length marks ≡ 0o100000
marks_size old values counts marks is sizes room = omega (arith, sizes.punched_are, made_count (length counts) sizes.whole_or_none (ap has_room is ∙ room))

-- ## After the table's making

-- where there is no room nothing was asked, so no page is full
not_full : (a : Ask) (asks words : List Ask) (old : PoolTable) → Holds old asks words → a.field < 8 → a.page < 32 → has_room old ≡ false → rank (pool_of (a ∷ asks) a.field a.page) (item_of a) ≡ 0
not_full a asks words old holds in_field in_page none = rw (pool_own a asks (ap (λ (l : List ℕ). is_among l (item_of a)) (sym empty)), same_number (item_of a)) (ap length (sym empty))
  where
    no_counts : old.counts ≡ []
    no_counts = length_none old.counts (zero_length (length old.counts) none)
      where
        zero_length : (n : ℕ) → nat_lt 0 n ≡ false → n ≡ 0
        zero_length n none = grind (arith, nat_tests)

    empty : [] ≡ pool_of asks a.field a.page
    empty = ap (λ (l : List ℕ). values_below old.values (end a.field a.page) (slice_index l (32 * a.field + a.page))) (sym no_counts) ∙ holds.holds_values.pools a.field a.page in_field in_page

pub answers_ask : (a : Ask) (is_word : Bool) (asks words : List Ask) (old between new : PoolTable) (r : Result ℕ PoolFault) → GetsRoom old between → a.field < 8 → a.page < 32 → Holds old asks words
    → Puts a is_word asks words between new r → Answers a is_word asks words old new r
answers_ask a is_word asks words old between new (Ok address) made in_field in_page holds puts = puts
answers_ask a is_word asks words old between new (Err Full) made in_field in_page holds puts = by_test (has_room old) refl
  where
    by_test : (test : Bool) → has_room old ≡ test → (new ≡ old) × (0o177 < rank (pool_of (a ∷ asks) a.field a.page) (item_of a))
    by_test true room = (puts.0 ∙ made.stays room, puts.1)
    by_test false none = absurd (omega (arith, puts.1, not_full a asks words old holds in_field in_page none))
answers_ask a is_word asks words old between new (Err Memory) made in_field in_page holds puts = absurd puts

pub full_size : {A : Type 0} (xs : List A) (n : ℕ) (test : Bool) → length xs ≡ n → test ≡ nat_eq n 0 → test ≡ false → (nat_eq (length xs) 0 || nat_eq (length xs) 0o400) ≡ true → length xs ≡ 0o400
full_size xs n test len is e sizes = made_count (length xs) sizes (some_room (length xs) (some n len (eqb-false n 0 (sym is ∙ e))))
  where
    some : (n : ℕ) → length xs ≡ n → (n ≡ 0 → ⊥) → 0 < length xs
    some n len other = omega (arith, len, other)
