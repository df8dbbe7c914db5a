-- Values that lie by cell, and those that are asked.
use Rattle.std.proofs.Common.{◌≡◌, ◌≢◌, ℕ, ◌+◌, ◌-◌, ◌*◌, ◌<◌, ◌≤◌, ◌||◌, inl, inr, nat_eq, Bool, true, false, if◌then◌else◌, Some, None, length, List, ◌∷◌, slice_index, slice_index_or, slice_set, refl, sym, ap, subst, ◌∙◌, arith, zero, suc}
use Rattle.std.proofs.lemmas.Bool.{eqb-true}
use Rattle.std.proofs.lemmas.Bool.Decides.{nat_tests}
use Rattle.std.proofs.lemmas.List.{get_or_read, get_or-set_same, get_or-set_other}
use Rattle.pal8_pools.specs.Asks.{Ask, IsAsked, is_among, is_of, rank, pool_of, count, cell_in, end, item_of}
use Rattle.pal8_pools.specs.Values.{values_below, HoldsValues}
use Rattle.pal8_pools.specs.Steps.{rank_below, Ranks}
use Rattle.pal8_pools.proofs.AskLemmas.{asked_among, same_number, of_field, of_page}

-- ## The search

looks_at : (values : List ℕ) (last m v x : ℕ) → x ≡ slice_index values (last - m) → (test : Bool) → nat_eq x v ≡ test
    → rank_below values last (suc m) v ≡ (if test then Some m else rank_below values last m v)
looks_at values last m v x read test is = ap (λ (b : Bool). if b then Some m else rank_below values last m v) (ap (λ (y : ℕ). nat_eq y v) (sym read) ∙ is)

-- one more item was looked at
pub looks_number : (values : List ℕ) (last n v : ℕ) → 0 < n → (test : Bool) → nat_eq (slice_index values (last - (n - 1))) v ≡ test
    → rank_below values last n v ≡ (if test then Some (n - 1) else rank_below values last (n - 1) v)
looks_number values last n v some test is =
    let e : suc (n - 1) ≡ n = omega (arith, some) in
    subst (λ (k : ℕ). rank_below values last k v ≡ (if test then Some (n - 1) else rank_below values last (n - 1) v)) e
    (looks_at values last (n - 1) v (slice_index values (last - (n - 1))) refl test is)

pub same_test : (x v : ℕ) → x ≡ v → nat_eq x v ≡ true
same_test x v is = grind (arith, nat_tests, is)

pub other_test : (x v : ℕ) → (x ≡ v → ⊥) → nat_eq x v ≡ false
other_test x v other = grind (arith, nat_tests, other)

pub values_length : (values : List ℕ) (last n : ℕ) → length (values_below values last n) ≡ n
values_length values last zero = refl
values_length values last (suc n) = ap suc (values_length values last n)

pub not_there : (values : List ℕ) (last n v : ℕ) → rank_below values last n v ≡ None → is_among (values_below values last n) v ≡ false
not_there values last zero v none = refl
not_there values last (suc n) v none = by_test (nat_eq (slice_index values (last - n)) v) (not_there values last n v) none
  where
    by_test : (test : Bool) → (rank_below values last n v ≡ None → is_among (values_below values last n) v ≡ false) → (if test then Some n else rank_below values last n v) ≡ None → (test || is_among (values_below values last n) v) ≡ false
    by_test true hyp none = absurd cc
    by_test false hyp none = hyp none

-- the value is there, and this is its rank
record IsThere (pool : List ℕ) (v r : ℕ) : Type 0 where
  among : is_among pool v ≡ true
  has_rank : rank pool v ≡ r

there : (values : List ℕ) (last n v r : ℕ) → rank_below values last n v ≡ Some r → IsThere (values_below values last n) v r
there values last zero v r some = absurd cc
there values last (suc n) v r some = by_test (nat_eq (slice_index values (last - n)) v) refl (there values last n v r) some
  where
    by_test : (test : Bool) → nat_eq (slice_index values (last - n)) v ≡ test → (rank_below values last n v ≡ Some r → IsThere (values_below values last n) v r)
        → (if test then Some n else rank_below values last n v) ≡ Some r → IsThere (values_below values last (suc n)) v r
    by_test true is hyp some = record {
      among = rw is refl;
      has_rank = rw is (values_length values last n ∙ cc);
    }
    by_test false is hyp some = let it = hyp some in record {
      among = rw is it.among;
      has_rank = rw is it.has_rank;
    }

-- ## What one more ask makes of the pools

module _ (a : Ask) (asks : List Ask) where
  pool_other : (f p : ℕ) → is_of f p a ≡ false → pool_of (a ∷ asks) f p ≡ pool_of asks f p
  pool_other f p other = rw other refl

  pool_kept : (f p : ℕ) → is_among (pool_of asks a.field a.page) (item_of a) ≡ true → pool_of (a ∷ asks) f p ≡ pool_of asks f p
  pool_kept f p among = by_page (is_of f p a) refl
    where
      by_page : (test : Bool) → is_of f p a ≡ test → pool_of (a ∷ asks) f p ≡ pool_of asks f p
      by_page true of = rw (of, ← of_field f p a of, ← of_page f p a of, among) refl
      by_page false of = pool_other f p of

  pub pool_own : is_among (pool_of asks a.field a.page) (item_of a) ≡ false → pool_of (a ∷ asks) a.field a.page ≡ item_of a ∷ pool_of asks a.field a.page
  pool_own new = rw (same_number a.field, same_number a.page, new) refl

-- ## The values after one is written

values_frame : (values : List ℕ) (i v last n : ℕ) → ((k : ℕ) → k < n → last - k ≢ i) → values_below (slice_set values i v) last n ≡ values_below values last n
values_frame values i v last zero apart = refl
values_frame values i v last (suc n) apart =
    cc' (get_or-set_other values i (last - n) v 0 (apart n (omega arith))) (values_frame values i v last n (λ k small. apart k (omega (arith, small))))
  where
    cc' : {x y : ℕ} {xs ys : List ℕ} → x ≡ y → xs ≡ ys → (x ∷ xs) ≡ (y ∷ ys)
    cc' e f = rw (e, f) refl

values_more : (values : List ℕ) (v last n : ℕ) → last < length values → n ≤ last → values_below (slice_set values (last - n) v) last (suc n) ≡ v ∷ values_below values last n
values_more values v last n inside low = both (get_or-set_same values (last - n) v 0 (omega (arith, inside))) (values_frame values (last - n) v last n (λ k small same. absurd (omega (arith, small, same, low))))
  where
    both : {x y : ℕ} {xs ys : List ℕ} → x ≡ y → xs ≡ ys → (x ∷ xs) ≡ (y ∷ ys)
    both e f = rw (e, f) refl

-- ## The three answers of an ask, where the page's number and the value's place are as the code has them

page_end : (page f p : ℕ) → page ≡ 32 * f + p → 0o200 * page + 0o177 ≡ end f p
page_end page f p is = omega (arith, is)

abbrev InCore : Ask → Type 0
InCore a = (a.field < 8) × (a.page < 32) × (a.value < 0o10000)

asked_in_core : (a : Ask) (asks : List Ask) → a.field < 8 → a.page < 32 → a.value < 0o10000 → ((b : Ask) → IsAsked asks b → InCore b) → (b : Ask) → IsAsked (a ∷ asks) b → InCore b
asked_in_core a asks f p v older b (inl same) = subst InCore same (f, p, v)
asked_in_core a asks f p v older b (inr is) = older b is

module _ (a : Ask) (asks : List Ask) (values counts : List ℕ) (page n : ℕ) (is : page ≡ 32 * a.field + a.page) (in_field : a.field < 8) (in_page : a.page < 32)
    (in_word : a.value < 0o10000)
    (holds : HoldsValues values counts asks) (has : n ≡ slice_index counts page) where
  own : values_below values (0o200 * page + 0o177) n ≡ pool_of asks a.field a.page
  own = rw (has, is, page_end (32 * a.field + a.page) a.field a.page refl) (holds.pools a.field a.page in_field in_page)

  size : n ≡ count asks a.field a.page
  size = sym (values_length values (0o200 * page + 0o177) n) ∙ ap length own

  pub not_more : n ≤ 0o200
  not_more = rw size (holds.few a.field a.page in_field in_page)

  pub gets_old_value : (r : ℕ) → rank_below values (0o200 * page + 0o177) n (item_of a) ≡ Some r → r < n → Ranks a asks values counts values counts (Some r)
  gets_old_value r some small =
      let it = there values (0o200 * page + 0o177) n (item_of a) r some in
      let among : is_among (pool_of asks a.field a.page) (item_of a) ≡ true = rw (← own) it.among in (
        sym (ap (λ (l : List ℕ). rank l (item_of a)) (pool_kept a asks a.field a.page among ∙ sym own) ∙ it.has_rank),
        omega (arith, small, not_more),
        record {
          pools = λ f p f_small p_small. holds.pools f p f_small p_small ∙ sym (pool_kept a asks f p among);
          few = λ f p f_small p_small. subst (λ (l : List ℕ). length l ≤ 0o200) (sym (pool_kept a asks f p among)) (holds.few f p f_small p_small);
          in_core = asked_in_core a asks in_field in_page in_word holds.in_core;
        },
      )

  new_value : rank_below values (0o200 * page + 0o177) n (item_of a) ≡ None → is_among (pool_of asks a.field a.page) (item_of a) ≡ false
  new_value none = rw (← own) (not_there values (0o200 * page + 0o177) n (item_of a) none)

  new_rank : rank_below values (0o200 * page + 0o177) n (item_of a) ≡ None → n ≡ rank (pool_of (a ∷ asks) a.field a.page) (item_of a)
  new_rank none = rw (pool_own a asks (new_value none), same_number (item_of a)) size

  pub gets_none : rank_below values (0o200 * page + 0o177) n (item_of a) ≡ None → n ≡ 0o200 → Ranks a asks values counts values counts None
  gets_none none most = (refl, refl, omega (arith, new_rank none, most))

  pub gets_new_value : rank_below values (0o200 * page + 0o177) n (item_of a) ≡ None → n < 0o200 → length values ≡ 0o100000 → length counts ≡ 0o400
      → Ranks a asks values counts (slice_set values (0o200 * page + 0o177 - n) (item_of a)) (slice_set counts page (n + 1)) (Some n)
  gets_new_value none small size_values size_counts = (new_rank none, small, record { pools = pools; few = few; in_core = asked_in_core a asks in_field in_page in_word holds.in_core })
    where
      held_at : (values : List ℕ) (x y m k : ℕ) → x ≡ y → m ≡ k → values_below values x m ≡ values_below values y k
      held_at values x y m k e g = rw (e, g) refl

      same_page : (f p : ℕ) → a.field ≡ f → a.page ≡ p → 32 * f + p ≡ page
      same_page f p e g = omega (arith, is, e, g)

      end_at : (f p : ℕ) → 32 * f + p ≡ page → end f p ≡ 0o200 * page + 0o177
      end_at f p e = sym (page_end page f p (sym e))

      read_back : (q : ℕ) → q ≡ page → slice_index (slice_set counts page (n + 1)) q ≡ suc n
      read_back q e = rw e (get_or-set_same counts page (n + 1) 0 (omega (arith, size_counts, is, in_field, in_page)) ∙ omega arith)

      pool_at : {f p : ℕ} → a.field ≡ f → a.page ≡ p → pool_of (a ∷ asks) a.field a.page ≡ pool_of (a ∷ asks) f p
      pool_at e g = rw (e, g) refl

      apart_page : (f p : ℕ) → p < 32 → is_of f p a ≡ false → 32 * f + p ≡ page → ⊥
      apart_page f p p_small other same =
          let e : a.field ≡ f = omega (arith, same, is, p_small, in_page) in
          let g : a.page ≡ p = omega (arith, same, is, e) in
          absurd (cc (sym (of_self f p e g) ∙ other))
        where
          of_self : (f p : ℕ) → a.field ≡ f → a.page ≡ p → is_of f p a ≡ true
          of_self f p e g = rw (← e, ← g, same_number a.field, same_number a.page) refl

      one_page : (f p page k n m : ℕ) → k < m → m ≤ 0o200 → n < 0o200 → end f p - k ≡ 0o200 * page + 0o177 - n → 32 * f + p ≡ page
      one_page f p page k n m k_small m_small n_small same = omega arith

      size_at : (f p : ℕ) → f < 8 → p < 32 → slice_index counts (32 * f + p) ≤ 0o200
      size_at f p f_small p_small = subst (λ (m : ℕ). m ≤ 0o200) (ap length (sym (holds.pools f p f_small p_small)) ∙ values_length values (end f p) _) (holds.few f p f_small p_small)

      new_values : List ℕ
      new_values = slice_set values (0o200 * page + 0o177 - n) (item_of a)

      pools : (f p : ℕ) → f < 8 → p < 32 → values_below new_values (end f p) (slice_index (slice_set counts page (n + 1)) (32 * f + p)) ≡ pool_of (a ∷ asks) f p
      pools f p f_small p_small = by_page (is_of f p a) refl
        where
          by_page : (test : Bool) → is_of f p a ≡ test → values_below new_values (end f p) (slice_index (slice_set counts page (n + 1)) (32 * f + p)) ≡ pool_of (a ∷ asks) f p
          by_page true of =
              let e : 32 * f + p ≡ page = same_page f p (of_field f p a of) (of_page f p a of) in
              held_at new_values (end f p) (0o200 * page + 0o177) _ (suc n) (end_at f p e) (read_back (32 * f + p) e)
              ∙ values_more values (item_of a) (0o200 * page + 0o177) n (omega (arith, size_values, is, in_field, in_page)) (omega (arith, small))
              ∙ ap (λ (l : List ℕ). item_of a ∷ l) own ∙ sym (pool_own a asks (new_value none)) ∙ pool_at (of_field f p a of) (of_page f p a of)
          by_page false other =
              let e : 32 * f + p ≢ page = λ same. apart_page f p p_small other same in
              held_at new_values (end f p) (end f p) _ (slice_index counts (32 * f + p)) refl (get_or-set_other counts page (32 * f + p) (n + 1) 0 e)
              ∙ values_frame values (0o200 * page + 0o177 - n) (item_of a) (end f p) (slice_index counts (32 * f + p)) (λ k k_small same.
              e (one_page f p page k n (slice_index counts (32 * f + p)) k_small (size_at f p f_small p_small) small same))
              ∙ holds.pools f p f_small p_small ∙ sym (pool_other a asks f p other)

      few : (f p : ℕ) → f < 8 → p < 32 → count (a ∷ asks) f p ≤ 0o200
      few f p f_small p_small = by_page (is_of f p a) refl
        where
          by_page : (test : Bool) → is_of f p a ≡ test → count (a ∷ asks) f p ≤ 0o200
          by_page true of = subst (λ (l : List ℕ). length l ≤ 0o200) (sym (pool_own a asks (new_value none)) ∙ pool_at (of_field f p a of) (of_page f p a of)) (omega (arith, small, size))
          by_page false other = subst (λ (l : List ℕ). length l ≤ 0o200) (sym (pool_other a asks f p other)) (holds.few f p f_small p_small)

-- ## The value in a cell

value_of_rank : (values : List ℕ) (last n v : ℕ) → is_among (values_below values last n) v ≡ true → slice_index values (last - rank (values_below values last n) v) ≡ v
value_of_rank values last zero v among = absurd cc
value_of_rank values last (suc n) v among = by_test (value_of_rank values last n v) (nat_eq (slice_index values (last - n)) v) refl among
  where
    by_test : (is_among (values_below values last n) v ≡ true → slice_index values (last - rank (values_below values last n) v) ≡ v) → (test : Bool) → nat_eq (slice_index values (last - n)) v ≡ test
        → (test || is_among (values_below values last n) v) ≡ true → slice_index values (last - (if test then length (values_below values last n) else rank (values_below values last n) v)) ≡ v
    by_test hyp true same among = ap (λ (k : ℕ). slice_index values (last - k)) (values_length values last n) ∙ eqb-true _ v same
    by_test hyp false other among = hyp among

pub value_at : (values counts : List ℕ) (asks : List Ask) → HoldsValues values counts asks → (a : Ask) → IsAsked asks a → slice_index values (cell_in asks a) ≡ (item_of a)
value_at values counts asks holds a is =
    let core = holds.in_core a is in
    let pool = holds.pools a.field a.page core.0 core.1 in
    ap (λ (l : List ℕ). slice_index values (end a.field a.page - rank l (item_of a))) (sym pool)
    ∙ value_of_rank values (end a.field a.page) (slice_index counts (32 * a.field + a.page)) (item_of a) (ap (λ (l : List ℕ). is_among l (item_of a)) pool ∙ asked_among asks a is)
