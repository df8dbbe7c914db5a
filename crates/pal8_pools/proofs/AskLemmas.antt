-- Lists of different values, and the cells of asks.
use Rattle.std.proofs.Common.{◌≡◌, ℕ, ◌+◌, ◌-◌, ◌*◌, ◌<◌, ◌≤◌, ◌&&◌, ◌||◌, inl, inr, nat_eq, Bool, true, false, if◌then◌else◌, length, List, [], ◌∷◌, ◌++◌, refl, sym, ap, subst, ◌∙◌, arith, suc}
use Rattle.std.proofs.lemmas.Bool.{eqb-true, eqb-false}
use Rattle.std.proofs.lemmas.Bool.Decides.{nat_tests}
use Rattle.pal8_pools.specs.Asks.{Ask, IsAsked, is_among, is_of, distinct, items_of_page, rank, pool_of, count, cell_in, end, item_of}
use Rattle.pal8_pools.specs.Laws.{CellsStay, OneCellEach, PoolIsPageEnd, IsPoolCell}

pub same_number : (n : ℕ) → nat_eq n n ≡ true
same_number n = grind (arith, nat_tests)

-- ## Among

-- what the distinct list becomes by one more value
abbrev with_value : Bool → ℕ → List ℕ → List ℕ
with_value b v pool = if b then pool else v ∷ pool

among_head : (b : Bool) (v : ℕ) (pool : List ℕ) → is_among pool v ≡ b → is_among (with_value b v pool) v ≡ true
among_head true v pool is = is
among_head false v pool is = rw (same_number v) refl

or_true : (b : Bool) → (b || true) ≡ true
or_true true = refl
or_true false = refl

among_later : (b : Bool) (v w : ℕ) (pool : List ℕ) → is_among pool w ≡ true → is_among (with_value b v pool) w ≡ true
among_later true v w pool is = is
among_later false v w pool is = rw is (or_true (nat_eq v w))

-- an ask's value is in the pool of its page
pub asked_among : (asks : List Ask) (a : Ask) → IsAsked asks a → is_among (pool_of asks a.field a.page) (item_of a) ≡ true
asked_among [] a is = absurd is
asked_among (b ∷ older) a (inl same) = subst (λ (x : Ask). is_among (pool_of (b ∷ older) x.field x.page) (item_of x) ≡ true) same (own b older)
  where
    own : (b : Ask) (older : List Ask) → is_among (pool_of (b ∷ older) b.field b.page) (item_of b) ≡ true
    own b older = rw (same_number b.field, same_number b.page) (among_head (is_among (pool_of older b.field b.page) (item_of b)) (item_of b) (pool_of older b.field b.page) refl)
asked_among (b ∷ older) a (inr is) = by_page (is_of a.field a.page b) (asked_among older a is)
  where
    by_page : (test : Bool) → is_among (pool_of older a.field a.page) (item_of a) ≡ true
        → is_among (distinct (if test then item_of b ∷ items_of_page older a.field a.page else items_of_page older a.field a.page)) (item_of a) ≡ true
    by_page true is = among_later (is_among (pool_of older a.field a.page) (item_of b)) (item_of b) (item_of a) (pool_of older a.field a.page) is
    by_page false is = is

-- ## Ranks stay

rank_under : (b : Bool) (v w : ℕ) (pool : List ℕ) → is_among pool v ≡ b → is_among pool w ≡ true → rank (with_value b v pool) w ≡ rank pool w
rank_under true v w pool is among = refl
rank_under false v w pool is among = by_test (nat_eq v w) refl
  where
    by_test : (test : Bool) → nat_eq v w ≡ test → (if test then length pool else rank pool w) ≡ rank pool w
    by_test true same = absurd (cc (sym is ∙ ap (is_among pool) (eqb-true v w same) ∙ among))
    by_test false other = refl

-- an ask keeps its cell when one more is made
pub cell_stays : (b : Ask) (asks : List Ask) (a : Ask) → IsAsked asks a → cell_in (b ∷ asks) a ≡ cell_in asks a
cell_stays b asks a is = ap (λ (r : ℕ). end a.field a.page - r) (by_page (is_of a.field a.page b))
  where
    by_page : (test : Bool) → rank (distinct (if test then item_of b ∷ items_of_page asks a.field a.page else items_of_page asks a.field a.page)) (item_of a) ≡ rank (pool_of asks a.field a.page) (item_of a)
    by_page true = rank_under (is_among (pool_of asks a.field a.page) (item_of b)) (item_of b) (item_of a) (pool_of asks a.field a.page) refl (asked_among asks a is)
    by_page false = refl

pub asked_later : (later asks : List Ask) (a : Ask) → IsAsked asks a → IsAsked (later ++ asks) a
asked_later [] asks a is = is
asked_later (b ∷ later) asks a is = inr (asked_later later asks a is)

pub cells_stay : CellsStay
cells_stay [] asks a is = refl
cells_stay (b ∷ later) asks a is = cell_stays b (later ++ asks) a (asked_later later asks a is) ∙ cells_stay later asks a is

-- ## Ranks keep values apart

pub rank_is_below : (pool : List ℕ) (v : ℕ) → is_among pool v ≡ true → rank pool v < length pool
rank_is_below [] v among = absurd cc
rank_is_below (w ∷ older) v among = by_test (rank_is_below older v) (nat_eq w v) among
  where
    by_test : (is_among older v ≡ true → rank older v < length older) → (test : Bool) → (test || is_among older v) ≡ true → (if test then length older else rank older v) < suc (length older)
    by_test below true among = omega arith
    by_test below false among = omega (arith, below among)

pub rank_tells : (pool : List ℕ) (v u : ℕ) → is_among pool v ≡ true → is_among pool u ≡ true → rank pool v ≡ rank pool u → v ≡ u
rank_tells [] v u among also same = absurd cc
rank_tells (w ∷ older) v u among also same = by_tests (rank_tells older v u) (nat_eq w v) (nat_eq w u) refl refl among also same
  where
    by_tests : (is_among older v ≡ true → is_among older u ≡ true → rank older v ≡ rank older u → v ≡ u) → (x y : Bool) → nat_eq w v ≡ x → nat_eq w u ≡ y → (x || is_among older v) ≡ true → (y || is_among older u) ≡ true
        → (if x then length older else rank older v) ≡ (if y then length older else rank older u) → v ≡ u
    by_tests tells true true is it among also same = sym (eqb-true w v is) ∙ eqb-true w u it
    by_tests tells true false is it among also same = absurd (omega (arith, same, rank_is_below older u also))
    by_tests tells false true is it among also same = absurd (omega (arith, same, rank_is_below older v among))
    by_tests tells false false is it among also same = tells among also same

end_is : (f p : ℕ) → 127 ≤ end f p
end_is f p = omega arith

apart_below : (last n r s : ℕ) → 127 ≤ last → n ≤ 128 → r < n → s < n → last - r ≡ last - s → r ≡ s
apart_below last n r s low few a b same = omega arith

items_apart : (v s w t : ℕ) → v < 0o10000 → w < 0o10000 → v + 0o10000 * s ≡ w + 0o10000 * t → (v ≡ w) × (s ≡ t)
items_apart v s w t v_small w_small same = (omega (arith, v_small, w_small, same), omega (arith, v_small, w_small, same))

items_same : (v s w t : ℕ) → v ≡ w → s ≡ t → v + 0o10000 * s ≡ w + 0o10000 * t
items_same v s w t value stay = omega (arith, value, stay)

pub one_cell_each : OneCellEach
one_cell_each asks a b field page a_small b_small few is also = (
  (λ same. items_apart a.value a.stay b.value b.stay a_small b_small (rank_tells (pool_of asks a.field a.page) (item_of a) (item_of b) (asked_among asks a is) b_among
      (apart_below (end a.field a.page) (count asks a.field a.page) _ _ (end_is a.field a.page) few (rank_is_below _ (item_of a) (asked_among asks a is))
      (rank_is_below _ (item_of b) b_among) (same ∙ b_cell)))),
  (λ same. ap (λ (v : ℕ). end a.field a.page - rank (pool_of asks a.field a.page) v) (items_same a.value a.stay b.value b.stay same.0 same.1) ∙ sym b_cell),
)
  where
    b_among : is_among (pool_of asks a.field a.page) (item_of b) ≡ true
    b_among = rw (field, page) (asked_among asks b also)

    b_cell : cell_in asks b ≡ end a.field a.page - rank (pool_of asks a.field a.page) (item_of b)
    b_cell = rw (field, page) refl

-- ## Each rank has an ask

record IsRanked (asks : List Ask) (f p r : ℕ) : Type 0 where
  ask : Ask
  is_asked : IsAsked asks ask
  in_field : ask.field ≡ f
  in_page : ask.page ≡ p
  has_rank : rank (pool_of asks f p) (item_of ask) ≡ r

and_left : (a b : Bool) → (a && b) ≡ true → a ≡ true
and_left true b is = refl
and_left false b is = absurd cc

and_right : (a b : Bool) → (a && b) ≡ true → b ≡ true
and_right true b is = is
and_right false b is = absurd cc

pub of_field : (f p : ℕ) (a : Ask) → is_of f p a ≡ true → a.field ≡ f
of_field f p a is = eqb-true a.field f (and_left (nat_eq a.field f) (nat_eq a.page p) is)

pub of_page : (f p : ℕ) (a : Ask) → is_of f p a ≡ true → a.page ≡ p
of_page f p a is = eqb-true a.page p (and_right (nat_eq a.field f) (nat_eq a.page p) is)

ranked : (asks : List Ask) (f p r : ℕ) → r < count asks f p → IsRanked asks f p r
ranked [] f p r small = absurd (omega arith)
ranked (b ∷ older) f p r small = by_page (ranked older f p) (is_of f p b) refl small
  where
    -- the rank in the pool that this test makes
    older_one : (pool : List ℕ) → pool ≡ pool_of (b ∷ older) f p → IsRanked older f p r → ((a : Ask) → IsAsked older a → a.field ≡ f → a.page ≡ p → rank pool (item_of a) ≡ rank (pool_of older f p) (item_of a)) → IsRanked (b ∷ older) f p r
    older_one pool is it stays = record {
      ask = it.ask;
      is_asked = inr it.is_asked;
      in_field = it.in_field;
      in_page = it.in_page;
      has_rank = ap (λ (l : List ℕ). rank l (item_of it.ask)) (sym is) ∙ stays it.ask it.is_asked it.in_field it.in_page ∙ it.has_rank;
    }

    among : (a : Ask) → IsAsked older a → a.field ≡ f → a.page ≡ p → is_among (pool_of older f p) (item_of a) ≡ true
    among a is field page = rw (← field, ← page) (asked_among older a is)

    by_value : ((r : ℕ) → r < count older f p → IsRanked older f p r) → (test : Bool) → is_among (pool_of older f p) (item_of b) ≡ test → with_value test (item_of b) (pool_of older f p) ≡ pool_of (b ∷ older) f p → b.field ≡ f → b.page ≡ p
        → r < length (with_value test (item_of b) (pool_of older f p)) → IsRanked (b ∷ older) f p r
    by_value hyp true is pool field page small = older_one (pool_of older f p) pool (hyp r small) (λ a _ _ _. refl)
    by_value hyp false is pool field page small = by_last (nat_eq r (length (pool_of older f p))) refl
      where
        by_last : (test : Bool) → nat_eq r (length (pool_of older f p)) ≡ test → IsRanked (b ∷ older) f p r
        by_last true last = record {
          ask = b;
          is_asked = inl refl;
          in_field = field;
          in_page = page;
          has_rank = ap (λ (l : List ℕ). rank l (item_of b)) (sym pool) ∙ rw (same_number (item_of b)) (sym (eqb-true r _ last));
        }
        by_last false not_last = older_one (item_of b ∷ pool_of older f p) pool (hyp r (below r _ small (eqb-false r _ not_last)))
            (λ a is field page. rank_under false (item_of b) (item_of a) (pool_of older f p) is_new (among a is field page))
          where
            is_new : is_among (pool_of older f p) (item_of b) ≡ false
            is_new = is

            below : (x y : ℕ) → x < suc y → (x ≡ y → ⊥) → x < y
            below x y small other = omega arith

    by_page : ((r : ℕ) → r < count older f p → IsRanked older f p r) → (test : Bool) → is_of f p b ≡ test → r < length (distinct (if test then item_of b ∷ items_of_page older f p else items_of_page older f p)) → IsRanked (b ∷ older) f p r
    by_page hyp true of small = by_value hyp (is_among (pool_of older f p) (item_of b)) refl (rw of refl) (of_field f p b of) (of_page f p b of) small
    by_page hyp false of small = older_one (pool_of older f p) (rw of refl) (hyp r small) (λ a _ _ _. refl)

in_page_end : (last n r : ℕ) → r < n → (last < (last - r) + n) × (last - r ≤ last)
in_page_end last n r small = (omega arith, omega arith)

pub pool_is_page_end : PoolIsPageEnd
pool_is_page_end asks f p c = (
  (λ is. subst (λ (x : ℕ). (end f p < x + count asks f p) × (x ≤ end f p)) (cell_at is ∙ is.has_cell)
      (in_page_end (end f p) (count asks f p) (rank (pool_of asks f p) (item_of is.ask)) (rank_is_below _ (item_of is.ask) (rw (← is.in_field, ← is.in_page) (asked_among asks is.ask is.is_asked))))),
  (λ is. let it = ranked asks f p (end f p - c) (omega (arith, is.0, is.1)) in record {
    ask = it.ask;
    is_asked = it.is_asked;
    in_field = it.in_field;
    in_page = it.in_page;
    has_cell = rw (it.in_field, it.in_page, it.has_rank) (back (end f p) c is.1);
  }),
)
  where
    cell_at : (is : IsPoolCell asks f p c) → end f p - rank (pool_of asks f p) (item_of is.ask) ≡ cell_in asks is.ask
    cell_at is = rw (is.in_field, is.in_page) refl

    back : (last c : ℕ) → c ≤ last → last - (last - c) ≡ c
    back last c small = omega arith
