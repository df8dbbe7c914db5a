-- The cells that were fetched, in their order.
use Rattle.std.proofs.Common.{◌≡◌, ℕ, zero, suc, ◌+◌, ◌-◌, ◌^◌, ◌<◌, ◌≤◌, ◌⊎◌, inl, inr, Bool, true, false, cond, nat_eq, if◌then◌else◌, List, [], ◌∷◌, ◌++◌, length, slice_index_or, add-one, nat_cmp, is_lt, Less, Equal, Greater, refl, ap, sym, subst, ◌∙◌, arith, append-nil}
use Rattle.std.proofs.lemmas.Bool.{cases_eq, cases_lt, le-ltb, lt-ltb}
use Rattle.std.proofs.lemmas.List.Sorted.{IsNonDecreasingBy-from_sort, IsNonDecreasingBy-push, IsNonDecreasingBy-short, ties_still_rise}
use Rattle.std.proofs.Math.ListN.{get_or-eq_default}
use Rattle.std.specs.List.Sorted.{IsNonDecreasingBy, IsSortedByKey}
use Rattle.word12.specs.declared.sizes.TheConstants.{CORE}
use Rattle.flow8.specs.Flow.{IsAmong}
use Rattle.flow8.proofs.FlowLemmas.{among_left, among_parts, among_right}
use Rattle.profile8.specs.Profile.{AreFetched, AreInOrder, StandsBefore, count_of}
use Rattle.profile8.specs.CellSteps.{AreSorted, cells_below, if_fetched, rank}
use Rattle.profile8.proofs.ListLemmas.{among_at, among-tally, not_among-tally, tally, tally-among, tally-append, tally-less, tally-none, tally-other, tally-permutation, tally-same}

-- ## The cells below a number

pub below-none : (counts : List ℕ) → cells_below counts 0 ≡ []
unfolding cells_below
below-none counts = refl

pub below-next : (counts : List ℕ) (n : ℕ) → cells_below counts (n + 1) ≡ cells_below counts n ++ if_fetched counts n
unfolding cells_below
below-next counts n = rw add-one refl

below-suc : (counts : List ℕ) (n : ℕ) → cells_below counts (suc n) ≡ cells_below counts n ++ if_fetched counts n
unfolding cells_below
below-suc counts n = refl

-- a cell that is there alone, or not
alone_or_not : (counts : List ℕ) (n : ℕ)
    → (if_fetched counts n ≡ n ∷ []) × (0 < count_of counts n) ⊎ (if_fetched counts n ≡ []) × (count_of counts n ≡ 0)
alone_or_not counts n = elim (cases_lt 0 (count_of counts n)) [
  | inl some ↦ inl (ap (λ (b : Bool). if b then n ∷ [] else []) (lt-ltb 0 (count_of counts n) some), some)
  | inr none ↦ inr (ap (λ (b : Bool). if b then n ∷ [] else []) (le-ltb 0 (count_of counts n) none), omega (arith, none))
]

-- Cells below n that were fetched.
record AreBelow (counts : List ℕ) (n : ℕ) (xs : List ℕ) : Type 0 where
  sound : (cell : ℕ) → IsAmong cell xs → (cell < n) × (0 < count_of counts cell)
  all : (cell : ℕ) → cell < n → 0 < count_of counts cell → IsAmong cell xs
  once : (cell : ℕ) → tally cell xs ≤ 1
  rising : IsNonDecreasingBy (λ x. x) xs

one_more : (counts : List ℕ) (n : ℕ) (xs : List ℕ) → AreBelow counts n xs → 0 < count_of counts n → AreBelow counts (suc n) (xs ++ n ∷ [])
one_more counts n xs below some = record {
  sound = λ cell is. elim (among_parts cell xs (n ∷ []) is) [
    | inl before ↦ let s = below.sound cell before in (omega (arith, s.0), s.1)
    | inr last ↦ elim last [
      | inl same ↦ (omega (arith, same), subst (λ c. 0 < count_of counts c) (sym same) some)
      | inr never ↦ absurd never
    ]
  ];
  all = λ cell under fetched. elim (cases_eq cell n) [
    | inl same ↦ among_right cell xs (n ∷ []) (inl same)
    | inr apart ↦ among_left cell xs (n ∷ []) (below.all cell (omega (arith, under, apart)) fetched)
  ];
  once = λ cell. elim (cases_eq n cell) [
    | inl same ↦
        let none = not_among-tally cell xs (λ is. let s = below.sound cell is in omega (arith, s.0, same)) in
        omega (arith, tally-append cell xs (n ∷ []), tally-same cell n [] same, tally-none cell, none)
    | inr apart ↦
        let before = below.once cell in
        omega (arith, tally-append cell xs (n ∷ []), tally-other cell n [] apart, tally-none cell, before)
  ];
  rising = IsNonDecreasingBy-push (λ x. x) xs n below.rising (λ d some.
      let last = below.sound (slice_index_or xs (length xs - 1) d) (among_at xs (length xs - 1) d (omega (arith, some))) in
      omega (arith, last.0));
}

none_more : (counts : List ℕ) (n : ℕ) (xs : List ℕ) → AreBelow counts n xs → count_of counts n ≡ 0 → AreBelow counts (suc n) xs
none_more counts n xs below none = record {
  sound = λ cell is. let s = below.sound cell is in (omega (arith, s.0), s.1);
  all = λ cell under fetched. elim (cases_eq cell n) [
    | inl same ↦ let e = ap (λ c. count_of counts c) same in absurd (omega (arith, fetched, none, e))
    | inr apart ↦ below.all cell (omega (arith, under, apart)) fetched
  ];
  once = below.once;
  rising = below.rising;
}

are_below : (counts : List ℕ) (n : ℕ) → AreBelow counts n (cells_below counts n)
are_below counts zero = rw below-none (record {
  sound = λ cell is. absurd is;
  all = λ cell under fetched. absurd (omega (arith, under));
  once = λ cell. omega (arith, tally-none cell);
  rising = IsNonDecreasingBy-short (λ x. x) [] (omega arith);
})
are_below counts (suc n) = elim (alone_or_not counts n) [
  | inl some ↦ subst (λ xs. AreBelow counts (suc n) xs) (sym (below-suc counts n ∙ ap (λ l. cells_below counts n ++ l) some.0))
      (one_more counts n (cells_below counts n) (are_below counts n) some.1)
  | inr none ↦
      let is = below-suc counts n ∙ ap (λ l. cells_below counts n ++ l) none.0 ∙ append-nil (cells_below counts n) in
      subst (λ xs. AreBelow counts (suc n) xs) (sym is)
      (none_more counts n (cells_below counts n) (are_below counts n) none.1)
]

-- ## In order

not_lt : (a b : ℕ) → a ≤ b → is_lt (nat_cmp b a) ≡ false
not_lt a b le = ap (λ (x : Bool). is_lt (cond x Less (cond (nat_eq b a) Equal Greater))) (le-ltb b a le) ∙ rest (nat_eq b a)
  where
    rest : (x : Bool) → is_lt (cond x Equal Greater) ≡ false
    rest true = refl
    rest false = refl

sorted_from : (xs : List ℕ) → IsNonDecreasingBy (λ x. x) xs → IsSortedByKey (λ x. x) nat_cmp xs
sorted_from xs rising = λ k d _ within. not_lt (slice_index_or xs k d) (slice_index_or xs (k + 1) d) (rising k (k + 1) d (omega arith) within)

-- a cell was fetched more often than another, or as often and is no higher
abbrev IsNoLater : List ℕ → ℕ → ℕ → Type 0
IsNoLater counts a b = (count_of counts b < count_of counts a) ⊎ (count_of counts a ≡ count_of counts b) × (a ≤ b)

-- no count is past the greatest number of 64 bits
abbrev pub AreShort : List ℕ → Type 0
AreShort counts = (cell : ℕ) → count_of counts cell < 2 ^ 64

no_later : (counts : List ℕ) (a b : ℕ) → AreShort counts → rank counts a ≤ rank counts b
    → (rank counts a ≡ rank counts b → a ≤ b) → IsNoLater counts a b
no_later counts a b short le ties = elim (cases_lt (count_of counts b) (count_of counts a)) [
  | inl more ↦ inl more
  | inr fewer ↦
      let same : count_of counts a ≡ count_of counts b = omega (arith, short a, short b, le, fewer) in
      inr (same, ties (ap (λ n. 2 ^ 64 - 1 - n) same))
]

stands_before : (counts : List ℕ) (a b : ℕ) → IsNoLater counts a b → (a ≡ b → ⊥) → StandsBefore counts a b
stands_before counts a b (inl more) apart = inl more
stands_before counts a b (inr same) apart = inr (same.0, omega (arith, same.1, apart))

-- cells that are no later than those after them, and are there once
in_order : (counts xs : List ℕ) → ((k d : ℕ) → suc k < length xs → IsNoLater counts (slice_index_or xs k d) (slice_index_or xs (suc k) d))
    → ((cell : ℕ) → tally cell xs ≤ 1) → AreInOrder counts xs
in_order counts [] steps once = tt
in_order counts (x ∷ []) steps once = tt
in_order counts (x ∷ y ∷ ys) steps once =
    let others =
    in_order counts (y ∷ ys) (λ k d within. steps (suc k) d (omega (arith, within)))
    (λ cell. omega (arith, once cell, tally-less cell x (y ∷ ys))) in
    (stands_before counts x y (steps 0 0 (omega arith)) apart, others)
  where
    apart : x ≡ y → ⊥
    apart same = omega (arith, once y, tally-same y x (y ∷ ys) same, tally-same y y ys refl)

-- ## What was fetched

pub fetched : (counts old new : List ℕ) → length counts ≡ CORE → AreShort counts → old ≡ cells_below counts CORE → AreSorted counts old new
    → AreFetched counts new
fetched counts old new size short is sorted = record {
  all = λ cell. (
    λ among. (below.sound cell (among-tally cell old (omega (arith, tally-among cell new among, tallies cell)))).1,
    λ some. among-tally cell new (omega (arith, tally-among cell old (below.all cell (inside cell some) some), tallies cell)),
  );
  order = in_order counts new steps (λ cell. omega (arith, tallies cell, below.once cell));
}
  where
    below : AreBelow counts CORE old
    below = subst (λ l. AreBelow counts CORE l) (sym is) (are_below counts CORE)

    tallies : (cell : ℕ) → tally cell new ≡ tally cell old
    tallies cell = tally-permutation cell old new sorted.permutation

    inside : (cell : ℕ) → 0 < count_of counts cell → cell < CORE
    inside cell some = elim (cases_lt cell CORE) [
      | inl within ↦ within
      | inr beyond ↦
          let none : count_of counts cell ≡ 0 = get_or-eq_default counts 0 (omega (arith, beyond, size)) in
          absurd (omega (arith, none, some))
    ]

    steps : (k d : ℕ) → suc k < length new → IsNoLater counts (slice_index_or new k d) (slice_index_or new (suc k) d)
    steps k d within =
        let e : k + 1 ≡ suc k = omega arith in
        subst (λ j. IsNoLater counts (slice_index_or new k d) (slice_index_or new j d)) e
        (no_later counts (slice_index_or new k d) (slice_index_or new (k + 1) d) short
        (IsNonDecreasingBy-from_sort (rank counts) new sorted.sorted k (k + 1) d (omega arith) (omega (arith, within)))
        (ties_still_rise (λ x. x) (rank counts) old new (sorted_from old below.rising) sorted.stable k d (omega (arith, within))))
