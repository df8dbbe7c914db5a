-- The counts of cells, where each step adds 1 to that of one cell or to none, whatever the machine is.
use Rattle.std.proofs.Common.{◌≡◌, ℕ, zero, suc, ◌+◌, ◌<◌, ◌≤◌, inl, inr, Bool, true, false, true≢false, nat_eq, ◌&&◌, if◌then◌else◌, List, length, slice_index_or, slice_set, length-set, refl, ap, sym, subst, ◌∙◌, arith}
use Rattle.std.proofs.lemmas.Bool.{and_from, and_left, and_right, cases_eq, cases_lt, eq-eqb, ne_eqb}
use Rattle.std.proofs.lemmas.List.{get_or-set_same, get_or-set_other}
use Rattle.std.proofs.Math.ListN.{get_or-eq_default}
use Rattle.word12.specs.declared.sizes.TheConstants.{CORE}
use Rattle.profile8.specs.Counts.{AreCountsOf, AreZero}
use Rattle.profile8.specs.CountSteps.{counts_with}

one_at_most : (b : Bool) → (if b then 1 else 0) ≤ 1
one_at_most true = omega arith
one_at_most false = omega arith

-- ## One step

-- a step that fetches from the cell
pub adds-one : (old new here cell : ℕ) (fetch : Bool) → new ≡ old + (if fetch && nat_eq here cell then 1 else 0) → fetch ≡ true → here ≡ cell → new ≡ old + 1
adds-one old new here cell fetch next fetches same =
    next ∙ ap (λ (b : Bool). old + (if b then 1 else 0)) (and_from fetch (nat_eq here cell) fetches (eq-eqb _ _ same))

adds-none : (old new : ℕ) (b : Bool) → new ≡ old + (if b then 1 else 0) → b ≡ false → new ≡ old
adds-none old new true next is = absurd (true≢false is)
adds-none old new false next is = omega (arith, next)

-- one that fetches from another
pub adds-other : (old new here cell : ℕ) (fetch : Bool) → new ≡ old + (if fetch && nat_eq here cell then 1 else 0) → (here ≡ cell → ⊥) → new ≡ old
adds-other old new here cell fetch next apart = adds-none old new (fetch && nat_eq here cell) next (and_right fetch (nat_eq here cell) (ne_eqb _ _ apart))

-- one that doesn't fetch
pub adds-still : (old new here cell : ℕ) (fetch : Bool) → new ≡ old + (if fetch && nat_eq here cell then 1 else 0) → fetch ≡ false → new ≡ old
adds-still old new here cell fetch next none = adds-none old new (fetch && nat_eq here cell) next (and_left fetch (nat_eq here cell) none)

-- ## Steps one after another

-- the count of a cell by steps, each of which adds 1 or nothing
pub record Counts (count : ℕ → ℕ) (adds : ℕ → Bool) : Type 0 where
  pub none : count 0 ≡ 0
  pub next : (k : ℕ) → count (k + 1) ≡ count k + (if adds k then 1 else 0)

-- it is no more than the steps
pub count-most : (count : ℕ → ℕ) (adds : ℕ → Bool) (k : ℕ) → Counts count adds → count k ≤ k
count-most count adds zero is = omega (arith, is.none)
count-most count adds (suc k) is =
    let e : suc k ≡ k + 1 = omega arith in
    subst (λ n. count n ≤ n) (sym e) (omega (arith, count-most count adds k is, is.next k, one_at_most (adds k)))

-- those of more steps are added to it
pub count-sum : (one other : ℕ → ℕ) (adds more : ℕ → Bool) (a b : ℕ) → Counts one adds → Counts other more → ((k : ℕ) → adds (a + k) ≡ more k) → one (a + b) ≡ one a + other b
count-sum one other adds more a zero is are same =
    let e : a + 0 ≡ a = omega arith in
    let f : one (a + 0) ≡ one a = ap one e in
    omega (arith, f, are.none)
count-sum one other adds more a (suc b) is are same =
    let e : a + suc b ≡ a + b + 1 = omega arith in
    let f : suc b ≡ b + 1 = omega arith in
    let left : one (a + suc b) ≡ one (a + b + 1) = ap one e in
    let right : other (suc b) ≡ other (b + 1) = ap other f in
    let last : one (a + b + 1) ≡ one (a + b) + (if more b then 1 else 0) = is.next (a + b) ∙ ap (λ (t : Bool). one (a + b) + (if t then 1 else 0)) (same b) in
    omega (arith, left, right, last, are.next b, count-sum one other adds more a b is are same)

-- ## The counts of all cells

-- no count is more than the steps
pub room-left : (count_of : ℕ → ℕ) (k : ℕ) (counts : List ℕ) (cell : ℕ) → count_of cell ≤ k → AreCountsOf count_of counts → slice_index_or counts cell 0 ≤ k
room-left count_of k counts cell most are = elim (cases_lt cell CORE) [
  | inl within ↦ let is = are.cells cell within in omega (arith, most, is)
  | inr beyond ↦
      let none : slice_index_or counts cell 0 ≡ 0 = get_or-eq_default counts 0 (omega (arith, beyond, are.size)) in
      omega (arith, none)
]

pub none-counted : (count_of : ℕ → ℕ) (counts : List ℕ) → ((cell : ℕ) → count_of cell ≡ 0) → length counts ≡ CORE → AreZero counts → AreCountsOf count_of counts
none-counted count_of counts none size zeros = record { size = size; cells = λ cell below. zeros cell ∙ sym (none cell) }

pub counts-at : (old new : ℕ → ℕ) (counts : List ℕ) (here : ℕ) (fetch : Bool)
    → ((cell : ℕ) → new cell ≡ old cell + (if fetch && nat_eq here cell then 1 else 0)) → AreCountsOf old counts → here < CORE → AreCountsOf new (counts_with counts here fetch)
counts-at old new counts here true next are within = record {
  size = length-set counts here (slice_index_or counts here 0 + 1) ∙ are.size;
  cells = λ cell below. elim (cases_eq cell here) [
    | inl same ↦
        let inside : here < length counts = subst (λ n. here < n) (sym are.size) within in
        ap (λ c. slice_index_or (slice_set counts here (slice_index_or counts here 0 + 1)) c 0) same
        ∙ get_or-set_same counts here (slice_index_or counts here 0 + 1) 0 inside
        ∙ ap (λ n. n + 1) (are.cells here within)
        ∙ sym (adds-one (old here) (new here) here here true (next here) refl refl)
        ∙ ap new (sym same)
    | inr apart ↦
        get_or-set_other counts here cell (slice_index_or counts here 0 + 1) 0 apart
        ∙ are.cells cell below
        ∙ sym (adds-other (old cell) (new cell) here cell true (next cell) (λ same. apart (sym same)))
  ];
}
counts-at old new counts here false next are within = record {
  size = are.size;
  cells = λ cell below. are.cells cell below ∙ sym (adds-still (old cell) (new cell) here cell false (next cell) refl);
}
