-- Counts of the references that name the first cells of subroutines.
use Rattle.std.proofs.Common.{◌≡◌, ◌≢◌, inl, inr, ℕ, suc, ◌+◌, ◌/◌, ◌%◌, ◌<◌, min, Bool, true, false, nat_eq, ◌&&◌, not, if◌then◌else◌, List, length, replicate, Option, Some, None, slice_index, slice_index_or, get_or-set_other, get_or-set_same, refl, ap, sym, subst, ◌∙◌, arith}
use Rattle.std.proofs.lemmas.Bool.{and_right, eq-eqb, eqb-true}
use Rattle.std.proofs.lemmas.Bool.Decides.{eqb_tells}
use Rattle.std.proofs.lemmas.List.{get_or-replicate, length-set}
use Rattle.word12.specs.declared.sizes.TheConstants.{FIELD, PAGE}
use Rattle.flow8.specs.Exits.{referred_cell}
use Rattle.source_notes.specs.Referrers.{is_reference, names_cell}
use Rattle.pointer_flow.specs.Programs.{count_below, is_auto_index}
use Rattle.pointer_flow.specs.Returns.{is_increment, is_reference_through, names_first}
use Rattle.pointer_flow.specs.Steps.{CountsOne, cell_in_page, counts_after, moves_first, takes_by_first}
use Rattle.pointer_flow.proofs.CountLemmas.{count_more, count_none, count_nothing, count_same}

-- ## Which cell is named

in_page : (reference same : Bool) (cell named : ℕ) → (if reference && same then Some cell else None) ≡ Some named
    → (reference ≡ true) × ((same ≡ true) × (cell ≡ named))
in_page true true cell named is = (refl, (refl, cc))
in_page true false cell named is = absurd cc
in_page false true cell named is = absurd cc
in_page false false cell named is = absurd cc

not_in_page : (reference same : Bool) (cell : ℕ) → (if reference && same then Some cell else None) ≡ None → (reference && same) ≡ false
not_in_page true true cell is = absurd cc
not_in_page true false cell is = refl
not_in_page false true cell is = refl
not_in_page false false cell is = refl

pub names_named : (words : ℕ → Option ℕ) (first cell word named : ℕ) → words cell ≡ Some word → cell_in_page cell word ≡ Some named
    → names_first words first cell ≡ nat_eq named first
names_named words first cell word named given is =
    ap (λ o. nat_eq (cell / PAGE) (first / PAGE) && names_cell cell o first) given
    ∙ ap (λ b. nat_eq (cell / PAGE) (first / PAGE) && (b && nat_eq (referred_cell cell word) first)) parts.0
    ∙ ap (λ c. nat_eq (cell / PAGE) (first / PAGE) && nat_eq c first) parts.1.1
    ∙ elim (eqb_tells named first) [
      | inl same ↦ ap (λ b. nat_eq (cell / PAGE) (first / PAGE) && b) same.0 ∙ ap (λ b. b && true) (page same.1) ∙ sym same.0
      | inr apart ↦ ap (λ b. nat_eq (cell / PAGE) (first / PAGE) && b) apart.0 ∙ and_right (nat_eq (cell / PAGE) (first / PAGE)) false refl ∙ sym apart.0
    ]
  where
    parts : (is_reference (cell % FIELD) word ≡ true) × ((nat_eq (referred_cell cell word / PAGE) (cell / PAGE) ≡ true) × (referred_cell cell word ≡ named))
    parts = in_page (is_reference (cell % FIELD) word) (nat_eq (referred_cell cell word / PAGE) (cell / PAGE)) (referred_cell cell word) named is

    page : named ≡ first → nat_eq (cell / PAGE) (first / PAGE) ≡ true
    page same = eq-eqb (cell / PAGE) (first / PAGE)
        (sym (eqb-true (referred_cell cell word / PAGE) (cell / PAGE) parts.1.0) ∙ ap (λ c. c / PAGE) (parts.1.1 ∙ same))

pub names_other : (words : ℕ → Option ℕ) (first cell word : ℕ) → words cell ≡ Some word → cell_in_page cell word ≡ None
    → names_first words first cell ≡ false
names_other words first cell word given is =
    ap (λ o. nat_eq (cell / PAGE) (first / PAGE) && names_cell cell o first) given
    ∙ elim (eqb_tells (referred_cell cell word) first) [
      | inl same ↦
          ap (λ b. nat_eq (cell / PAGE) (first / PAGE) && (is_reference (cell % FIELD) word && b)) same.0
          ∙ ap (λ c. nat_eq (cell / PAGE) (c / PAGE) && (is_reference (cell % FIELD) word && true)) (sym same.1)
          ∙ turned (nat_eq (cell / PAGE) (referred_cell cell word / PAGE)) (is_reference (cell % FIELD) word) other
      | inr apart ↦
          ap (λ b. nat_eq (cell / PAGE) (first / PAGE) && (is_reference (cell % FIELD) word && b)) apart.0
          ∙ ap (λ b. nat_eq (cell / PAGE) (first / PAGE) && b) (and_right (is_reference (cell % FIELD) word) false refl)
          ∙ and_right (nat_eq (cell / PAGE) (first / PAGE)) false refl
    ]
  where
    flipped : (a b : ℕ) → nat_eq a b ≡ nat_eq b a
    flipped a b = elim (eqb_tells a b) [
      | inl same ↦ same.0 ∙ sym (eq-eqb b a (sym same.1))
      | inr apart ↦ elim (eqb_tells b a) [ inl same ↦ absurd (apart.1 (sym same.1)) | inr far ↦ apart.0 ∙ sym far.0 ]
    ]

    other : (is_reference (cell % FIELD) word && nat_eq (cell / PAGE) (referred_cell cell word / PAGE)) ≡ false
    other =
        ap (λ b. is_reference (cell % FIELD) word && b) (flipped (cell / PAGE) (referred_cell cell word / PAGE))
        ∙ not_in_page (is_reference (cell % FIELD) word) (nat_eq (referred_cell cell word / PAGE) (cell / PAGE)) (referred_cell cell word) is

    turned : (page reference : Bool) → (reference && page) ≡ false → (page && (reference && true)) ≡ false
    turned true true never = never
    turned true false never = refl
    turned false true never = refl
    turned false false never = refl

pub names_none : (words : ℕ → Option ℕ) (first cell : ℕ) → words cell ≡ None → names_first words first cell ≡ false
names_none words first cell given =
    ap (λ o. nat_eq (cell / PAGE) (first / PAGE) && names_cell cell o first) given ∙ and_right (nat_eq (cell / PAGE) (first / PAGE)) false refl

-- ## One more

-- nothing is counted
pub counts_none : (words : ℕ → Option ℕ) (first cell : ℕ) (is : Bool) (count : ℕ) → names_first words first cell ≡ false
    → CountsOne (names_first words first cell && is) count count
counts_none words first cell is count never = subst (λ b. CountsOne (b && is) count count) (sym never) refl

-- the cell that is named is counted, if it counts
pub counts_named : (counts : List ℕ) (named first : ℕ) (is : ℕ → Bool) (flag : Bool) → flag ≡ is named → named < length counts
    → CountsOne (nat_eq named first && is first) (slice_index_or counts first 0) (slice_index_or (counts_after counts named flag) first 0)
counts_named counts named first is flag same inside = elim (eqb_tells named first) [
  | inl here ↦
      subst (λ b. CountsOne (b && is first) (slice_index_or counts first 0) (slice_index_or (counts_after counts named flag) first 0)) (sym here.0)
      (subst (λ b. CountsOne b (slice_index_or counts first 0) (slice_index_or (counts_after counts named flag) first 0)) (same ∙ ap is here.1)
      (subst (λ n. CountsOne flag (slice_index_or counts n 0) (slice_index_or (counts_after counts named flag) n 0)) here.1 (at flag)))
  | inr apart ↦
      subst (λ b. CountsOne (b && is first) (slice_index_or counts first 0) (slice_index_or (counts_after counts named flag) first 0)) (sym apart.0)
      (elsewhere flag (λ is. apart.1 (sym is)))
]
  where
    at : (flag : Bool) → CountsOne flag (slice_index_or counts named 0) (slice_index_or (counts_after counts named flag) named 0)
    at true = get_or-set_same counts named (min 4 (slice_index counts named + 1)) 0 inside
    at false = refl

    elsewhere : (flag : Bool) → first ≢ named → slice_index_or (counts_after counts named flag) first 0 ≡ slice_index_or counts first 0
    elsewhere true far = get_or-set_other counts named first (min 4 (slice_index counts named + 1)) 0 far
    elsewhere false far = refl

pub moves_counted : (words : ℕ → Option ℕ) (first cell word named : ℕ) (counts : List ℕ) (flag : Bool) → words cell ≡ Some word
    → cell_in_page cell word ≡ Some named → flag ≡ is_increment (Some word) → named < length counts
    → CountsOne (moves_first words first cell) (slice_index_or counts first 0) (slice_index_or (counts_after counts named flag) first 0)
moves_counted words first cell word named counts flag given is same inside =
    subst (λ b. CountsOne (b && is_increment (words cell)) (slice_index_or counts first 0) (slice_index_or (counts_after counts named flag) first 0))
    (sym (names_named words first cell word named given is))
    (counts_named counts named first (λ _. is_increment (words cell)) flag (same ∙ ap is_increment (sym given)) inside)

pub takes_counted : (words : ℕ → Option ℕ) (first cell word named : ℕ) (counts : List ℕ) (flag : Bool) → words cell ≡ Some word
    → cell_in_page cell word ≡ Some named → flag ≡ (is_reference_through (Some word) && not (is_auto_index named)) → named < length counts
    → CountsOne (takes_by_first words first cell) (slice_index_or counts first 0) (slice_index_or (counts_after counts named flag) first 0)
takes_counted words first cell word named counts flag given is same inside =
    subst (λ b. CountsOne (b && (is_reference_through (words cell) && not (is_auto_index first))) (slice_index_or counts first 0)
    (slice_index_or (counts_after counts named flag) first 0)) (sym (names_named words first cell word named given is))
    (counts_named counts named first (λ n. is_reference_through (words cell) && not (is_auto_index n)) flag
    (same ∙ ap (λ o. is_reference_through o && not (is_auto_index named)) (sym given)) inside)

pub kept_size : (counts : List ℕ) (cell : ℕ) (flag : Bool) → length (counts_after counts cell flag) ≡ length counts
kept_size counts cell true = length-set counts cell (min 4 (slice_index counts cell + 1))
kept_size counts cell false = refl

-- ## All cells

pub counted_none : (counts : List ℕ) (count first : ℕ) (is : ℕ → Bool) → counts ≡ replicate count 0 → first < count
    → slice_index_or counts first 0 ≡ min 4 (count_below is 0)
counted_none counts count first is nothing inside =
    ap (λ l. slice_index_or l first 0) nothing ∙ get_or-replicate count first 0 0 inside ∙ ap (λ n. min 4 n) (sym (count_none is))

pub counted_more : (is : ℕ → Bool) (number old new : ℕ) → old ≡ min 4 (count_below is number) → CountsOne (is number) old new
    → new ≡ min 4 (count_below is (suc number))
counted_more is number old new before one = by (is number) one ∙ ap (λ n. min 4 n) (sym (count_more is number))
  where
    by : (flag : Bool) → CountsOne flag old new → new ≡ min 4 (count_below is number + (if flag then 1 else 0))
    by true one = omega (arith, one, before)
    by false one = omega (arith, one, before)

pub counted_step : (is : ℕ → Bool) (number at old new : ℕ) → at ≡ number → old ≡ min 4 (count_below is number) → CountsOne (is at) old new
    → new ≡ min 4 (count_below is (number + 1))
counted_step is number at old new here before one =
    counted_more is number old new before (subst (λ n. CountsOne (is n) old new) here one) ∙ ap (λ n. min 4 (count_below is n)) next
  where
    next : suc number ≡ number + 1
    next = omega arith

pub arguments_counted : (words : ℕ → Option ℕ) (first number : ℕ) (auto : Bool)
    → count_below (λ cell. names_first words first cell && (is_reference_through (words cell) && not auto)) number
    ≡ (if auto then 0 else count_below (λ cell. names_first words first cell && is_reference_through (words cell)) number)
arguments_counted words first number true =
    count_nothing (λ cell. names_first words first cell && (is_reference_through (words cell) && false)) number
    (λ k. ap (λ b. names_first words first k && b) (and_right (is_reference_through (words k)) false refl) ∙ and_right (names_first words first k) false refl)
arguments_counted words first number false =
    count_same' number
  where
    whole : (b : Bool) → (b && true) ≡ b
    whole true = refl
    whole false = refl

    count_same' : (number : ℕ) → count_below (λ cell. names_first words first cell && (is_reference_through (words cell) && true)) number
        ≡ count_below (λ cell. names_first words first cell && is_reference_through (words cell)) number
    count_same' number =
        count_same (λ cell. names_first words first cell && (is_reference_through (words cell) && true))
        (λ cell. names_first words first cell && is_reference_through (words cell)) number
        (λ k small. ap (λ b. names_first words first k && b) (whole (is_reference_through (words k))))
