-- Marking states.
use Rattle.std.proofs.Common.{◌≡◌, ◌≢◌, ◌⊎◌, inl, inr, ℕ, zero, suc, ◌+◌, ◌≤◌, Bool, true, false, not, List, [], ◌∷◌, ◌++◌, length, Option, Some, None, refl, ap, sym, subst, ◌∙◌, arith}
use Rattle.std.proofs.lemmas.Bool.{cases_eq, not_from_false, not_from_true, true≢false}
use Rattle.std.proofs.lemmas.List.{length-append}
use Rattle.flow8.specs.Exits.{cell_after}
use Rattle.pointer_flow.specs.States.{IsOneOf, IsState, start_state}
use Rattle.pointer_flow.specs.Next.{return_states, state_after_jump, with_state}
use Rattle.pointer_flow.specs.Programs.{cells_from}
use Rattle.pointer_flow.specs.Steps.{MarksStates, count_of_unmarked, start_states}
use Rattle.pointer_flow.specs.Tables.{IsMarked, is_bit_set, state_number}
use Rattle.pointer_flow.specs.declared.states.State.{State}
use Rattle.pointer_flow.specs.declared.states.TheConstants.{STATES}
use Rattle.pointer_flow.proofs.CountLemmas.{count_less}
use Rattle.pointer_flow.proofs.StateLemmas.{number_small, one_state}

-- ## Lists of states

pub one_left : (s : State) (xs ys : List State) → IsOneOf s xs → IsOneOf s (xs ++ ys)
one_left s [] ys is = absurd is
one_left s (x ∷ xs) ys (inl same) = inl same
one_left s (x ∷ xs) ys (inr other) = inr (one_left s xs ys other)

pub one_right : (s : State) (xs ys : List State) → IsOneOf s ys → IsOneOf s (xs ++ ys)
one_right s [] ys is = is
one_right s (x ∷ xs) ys is = inr (one_right s xs ys is)

pub one_parts : (s : State) (xs ys : List State) → IsOneOf s (xs ++ ys) → IsOneOf s xs ⊎ IsOneOf s ys
one_parts s [] ys is = inr is
one_parts s (x ∷ xs) ys (inl same) = inl (inl same)
one_parts s (x ∷ xs) ys (inr other) = elim (one_parts s xs ys other) [ inl left ↦ inl (inr left) | inr right ↦ inr right ]

pub only_one : {s other : State} → IsOneOf other (s ∷ []) → other ≡ s
only_one (inl same) = same
only_one (inr never) = absurd never

-- ## Marks

pub marks_none : (is_open : ℕ → Bool) (old : List ℕ) (waiting : List State) → MarksStates is_open old old waiting waiting []
marks_none is_open old waiting = record {
  size = refl;
  marks = λ s is opens. absurd is;
  kept = λ s has. has;
  only = λ s state has. inl has;
  waits = λ s state has. inl has;
  still_waits = λ s is. is;
  waiting_are = λ s is. inl is;
  sum = omega arith;
}

pub marks_more : (is_open : ℕ → Bool) (a b c : List ℕ) (u v w : List State) (xs ys : List State) → MarksStates is_open a b u v xs
    → MarksStates is_open b c v w ys → MarksStates is_open a c u w (xs ++ ys)
marks_more is_open a b c u v w xs ys first second = record {
  size = second.size ∙ first.size;
  marks = λ s is opens. elim (one_parts s xs ys is) [
    | inl left ↦ second.kept s (first.marks s left opens)
    | inr right ↦ second.marks s right opens
  ];
  kept = λ s has. second.kept s (first.kept s has);
  only = λ s state has. elim (second.only s state has) [
    | inl before ↦ elim (first.only s state before) [
      | inl older ↦ inl older
      | inr new ↦ inr (one_left s xs ys new.0, new.1)
    ]
    | inr new ↦ inr (one_right s xs ys new.0, new.1)
  ];
  waits = λ s state has. elim (second.waits s state has) [
    | inl before ↦ elim (first.waits s state before) [
      | inl older ↦ inl older
      | inr waiting ↦ inr (second.still_waits s waiting)
    ]
    | inr waiting ↦ inr waiting
  ];
  still_waits = λ s is. second.still_waits s (first.still_waits s is);
  waiting_are = λ s is. elim (second.waiting_are s is) [
    | inl between ↦ elim (first.waiting_are s between) [
      | inl older ↦ inl older
      | inr has ↦ inr (has.0, second.kept s has.1)
    ]
    | inr has ↦ inr has
  ];
  sum = omega (arith, first.sum, second.sum);
}

-- a state that is marked, or in whose cell no instruction may stand, stays as it is
pub marks_not : (is_open : ℕ → Bool) (old : List ℕ) (waiting : List State) (s : State) → (is_open s.cell ≡ false) ⊎ IsMarked old s
    → MarksStates is_open old old waiting waiting (s ∷ [])
marks_not is_open old waiting s done = record {
  size = refl;
  marks = λ other is opens. elim done [
    | inl shut ↦ absurd (true≢false (sym opens ∙ ap (λ (x : State). is_open x.cell) (only_one is) ∙ shut))
    | inr has ↦ subst (IsMarked old) (sym (only_one is)) has
  ];
  kept = λ other has. has;
  only = λ other state has. inl has;
  waits = λ other state has. inl has;
  still_waits = λ other is. is;
  waiting_are = λ other is. inl is;
  sum = omega arith;
}

-- a state that isn't marked is, and waits
pub marks_new : (is_open : ℕ → Bool) (old new : List ℕ) (waiting waiting' : List State) (s : State) → IsState s → is_open s.cell ≡ true
    → is_bit_set old (state_number s) ≡ false → length new ≡ length old → IsMarked new s
    → ((number : ℕ) → number ≢ state_number s → is_bit_set new number ≡ is_bit_set old number) → waiting' ≡ waiting ++ s ∷ []
    → MarksStates is_open old new waiting waiting' (s ∷ [])
marks_new is_open old new waiting waiting' s state opens lacks size has others waits =
    subst (λ w. MarksStates is_open old new waiting w (s ∷ [])) (sym waits) made
  where
    same_state : (other : State) → IsState other → state_number other ≡ state_number s → other ≡ s
    same_state other state' same = one_state other s state' state same

    kept : (other : State) → IsMarked old other → IsMarked new other
    kept other marked = elim (cases_eq (state_number other) (state_number s)) [
      | inl same ↦ ap (is_bit_set new) same ∙ has
      | inr apart ↦ others (state_number other) apart ∙ marked
    ]

    within : (number : ℕ) → not (is_bit_set new number) ≡ true → not (is_bit_set old number) ≡ true
    within number free = elim (cases_eq number (state_number s)) [
      | inl same ↦ not_from_false (is_bit_set old number) (ap (is_bit_set old) same ∙ lacks)
      | inr apart ↦ ap not (sym (others number apart)) ∙ free
    ]

    fewer : count_of_unmarked new + 1 ≤ count_of_unmarked old
    fewer = count_less (λ number. not (is_bit_set new number)) (λ number. not (is_bit_set old number)) STATES (state_number s) (number_small s state)
        (not_from_true (is_bit_set new (state_number s)) has) (not_from_false (is_bit_set old (state_number s)) lacks) within

    one_more : length (waiting ++ s ∷ []) ≡ length waiting + 1
    one_more = length-append waiting (s ∷ [])

    made : MarksStates is_open old new waiting (waiting ++ s ∷ []) (s ∷ [])
    made = record {
      size = size;
      marks = λ other is opens'. subst (IsMarked new) (sym (only_one is)) has;
      kept = kept;
      only = λ other state' marked. elim (cases_eq (state_number other) (state_number s)) [
        | inl same ↦
            let is = same_state other state' same in
            inr (inl is, ap (λ (x : State). is_open x.cell) is ∙ opens)
        | inr apart ↦ inl (sym (others (state_number other) apart) ∙ marked)
      ];
      waits = λ other state' marked. elim (cases_eq (state_number other) (state_number s)) [
        | inl same ↦ inr (one_right other waiting (s ∷ []) (inl (same_state other state' same)))
        | inr apart ↦ inl (sym (others (state_number other) apart) ∙ marked)
      ];
      still_waits = λ other is. one_left other waiting (s ∷ []) is;
      waiting_are = λ other is. elim (one_parts other waiting (s ∷ []) is) [
        | inl older ↦ inl older
        | inr last ↦
            let is' = only_one last in
            inr (subst IsState (sym is') state, subst (IsMarked new) (sym is') has)
      ];
      sum = omega (arith, fewer, one_more);
    }

-- ## Lists of states by parts

pub with_before : (o : Option State) (states : List State) → with_state o [] ++ states ≡ with_state o states
with_before None states = refl
with_before (Some s) states = refl

pub starts_more : (starts : List ℕ) (start : ℕ) → start_states starts ++ start_state start ∷ [] ≡ start_states (starts ++ start ∷ [])
starts_more [] start = refl
starts_more (first ∷ others) start = ap (λ l. start_state first ∷ l) (starts_more others start)

cells_next : (cell first count : ℕ) → cells_from cell first count ++ cell_after (first + count) cell ∷ [] ≡ cells_from cell first (suc count)
cells_next cell first zero =
    let same : first + 0 ≡ first = omega arith in
    ap (λ n. cell_after n cell ∷ []) same
cells_next cell first (suc count) =
    let same : first + suc count ≡ first + 1 + count = omega arith in
    ap (λ n. cells_from cell first (suc count) ++ cell_after n cell ∷ []) same
    ∙ ap (λ l. cell_after first cell ∷ l) (cells_next cell (first + 1) count)

returns_more : (data_field : Option ℕ) (cells : List ℕ) (cell : ℕ)
    → return_states data_field cells ++ state_after_jump data_field cell ∷ [] ≡ return_states data_field (cells ++ cell ∷ [])
returns_more data_field [] cell = refl
returns_more data_field (first ∷ others) cell = ap (λ l. state_after_jump data_field first ∷ l) (returns_more data_field others cell)

pub returns_next : (data_field : Option ℕ) (cell first count : ℕ)
    → return_states data_field (cells_from cell first count) ++ state_after_jump data_field (cell_after (first + count) cell) ∷ []
    ≡ return_states data_field (cells_from cell first (count + 1))
returns_next data_field cell first count =
    let next : suc count ≡ count + 1 = omega arith in
    returns_more data_field (cells_from cell first count) (cell_after (first + count) cell)
    ∙ ap (return_states data_field) (cells_next cell first count ∙ ap (cells_from cell first) next)
