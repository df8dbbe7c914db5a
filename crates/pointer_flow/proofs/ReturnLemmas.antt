-- The states that store a return, and the cells in which they do.
use Rattle.std.proofs.Common.{◌≡◌, ◌≢◌, ◌↔◌, inl, inr, ℕ, ◌+◌, ◌*◌, ◌/◌, ◌%◌, ◌<◌, Bool, true, false, nat_eq, nat_lt, ◌&&◌, ◌||◌, List, length, replicate, Option, Some, None, is_some, refl, ap, sym, subst, ◌∙◌, arith}
use Rattle.std.proofs.lemmas.Bool.{and_from, and_parts, cases_eq, cases_lt, eq-eqb, false≢true, le-ltb, lt-ltb, ne_eqb}
use Rattle.word12.specs.declared.sizes.TheConstants.{CORE}
use Rattle.flow8.specs.Flow.{word_in}
use Rattle.pointer_flow.specs.States.{IsState}
use Rattle.pointer_flow.specs.Programs.{Program, is_open}
use Rattle.pointer_flow.specs.Flow.{IsCandidate, IsWide, NoCell}
use Rattle.pointer_flow.specs.Questions.{IsReturnCell, stores_return}
use Rattle.pointer_flow.specs.Levels.{AreReturnsBy}
use Rattle.pointer_flow.specs.Steps.{AreUnmarked, IsCellWriter, IsFlaggedIn, IsGivenIn, IsLowestWriter, IsReturnState, IsWalk, is_return_state, state_at, stores_return_at}
use Rattle.pointer_flow.specs.Tables.{GivesPointers, IsMarked, IsSetOf, IsTable, is_bit_set, state_number}
use Rattle.pointer_flow.specs.declared.states.State.{State}
use Rattle.pointer_flow.specs.declared.states.TheConstants.{STATES}
use Rattle.pointer_flow.proofs.FlowLemmas.{IsWriterBy, by_writer, none_flagged, set_as, writer_by}
use Rattle.pointer_flow.proofs.GrowLemmas.{reached_state}
use Rattle.pointer_flow.proofs.StateLemmas.{in_cell_small, is_state_at, number_at, number_in_cell, number_small}
use Rattle.pointer_flow.proofs.WalkLemmas.{opens_inside}

or_none : (b : Bool) → b ≡ (b || false)
or_none true = refl
or_none false = refl

or_some : (b : Bool) → true ≡ (b || true)
or_some true = refl
or_some false = refl

-- ## One state more

pub inserted : (old new : List ℕ) (s : State) (number : ℕ) (is : Bool) → is ≡ true → IsMarked new s
    → ((other : ℕ) → other ≢ state_number s → is_bit_set new other ≡ is_bit_set old other)
    → is_bit_set new number ≡ (is_bit_set old number || (is && nat_eq number (state_number s)))
inserted old new s number is so marked others =
    added ∙ ap (λ b. is_bit_set old number || (b && nat_eq number (state_number s))) (sym so)
  where
    added : is_bit_set new number ≡ (is_bit_set old number || nat_eq number (state_number s))
    added = elim (cases_eq number (state_number s)) [
      | inl same ↦
          ap (is_bit_set new) same ∙ marked ∙ or_some (is_bit_set old number)
          ∙ ap (λ b. is_bit_set old number || b) (sym (eq-eqb number (state_number s) same))
      | inr apart ↦
          others number apart ∙ or_none (is_bit_set old number)
          ∙ ap (λ b. is_bit_set old number || b) (sym (ne_eqb number (state_number s) apart))
    ]

pub not_inserted : (bits : List ℕ) (number : ℕ) (is same : Bool) → is ≡ false → is_bit_set bits number ≡ (is_bit_set bits number || (is && same))
not_inserted bits number is same so = or_none (is_bit_set bits number) ∙ ap (λ b. is_bit_set bits number || (b && same)) (sym so)

-- ## The states below a number

abbrev is_return_number : Program → List ℕ → ℕ → Bool
is_return_number p reached number = is_return_state p reached (state_at (number / 90) (number % 90))

-- a table has those below a number that store a return
abbrev pub AreReturnsBelow : Program → List ℕ → List ℕ → ℕ → Type 0
AreReturnsBelow p reached bits count = (number : ℕ) → is_bit_set bits number ≡ (nat_lt number count && is_return_number p reached number)

is_unset : (b : Bool) → (b ≡ true → ⊥) → b ≡ false
is_unset true never = absurd (never refl)
is_unset false never = refl

pub returns_none : (p : Program) (reached bits : List ℕ) → AreUnmarked bits → AreReturnsBelow p reached bits 0
returns_none p reached bits none number =
    is_unset (is_bit_set bits number) (none number) ∙ ap (λ b. b && is_return_number p reached number) (sym (le-ltb number 0 (omega arith)))

number_of : (number : ℕ) → state_number (state_at (number / 90) (number % 90)) ≡ number
number_of number =
    let inside = number_at (number / 90) (number % 90) (omega arith) in
    omega (arith, inside)

pub returns_more : (p : Program) (reached old new : List ℕ) (number : ℕ) (s : State) (is : Bool) → s ≡ state_at (number / 90) (number % 90)
    → is ≡ is_return_state p reached s → ((other : ℕ) → is_bit_set new other ≡ (is_bit_set old other || (is && nat_eq other (state_number s))))
    → AreReturnsBelow p reached old number → AreReturnsBelow p reached new (number + 1)
returns_more p reached old new number s is at told more before other = elim (cases_eq other number) [
  | inl same ↦
      more other
      ∙ ap (λ b. b || (is && nat_eq other (state_number s))) (before other ∙ ap (λ b. b && is_return_number p reached other) (le-ltb other number (omega (arith, same))))
      ∙ ap (λ b. is && b) (eq-eqb other (state_number s) (same ∙ sym (ap state_number at ∙ number_of number)))
      ∙ whole is
      ∙ told
      ∙ ap (is_return_state p reached) at
      ∙ ap (is_return_number p reached) (sym same)
      ∙ ap (λ b. b && is_return_number p reached other) (sym (lt-ltb other (number + 1) (omega (arith, same))))
  | inr apart ↦
      more other
      ∙ ap (λ b. is_bit_set old other || (is && b)) (ne_eqb other (state_number s) (λ same. apart (same ∙ ap state_number at ∙ number_of number)))
      ∙ nothing is (is_bit_set old other)
      ∙ before other
      ∙ ap (λ b. b && is_return_number p reached other) (below other apart)
]
  where
    whole : (b : Bool) → (b && true) ≡ b
    whole true = refl
    whole false = refl

    nothing : (b c : Bool) → (c || (b && false)) ≡ c
    nothing true true = refl
    nothing true false = refl
    nothing false true = refl
    nothing false false = refl

    below : (other : ℕ) → other ≢ number → nat_lt other number ≡ nat_lt other (number + 1)
    below other apart = elim (cases_lt other number) [
      | inl less ↦ lt-ltb other number less ∙ sym (lt-ltb other (number + 1) (omega (arith, less)))
      | inr more ↦ le-ltb other number more ∙ sym (le-ltb other (number + 1) (omega (arith, more, apart)))
    ]

pub returns_all : (p : Program) (reached bits : List ℕ) (count : ℕ) → count ≡ STATES → IsTable bits → AreReturnsBelow p reached bits count
    → IsSetOf bits (IsReturnState p reached)
returns_all p reached bits count all size below = record {
  size = size;
  states = λ s state. let same = whole s state in (λ marked. sym same ∙ marked, λ is. same ∙ is);
}
  where
    whole : (s : State) → IsState s → is_bit_set bits (state_number s) ≡ is_return_state p reached s
    whole s state =
        let high : state_number s / 90 ≡ s.cell = omega (arith, in_cell_small s state) in
        let low : state_number s % 90 ≡ number_in_cell s = omega (arith, in_cell_small s state) in
        below (state_number s)
        ∙ ap (λ b. b && is_return_number p reached (state_number s)) (lt-ltb (state_number s) count (omega (arith, number_small s state, all)))
        ∙ ap (λ c. is_return_state p reached (state_at c (state_number s % 90))) high
        ∙ ap (λ n. is_return_state p reached (state_at s.cell n)) low
        ∙ ap (is_return_state p reached) (is_state_at s state)

-- ## Who stores a return

-- a wide state that does
abbrev IsReturn : Program → State → Type 0
IsReturn p s = IsWide p s × (stores_return_at p s (p.words s.cell) ≡ true)

pub wide_returns : (p : Program) (pointers writers : List (Option ℕ)) (reached : List ℕ) → ((cell : ℕ) → is_open p cell ≡ true → cell < CORE)
    → GivesPointers pointers (IsCandidate p) → IsSetOf reached (IsWide p) → AreReturnsBy p pointers reached writers → (cell : ℕ) → cell < CORE
    → (is_some (word_in writers cell) ≡ true) ↔ IsReturnCell p cell
wide_returns p pointers writers reached inside gives sets found cell small = by (word_in writers cell) (found.are.cells cell small)
  where
    returning : IsSetOf found.states (IsReturn p)
    returning = record {
      size = found.are_states.size;
      states = λ s state. (
        λ marked.
            let parts = and_parts (is_bit_set reached (state_number s)) (stores_return_at p s (p.words s.cell)) ((found.are_states.states s state).0 marked) in
            ((sets.states s state).0 parts.0, parts.1),
        λ is.
            (found.are_states.states s state).1
            (and_from (is_bit_set reached (state_number s)) (stores_return_at p s (p.words s.cell)) ((sets.states s state).1 is.0) is.1),
      );
    }

    to : (other : ℕ) → IsCellWriter p pointers found.states cell other → IsReturnCell p cell
    to other writes =
        let way = writer_by p pointers found.states (IsCandidate p) (IsReturn p) gives.words returning cell other writes in
        record {
          s = way.s;
          wide = way.is.0;
          writes = way.writes;
          returns = ap (stores_return_at p way.s) (sym way.writes.given) ∙ way.is.1;
        }

    from : (is : IsReturnCell p cell) → IsCellWriter p pointers found.states cell is.s.cell
    from is =
        by_writer p pointers found.states (IsCandidate p) (IsReturn p) gives.words returning
        (λ s returns. reached_state p (IsCandidate p) NoCell inside s returns.0) cell is.s.cell
        (record { s = is.s; at = refl; is = (is.wide, ap (stores_return_at p is.s) is.writes.given ∙ is.returns); writes = is.writes })

    by : (o : Option ℕ) → IsLowestWriter p pointers found.states cell o → (is_some o ≡ true) ↔ IsReturnCell p cell
    by None lowest = (λ some. absurd (false≢true some), λ is. absurd (lowest is.s.cell (from is)))
    by (Some first) lowest = (λ some. to first lowest.0, λ is. refl)

pub returns_by : (p : Program) (words candidates writers : List (Option ℕ)) (reached : List ℕ) (flags lent_flags : List Bool) (count : ℕ)
    → flags ≡ replicate count false → lent_flags ≡ flags → p.words ≡ word_in words → length words ≡ CORE → GivesPointers candidates (IsCandidate p)
    → IsWalk p candidates lent_flags reached → AreReturnsBy p candidates reached writers → (cell : ℕ) → cell < CORE
    → (is_some (word_in writers cell) ≡ true) ↔ IsReturnCell p cell
returns_by p words candidates writers reached flags lent_flags count no_flags lends same size gives walk found =
    wide_returns p candidates writers reached (opens_inside p words same size) gives
    (set_as p reached (IsGivenIn candidates) (IsCandidate p) (IsFlaggedIn lent_flags) NoCell gives.words (none_flagged count lent_flags (lends ∙ no_flags)) walk)
    found
