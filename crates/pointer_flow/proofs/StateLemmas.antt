-- The states of a cell by their numbers.
use Rattle.std.proofs.Common.{◌≡◌, inl, inr, ℕ, ◌+◌, ◌*◌, ◌/◌, ◌%◌, ◌<◌, nat_eq, if◌then◌else◌, Option, Some, None, refl, ap, sym, subst, ◌∙◌, arith}
use Rattle.std.proofs.lemmas.Bool.{cases_eq, eq-eqb, ne_eqb}
use Rattle.word12.specs.declared.sizes.TheConstants.{CORE}
use Rattle.pointer_flow.specs.States.{IsBuffer, IsDataField, IsState}
use Rattle.pointer_flow.specs.Steps.{buffer_of, data_of, state_at}
use Rattle.pointer_flow.specs.Tables.{buffer_number, data_number, state_number}
use Rattle.pointer_flow.specs.declared.states.Buffer.{Buffer}
use Rattle.pointer_flow.specs.declared.states.Buffer.TheVariants.{Own, Number, Unknown}
use Rattle.pointer_flow.specs.declared.states.State.{State}
use Rattle.pointer_flow.specs.declared.states.TheConstants.{STATES}

pub buffer_small : (buffer : Buffer) → IsBuffer buffer → buffer_number buffer < 10
buffer_small Own is = omega arith
buffer_small (Number field) is = omega (arith, is)
buffer_small Unknown is = omega arith

pub data_small : (data_field : Option ℕ) → IsDataField data_field → data_number data_field < 9
data_small None is = omega arith
data_small (Some field) is = omega (arith, is)

pub buffer_back : (buffer : Buffer) → IsBuffer buffer → buffer_of (buffer_number buffer) ≡ buffer
buffer_back Own is = refl
buffer_back (Number field) is =
    ap (λ b. if b then Own else if nat_eq field 9 then Unknown else Number field) (ne_eqb field 8 (λ same. omega (arith, same, is)))
    ∙ ap (λ b. if b then Unknown else Number field) (ne_eqb field 9 (λ same. omega (arith, same, is)))
buffer_back Unknown is = refl

pub data_back : (data_field : Option ℕ) → IsDataField data_field → data_of (data_number data_field) ≡ data_field
data_back None is = refl
data_back (Some field) is = ap (λ b. if b then None else Some field) (ne_eqb field 8 (λ same. omega (arith, same, is)))

-- the number of a state among those of its cell
abbrev pub number_in_cell : State → ℕ
number_in_cell s = 9 * buffer_number s.buffer + data_number s.data_field

pub in_cell_small : (s : State) → IsState s → number_in_cell s < 90
in_cell_small s is = omega (arith, buffer_small s.buffer is.buffer, data_small s.data_field is.data_field)

abbrev with_parts : ℕ → Buffer → Option ℕ → State
with_parts cell buffer data_field = record { cell = cell; buffer = buffer; data_field = data_field }

same_parts : (cell : ℕ) (b b' : Buffer) (d d' : Option ℕ) → b ≡ b' → d ≡ d' → with_parts cell b d ≡ with_parts cell b' d'
same_parts cell b b' d d' same_buffer same_data = ap (λ x. with_parts cell x d) same_buffer ∙ ap (λ x. with_parts cell b' x) same_data

pub is_state_at : (s : State) → IsState s → state_at s.cell (number_in_cell s) ≡ s
is_state_at s is =
    same_parts s.cell (buffer_of (number_in_cell s / 9)) s.buffer (data_of (number_in_cell s % 9)) s.data_field
    (ap buffer_of high ∙ buffer_back s.buffer is.buffer) (ap data_of low ∙ data_back s.data_field is.data_field)
  where
    high : number_in_cell s / 9 ≡ buffer_number s.buffer
    high = omega (arith, data_small s.data_field is.data_field)

    low : number_in_cell s % 9 ≡ data_number s.data_field
    low = omega (arith, data_small s.data_field is.data_field)

pub number_small : (s : State) → IsState s → state_number s < STATES
number_small s is = omega (arith, in_cell_small s is, is.cell)

-- states with one number are one
pub one_state : (s other : State) → IsState s → IsState other → state_number s ≡ state_number other → s ≡ other
one_state s other is is' same =
    sym (is_state_at s is) ∙ ap (λ c. state_at c (number_in_cell s)) cells ∙ ap (state_at other.cell) numbers ∙ is_state_at other is'
  where
    cells : s.cell ≡ other.cell
    cells = omega (arith, in_cell_small s is, in_cell_small other is', same)

    numbers : number_in_cell s ≡ number_in_cell other
    numbers = omega (arith, in_cell_small s is, in_cell_small other is', same)

pub state_at_is : (cell number : ℕ) → cell < CORE → number < 90 → IsState (state_at cell number)
state_at_is cell number small below = record {
  cell = small;
  buffer = buffer (number / 9) (omega (arith, below));
  data_field = data_field (number % 9) (omega arith);
}
  where
    buffer : (n : ℕ) → n < 10 → IsBuffer (buffer_of n)
    buffer n less = elim (cases_eq n 8) [
      | inl own ↦ subst IsBuffer (sym (ap (λ b. if b then Own else if nat_eq n 9 then Unknown else Number n) (eq-eqb n 8 own))) tt
      | inr other ↦ elim (cases_eq n 9) [
        | inl unknown ↦
            subst IsBuffer (sym (ap (λ b. if b then Own else if nat_eq n 9 then Unknown else Number n) (ne_eqb n 8 other)
            ∙ ap (λ b. if b then Unknown else Number n) (eq-eqb n 9 unknown))) tt
        | inr far ↦
            let field : n < 8 = omega (arith, less, other, far) in
            subst IsBuffer (sym (ap (λ b. if b then Own else if nat_eq n 9 then Unknown else Number n) (ne_eqb n 8 other)
            ∙ ap (λ b. if b then Unknown else Number n) (ne_eqb n 9 far))) field
      ]
    ]

    data_field : (n : ℕ) → n < 9 → IsDataField (data_of n)
    data_field n less = elim (cases_eq n 8) [
      | inl none ↦ subst IsDataField (sym (ap (λ b. if b then None else Some n) (eq-eqb n 8 none))) tt
      | inr other ↦
          let field : n < 8 = omega (arith, less, other) in
          subst IsDataField (sym (ap (λ b. if b then None else Some n) (ne_eqb n 8 other))) field
    ]

pub number_at : (cell number : ℕ) → number < 90 → number_in_cell (state_at cell number) ≡ number
number_at cell number small = both (number / 9) (number % 9) (omega (arith, small)) (omega arith) (omega arith)
  where
    buffer : (n : ℕ) → n < 10 → buffer_number (buffer_of n) ≡ n
    buffer n less = elim (cases_eq n 8) [
      | inl own ↦ ap (λ b. buffer_number (if b then Own else if nat_eq n 9 then Unknown else Number n)) (eq-eqb n 8 own) ∙ sym own
      | inr other ↦ elim (cases_eq n 9) [
        | inl unknown ↦
            ap (λ b. buffer_number (if b then Own else if nat_eq n 9 then Unknown else Number n)) (ne_eqb n 8 other)
            ∙ ap (λ b. buffer_number (if b then Unknown else Number n)) (eq-eqb n 9 unknown) ∙ sym unknown
        | inr far ↦
            ap (λ b. buffer_number (if b then Own else if nat_eq n 9 then Unknown else Number n)) (ne_eqb n 8 other)
            ∙ ap (λ b. buffer_number (if b then Unknown else Number n)) (ne_eqb n 9 far)
      ]
    ]

    data_field : (n : ℕ) → n < 9 → data_number (data_of n) ≡ n
    data_field n less = elim (cases_eq n 8) [
      | inl none ↦ ap (λ b. data_number (if b then None else Some n)) (eq-eqb n 8 none) ∙ sym none
      | inr other ↦ ap (λ b. data_number (if b then None else Some n)) (ne_eqb n 8 other)
    ]

    both : (high low : ℕ) → high < 10 → low < 9 → 9 * high + low ≡ number → 9 * buffer_number (buffer_of high) + data_number (data_of low) ≡ number
    both high low high_small low_small is = omega (arith, buffer high high_small, data_field low low_small, is)
