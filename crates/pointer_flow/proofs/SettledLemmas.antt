-- What the states of a cell have in common, one state after the other.
use Rattle.std.proofs.Common.{◌≡◌, ◌⊎◌, inl, inr, ◌↔◌, ℕ, ◌+◌, ◌<◌, ◌≤◌, Bool, true, false, nat_lt, if◌then◌else◌, List, Option, Some, None, refl, ap, sym, subst, ◌∙◌, arith}
use Rattle.std.proofs.lemmas.Bool.{cases_Bool, cases_eq, false≢true, ltb-false, ltb-true}
use Rattle.std.proofs.lemmas.Bool.Decides.{eqb_tells}
use Rattle.pointer_flow.specs.States.{IsBuffer, IsDataField, IsState, jump_field}
use Rattle.pointer_flow.specs.Questions.{rank}
use Rattle.pointer_flow.specs.Settled.{IsEarliest, IsMarkedAt, IsSettled}
use Rattle.pointer_flow.specs.Steps.{call_in, earlier_call, with_field_if, state_at, with_field}
use Rattle.pointer_flow.specs.Tables.{is_bit_set, state_number}
use Rattle.pointer_flow.specs.declared.calls.Call.{Call}
use Rattle.pointer_flow.specs.declared.cell_states.Settled.{Settled}
use Rattle.pointer_flow.specs.declared.cell_states.Settled.TheVariants.{NoState, Field, Several}
use Rattle.pointer_flow.specs.declared.states.Buffer.{Buffer}
use Rattle.pointer_flow.specs.declared.states.Buffer.TheVariants.{Own, Number, Unknown}
use Rattle.pointer_flow.specs.declared.states.State.{State}
use Rattle.pointer_flow.proofs.StateLemmas.{in_cell_small, is_state_at, number_in_cell}

-- a marked state of a cell is one of the first so many
abbrev pub IsMarkedBelow : List ℕ → ℕ → ℕ → State → Type 0
IsMarkedBelow bits cell count s = IsMarkedAt bits cell s × (number_in_cell s < count)

pub none_below : (bits : List ℕ) (cell : ℕ) (s : State) → IsMarkedBelow bits cell 0 s → ⊥
none_below bits cell s is = omega (arith, is.1)

pub all_below : (bits : List ℕ) (cell count : ℕ) → count ≡ 90 → (s : State) → IsMarkedBelow bits cell count s ↔ IsMarkedAt bits cell s
all_below bits cell count all s = (λ is. is.0, λ is. (is, omega (arith, all, in_cell_small s is.state)))

-- the state of a number is the only one that comes on
last_below : (bits : List ℕ) (cell count : ℕ) (s : State) → IsMarkedBelow bits cell (count + 1) s
    → IsMarkedBelow bits cell count s ⊎ (s ≡ state_at cell count)
last_below bits cell count s is = elim (cases_eq (number_in_cell s) count) [
  | inl same ↦ inr (sym (is_state_at s is.0.state) ∙ ap (λ c. state_at c (number_in_cell s)) is.0.at ∙ ap (state_at cell) same)
  | inr apart ↦ inl (is.0, omega (arith, is.1, apart))
]

more_below : (bits : List ℕ) (cell count : ℕ) (s : State) → IsMarkedBelow bits cell count s → IsMarkedBelow bits cell (count + 1) s
more_below bits cell count s is = (is.0, omega (arith, is.1))

-- ## Whether there is one

pub none_yet : (bits : List ℕ) (cell count : ℕ) (s : State) → s ≡ state_at cell count → is_bit_set bits (state_number s) ≡ false
    → ((other : State) → IsMarkedBelow bits cell count other → ⊥) → (other : State) → IsMarkedBelow bits cell (count + 1) other → ⊥
none_yet bits cell count s is lacks none other among = elim (last_below bits cell count other among) [
  | inl before ↦ none other before
  | inr last ↦ false≢true (sym lacks ∙ ap (λ x. is_bit_set bits (state_number x)) (is ∙ sym last) ∙ among.0.marked)
]

-- ## Fields

pub settled_as : (Is Is' : State → Type 0) (field_of : State → Option ℕ) (settled : Settled) → ((s : State) → Is s ↔ Is' s) → IsSettled Is field_of settled
    → IsSettled Is' field_of settled
settled_as Is Is' field_of NoState same is = λ s has. is s ((same s).1 has)
settled_as Is Is' field_of (Field field) same is = ((is.0.0, (same is.0.0).0 is.0.1), λ s has. is.1 s ((same s).1 has))
settled_as Is Is' field_of Several same is = λ field all. is field (λ s has. all s ((same s).0 has))

none_some : {X : Type 0} {x : X} → None ≡ Some x → ⊥
none_some is = cc

same_some : {x y : ℕ} → Some x ≡ Some y → x ≡ y
same_some is = cc

pub settled_more : (bits : List ℕ) (cell count : ℕ) (field_of : State → Option ℕ) (settled : Settled) (s : State) (is_reached : Bool) (field : Option ℕ)
    → IsState s → s.cell ≡ cell → s ≡ state_at cell count → number_in_cell s ≡ count → is_reached ≡ is_bit_set bits (state_number s) → field ≡ field_of s
    → IsSettled (IsMarkedBelow bits cell count) field_of settled
    → IsSettled (IsMarkedBelow bits cell (count + 1)) field_of (with_field_if settled is_reached field)
settled_more bits cell count field_of settled s false field state at is number reached same before =
    settled_as (IsMarkedBelow bits cell count) (IsMarkedBelow bits cell (count + 1)) field_of settled (λ other. (more_below bits cell count other, less other)) before
  where
    less : (other : State) → IsMarkedBelow bits cell (count + 1) other → IsMarkedBelow bits cell count other
    less other among = elim (last_below bits cell count other among) [
      | inl old ↦ old
      | inr last ↦ absurd (false≢true (reached ∙ ap (λ x. is_bit_set bits (state_number x)) (is ∙ sym last) ∙ among.0.marked))
    ]
settled_more bits cell count field_of settled s true field state at is number reached same before = by settled field before same
  where
    here : IsMarkedBelow bits cell (count + 1) s
    here = (record { state = state; at = at; marked = sym reached }, omega (arith, number))

    by : (settled : Settled) (field : Option ℕ) → IsSettled (IsMarkedBelow bits cell count) field_of settled → field ≡ field_of s
        → IsSettled (IsMarkedBelow bits cell (count + 1)) field_of (with_field settled field)
    by NoState None old is' = λ f all. none_some (is' ∙ all s here)
    by (Field other) None old is' = λ f all. none_some (is' ∙ all s here)
    by Several None old is' = λ f all. none_some (is' ∙ all s here)
    by NoState (Some f) old is' = (
      (s, here),
      λ other among. elim (last_below bits cell count other among) [
        | inl before ↦ absurd (old other before)
        | inr last ↦ ap field_of (last ∙ sym is) ∙ sym is'
      ],
    )
    by (Field g) (Some f) old is' = elim (eqb_tells g f) [
      | inl equal ↦ subst (IsSettled (IsMarkedBelow bits cell (count + 1)) field_of) (sym (ap (λ b. if b then Field f else Several) equal.0)) (
        (s, here),
        λ other among. elim (last_below bits cell count other among) [
          | inl before ↦ old.1 other before ∙ ap Some equal.1
          | inr last ↦ ap field_of (last ∙ sym is) ∙ sym is'
        ],
      )
      | inr apart ↦ subst (IsSettled (IsMarkedBelow bits cell (count + 1)) field_of) (sym (ap (λ b. if b then Field f else Several) apart.0))
          (λ h all. apart.1 (same_some (sym (old.1 old.0.0 old.0.1) ∙ all old.0.0 (more_below bits cell count old.0.0 old.0.1))
          ∙ same_some (sym (all s here) ∙ sym is')))
    ]
    by Several (Some f) old is' = λ g all. old g (λ other among. all other (more_below bits cell count other among))

-- a field that is settled is one of the eight
pub jump_small : (s : State) (field : ℕ) → IsState s → jump_field s.cell s.buffer ≡ Some field → field < 8
jump_small s field state is = by s.buffer state.buffer is
  where
    by : (buffer : Buffer) → IsBuffer buffer → jump_field s.cell buffer ≡ Some field → field < 8
    by Own small has = omega (arith, state.cell, same_some has)
    by (Number other) small has = omega (arith, small, same_some has)
    by Unknown small has = absurd (none_some has)

pub data_field_small : (s : State) (field : ℕ) → IsState s → s.data_field ≡ Some field → field < 8
data_field_small s field state is = by s.data_field state.data_field is
  where
    by : (o : Option ℕ) → IsDataField o → o ≡ Some field → field < 8
    by None small has = absurd (none_some has)
    by (Some other) small has = omega (arith, small, same_some has)

-- ## Calls

pub earliest_as : (Is Is' : State → Type 0) (call_of : State → Option Call) (found : Option Call) → ((s : State) → Is s ↔ Is' s) → IsEarliest Is call_of found
    → IsEarliest Is' call_of found
earliest_as Is Is' call_of None same is = λ s has. is s ((same s).1 has)
earliest_as Is Is' call_of (Some call) same is =
    ((is.0.0, (same is.0.0).0 is.0.1, is.0.2), λ s other has calls. is.1 s other ((same s).1 has) calls)

same_call : {x y : Call} → Some x ≡ Some y → x ≡ y
same_call is = cc

pub earliest_more : (bits : List ℕ) (cell count word : ℕ) (call_of : State → ℕ → Option Call) (found other : Option Call) (s : State)
    → IsState s → s.cell ≡ cell → s ≡ state_at cell count → number_in_cell s ≡ count → other ≡ call_in bits call_of s word
    → IsEarliest (IsMarkedBelow bits cell count) (λ x. call_of x word) found
    → IsEarliest (IsMarkedBelow bits cell (count + 1)) (λ x. call_of x word) (earlier_call found other)
earliest_more bits cell count word call_of found other s state at is number calls before =
    elim (cases_Bool (is_bit_set bits (state_number s))) [
      | inl reached ↦
          reaches reached found other before (calls ∙ ap (λ b. if b then call_of s word else None) reached)
      | inr lacks ↦
          subst (λ o. IsEarliest (IsMarkedBelow bits cell (count + 1)) (λ x. call_of x word) (earlier_call found o))
          (sym (calls ∙ ap (λ b. if b then call_of s word else None) lacks))
          (subst (IsEarliest (IsMarkedBelow bits cell (count + 1)) (λ x. call_of x word)) (sym (alone found))
          (earliest_as (IsMarkedBelow bits cell count) (IsMarkedBelow bits cell (count + 1)) (λ x. call_of x word) found
          (λ x. (more_below bits cell count x, less lacks x)) before))
    ]
  where
    alone : (o : Option Call) → earlier_call o None ≡ o
    alone None = refl
    alone (Some call) = refl

    less : is_bit_set bits (state_number s) ≡ false → (x : State) → IsMarkedBelow bits cell (count + 1) x → IsMarkedBelow bits cell count x
    less lacks x among = elim (last_below bits cell count x among) [
      | inl old ↦ old
      | inr last ↦ absurd (false≢true (sym lacks ∙ ap (λ y. is_bit_set bits (state_number y)) (is ∙ sym last) ∙ among.0.marked))
    ]

    reaches : is_bit_set bits (state_number s) ≡ true → (found other : Option Call)
        → IsEarliest (IsMarkedBelow bits cell count) (λ x. call_of x word) found → other ≡ call_of s word
        → IsEarliest (IsMarkedBelow bits cell (count + 1)) (λ x. call_of x word) (earlier_call found other)
    reaches reached None None old is' = λ x among. elim (last_below bits cell count x among) [
      | inl before ↦ old x before
      | inr last ↦ ap (λ y. call_of y word) (last ∙ sym is) ∙ sym is'
    ]
    reaches reached None (Some next) old is' = (
      (s, (record { state = state; at = at; marked = reached }, omega (arith, number)), sym is'),
      λ x call among calls'. elim (last_below bits cell count x among) [
        | inl before ↦ absurd (none_some (sym (old x before) ∙ calls'))
        | inr last ↦
            let same : next ≡ call = same_call (is' ∙ ap (λ y. call_of y word) (is ∙ sym last) ∙ calls') in
            subst (λ c. rank next ≤ rank c) same (omega arith)
      ],
    )
    reaches reached (Some call) None old is' = (
      (old.0.0, more_below bits cell count old.0.0 old.0.1, old.0.2),
      λ x other' among calls'. elim (last_below bits cell count x among) [
        | inl before ↦ old.1 x other' before calls'
        | inr last ↦ absurd (none_some (is' ∙ ap (λ y. call_of y word) (is ∙ sym last) ∙ calls'))
      ],
    )
    reaches reached (Some call) (Some next) old is' = elim (cases_Bool (nat_lt (rank next) (rank call))) [
      | inl lower ↦
          subst (IsEarliest (IsMarkedBelow bits cell (count + 1)) (λ x. call_of x word)) (sym (ap (λ b. if b then Some next else Some call) lower)) (
            (s, (record { state = state; at = at; marked = reached }, omega (arith, number)), sym is'),
            λ x other' among calls'. elim (last_below bits cell count x among) [
              | inl before ↦ omega (arith, ltb-true (rank next) (rank call) lower, old.1 x other' before calls')
              | inr last ↦
                  let same : next ≡ other' = same_call (is' ∙ ap (λ y. call_of y word) (is ∙ sym last) ∙ calls') in
                  subst (λ c. rank next ≤ rank c) same (omega arith)
            ],
          )
      | inr higher ↦
          subst (IsEarliest (IsMarkedBelow bits cell (count + 1)) (λ x. call_of x word)) (sym (ap (λ b. if b then Some next else Some call) higher)) (
            (old.0.0, more_below bits cell count old.0.0 old.0.1, old.0.2),
            λ x other' among calls'. elim (last_below bits cell count x among) [
              | inl before ↦ old.1 x other' before calls'
              | inr last ↦
                  let same : next ≡ other' = same_call (is' ∙ ap (λ y. call_of y word) (is ∙ sym last) ∙ calls') in
                  subst (λ c. rank call ≤ rank c) same (omega (arith, ltb-false (rank next) (rank call) higher))
            ],
          )
    ]
