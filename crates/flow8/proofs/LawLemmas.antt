-- A step of the machine goes where the word of its instruction tells.
use Rattle.std.proofs.Common.{◌≡◌, ◌⊎◌, inl, inr, ℕ, zero, suc, ◌+◌, ◌*◌, ◌/◌, ◌%◌, ◌<◌, Bool, true, false, true≢false, ◌&&◌, ◌||◌, not, if◌then◌else◌, nat_eq, Option, Some, None, ap, sym, refl, subst, ◌∙◌, arith}
use Rattle.std.proofs.lemmas.Bool.{cases_Bool}
use Rattle.std.proofs.lemmas.Bool.Decides.{eqb_tells}
use Rattle.word12.specs.declared.sizes.TheConstants.{FIELD, PAGE}
use Rattle.tty8.specs.Bits.{has}
use Rattle.cpu8.specs.State.{State, place, next_cell}
use Rattle.cpu8.specs.Decoding.{pulses_of, is_indirect, is_in_current_page, offset_of, is_group_1, is_group_2, has_sma, has_sza, has_snl, is_reversed, has_hlt}
use Rattle.cpu8.specs.Reference.{direct_address, isz_row, jms_row, jmp_row, next_operand}
use Rattle.cpu8.specs.Operate.{is_group1_unassigned, operate_row, group2_row}
use Rattle.cpu8.specs.Transfer.{transfer_row, interrupts_row, fields_row, read_row}
use Rattle.cpu8.specs.Step.{step, after_instruction, next_word}
use Rattle.cpu8.specs.Laws.{runs_on}
use Rattle.flow8.specs.Exits.{cell_after, exits, goes_on, group2_exits, ion_exits, iot_exits, jmp_exits, jms_exits, may_skip, operate_exits, address_of_reference, referred_cell, skips, IsExit}
use Rattle.flow8.specs.Laws.{IsTold, jumps_through_pointer}

-- ## Cells

pub place_following : (field pc count : ℕ) → pc < FIELD → cell_after count (place field pc) ≡ place field ((pc + count) % FIELD)
place_following field pc count small = ap (λ f. place f ((place field pc % FIELD + count) % FIELD)) over ∙ ap (λ a. place field ((a + count) % FIELD)) within
  where
    over : place field pc / FIELD ≡ field
    over = omega (arith, small)

    within : place field pc % FIELD ≡ pc
    within = omega (arith, small)

-- one of two cells
abbrev pub IsOneOf : Option ℕ × Option ℕ → ℕ → Type 0
IsOneOf cells next = (cells.0 ≡ Some next) ⊎ (cells.1 ≡ Some next)

pub next_is : (field pc : ℕ) (other : Option ℕ) (at : ℕ) → pc < FIELD → at ≡ (pc + 1) % FIELD
    → IsOneOf (Some (cell_after 1 (place field pc)), other) (place field at)
next_is field pc other at small is = inl (ap Some (place_following field pc 1 small ∙ ap (place field) (sym is)))

pub next_or_skip : (field pc : ℕ) (skips : Bool) (at : ℕ) → pc < FIELD → at ≡ (pc + (if skips then 2 else 1)) % FIELD
    → IsOneOf (may_skip (place field pc)) (place field at)
next_or_skip field pc false at small is = next_is field pc (Some (cell_after 2 (place field pc))) at small is
next_or_skip field pc true at small is = inr (ap Some (place_following field pc 2 small ∙ ap (place field) (sym is)))

pub skip_is : (field pc at : ℕ) → pc < FIELD → at ≡ (pc + 2) % FIELD → IsOneOf (skips (place field pc)) (place field at)
skip_is field pc at small is = inl (ap Some (place_following field pc 2 small ∙ ap (place field) (sym is)))

-- ## Addresses

by_bit : (at word bit : ℕ) → bit ≡ word / 0o200 % 2
    → (if nat_eq bit 0 then word % PAGE else PAGE * (at / PAGE) + word % PAGE) ≡ (if nat_eq bit 1 then at / PAGE * PAGE + word % PAGE else word % PAGE)
by_bit at word zero is = refl
by_bit at word (suc zero) is = omega arith
by_bit at word (suc (suc more)) is = absurd (omega (arith, is))

pub named_is : (field pc word : ℕ) → pc < FIELD
    → referred_cell (place field pc) word ≡ place field (if is_in_current_page word then pc / PAGE * PAGE + offset_of word else offset_of word)
named_is field pc word small =
    ap (λ f. place f (address_of_reference (place field pc % FIELD) word)) over
    ∙ ap (λ a. place field (address_of_reference a word)) within
    ∙ ap (place field) (by_bit pc word (word / 0o200 % 2) refl)
  where
    over : place field pc / FIELD ≡ field
    over = omega (arith, small)

    within : place field pc % FIELD ≡ pc
    within = omega (arith, small)

pub direct_small : (current : Bool) (pc word : ℕ) → pc < FIELD → (if current then pc / PAGE * PAGE + offset_of word else offset_of word) < FIELD
direct_small true pc word small = omega (arith, small)
direct_small false pc word small = omega (arith, small)

-- ## References to memory

pub told_isz : (s : State) (word : ℕ) → s.pc < FIELD → IsOneOf (may_skip (next_cell s)) (next_cell (isz_row s word))
told_isz s word small = next_or_skip s.instruction_field s.pc (nat_eq (next_operand s word) 0) _ small refl

pub told_jmp : (s : State) (word : ℕ) → s.pc < FIELD → s.instruction_buffer ≡ s.instruction_field → is_indirect word ≡ false
    → IsOneOf (jmp_exits (next_cell s) word) (next_cell (jmp_row s word))
told_jmp s word small field direct = rw direct (inl (ap Some (named_is s.instruction_field s.pc word small
    ∙ ap (λ f. place f (direct_address s word)) (sym field))))

pub told_jms : (s : State) (word : ℕ) → s.pc < FIELD → s.instruction_buffer ≡ s.instruction_field → is_indirect word ≡ false
    → IsOneOf (jms_exits (next_cell s) word) (next_cell (jms_row s word))
told_jms s word small field direct = rw direct (inr (ap Some (
    ap (cell_after 1) (named_is s.instruction_field s.pc word small)
    ∙ place_following s.instruction_field (direct_address s word) 1 (direct_small (is_in_current_page word) s.pc word small)
    ∙ ap (λ f. place f ((direct_address s word + 1) % FIELD)) (sym field))))

-- ## Input and output

-- the machine stands at the next address, in the same field
abbrev pub IsAdvanced : State → State → Type 0
IsAdvanced s now = (now.pc ≡ (s.pc + 1) % FIELD) × (now.instruction_field ≡ s.instruction_field)

pub told_next : (s now : State) (other : Option ℕ) → s.pc < FIELD → IsAdvanced s now → IsOneOf (Some (cell_after 1 (next_cell s)), other) (next_cell now)
told_next s now other small is =
    subst (λ f. IsOneOf (Some (cell_after 1 (next_cell s)), other) (place f now.pc)) (sym is.1) (next_is s.instruction_field s.pc other now.pc small is.0)

pub either : {A : Type 0} (P : A → Type 0) (b : Bool) (x y : A) → P x → P y → P (if b then x else y)
either P true x y px py = px
either P false x y px py = py

interrupts_advance : (s : State) (word : ℕ) → IsAdvanced s (interrupts_row s word)
interrupts_advance s word =
    either (IsAdvanced s) (nat_eq (pulses_of word) 1) _ _ (either (IsAdvanced s) s.interrupts_on _ _ (refl, refl) (refl, refl))
    (either (IsAdvanced s) (nat_eq (pulses_of word) 2) _ _ (refl, refl) (refl, refl))

read_advances : (s : State) (n : ℕ) → IsAdvanced s (read_row s n)
read_advances s n =
    either (IsAdvanced s) (nat_eq n 1) _ _ (refl, refl)
    (either (IsAdvanced s) (nat_eq n 2) _ _ (refl, refl)
    (either (IsAdvanced s) (nat_eq n 3) _ _ (refl, refl) (either (IsAdvanced s) (nat_eq n 4) _ _ (refl, refl) (refl, refl))))

fields_advance : (s : State) (word : ℕ) → IsAdvanced s (fields_row s word)
fields_advance s word =
    either (IsAdvanced s) (nat_eq (pulses_of word) 1) _ _ (refl, refl)
    (either (IsAdvanced s) (nat_eq (pulses_of word) 2) _ _ (refl, refl)
    (either (IsAdvanced s) (nat_eq (pulses_of word) 3) _ _ (refl, refl)
    (either (IsAdvanced s) (nat_eq (pulses_of word) 4) _ _ (read_advances s (word / 0o10 % 8)) (refl, refl))))

told_interrupts : (s : State) (word : ℕ) → s.pc < FIELD
    → IsOneOf (if nat_eq (pulses_of word) 1 then ion_exits (next_cell s) else goes_on (next_cell s)) (next_cell (interrupts_row s word))
told_interrupts s word small =
    either (λ cells. IsOneOf cells (next_cell (interrupts_row s word))) (nat_eq (pulses_of word) 1) _ _
    (told_next s (interrupts_row s word) (Some 1) small (interrupts_advance s word)) (told_next s (interrupts_row s word) None small (interrupts_advance s word))

-- a device skips only at its first pulse
told_flag : (field pc : ℕ) (pulse flag : Bool) → pc < FIELD
    → IsOneOf (if pulse then may_skip (place field pc) else goes_on (place field pc)) (place field ((pc + (if pulse && flag then 2 else 1)) % FIELD))
told_flag field pc true flag small = next_or_skip field pc flag _ small refl
told_flag field pc false flag small = next_is field pc None _ small refl

pub told_iot : (s : State) (word : ℕ) → s.pc < FIELD → IsOneOf (iot_exits (next_cell s) word) (next_cell (transfer_row s word).0)
told_iot s word small = elim (eqb_tells (word / 0o10 % 0o100) 0) [
  | inl h ↦ rw h.0 (told_interrupts s word small)
  | inr h0 ↦ elim (eqb_tells (word / 0o10 % 0o100) 3) [
    | inl h ↦ rw (h0.0, h.0) (told_flag s.instruction_field s.pc (has (pulses_of word) 1) s.teletype.keyboard_flag small)
    | inr h3 ↦ elim (eqb_tells (word / 0o10 % 0o100) 4) [
      | inl h ↦ rw (h0.0, h3.0, h.0) (told_flag s.instruction_field s.pc (has (pulses_of word) 1) s.teletype.printer_flag small)
      | inr h4 ↦ rw (h0.0, h3.0, h4.0) (elim (eqb_tells (word / 0o100 % 8) 2) [
        | inl h ↦ rw h.0 (told_next s (fields_row s word) None small (fields_advance s word))
        | inr h ↦ rw h.0 (next_is s.instruction_field s.pc None _ small refl)
      ])
    ]
  ]
]

-- ## Operates

told_ways : (field pc : ℕ) (sma sza snl reversed negative is_zero link : Bool) → pc < FIELD
    → IsOneOf (if sma || (sza || snl) then may_skip (place field pc) else (if reversed then skips (place field pc) else goes_on (place field pc)))
    (place field ((pc + (if (if reversed then not ((sma && negative) || ((sza && is_zero) || (snl && link))) else ((sma && negative) || ((sza && is_zero) || (snl && link)))) then 2 else 1)) % FIELD))
told_ways field pc true sza snl reversed negative is_zero link small = next_or_skip field pc _ _ small refl
told_ways field pc false true snl reversed negative is_zero link small = next_or_skip field pc _ _ small refl
told_ways field pc false false true reversed negative is_zero link small = next_or_skip field pc _ _ small refl
told_ways field pc false false false true negative is_zero link small = skip_is field pc _ small refl
told_ways field pc false false false false negative is_zero link small = next_is field pc None _ small refl

told_group2 : (s : State) (word : ℕ) → s.pc < FIELD → runs_on (group2_row s word).1 ≡ true
    → IsOneOf (group2_exits (next_cell s) word) (next_cell (group2_row s word).0)
told_group2 s word small runs = elim (cases_Bool (has_hlt word)) [
  | inl halts ↦ absurd (true≢false (sym runs ∙ rw halts refl))
  | inr goes ↦ rw goes (told_ways s.instruction_field s.pc (has_sma word) (has_sza word) (has_snl word) (is_reversed word) (has s.ac 0o4000) (nat_eq s.ac 0) (nat_eq s.l 1) small)
]

pub told_operate : (s : State) (word : ℕ) → s.pc < FIELD → runs_on (operate_row s word).1 ≡ true
    → IsOneOf (operate_exits (next_cell s) word) (next_cell (operate_row s word).0)
told_operate s word small runs = elim (cases_Bool (is_group_1 word)) [
  | inl first ↦ elim (cases_Bool (is_group1_unassigned word)) [
    | inl bad ↦ absurd (true≢false (sym runs ∙ rw (first, bad) refl))
    | inr good ↦ rw (first, good) (next_is s.instruction_field s.pc None _ small refl)
  ]
  | inr other ↦ elim (cases_Bool (is_group_2 word)) [
    | inl second ↦ rw (other, second) (told_group2 s word small (subst (λ x. x) (rw (other, second) refl) runs))
    | inr third ↦ absurd (true≢false (sym runs ∙ rw (other, third) refl))
  ]
]

-- ## Steps

-- a step of a machine that is not interrupted is an instruction
stepped : (s : State) → IsTold s → step s ≡ after_instruction s (next_word s)
unfolding step
stepped s told = rw (told.running, told.undisturbed) refl

-- a word of no other operation is an operate
operates : (s : State) (word : ℕ) → nat_eq (word / 0o1000) 0 ≡ false → nat_eq (word / 0o1000) 1 ≡ false → nat_eq (word / 0o1000) 2 ≡ false
    → nat_eq (word / 0o1000) 3 ≡ false → nat_eq (word / 0o1000) 4 ≡ false → nat_eq (word / 0o1000) 5 ≡ false → nat_eq (word / 0o1000) 6 ≡ false
    → operate_row s word ≡ after_instruction s word
unfolding after_instruction
operates s word h0 h1 h2 h3 h4 h5 h6 = rw (h0, h1, h2, h3, h4, h5, h6) refl

-- where an instruction of this word goes
told_word : (s : State) (word : ℕ) → s.pc < FIELD → s.instruction_buffer ≡ s.instruction_field → jumps_through_pointer word ≡ false
    → runs_on (after_instruction s word).1 ≡ true → IsOneOf (exits (next_cell s) word) (next_cell (after_instruction s word).0)
unfolding after_instruction
told_word s word small field direct runs = elim (eqb_tells (word / 0o1000) 0) [
  | inl h ↦ rw h.0 (next_is s.instruction_field s.pc None _ small refl)
  | inr h0 ↦ elim (eqb_tells (word / 0o1000) 1) [
    | inl h ↦ rw (h0.0, h.0) (next_is s.instruction_field s.pc None _ small refl)
    | inr h1 ↦ elim (eqb_tells (word / 0o1000) 2) [
      | inl h ↦ rw (h0.0, h1.0, h.0) (told_isz s word small)
      | inr h2 ↦ elim (eqb_tells (word / 0o1000) 3) [
        | inl h ↦ rw (h0.0, h1.0, h2.0, h.0) (next_is s.instruction_field s.pc None _ small refl)
        | inr h3 ↦ elim (eqb_tells (word / 0o1000) 4) [
          | inl h ↦ rw (h0.0, h1.0, h2.0, h3.0, h.0) (told_jms s word small field (pointer (nat_eq (word / 0o1000) 4) (nat_eq (word / 0o1000) 5) (inl h.0) direct))
          | inr h4 ↦ elim (eqb_tells (word / 0o1000) 5) [
            | inl h ↦ rw (h0.0, h1.0, h2.0, h3.0, h4.0, h.0) (told_jmp s word small field (pointer (nat_eq (word / 0o1000) 4) (nat_eq (word / 0o1000) 5) (inr h.0) direct))
            | inr h5 ↦ elim (eqb_tells (word / 0o1000) 6) [
              | inl h ↦ rw (h0.0, h1.0, h2.0, h3.0, h4.0, h5.0, h.0) (told_iot s word small)
              | inr h6 ↦ rw (h0.0, h1.0, h2.0, h3.0, h4.0, h5.0, h6.0) (told_operate s word small (ap (λ now. runs_on now.1) (operates s word h0.0 h1.0 h2.0 h3.0 h4.0 h5.0 h6.0) ∙ runs))
            ]
          ]
        ]
      ]
    ]
  ]
]
  where
    pointer : (jms jmp : Bool) → (jms ≡ true) ⊎ (jmp ≡ true) → (jms || jmp) && is_indirect word ≡ false → is_indirect word ≡ false
    pointer true jmp one direct = direct
    pointer false true one direct = direct
    pointer false false (inl is) direct = absurd (true≢false (sym is))
    pointer false false (inr is) direct = absurd (true≢false (sym is))

pub told : (s : State) → IsTold s → runs_on (step s).1 ≡ true → IsExit (next_cell s) (next_word s) (next_cell (step s).0)
told s is runs =
    subst (λ now. IsOneOf (exits (next_cell s) (next_word s)) (next_cell now.0)) (sym (stepped s is))
    (told_word s (next_word s) is.pc is.field is.direct (ap (λ now. runs_on now.1) (sym (stepped s is)) ∙ runs))
