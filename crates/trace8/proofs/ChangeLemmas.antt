-- A step changes the word of no cell but those that it is told to change.
use Rattle.std.proofs.Common.{◌≡◌, ◌≢◌, inl, inr, ℕ, ◌+◌, ◌/◌, ◌%◌, ◌<◌, Bool, true, false, nat_eq, nat_lt, lit<, arith, if◌then◌else◌, Option, Some, None, List, [], ◌∷◌, slice_index, slice_set, get_or-set_other, refl, ap, sym, subst, ◌∙◌}
use Rattle.std.proofs.lemmas.Bool.{lt-ltb}
use Rattle.std.proofs.lemmas.Bool.Decides.{eqb_tells}
use Rattle.tty8.specs.Teletype.{TeletypeState, with_character_ended, with_key}
use Rattle.cpu8.specs.State.{State, place, printer_done, grants_interrupt}
use Rattle.cpu8.specs.Decoding.{pulses_of, field_of, is_group_1, is_group_2}
use Rattle.cpu8.specs.Reference.{effective_address, core_with_index, is_auto_index, operand_place, pointer_place, next_operand}
use Rattle.cpu8.specs.Operate.{is_group1_unassigned, operate_row}
use Rattle.cpu8.specs.Transfer.{fields_row, interrupts_row, read_row, transfer_row}
use Rattle.cpu8.specs.Step.{after_instruction, next_word, step}
use Rattle.cpu8.specs.declared.outcomes.Stepped.{Stepped}
use Rattle.cpu8.specs.declared.outcomes.Stepped.TheVariants.{Stopped, Interrupted, Ran, Halted, Unassigned}
use Rattle.flow8.specs.Flow.{IsAmong}
use Rattle.terminal8.specs.Asks.{asks_for_key}
use Rattle.terminal8.specs.Terminal.{Terminal, after_attention, after_look, after_step}
use Rattle.flow8.proofs.LawLemmas.{either}
use Rattle.trace8.specs.Stores.{cells_of, changing_cells}

-- ## Cells of core

-- where a list was given another word, that is told
pub changed_at : (core : List ℕ) (at word cell : ℕ) → slice_index (slice_set core at word) cell ≢ slice_index core cell → cell ≡ at
changed_at core at word cell changed = elim (eqb_tells cell at) [
  | inl same ↦ same.1
  | inr other ↦ absurd (changed (get_or-set_other core at cell word 0 (let ne = other.1 in ne)))
]

stored_is_told : (pointer : Option ℕ) (at : ℕ) → IsAmong at (cells_of pointer (Some at))
stored_is_told None at = inl refl
stored_is_told (Some pointer) at = either (λ cells. IsAmong at cells) (nat_eq pointer at) (at ∷ []) (pointer ∷ at ∷ []) (inl refl) (inr (inl refl))

pointer_is_told : (pointer at : ℕ) → IsAmong pointer (cells_of (Some pointer) (Some at))
pointer_is_told pointer at = elim (eqb_tells pointer at) [
  | inl same ↦ rw (same.0) (inl (let e = same.1 in e))
  | inr other ↦ rw (other.0) (inl refl)
]

-- core once an auto-index was made one more, if it was
abbrev stepped_on : Bool → List ℕ → ℕ → ℕ → List ℕ
stepped_on b core at word = if b then slice_set core at word else core

abbrev pointer_if : Bool → ℕ → Option ℕ
pointer_if b at = if b then Some at else None

pointer_told : (b : Bool) (core : List ℕ) (at word cell : ℕ) → slice_index (stepped_on b core at word) cell ≢ slice_index core cell
    → IsAmong cell (cells_of (pointer_if b at) None)
pointer_told true core at word cell changed = inl (changed_at core at word cell changed)
pointer_told false core at word cell changed = absurd (changed refl)

stored_told : (b : Bool) (core : List ℕ) (at word to stored cell : ℕ)
    → slice_index (slice_set (stepped_on b core at word) to stored) cell ≢ slice_index core cell
    → IsAmong cell (cells_of (pointer_if b at) (Some to))
stored_told b core at word to stored cell changed = elim (eqb_tells cell to) [
  | inl same ↦ subst (λ c. IsAmong c (cells_of (pointer_if b at) (Some to))) (sym same.1) (stored_is_told (pointer_if b at) to)
  | inr other ↦
      let kept = get_or-set_other (stepped_on b core at word) to cell stored 0 (let ne = other.1 in ne) in
      by_pointer b (λ e. changed (kept ∙ e))
]
  where
    by_pointer : (b : Bool) → slice_index (stepped_on b core at word) cell ≢ slice_index core cell → IsAmong cell (cells_of (pointer_if b at) (Some to))
    by_pointer true differs =
        subst (λ c. IsAmong c (cells_of (Some at) (Some to))) (sym (changed_at core at word cell differs)) (pointer_is_told at to)
    by_pointer false differs = absurd (differs refl)

-- ## Instructions

-- transfers and operates keep core
abbrev pub Keeps : State → State → Type 0
Keeps s now = now.core ≡ s.core

pub interrupts_keep : (s : State) (w : ℕ) → Keeps s (interrupts_row s w)
interrupts_keep s w =
    either (Keeps s) (nat_eq (pulses_of w) 1) _ _ (either (Keeps s) s.interrupts_on _ _ refl refl) (either (Keeps s) (nat_eq (pulses_of w) 2) _ _ refl refl)

read_keeps : (s : State) (n : ℕ) → Keeps s (read_row s n)
read_keeps s n =
    either (Keeps s) (nat_eq n 1) _ _ refl
    (either (Keeps s) (nat_eq n 2) _ _ refl (either (Keeps s) (nat_eq n 3) _ _ refl (either (Keeps s) (nat_eq n 4) _ _ refl refl)))

pub fields_keep : (s : State) (w : ℕ) → Keeps s (fields_row s w)
fields_keep s w =
    either (Keeps s) (nat_eq (pulses_of w) 1) _ _ refl
    (either (Keeps s) (nat_eq (pulses_of w) 2) _ _ refl
    (either (Keeps s) (nat_eq (pulses_of w) 3) _ _ refl
    (either (Keeps s) (nat_eq (pulses_of w) 4) _ _ (read_keeps s (field_of w)) refl)))

transfer_keeps : (s : State) (w : ℕ) → Keeps s (transfer_row s w).0
transfer_keeps s w = elim (eqb_tells (w / 0o10 % 0o100) 0) [
  | inl h ↦ rw h.0 (interrupts_keep s w)
  | inr h0 ↦ elim (eqb_tells (w / 0o10 % 0o100) 3) [
    | inl h ↦ rw (h0.0, h.0) refl
    | inr h3 ↦ elim (eqb_tells (w / 0o10 % 0o100) 4) [
      | inl h ↦ rw (h0.0, h3.0, h.0) refl
      | inr h4 ↦ rw (h0.0, h3.0, h4.0) (elim (eqb_tells (w / 0o100 % 8) 2) [ inl h ↦ rw h.0 (fields_keep s w) | inr h ↦ rw h.0 refl ])
    ]
  ]
]

operate_keeps : (s : State) (w : ℕ) → Keeps s (operate_row s w).0
operate_keeps s w =
    either (λ (r : State × Stepped). Keeps s r.0) (is_group_1 w) _ _
    (either (λ (r : State × Stepped). Keeps s r.0) (is_group1_unassigned w) _ _ refl refl)
    (either (λ (r : State × Stepped). Keeps s r.0) (is_group_2 w) _ _ refl refl)

-- what is told of a step that left this
abbrev pub IsTold : State → ℕ → ℕ → State × Stepped → Type 0
IsTold s w cell r = slice_index r.0.core cell ≢ slice_index s.core cell → IsAmong cell (changing_cells s w r.1)

-- an instruction that stores nothing but its pointer
referred_told : (s : State) (w cell : ℕ) → slice_index (core_with_index s w) cell ≢ slice_index s.core cell
    → IsAmong cell (cells_of (pointer_if (is_auto_index s w) (pointer_place s w)) None)
referred_told s w cell changed =
    pointer_told (is_auto_index s w) s.core (pointer_place s w) ((slice_index s.core (pointer_place s w) + 1) % 0o10000) cell changed

-- one that stores a word there
to_told : (s : State) (w to word cell : ℕ) → slice_index (slice_set (core_with_index s w) to word) cell ≢ slice_index s.core cell
    → IsAmong cell (cells_of (pointer_if (is_auto_index s w) (pointer_place s w)) (Some to))
to_told s w to word cell changed =
    stored_told (is_auto_index s w) s.core (pointer_place s w) ((slice_index s.core (pointer_place s w) + 1) % 0o10000) to word cell changed

low : (w operation : ℕ) → w / 0o1000 ≡ operation → operation < 6 → nat_lt w 0o6000 ≡ true
low w operation is small = lt-ltb w 0o6000 (omega (arith, is, small))

pub executed_told : (s : State) (w cell : ℕ) → IsTold s w cell (after_instruction s w)
unfolding after_instruction
executed_told s w cell = elim (eqb_tells (w / 0o1000) 0) [
  | inl h ↦ let e = h.1 in rw (e, low w 0 e (lit< tt), e) (referred_told s w cell)
  | inr h0 ↦ elim (eqb_tells (w / 0o1000) 1) [
    | inl h ↦ let e = h.1 in rw (e, low w 1 e (lit< tt), e) (referred_told s w cell)
    | inr h1 ↦ elim (eqb_tells (w / 0o1000) 2) [
      | inl h ↦ let e = h.1 in rw (e, low w 2 e (lit< tt), e) (to_told s w (operand_place s w) (next_operand s w) cell)
      | inr h2 ↦ elim (eqb_tells (w / 0o1000) 3) [
        | inl h ↦ let e = h.1 in rw (e, low w 3 e (lit< tt), e) (to_told s w (operand_place s w) s.ac cell)
        | inr h3 ↦ elim (eqb_tells (w / 0o1000) 4) [
          | inl h ↦
              let e = h.1 in
              rw (e, low w 4 e (lit< tt), e) (to_told s w (place s.instruction_buffer (effective_address s w)) ((s.pc + 1) % 0o10000) cell)
          | inr h4 ↦ elim (eqb_tells (w / 0o1000) 5) [
            | inl h ↦ let e = h.1 in rw (e, low w 5 e (lit< tt), e) (referred_told s w cell)
            | inr h5 ↦ elim (eqb_tells (w / 0o1000) 6) [
              | inl h ↦
                  rw (h0.0, h1.0, h2.0, h3.0, h4.0, h5.0, h.0)
                  (λ changed. absurd (changed (ap (λ core. slice_index core cell) (transfer_keeps s w))))
              | inr h6 ↦
                  rw (h0.0, h1.0, h2.0, h3.0, h4.0, h5.0, h6.0)
                  (λ changed. absurd (changed (ap (λ core. slice_index core cell) (operate_keeps s w))))
            ]
          ]
        ]
      ]
    ]
  ]
]

-- ## Steps

step_told : (s : State) (cell : ℕ) → IsTold s (next_word s) cell (step s)
unfolding step
step_told s cell =
    either (IsTold s (next_word s) cell) s.running _ _
    (either (IsTold s (next_word s) cell) (grants_interrupt s) _ _
    (λ changed. inl (changed_at s.core 0 s.pc cell changed)) (executed_told s (next_word s) cell))
    (λ changed. absurd (changed refl))

-- ## At a terminal

-- the same, but for the Teletype
abbrev pub with_teletype : State → TeletypeState → State
with_teletype s teletype = record s { teletype = teletype }

pub same_cells : (s : State) (x : TeletypeState) (w : ℕ) (did : Stepped) → changing_cells (with_teletype s x) w did ≡ changing_cells s w did
same_cells s x w Interrupted = refl
same_cells s x w Stopped = refl
same_cells s x w (Ran printed) = refl
same_cells s x w Halted = refl
same_cells s x w (Unassigned word) = refl

-- a machine differs from another at most in its Teletype
abbrev OnlyTeletype : State → State → Type 0
OnlyTeletype s now = (x : TeletypeState) × (now ≡ with_teletype s x)

looked_keeps : (s : State) (looks : List (Option ℕ)) → OnlyTeletype s (after_look s looks).machine
looked_keeps s [] = (s.teletype, refl)
looked_keeps s (None ∷ looks) = (s.teletype, refl)
looked_keeps s (Some key ∷ looks) = (with_key s.teletype key, refl)

attended_keeps : (t : Terminal) → OnlyTeletype t.machine (after_attention t).machine
attended_keeps t =
    either (λ (u : Terminal). OnlyTeletype t.machine u.machine) (asks_for_key t.since t.machine) _ _ (looked_keeps t.machine t.looks) (t.machine.teletype, refl)

finished_keeps : (s now : State) → OnlyTeletype s now → OnlyTeletype s (if now.teletype.busy then printer_done now else now)
finished_keeps s now only =
    either (λ (u : State). OnlyTeletype s u) now.teletype.busy _ _ (with_character_ended now.teletype, ap printer_done only.1 ∙ done) only
  where
    done : printer_done (with_teletype s only.0) ≡ with_teletype s (with_character_ended now.teletype)
    done = ap (λ (u : State). with_teletype s (with_character_ended u.teletype)) (sym only.1)

only_told : (s now : State) (cell : ℕ) → OnlyTeletype s now → slice_index (step now).0.core cell ≢ slice_index s.core cell
    → IsAmong cell (changing_cells s (next_word s) (step now).1)
only_told s now cell only changed =
    let told : IsAmong cell (changing_cells now (next_word now) (step now).1) =
    step_told now cell (λ e. changed (e ∙ ap (λ (u : State). slice_index u.core cell) only.1)) in
    subst (λ cells. IsAmong cell cells)
    (ap (λ (u : State). changing_cells u (next_word u) (step now).1) only.1 ∙ same_cells s only.0 (next_word s) (step now).1)
    told

pub changes_told : (t : Terminal) (cell : ℕ) → slice_index (after_step t).0.core cell ≢ slice_index t.machine.core cell
    → IsAmong cell (changing_cells t.machine (next_word t.machine) (after_step t).1)
changes_told t cell changed = only_told t.machine _ cell (finished_keeps t.machine (after_attention t).machine (attended_keeps t)) changed
