-- What the rows of the table leave of waiting and holding off, and that none of them is an interrupt.
use Rattle.std.proofs.Common.{◌≡◌, ℕ, Bool, true, false, true≢false, nat_eq, if◌then◌else◌, None, refl, sym, ◌∙◌}
use Rattle.cpu8.specs.State.{State}
use Rattle.cpu8.specs.Decoding.{pulses_of, device_of, field_of, is_group_1, is_group_2, has_hlt}
use Rattle.cpu8.specs.Reference.{after_fetch}
use Rattle.cpu8.specs.Operate.{is_group1_unassigned, unassigned_row, group1_done, group1_row, group2_done, group2_row, operate_row}
use Rattle.cpu8.specs.Transfer.{ion_row, iof_row, cdf_row, cif_row, cdf_cif_row, rdf_row, rif_row, rib_row, rmf_row, read_row, device_row}
use Rattle.cpu8.specs.Step.{row}
use Rattle.cpu8.specs.Laws.{runs_on, is_jump}
use Rattle.cpu8.specs.declared.decoding.Operation.{Operation}
use Rattle.cpu8.specs.declared.decoding.Operation.TheVariants.{And, Tad, Isz, Dca, Jms, Jmp, Iot, Opr}
use Rattle.cpu8.specs.declared.decoding.Device.{Device}
use Rattle.cpu8.specs.declared.decoding.Device.TheVariants.{Interrupts, Keyboard, Printer, Fields, Other}
use Rattle.cpu8.specs.declared.outcomes.Stepped.{Stepped}
use Rattle.cpu8.specs.declared.outcomes.Stepped.TheVariants.{Stopped, Interrupted, Ran, Halted, Unassigned}

abbrev pub is_interrupt : Stepped → Bool
is_interrupt Stopped = false
is_interrupt Interrupted = true
is_interrupt (Ran printed) = false
is_interrupt Halted = false
is_interrupt (Unassigned word) = false

-- what a row comes to, of an instruction that is a jump or not
pub record IsOutcome (jumps : Bool) (s : State) (r : State × Stepped) : Type 0 where
  pub instruction : is_interrupt r.1 ≡ false
  pub waited : s.interrupts_on ≡ true → runs_on r.1 ≡ true → r.0.waiting ≡ false
  pub held : jumps ≡ false → s.held_off ≡ true → r.0.held_off ≡ true

either : (j : Bool) (s : State) (b : Bool) (x y : State × Stepped) → IsOutcome j s x → IsOutcome j s y → IsOutcome j s (if b then x else y)
either j s true x y hx hy = hx
either j s false x y hx hy = hy

either_state : (j : Bool) (s : State) (b : Bool) (x y : State) → IsOutcome j s (x, Ran None) → IsOutcome j s (y, Ran None)
    → IsOutcome j s (if b then x else y, Ran None)
either_state j s true x y hx hy = hx
either_state j s false x y hx hy = hy

advanced-outcome : (j : Bool) (s : State) → IsOutcome j s (after_fetch s, Ran None)
advanced-outcome j s = record { instruction = refl; waited = λ _ _. refl; held = λ _ h. h }

ion-outcome : (j : Bool) (s : State) (on : Bool) → s.interrupts_on ≡ on
    → IsOutcome j s (if on then after_fetch s else record (after_fetch s) { interrupts_on = true; waiting = true }, Ran None)
ion-outcome j s true e = advanced-outcome j s
ion-outcome j s false e = record { instruction = refl; waited = λ on _. absurd (true≢false (sym on ∙ e)); held = λ _ h. h }

read-outcome : (j : Bool) (s : State) (n : ℕ) → IsOutcome j s (read_row s n, Ran None)
read-outcome j s n =
    either_state j s (nat_eq n 1) (rdf_row s) _ (record { instruction = refl; waited = λ _ _. refl; held = λ _ h. h })
    (either_state j s (nat_eq n 2) (rif_row s) _ (record { instruction = refl; waited = λ _ _. refl; held = λ _ h. h })
    (either_state j s (nat_eq n 3) (rib_row s) _ (record { instruction = refl; waited = λ _ _. refl; held = λ _ h. h })
    (either_state j s (nat_eq n 4) (rmf_row s) (after_fetch s) (record { instruction = refl; waited = λ _ _. refl; held = λ _ _. refl }) (advanced-outcome j s))))

device-outcome : (j : Bool) (d : Device) (s : State) (w : ℕ) → IsOutcome j s (device_row d s w)
device-outcome j Interrupts s w =
    either_state j s (nat_eq (pulses_of w) 1) (ion_row s) _ (ion-outcome j s s.interrupts_on refl)
    (either_state j s (nat_eq (pulses_of w) 2) (iof_row s) (after_fetch s) (record { instruction = refl; waited = λ _ _. refl; held = λ _ h. h }) (advanced-outcome j s))
device-outcome j Keyboard s w = record { instruction = refl; waited = λ _ _. refl; held = λ _ h. h }
device-outcome j Printer s w = record { instruction = refl; waited = λ _ _. refl; held = λ _ h. h }
device-outcome j Fields s w =
    either_state j s (nat_eq (pulses_of w) 1) (cdf_row s (field_of w)) _ (record { instruction = refl; waited = λ _ _. refl; held = λ _ h. h })
    (either_state j s (nat_eq (pulses_of w) 2) (cif_row s (field_of w)) _ (record { instruction = refl; waited = λ _ _. refl; held = λ _ _. refl })
    (either_state j s (nat_eq (pulses_of w) 3) (cdf_cif_row s (field_of w)) _ (record { instruction = refl; waited = λ _ _. refl; held = λ _ _. refl })
    (either_state j s (nat_eq (pulses_of w) 4) (read_row s (field_of w)) (after_fetch s) (read-outcome j s (field_of w)) (advanced-outcome j s))))
device-outcome j Other s w = advanced-outcome j s

unassigned-outcome : (j : Bool) (s : State) (w : ℕ) → IsOutcome j s (unassigned_row s w)
unassigned-outcome j s w = record { instruction = refl; waited = λ _ runs. absurd (true≢false (sym runs)); held = λ _ h. h }

halting : (j : Bool) (s x : State) (halts : Bool) → x.waiting ≡ false → x.held_off ≡ s.held_off → IsOutcome j s (x, if halts then Halted else Ran None)
halting j s x true waiting held = record { instruction = refl; waited = λ _ _. waiting; held = λ _ h. held ∙ h }
halting j s x false waiting held = record { instruction = refl; waited = λ _ _. waiting; held = λ _ h. held ∙ h }

operate-outcome : (j : Bool) (s : State) (w : ℕ) → IsOutcome j s (operate_row s w)
operate-outcome j s w =
    either j s (is_group_1 w) (group1_row s w) (if is_group_2 w then group2_row s w else unassigned_row s w)
    (either j s (is_group1_unassigned w) (unassigned_row s w) (group1_done s w, Ran None) (unassigned-outcome j s w)
    (record { instruction = refl; waited = λ _ _. refl; held = λ _ h. h }))
    (either j s (is_group_2 w) (group2_row s w) (unassigned_row s w) (halting j s (group2_done s w) (has_hlt w) refl refl) (unassigned-outcome j s w))

pub row-outcome : (op : Operation) (s : State) (w : ℕ) → IsOutcome (is_jump op) s (row op s w)
row-outcome And s w = record { instruction = refl; waited = λ _ _. refl; held = λ _ h. h }
row-outcome Tad s w = record { instruction = refl; waited = λ _ _. refl; held = λ _ h. h }
row-outcome Isz s w = record { instruction = refl; waited = λ _ _. refl; held = λ _ h. h }
row-outcome Dca s w = record { instruction = refl; waited = λ _ _. refl; held = λ _ h. h }
row-outcome Jms s w = record { instruction = refl; waited = λ _ _. refl; held = λ jumps _. absurd (true≢false jumps) }
row-outcome Jmp s w = record { instruction = refl; waited = λ _ _. refl; held = λ jumps _. absurd (true≢false jumps) }
row-outcome Iot s w = device-outcome false (device_of w) s w
row-outcome Opr s w = operate-outcome false s w
