-- Every step: whether the machine runs on, and the number of its cells.
use Rattle.std.proofs.Common.{◌≡◌, ℕ, Bool, true, false, nat_eq, if◌then◌else◌, List, length, slice_index, slice_set, length-set, ◌+◌, ◌%◌, None, refl, ap, ◌∙◌}
use Rattle.cpu8.specs.State.{State, grants_interrupt}
use Rattle.cpu8.specs.Decoding.{operation_of, pulses_of, device_of, field_of, is_group_1, is_group_2, has_hlt}
use Rattle.cpu8.specs.Reference.{core_with_index, is_auto_index, pointer_place, after_fetch}
use Rattle.cpu8.specs.Operate.{is_group1_unassigned, unassigned_row, group1_done, group1_row, group2_done, group2_row, operate_row}
use Rattle.cpu8.specs.Transfer.{ion_row, iof_row, cdf_row, cif_row, cdf_cif_row, rdf_row, rif_row, rib_row, rmf_row, read_row, device_row}
use Rattle.cpu8.specs.Step.{row, after_instruction, next_word, after_interrupt, step}
use Rattle.cpu8.specs.Laws.{runs_on}
use Rattle.cpu8.specs.declared.decoding.Operation.{Operation}
use Rattle.cpu8.specs.declared.decoding.Operation.TheVariants.{And, Tad, Isz, Dca, Jms, Jmp, Iot, Opr}
use Rattle.cpu8.specs.declared.decoding.Device.{Device}
use Rattle.cpu8.specs.declared.decoding.Device.TheVariants.{Interrupts, Keyboard, Printer, Fields, Other}
use Rattle.cpu8.specs.declared.outcomes.Stepped.{Stepped}
use Rattle.cpu8.specs.declared.outcomes.Stepped.TheVariants.{Stopped, Interrupted, Ran, Halted}

-- what every step of a state comes to
pub record Keeps (s : State) (r : State × Stepped) : Type 0 where
  pub running : r.0.running ≡ runs_on r.1
  pub size : length r.0.core ≡ length s.core

either : (s : State) (b : Bool) (x y : State × Stepped) → Keeps s x → Keeps s y → Keeps s (if b then x else y)
either s true x y hx hy = hx
either s false x y hx hy = hy

either_state : (s : State) (b : Bool) (x y : State) (a : Stepped) → Keeps s (x, a) → Keeps s (y, a) → Keeps s (if b then x else y, a)
either_state s true x y a hx hy = hx
either_state s false x y a hx hy = hy

length-if : (b : Bool) (core : List ℕ) (at word : ℕ) → length (if b then slice_set core at word else core) ≡ length core
length-if true core at word = length-set core at word
length-if false core at word = refl

pub length-indexed : (s : State) (w : ℕ) → length (core_with_index s w) ≡ length s.core
length-indexed s w = length-if (is_auto_index s w) s.core (pointer_place s w) ((slice_index s.core (pointer_place s w) + 1) % 4096)

length-stored : (s : State) (w at word : ℕ) → length (slice_set (core_with_index s w) at word) ≡ length s.core
length-stored s w at word = length-set (core_with_index s w) at word ∙ length-indexed s w

advanced-keeps : (s : State) → s.running ≡ true → Keeps s (after_fetch s, Ran None)
advanced-keeps s h = record { running = h; size = refl }

read-keeps : (s : State) (n : ℕ) → s.running ≡ true → Keeps s (read_row s n, Ran None)
read-keeps s n h =
    either_state s (nat_eq n 1) (rdf_row s) _ _ (record { running = h; size = refl })
    (either_state s (nat_eq n 2) (rif_row s) _ _ (record { running = h; size = refl })
    (either_state s (nat_eq n 3) (rib_row s) _ _ (record { running = h; size = refl })
    (either_state s (nat_eq n 4) (rmf_row s) (after_fetch s) _ (record { running = h; size = refl }) (advanced-keeps s h))))

ion-keeps : (s : State) → s.running ≡ true → Keeps s (ion_row s, Ran None)
ion-keeps s h = either_state s s.interrupts_on (after_fetch s) _ _ (advanced-keeps s h) (record { running = h; size = refl })

device-keeps : (d : Device) (s : State) (w : ℕ) → s.running ≡ true → Keeps s (device_row d s w)
device-keeps Interrupts s w h =
    either_state s (nat_eq (pulses_of w) 1) (ion_row s) _ _ (ion-keeps s h)
    (either_state s (nat_eq (pulses_of w) 2) (iof_row s) (after_fetch s) _ (record { running = h; size = refl }) (advanced-keeps s h))
device-keeps Keyboard s w h = record { running = h; size = refl }
device-keeps Printer s w h = record { running = h; size = refl }
device-keeps Fields s w h =
    either_state s (nat_eq (pulses_of w) 1) (cdf_row s (field_of w)) _ _ (record { running = h; size = refl })
    (either_state s (nat_eq (pulses_of w) 2) (cif_row s (field_of w)) _ _ (record { running = h; size = refl })
    (either_state s (nat_eq (pulses_of w) 3) (cdf_cif_row s (field_of w)) _ _ (record { running = h; size = refl })
    (either_state s (nat_eq (pulses_of w) 4) (read_row s (field_of w)) (after_fetch s) _ (read-keeps s (field_of w) h) (advanced-keeps s h))))
device-keeps Other s w h = advanced-keeps s h

halting : (s x : State) (halts : Bool) → s.running ≡ true → x.running ≡ (if halts then false else s.running) → x.core ≡ s.core
    → Keeps s (x, if halts then Halted else Ran None)
halting s x true h running core = record { running = running; size = ap length core }
halting s x false h running core = record { running = running ∙ h; size = ap length core }

operate-keeps : (s : State) (w : ℕ) → s.running ≡ true → Keeps s (operate_row s w)
operate-keeps s w h =
    either s (is_group_1 w) (group1_row s w) (if is_group_2 w then group2_row s w else unassigned_row s w)
    (either s (is_group1_unassigned w) (unassigned_row s w) (group1_done s w, Ran None)
    (record { running = refl; size = refl }) (record { running = h; size = refl }))
    (either s (is_group_2 w) (group2_row s w) (unassigned_row s w)
    (halting s (group2_done s w) (has_hlt w) h refl refl) (record { running = refl; size = refl }))

row-keeps : (op : Operation) (s : State) (w : ℕ) → s.running ≡ true → Keeps s (row op s w)
row-keeps And s w h = record { running = h; size = length-indexed s w }
row-keeps Tad s w h = record { running = h; size = length-indexed s w }
row-keeps Isz s w h = record { running = h; size = length-stored s w _ _ }
row-keeps Dca s w h = record { running = h; size = length-stored s w _ _ }
row-keeps Jms s w h = record { running = h; size = length-stored s w _ _ }
row-keeps Jmp s w h = record { running = h; size = length-indexed s w }
row-keeps Iot s w h = device-keeps (device_of w) s w h
row-keeps Opr s w h = operate-keeps s w h

running-keeps : (s : State) → s.running ≡ true → Keeps s (if grants_interrupt s then (after_interrupt s, Interrupted) else row (operation_of (next_word s)) s (next_word s))
running-keeps s h =
    either s (grants_interrupt s) (after_interrupt s, Interrupted) (row (operation_of (next_word s)) s (next_word s)) (record { running = h; size = length-set s.core 0 s.pc })
    (row-keeps (operation_of (next_word s)) s (next_word s) h)

chosen-keeps : (s : State) (b : Bool) → s.running ≡ b
    → Keeps s (if b then (if grants_interrupt s then (after_interrupt s, Interrupted) else row (operation_of (next_word s)) s (next_word s)) else (s, Stopped))
chosen-keeps s true h = running-keeps s h
chosen-keeps s false h = record { running = h; size = refl }

pub step-keeps : (s : State) → Keeps s (step s)
unfolding step after_instruction
step-keeps s = chosen-keeps s s.running refl
