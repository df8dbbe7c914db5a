-- Devices that are idle and request nothing change no step.
use Rattle.std.proofs.Common.{◌≡◌, ℕ, Bool, false, ◌&&◌, ◌||◌, not, None, ap, sym, ◌∙◌}
use Rattle.cpu8.specs.declared.outcomes.Stepped.{Stepped}
use Rattle.cpu8.specs.declared.outcomes.Stepped.TheVariants.{Stopped, Interrupted, Ran}
use Rattle.rk8e.specs.State.{DiskState}
use Rattle.rk8e.specs.Command.{is_requesting}
use Rattle.rk8e.specs.Transfer.{after_ends}
use Rattle.cpu8e.specs.State.{State8e, grants_interrupt, with_core, with_request}
use Rattle.cpu8e.specs.Step.{next_word, after_interrupt}
use Rattle.cpu8e.specs.Step as Cpu
use Rattle.pdp8e.specs.Devices.{DevicesState, new_devices, are_requesting}
use Rattle.pdp8e.specs.DeviceInstructions.{is_device_word}
use Rattle.pdp8e.specs.State.{Pdp8e, machine_of, with_processor}
use Rattle.pdp8e.specs.Step.{at_beginning, going_on, is_disk_word, is_caf, after_instruction, after_other, disk_row, passing, step}
use Rattle.pdp8e.specs.Laws.{having, having_after}
use Rattle.pdp8e.proofs.StillLemmas.{AreIdle, either, if_false, if_true, no_device_ends, no_device_time}

joined : (p : State8e) (x : DiskState) (d : DevicesState) → are_requesting d ≡ false → machine_of p x d ≡ having (machine_of p x new_devices) d
joined p x d none =
    ap (λ (b : Bool). let m : Pdp8e = record { processor = with_request p (is_requesting x || b); disk = x; devices = d } in m) none

begun : (m : Pdp8e) (d : DevicesState) → AreIdle d → are_requesting d ≡ false
    → at_beginning (having m d) ≡ having (at_beginning (having m new_devices)) d
begun m d idle none =
    let ended = after_ends m.disk m.processor.base.core in
    ap (λ (e : DevicesState). machine_of (with_core m.processor ended.core) ended.disk e) (no_device_ends d idle)
    ∙ joined (with_core m.processor ended.core) ended.disk d none

other : (m : Pdp8e) (d : DevicesState) (w : ℕ) → are_requesting d ≡ false → is_device_word w ≡ false → is_caf w ≡ false
    → after_other (having m d) w ≡ having_after (after_other (having m new_devices) w) d
other m d w none not_device not_caf =
    let did = Cpu.after_instruction m.processor w in
    rw (not_device, not_caf) (ap (λ (x : Pdp8e). let r : Pdp8e × Stepped = (x, did.1) in r) (joined did.0 m.disk d none))

instruction : (m : Pdp8e) (d : DevicesState) (w : ℕ) → are_requesting d ≡ false → is_device_word w ≡ false → is_caf w ≡ false
    → after_instruction (having m d) w ≡ having_after (after_instruction (having m new_devices) w) d
instruction m d w none not_device not_caf =
    let is = is_disk_word w && not m.processor.user_flag in
    let row = disk_row (having m new_devices) w in
    either is
    (λ yes.
    if_true is (disk_row (having m d) w, Ran None) (after_other (having m d) w) yes
    ∙ ap (λ (x : Pdp8e). let r : Pdp8e × Stepped = (x, Ran None) in r) (joined row.processor row.disk d none)
    ∙ sym (ap (λ (r : Pdp8e × Stepped). having_after r d) (if_true is (row, Ran None) (after_other (having m new_devices) w) yes)))
    (λ no.
    if_false is (disk_row (having m d) w, Ran None) (after_other (having m d) w) no
    ∙ other m d w none not_device not_caf
    ∙ sym (ap (λ (r : Pdp8e × Stepped). having_after r d) (if_false is (row, Ran None) (after_other (having m new_devices) w) no)))

passed : (m : Pdp8e) (d : DevicesState) → AreIdle d → passing (having m d) ≡ having (passing (having m new_devices)) d
passed m d idle = ap (λ (e : DevicesState). having (passing (having m d)) e) (no_device_time d idle)

going : (m : Pdp8e) (d : DevicesState) → AreIdle d → are_requesting d ≡ false → is_device_word (next_word m.processor) ≡ false
    → is_caf (next_word m.processor) ≡ false → going_on (having m d) ≡ having_after (going_on (having m new_devices)) d
going m d idle none not_device not_caf =
    let w = next_word m.processor in
    let g = grants_interrupt m.processor in
    let stored = after_interrupt m.processor in
    let n = having m new_devices in
    either g
    (λ yes.
    if_true g (with_processor (having m d) stored, Interrupted) (after_instruction (passing (having m d)) w) yes
    ∙ sym (ap (λ (r : Pdp8e × Stepped). having_after r d) (if_true g (with_processor n stored, Interrupted) (after_instruction (passing n) w) yes)))
    (λ no.
    if_false g (with_processor (having m d) stored, Interrupted) (after_instruction (passing (having m d)) w) no
    ∙ ap (λ (x : Pdp8e). after_instruction x w) (passed m d idle)
    ∙ instruction (passing n) d w none not_device not_caf
    ∙ sym (ap (λ (r : Pdp8e × Stepped). having_after r d) (if_false g (with_processor n stored, Interrupted) (after_instruction (passing n) w) no)))

pub idle_step : (m : Pdp8e) (d : DevicesState) → AreIdle d → are_requesting d ≡ false
    → is_device_word (next_word (at_beginning (having m new_devices)).processor) ≡ false → is_caf (next_word (at_beginning (having m new_devices)).processor) ≡ false
    → step (having m d) ≡ having_after (step (having m new_devices)) d
unfolding step
idle_step m d idle none not_device not_caf =
    let running = m.processor.base.running in
    let n = having m new_devices in
    let r = at_beginning n in
    either running
    (λ yes.
    if_true running (going_on (at_beginning (having m d))) (having m d, Stopped) yes
    ∙ ap (λ (x : Pdp8e). going_on x) (begun m d idle none)
    ∙ going r d idle none not_device not_caf
    ∙ sym (ap (λ (x : Pdp8e × Stepped). having_after x d) (if_true running (going_on r) (n, Stopped) yes)))
    (λ no.
    if_false running (going_on (at_beginning (having m d))) (having m d, Stopped) no
    ∙ sym (ap (λ (x : Pdp8e × Stepped). having_after x d) (if_false running (going_on r) (n, Stopped) no)))
