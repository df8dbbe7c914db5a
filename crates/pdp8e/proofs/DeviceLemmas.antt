-- What a step leaves of the devices.
use Rattle.std.proofs.Common.{◌≡◌, inl, inr, ℕ, suc, ◌%◌, ◌-◌, true, false, true≢false, ◌&&◌, ◌||◌, not, nat_eq, List, [], ◌∷◌, Option, Some, None, refl, ap, sym, ◌∙◌, arith}
use Rattle.cpu8.specs.declared.outcomes.Stepped.{Stepped}
use Rattle.cpu8.specs.declared.outcomes.Stepped.TheVariants.{Stopped, Interrupted, Ran}
use Rattle.std.proofs.lemmas.Bool.Decides.{nat_tests}
use Rattle.rk8e.specs.Time.{is_over, time_after}
use Rattle.cpu8e.specs.State.{grants_interrupt}
use Rattle.cpu8e.specs.Step.{next_word, after_interrupt}
use Rattle.pdp8e.specs.Devices.{DevicesState, ReaderState, ClockState, clock_ended, devices_cleared, frame_on, reader_ended, rest_of, with_frame}
use Rattle.pdp8e.specs.DeviceInstructions.{is_device_word, is_reader_word, is_punch_word, is_clock_word, clock_row, devices_row, printer_row, punch_row, reader_row}
use Rattle.pdp8e.specs.State.{Pdp8e, with_processor}
use Rattle.pdp8e.specs.Step.{at_beginning, going_on, is_disk_word, is_caf, after_instruction, after_other, disk_row, device_row, processor_row, passing, step}
use Rattle.pdp8e.specs.Laws.{LeavesDevices}
use Rattle.pdp8e.proofs.StepLemmas.{pick}
use Rattle.pdp8e.proofs.StillLemmas.{if_false, if_true}
use Rattle.pdp8e.proofs.UserLemmas.{no_user}

-- ## User mode

pub user_leaves_devices : (m : Pdp8e) → m.processor.user_flag ≡ true → LeavesDevices m (step m).0.devices
unfolding step
user_leaves_devices m user =
    let r = at_beginning m in
    let p = passing r in
    let w = next_word r.processor in
    let P : Pdp8e × Stepped → Type 0 = λ did. LeavesDevices m did.0.devices in
    pick P m.processor.base.running (going_on r) (m, Stopped)
    (λ _. pick P (grants_interrupt r.processor) (with_processor r (after_interrupt r.processor), Interrupted) (after_instruction p w)
    (λ _. inr (inl refl))
    (λ _. pick P (is_disk_word w && not m.processor.user_flag) (disk_row p w, Ran None) (after_other p w)
    (λ h. absurd (no_user (is_disk_word w) m.processor.user_flag user h))
    (λ _. pick P (is_device_word w && not m.processor.user_flag) (device_row p w, Ran None) (processor_row p w)
    (λ h. absurd (no_user (is_device_word w) m.processor.user_flag user h))
    (λ _. pick (LeavesDevices m) (is_caf w && not m.processor.user_flag) (devices_cleared p.devices) p.devices
    (λ h. absurd (no_user (is_caf w) m.processor.user_flag user h))
    (λ _. inr (inr refl))))))
    (λ _. inl refl)

-- ## Reader

pub frame_comes : (r : ReaderState) (frame : ℕ) (others : List ℕ) → r.asked ≡ true → r.tape ≡ Some (frame ∷ others)
    → reader_ended r ≡ record { tape = Some others; asked = false; buffer = frame; flag = true }
frame_comes r frame others asked is =
    if_true r.asked (with_frame (record r { tape = rest_of r.tape; asked = false }) (frame_on r.tape)) r asked
    ∙ ap (λ (t : Option (List ℕ)). with_frame (record r { tape = rest_of t; asked = false }) (frame_on t)) is

pub none_comes : (r : ReaderState) → r.asked ≡ true → r.tape ≡ Some [] → reader_ended r ≡ record r { asked = false }
none_comes r asked is =
    if_true r.asked (with_frame (record r { tape = rest_of r.tape; asked = false }) (frame_on r.tape)) r asked
    ∙ ap (λ (t : Option (List ℕ)). with_frame (record r { tape = rest_of t; asked = false }) (frame_on t)) is
    ∙ ap (λ (t : Option (List ℕ)). record r { tape = t; asked = false }) (sym is)

pub no_tape : (r : ReaderState) → r.asked ≡ true → r.tape ≡ None → reader_ended r ≡ record r { asked = false }
no_tape r asked is =
    if_true r.asked (with_frame (record r { tape = rest_of r.tape; asked = false }) (frame_on r.tape)) r asked
    ∙ ap (λ (t : Option (List ℕ)). with_frame (record r { tape = rest_of t; asked = false }) (frame_on t)) is
    ∙ ap (λ (t : Option (List ℕ)). record r { tape = t; asked = false }) (sym is)

-- ## Clock

pub ticks : (c : ClockState) → c.time_left ≡ Some 0 → clock_ended c ≡ record c { flag = true; time_left = Some c.period }
ticks c is = if_true (is_over c.time_left) (record c { flag = true; time_left = Some c.period }) c (ap (λ t. is_over t) is)

not_over : (time : ℕ) → nat_eq (suc time) 0 ≡ false
not_over time = grind (arith, nat_tests)

goes_on : (c : ClockState) (time : ℕ) → c.time_left ≡ Some (suc time) → (clock_ended c).time_left ≡ Some (suc time)
goes_on c time is =
    ap (λ (x : ClockState). x.time_left)
    (if_false (is_over c.time_left) (record c { flag = true; time_left = Some c.period }) c (ap (λ t. is_over t) is ∙ not_over time))
    ∙ is

clock_kept : (c : ClockState) (pulses ac : ℕ) → (clock_row c pulses ac).time_left ≡ c.time_left
clock_kept c pulses ac =
    pick (λ (x : ClockState). x.time_left ≡ c.time_left) (nat_eq pulses 1) (record c { enabled = true }) _ (λ _. refl)
    (λ _. pick (λ (x : ClockState). x.time_left ≡ c.time_left) (nat_eq pulses 2) (record c { enabled = false }) _ (λ _. refl)
    (λ _. pick (λ (x : ClockState). x.time_left ≡ c.time_left) (nat_eq pulses 3 || nat_eq pulses 6) (record c { flag = false }) _ (λ _. refl)
    (λ _. pick (λ (x : ClockState). x.time_left ≡ c.time_left) (nat_eq pulses 5) (record c { enabled = nat_eq (ac % 2) 1 }) c (λ _. refl) (λ _. refl))))

reader_clock : (d : DevicesState) (pulses : ℕ) → (reader_row d pulses).clock ≡ d.clock
reader_clock d pulses =
    pick (λ (x : DevicesState). x.clock ≡ d.clock) (nat_eq pulses 0) (record d { tape_enabled = true }) _ (λ _. refl)
    (λ _. pick (λ (x : DevicesState). x.clock ≡ d.clock) (nat_eq pulses 2) (record d { reader = record d.reader { flag = false } }) _ (λ _. refl)
    (λ _. pick (λ (x : DevicesState). x.clock ≡ d.clock) (nat_eq pulses 4 || nat_eq pulses 6) (record d { reader = record d.reader { asked = true; flag = false } }) d
    (λ _. refl) (λ _. refl)))

punch_clock : (d : DevicesState) (pulses ac : ℕ) → (punch_row d pulses ac).clock ≡ d.clock
punch_clock d pulses ac =
    pick (λ (x : DevicesState). x.clock ≡ d.clock) (nat_eq pulses 0) (record d { tape_enabled = false }) _ (λ _. refl) (λ _. refl)

printer_clock : (d : DevicesState) (pulses ac : ℕ) → (printer_row d pulses ac).clock ≡ d.clock
printer_clock d pulses ac =
    pick (λ (x : DevicesState). x.clock ≡ d.clock) (nat_eq pulses 5) (record d { printer_enabled = true }) _ (λ _. refl)
    (λ _. pick (λ (x : DevicesState). x.clock ≡ d.clock) (nat_eq pulses 7) (record d { printer_enabled = false }) _ (λ _. refl) (λ _. refl))

row_clock : (d : DevicesState) (w ac : ℕ) → (devices_row d w ac).clock.time_left ≡ d.clock.time_left
row_clock d w ac =
    let P : DevicesState → Type 0 = λ x. x.clock.time_left ≡ d.clock.time_left in
    pick P (is_reader_word w) (reader_row d (w % 8)) _ (λ _. ap (λ (c : ClockState). c.time_left) (reader_clock d (w % 8)))
    (λ _. pick P (is_punch_word w) (punch_row d (w % 8) ac) _ (λ _. ap (λ (c : ClockState). c.time_left) (punch_clock d (w % 8) ac))
    (λ _. pick P (is_clock_word w) (record d { clock = clock_row d.clock (w % 8) ac }) (printer_row d (w % 8) ac) (λ _. clock_kept d.clock (w % 8) ac)
    (λ _. ap (λ (c : ClockState). c.time_left) (printer_clock d (w % 8) ac))))

pub clock_passes : (m : Pdp8e) (time : ℕ) → m.processor.base.running ≡ true → grants_interrupt (at_beginning m).processor ≡ false
    → m.devices.clock.time_left ≡ Some (suc time) → (step m).0.devices.clock.time_left ≡ Some time
unfolding step
clock_passes m time runs free is =
    let r = at_beginning m in
    let p = passing r in
    let w = next_word r.processor in
    let ac = r.processor.base.ac in
    let user = r.processor.user_flag in
    let P : Pdp8e × Stepped → Type 0 = λ did. did.0.devices.clock.time_left ≡ Some time in
    let less : suc time - 1 ≡ time = omega arith in
    let passed : p.devices.clock.time_left ≡ Some time =
    ap (λ (t : Option ℕ). time_after t 1) (goes_on m.devices.clock time is) ∙ ap (λ (t : ℕ). Some t) less in
    pick P m.processor.base.running (going_on r) (m, Stopped)
    (λ _. pick P (grants_interrupt r.processor) (with_processor r (after_interrupt r.processor), Interrupted) (after_instruction p w)
    (λ grants. absurd (true≢false (sym grants ∙ free)))
    (λ _. pick P (is_disk_word w && not user) (disk_row p w, Ran None) (after_other p w)
    (λ _. passed)
    (λ _. pick P (is_device_word w && not user) (device_row p w, Ran None) (processor_row p w)
    (λ _. row_clock p.devices w ac ∙ passed)
    (λ _. pick (λ (d : DevicesState). d.clock.time_left ≡ Some time) (is_caf w && not user) (devices_cleared p.devices) p.devices (λ _. passed) (λ _. passed)))))
    (λ stopped. absurd (true≢false (sym runs ∙ stopped)))

pub clock_waits : (m : Pdp8e) (time : ℕ) → m.processor.base.running ≡ true → grants_interrupt (at_beginning m).processor ≡ true
    → m.devices.clock.time_left ≡ Some (suc time) → (step m).0.devices.clock.time_left ≡ Some (suc time)
unfolding step
clock_waits m time runs grants is =
    let r = at_beginning m in
    let P : Pdp8e × Stepped → Type 0 = λ did. did.0.devices.clock.time_left ≡ Some (suc time) in
    pick P m.processor.base.running (going_on r) (m, Stopped)
    (λ _. pick P (grants_interrupt r.processor) (with_processor r (after_interrupt r.processor), Interrupted)
    (after_instruction (passing r) (next_word r.processor))
    (λ _. goes_on m.devices.clock time is)
    (λ none. absurd (true≢false (sym grants ∙ none))))
    (λ stopped. absurd (true≢false (sym runs ∙ stopped)))
