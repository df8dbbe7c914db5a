-- What a step punches, and prints on the line printer.
use Rattle.std.proofs.Common.{◌≡◌, ℕ, ◌/◌, ◌%◌, Bool, true, false, true≢false, ◌&&◌, ◌||◌, not, nat_eq, if◌then◌else◌, Option, Some, None, refl, ap, sym, ◌∙◌}
use Rattle.std.proofs.lemmas.Bool.{and_parts, eqb-true}
use Rattle.cpu8.specs.declared.outcomes.Stepped.{Stepped}
use Rattle.cpu8.specs.declared.outcomes.Stepped.TheVariants.{Stopped, Interrupted, Ran}
use Rattle.cpu8e.specs.State.{grants_interrupt}
use Rattle.cpu8e.specs.Step.{next_word, after_interrupt}
use Rattle.pdp8e.specs.Devices.{DevicesState, WriterState, devices_cleared, writer_ended}
use Rattle.pdp8e.specs.DeviceInstructions.{is_device_word, is_reader_word, is_punch_word, is_clock_word, is_printer_word, clock_row, devices_row, printer_row, punch_row, reader_row, writer_row}
use Rattle.pdp8e.specs.State.{Pdp8e, with_processor}
use Rattle.pdp8e.specs.Step.{at_beginning, going_on, is_disk_word, is_caf, after_instruction, after_other, disk_row, device_row, processor_row, passing, step}
use Rattle.pdp8e.specs.Laws.{is_writing, frame_punched, character_printed}
use Rattle.pdp8e.proofs.StepLemmas.{pick}
use Rattle.pdp8e.proofs.StillLemmas.{either, if_false}

-- ## The devices alone

nothing_left : (writing : Option ℕ) (flag : Bool) → (writer_ended (record { writing = writing; flag = flag })).writing ≡ None
nothing_left None flag = refl
nothing_left (Some character) flag = refl

ended : (w : WriterState) → (writer_ended w).writing ≡ None
ended w = nothing_left w.writing w.flag

written : (w : WriterState) (pulses c : ℕ) → w.writing ≡ None
    → (writer_row w pulses c).writing ≡ (if nat_eq pulses 4 || nat_eq pulses 6 then Some c else None)
written w pulses c none = either (nat_eq pulses 2)
    (λ two. let e = eqb-true pulses 2 two in rw e none)
    (λ not2. either (nat_eq pulses 4)
    (λ four. rw (not2, four) refl)
    (λ not4. either (nat_eq pulses 6)
    (λ six. rw (not2, not4, six) refl)
    (λ not6. rw (not2, not4, not6) none)))

punch_written : (d : DevicesState) (pulses ac : ℕ) → d.punch.writing ≡ None
    → (punch_row d pulses ac).punch.writing ≡ (if nat_eq pulses 4 || nat_eq pulses 6 then Some (ac % 0o400) else None)
punch_written d pulses ac none = either (nat_eq pulses 0)
    (λ zero. let e = eqb-true pulses 0 zero in rw e none)
    (λ other. rw other (written d.punch pulses (ac % 0o400) none))

printer_written : (d : DevicesState) (pulses ac : ℕ) → d.printer.writing ≡ None
    → (printer_row d pulses ac).printer.writing ≡ (if nat_eq pulses 4 || nat_eq pulses 6 then Some (ac % 0o200) else None)
printer_written d pulses ac none = either (nat_eq pulses 5)
    (λ five. let e = eqb-true pulses 5 five in rw e none)
    (λ not5. either (nat_eq pulses 7)
    (λ seven. let e = eqb-true pulses 7 seven in rw e none)
    (λ not7. rw (not5, not7) (written d.printer pulses (ac % 0o200) none)))

reader_leaves : (P : WriterState → Type 0) (d : DevicesState) (pulses : ℕ) → P d.punch → P (reader_row d pulses).punch
reader_leaves P d pulses h =
    pick (λ (x : DevicesState). P x.punch) (nat_eq pulses 0) (record d { tape_enabled = true }) _ (λ _. h)
    (λ _. pick (λ (x : DevicesState). P x.punch) (nat_eq pulses 2) (record d { reader = record d.reader { flag = false } }) _ (λ _. h)
    (λ _. pick (λ (x : DevicesState). P x.punch) (nat_eq pulses 4 || nat_eq pulses 6) (record d { reader = record d.reader { asked = true; flag = false } }) d (λ _. h) (λ _. h)))

reader_leaves_printer : (P : WriterState → Type 0) (d : DevicesState) (pulses : ℕ) → P d.printer → P (reader_row d pulses).printer
reader_leaves_printer P d pulses h =
    pick (λ (x : DevicesState). P x.printer) (nat_eq pulses 0) (record d { tape_enabled = true }) _ (λ _. h)
    (λ _. pick (λ (x : DevicesState). P x.printer) (nat_eq pulses 2) (record d { reader = record d.reader { flag = false } }) _ (λ _. h)
    (λ _. pick (λ (x : DevicesState). P x.printer) (nat_eq pulses 4 || nat_eq pulses 6) (record d { reader = record d.reader { asked = true; flag = false } }) d (λ _. h) (λ _. h)))

printer_leaves : (P : WriterState → Type 0) (d : DevicesState) (pulses ac : ℕ) → P d.punch → P (printer_row d pulses ac).punch
printer_leaves P d pulses ac h =
    pick (λ (x : DevicesState). P x.punch) (nat_eq pulses 5) (record d { printer_enabled = true }) _ (λ _. h)
    (λ _. pick (λ (x : DevicesState). P x.punch) (nat_eq pulses 7) (record d { printer_enabled = false }) _ (λ _. h) (λ _. h))

punch_leaves : (P : WriterState → Type 0) (d : DevicesState) (pulses ac : ℕ) → P d.printer → P (punch_row d pulses ac).printer
punch_leaves P d pulses ac h =
    pick (λ (x : DevicesState). P x.printer) (nat_eq pulses 0) (record d { tape_enabled = false }) _ (λ _. h) (λ _. h)

-- ## The words

is_another : (d a b : ℕ) → nat_eq d a ≡ true → nat_eq a b ≡ false → nat_eq d b ≡ false
is_another d a b is other = ap (λ (x : ℕ). nat_eq x b) (eqb-true d a is) ∙ other

punched : (d : DevicesState) (w ac : ℕ) → d.punch.writing ≡ None
    → (devices_row d w ac).punch.writing ≡ (if is_punch_word w && is_writing w then Some (ac % 0o400) else None)
punched d w ac none = either (is_reader_word w)
    (λ reader. rw (reader, is_another (w / 8) 0o601 0o602 reader refl) (reader_leaves (λ x. x.writing ≡ None) d (w % 8) none))
    (λ other. either (is_punch_word w)
    (λ punch. rw (other, punch) (punch_written d (w % 8) ac none))
    (λ neither. rw (other, neither)
    (pick (λ (x : DevicesState). x.punch.writing ≡ None) (is_clock_word w) (record d { clock = clock_row d.clock (w % 8) ac }) (printer_row d (w % 8) ac) (λ _. none)
    (λ _. printer_leaves (λ x. x.writing ≡ None) d (w % 8) ac none))))

last_of : (a b c d : Bool) → (a || (b || (c || d))) ≡ true → a ≡ false → b ≡ false → c ≡ false → d ≡ true
last_of false false false d is x y z = is
last_of true b c d is x y z = absurd (true≢false x)
last_of false true c d is x y z = absurd (true≢false y)
last_of false false true d is x y z = absurd (true≢false z)

printed : (d : DevicesState) (w ac : ℕ) → is_device_word w ≡ true → d.printer.writing ≡ None
    → (devices_row d w ac).printer.writing ≡ (if is_printer_word w && is_writing w then Some (ac % 0o200) else None)
printed d w ac is none = either (is_reader_word w)
    (λ reader. rw (reader, is_another (w / 8) 0o601 0o666 reader refl) (reader_leaves_printer (λ x. x.writing ≡ None) d (w % 8) none))
    (λ not_reader. either (is_punch_word w)
    (λ punch. rw (not_reader, punch, is_another (w / 8) 0o602 0o666 punch refl) (punch_leaves (λ x. x.writing ≡ None) d (w % 8) ac none))
    (λ not_punch. either (is_clock_word w)
    (λ clock. rw (not_reader, not_punch, clock, is_another (w / 8) 0o613 0o666 clock refl) none)
    (λ not_clock.
    let printer = last_of (is_reader_word w) (is_punch_word w) (is_clock_word w) (is_printer_word w) is not_reader not_punch not_clock in
    rw (not_reader, not_punch, not_clock, printer) (printer_written d (w % 8) ac none))))

-- ## A step

by_grants : (g u z : Bool) → g ≡ true → ((not g && not u) && z) ≡ false
by_grants true u z is = refl
by_grants false u z is = absurd (true≢false (sym is))

by_word : (g u a y : Bool) → a ≡ false → ((not g && not u) && (a && y)) ≡ false
by_word true u a y is = refl
by_word false true a y is = refl
by_word false false true y is = absurd (true≢false is)
by_word false false false y is = refl

goes : (g u z : Bool) → g ≡ false → not u ≡ true → ((not g && not u) && z) ≡ z
goes false false z x y = refl
goes true u z x y = absurd (true≢false x)
goes false true z x y = absurd (true≢false (sym y))

-- no device has this word, or the user mode has
no_punch : (a b c g u y : Bool) → ((a || (b || c)) && not u) ≡ false → ((not g && not u) && (b && y)) ≡ false
no_punch a b c true u y is = refl
no_punch a b c false true y is = refl
no_punch a false c false false y is = refl
no_punch true true c false false y is = absurd (true≢false is)
no_punch false true c false false y is = absurd (true≢false is)

no_printer : (a b c d g u y : Bool) → ((a || (b || (c || d))) && not u) ≡ false → ((not g && not u) && (d && y)) ≡ false
no_printer a b c d true u y is = refl
no_printer a b c d false true y is = refl
no_printer a b c false false false y is = refl
no_printer true b c true false false y is = absurd (true≢false is)
no_printer false true c true false false y is = absurd (true≢false is)
no_printer false false true true false false y is = absurd (true≢false is)
no_printer false false false true false false y is = absurd (true≢false is)

pub punched_by_step : (m : Pdp8e) → m.processor.base.running ≡ true → (step m).0.devices.punch.writing ≡ frame_punched (at_beginning m)
unfolding step
punched_by_step m runs =
    let r = at_beginning m in
    let p = passing r in
    let w = next_word r.processor in
    let ac = r.processor.base.ac in
    let g = grants_interrupt r.processor in
    let user = r.processor.user_flag in
    let y = is_writing w in
    let frame = Some (ac % 0o400) in
    let P : Pdp8e × Stepped → Type 0 = λ did. did.0.devices.punch.writing ≡ frame_punched r in
    let absent : ((not g && not user) && (is_punch_word w && y)) ≡ false → None ≡ frame_punched r =
    λ h. sym (if_false ((not g && not user) && (is_punch_word w && y)) frame None h) in
    let none : p.devices.punch.writing ≡ None = ended m.devices.punch in
    pick P m.processor.base.running (going_on r) (m, Stopped)
    (λ _. pick P g (with_processor r (after_interrupt r.processor), Interrupted) (after_instruction p w)
    (λ grants. none ∙ absent (by_grants g user (is_punch_word w && y) grants))
    (λ free. pick P (is_disk_word w && not user) (disk_row p w, Ran None) (after_other p w)
    (λ disk.
    let is = (and_parts (is_disk_word w) (not user) disk).0 in
    none ∙ absent (by_word g user (is_punch_word w) y (is_another (w / 8) 0o674 0o602 is refl)))
    (λ _. pick P (is_device_word w && not user) (device_row p w, Ran None) (processor_row p w)
    (λ device.
    let no_user = (and_parts (is_device_word w) (not user) device).1 in
    punched p.devices w ac none ∙ sym (ap (λ (b : Bool). if b then frame else None) (goes g user (is_punch_word w && y) free no_user)))
    (λ other.
    let no = no_punch (is_reader_word w) (is_punch_word w) (is_clock_word w || is_printer_word w) g user y other in
    pick (λ (d : DevicesState). d.punch.writing ≡ frame_punched r) (is_caf w && not user) (devices_cleared p.devices) p.devices (λ _. absent no) (λ _. none ∙ absent no)))))
    (λ stopped. absurd (true≢false (sym runs ∙ stopped)))

pub printed_by_step : (m : Pdp8e) → m.processor.base.running ≡ true → (step m).0.devices.printer.writing ≡ character_printed (at_beginning m)
unfolding step
printed_by_step m runs =
    let r = at_beginning m in
    let p = passing r in
    let w = next_word r.processor in
    let ac = r.processor.base.ac in
    let g = grants_interrupt r.processor in
    let user = r.processor.user_flag in
    let y = is_writing w in
    let character = Some (ac % 0o200) in
    let P : Pdp8e × Stepped → Type 0 = λ did. did.0.devices.printer.writing ≡ character_printed r in
    let absent : ((not g && not user) && (is_printer_word w && y)) ≡ false → None ≡ character_printed r =
    λ h. sym (if_false ((not g && not user) && (is_printer_word w && y)) character None h) in
    let none : p.devices.printer.writing ≡ None = ended m.devices.printer in
    pick P m.processor.base.running (going_on r) (m, Stopped)
    (λ _. pick P g (with_processor r (after_interrupt r.processor), Interrupted) (after_instruction p w)
    (λ grants. none ∙ absent (by_grants g user (is_printer_word w && y) grants))
    (λ free. pick P (is_disk_word w && not user) (disk_row p w, Ran None) (after_other p w)
    (λ disk.
    let is = (and_parts (is_disk_word w) (not user) disk).0 in
    none ∙ absent (by_word g user (is_printer_word w) y (is_another (w / 8) 0o674 0o666 is refl)))
    (λ _. pick P (is_device_word w && not user) (device_row p w, Ran None) (processor_row p w)
    (λ device.
    let parts = and_parts (is_device_word w) (not user) device in
    printed p.devices w ac parts.0 none ∙ sym (ap (λ (b : Bool). if b then character else None) (goes g user (is_printer_word w && y) free parts.1)))
    (λ other.
    let no = no_printer (is_reader_word w) (is_punch_word w) (is_clock_word w) (is_printer_word w) g user y other in
    pick (λ (d : DevicesState). d.printer.writing ≡ character_printed r) (is_caf w && not user) (devices_cleared p.devices) p.devices (λ _. absent no) (λ _. none ∙ absent no)))))
    (λ stopped. absurd (true≢false (sym runs ∙ stopped)))
