-- A step while nothing is under way on disk and devices is one of the processor alone.
use Rattle.std.proofs.Common.{◌≡◌, ℕ, Bool, true, false, true≢false, ◌&&◌, ◌||◌, not, nat_le, is_none, if◌then◌else◌, List, Option, Some, None, refl, ap, sym, ◌∙◌}
use Rattle.std.proofs.lemmas.Bool.{and_parts}
use Rattle.cpu8.specs.declared.outcomes.Stepped.{Stepped}
use Rattle.cpu8.specs.declared.outcomes.Stepped.TheVariants.{Stopped, Interrupted}
use Rattle.rk8e.specs.State.{DriveState, DiskState}
use Rattle.rk8e.specs.Time.{sooner, time_after, drive_after, disk_after}
use Rattle.rk8e.specs.Transfer.{DiskEnd, end_on, after_ends}
use Rattle.cpu8e.specs.State.{State8e, with_core, with_request, grants_interrupt}
use Rattle.cpu8e.specs.Step.{next_word, after_interrupt}
use Rattle.cpu8e.specs.Step as Cpu
use Rattle.pdp8e.specs.Devices.{DevicesState, ReaderState, WriterState, ClockState, reader_ended, writer_ended, clock_ended, devices_ended, devices_after, are_idle}
use Rattle.pdp8e.specs.DeviceInstructions.{is_device_word}
use Rattle.pdp8e.specs.State.{Pdp8e, IsJoined, is_still, is_quiet, machine_of, with_processor}
use Rattle.pdp8e.specs.Step.{at_beginning, after_beginning, going_on, is_disk_word, is_caf, is_for_disk, is_for_devices, after_instruction, move_in, passing, step}

-- ## No time is left

pub either : {P : Type 0} (b : Bool) → (b ≡ true → P) → (b ≡ false → P) → P
either true f g = f refl
either false f g = g refl

some_not : (a : ℕ) (b : Bool) → is_none (if b then Some a else Some a) ≡ true → ⊥
some_not a true h = true≢false (sym h)
some_not a false h = true≢false (sym h)

none_of : (a b : Option ℕ) → is_none (sooner a b) ≡ true → (a ≡ None) × (is_none b ≡ true)
none_of None b h = (refl, h)
none_of (Some a) None h = absurd (true≢false (sym h))
none_of (Some a) (Some b) h = either (nat_le a b)
    (λ yes. absurd (true≢false (sym (rw yes at h))))
    (λ no. absurd (true≢false (sym (rw no at h))))

none_is : (a : Option ℕ) → is_none a ≡ true → a ≡ None
none_is None h = refl
none_is (Some a) h = absurd (true≢false (sym h))

none_both : (a b : Option ℕ) → is_none (sooner a b) ≡ true → (a ≡ None) × (b ≡ None)
none_both a b h = let two = none_of a b h in (two.0, none_is b two.1)

-- no drive has a time left
pub record AreStill (d : DiskState) : Type 0 where
  pub zero : d.drive0.time_left ≡ None
  pub one : d.drive1.time_left ≡ None
  pub two : d.drive2.time_left ≡ None
  pub three : d.drive3.time_left ≡ None

pub still_is : (d : DiskState) → is_still d ≡ true → AreStill d
still_is d h =
    let a = none_both (sooner d.drive0.time_left d.drive1.time_left) (sooner d.drive2.time_left d.drive3.time_left) h in
    let b = none_both d.drive0.time_left d.drive1.time_left (ap is_none a.0) in
    let c = none_both d.drive2.time_left d.drive3.time_left (ap is_none a.1) in
    record { zero = b.0; one = b.1; two = c.0; three = c.1 }

-- ## Nothing ends, and no time passes

pub no_ends : (d : DiskState) (core : List ℕ) → AreStill d → after_ends d core ≡ record { disk = d; core = core; moved = None }
unfolding end_on
no_ends d core s = rw (s.zero, s.one, s.two, s.three) refl

still_drive : (v : DriveState) → v.time_left ≡ None → drive_after 1 v ≡ v
still_drive v h = ap (λ (t : Option ℕ). record v { time_left = time_after t 1 }) h ∙ ap (λ (t : Option ℕ). record v { time_left = t }) (sym h)

pub no_time : (d : DiskState) → AreStill d → disk_after d 1 ≡ d
no_time d s =
    ap (λ (v : DriveState). record (disk_after d 1) { drive0 = v }) (still_drive d.drive0 s.zero)
    ∙ ap (λ (v : DriveState). record (disk_after d 1) { drive0 = d.drive0; drive1 = v }) (still_drive d.drive1 s.one)
    ∙ ap (λ (v : DriveState). record (disk_after d 1) { drive0 = d.drive0; drive1 = d.drive1; drive2 = v }) (still_drive d.drive2 s.two)
    ∙ ap (λ (v : DriveState). record d { drive3 = v }) (still_drive d.drive3 s.three)

-- ## The devices

-- no device has anything under way, and no clock is there
pub record AreIdle (d : DevicesState) : Type 0 where
  pub reader : d.reader.asked ≡ false
  pub punch : d.punch.writing ≡ None
  pub printer : d.printer.writing ≡ None
  pub clock : d.clock.time_left ≡ None

not_true : (b : Bool) → not b ≡ true → b ≡ false
not_true true h = absurd (true≢false (sym h))
not_true false h = refl

none_in : {A : Type 0} (a : Option A) → is_none a ≡ true → a ≡ None
none_in None h = refl
none_in (Some x) h = absurd (true≢false (sym h))

pub idle_is : (d : DevicesState) → are_idle d ≡ true → AreIdle d
idle_is d h =
    let p = is_none d.punch.writing in
    let q = is_none d.printer.writing in
    let t = is_none d.clock.time_left in
    let a = and_parts (not d.reader.asked) (p && (q && t)) h in
    let b = and_parts p (q && t) a.1 in
    let c = and_parts q t b.1 in
    record {
      reader = not_true d.reader.asked a.0;
      punch = none_in d.punch.writing b.0;
      printer = none_in d.printer.writing c.0;
      clock = none_in d.clock.time_left c.1;
    }

pub idle_reader : (r : ReaderState) → r.asked ≡ false → reader_ended r ≡ r
idle_reader r h = rw h refl

pub idle_writer : (w : WriterState) → w.writing ≡ None → writer_ended w ≡ w
idle_writer w h = rw h refl

idle_clock : (c : ClockState) → c.time_left ≡ None → clock_ended c ≡ c
idle_clock c h = rw h refl

pub no_device_ends : (d : DevicesState) → AreIdle d → devices_ended d ≡ d
no_device_ends d s =
    ap (λ (r : ReaderState). record (devices_ended d) { reader = r }) (idle_reader d.reader s.reader)
    ∙ ap (λ (w : WriterState). record (devices_ended d) { reader = d.reader; punch = w }) (idle_writer d.punch s.punch)
    ∙ ap (λ (w : WriterState). record (devices_ended d) { reader = d.reader; punch = d.punch; printer = w }) (idle_writer d.printer s.printer)
    ∙ ap (λ (c : ClockState). record d { clock = c }) (idle_clock d.clock s.clock)

pub no_device_time : (d : DevicesState) → AreIdle d → devices_after d ≡ d
no_device_time d s =
    ap (λ (t : Option ℕ). record d { clock = record d.clock { time_left = time_after t 1 } }) s.clock
    ∙ ap (λ (t : Option ℕ). record d { clock = record d.clock { time_left = t } }) (sym s.clock)

-- ## The step

-- disk and devices are still
pub record AreQuiet (m : Pdp8e) : Type 0 where
  pub disk : AreStill m.disk
  pub devices : AreIdle m.devices

pub quiet_is : (m : Pdp8e) → is_quiet m.disk m.devices ≡ true → AreQuiet m
quiet_is m h =
    let both = and_parts (is_still m.disk) (are_idle m.devices) h in
    record { disk = still_is m.disk both.0; devices = idle_is m.devices both.1 }

pub begun_still : (m : Pdp8e) → IsJoined m → AreQuiet m → at_beginning m ≡ m
begun_still m is s =
    ap (λ (e : DiskEnd). machine_of (with_core m.processor e.core) e.disk (devices_ended m.devices)) (no_ends m.disk m.processor.base.core s.disk)
    ∙ ap (λ (d : DevicesState). machine_of m.processor m.disk d) (no_device_ends m.devices s.devices)
    ∙ ap (λ (r : Bool). with_processor m (with_request m.processor r)) (sym is)

-- so the beginning of a step does nothing, and no transfer ends
pub begins_still : (m : Pdp8e) → IsJoined m → is_quiet m.disk m.devices ≡ true → m ≡ after_beginning m
begins_still m is still = by_running m m.processor.base.running is (quiet_is m still)
  where
    by_running : (m : Pdp8e) (runs : Bool) → IsJoined m → AreQuiet m → m ≡ (if runs then at_beginning m else m)
    by_running m true is s = sym (begun_still m is s)
    by_running m false is s = refl

pub moves_still : (m : Pdp8e) → is_quiet m.disk m.devices ≡ true → None ≡ move_in m
moves_still m still = by_running m m.processor.base.running (quiet_is m still)
  where
    by_running : (m : Pdp8e) (runs : Bool) → AreQuiet m → None ≡ (if runs then (after_ends m.disk m.processor.base.core).moved else None)
    by_running m true s = sym (ap (λ (e : DiskEnd). e.moved) (no_ends m.disk m.processor.base.core s.disk))
    by_running m false s = refl

passed_still : (m : Pdp8e) → AreQuiet m → passing m ≡ m
passed_still m s =
    ap (λ (d : DiskState). record (passing m) { disk = d }) (no_time m.disk s.disk)
    ∙ ap (λ (d : DevicesState). record m { devices = d }) (no_device_time m.devices s.devices)

pub other_row : (m : Pdp8e) (w : ℕ) → is_disk_word w ≡ false → is_device_word w ≡ false → is_caf w ≡ false
    → (Cpu.after_instruction m.processor w).0.device_request ≡ m.processor.device_request → IsJoined m
    → after_instruction m w ≡ (with_processor m (Cpu.after_instruction m.processor w).0, (Cpu.after_instruction m.processor w).1)
other_row m w not_disk not_device not_caf same is =
    let did = Cpu.after_instruction m.processor w in
    rw (not_disk, not_device, not_caf)
    (ap (λ (r : Bool). let pair : Pdp8e × Stepped = (with_processor m (with_request did.0 r), did.1) in pair) (sym (same ∙ is)))

pub neither : (a b : Bool) → (a || b) ≡ false → (a ≡ false) × (b ≡ false)
neither true b h = absurd (true≢false h)
neither false b h = (refl, h)

pub interrupted : (s : State8e) → s.base.running ≡ true → grants_interrupt s ≡ true → Cpu.step s ≡ (after_interrupt s, Interrupted)
unfolding Cpu.step
interrupted s runs grants = rw (runs, grants) refl

pub executed : (s : State8e) → s.base.running ≡ true → grants_interrupt s ≡ false → Cpu.step s ≡ Cpu.after_instruction s (next_word s)
unfolding Cpu.step
executed s runs grants = rw (runs, grants) refl

pub if_true : {A : Type 0} (b : Bool) (x y : A) → b ≡ true → (if b then x else y) ≡ x
if_true true x y h = refl
if_true false x y h = absurd (true≢false (sym h))

pub if_false : {A : Type 0} (b : Bool) (x y : A) → b ≡ false → (if b then x else y) ≡ y
if_false true x y h = absurd (true≢false h)
if_false false x y h = refl

-- what the processor alone does
abbrev pub alone : Pdp8e → State8e × Stepped → Pdp8e × Stepped
alone m did = (with_processor m did.0, did.1)

pub going_still : (m : Pdp8e) → IsJoined m → AreQuiet m → m.processor.base.running ≡ true → is_for_devices (next_word m.processor) ≡ false
    → ((s : State8e) → (Cpu.step s).0.device_request ≡ s.device_request) → going_on m ≡ alone m (Cpu.step m.processor)
going_still m is s runs other stays =
    let w = next_word m.processor in
    let one = neither (is_for_disk w) (is_device_word w) other in
    let two = neither (is_disk_word w) (is_caf w) one.0 in
    let first : Pdp8e × Stepped = (with_processor m (after_interrupt m.processor), Interrupted) in
    let second = after_instruction (passing m) w in
    either (grants_interrupt m.processor)
    (λ grants.
    if_true (grants_interrupt m.processor) first second grants
    ∙ ap (alone m) (sym (interrupted m.processor runs grants)))
    (λ grants.
    let e = executed m.processor runs grants in
    let same = ap (λ (did : State8e × Stepped). did.0.device_request) (sym e) ∙ stays m.processor in
    if_false (grants_interrupt m.processor) first second grants
    ∙ ap (λ (x : Pdp8e). after_instruction x w) (passed_still m s)
    ∙ other_row m w two.0 one.1 two.1 same is
    ∙ ap (alone m) (sym e))

pub still_step : (m : Pdp8e) → IsJoined m → is_quiet m.disk m.devices ≡ true → m.processor.base.running ≡ true
    → is_for_devices (next_word m.processor) ≡ false
    → ((s : State8e) → (Cpu.step s).0.device_request ≡ s.device_request) → step m ≡ alone m (Cpu.step m.processor)
unfolding step
still_step m is still runs other stays =
    let s = quiet_is m still in
    if_true m.processor.base.running (going_on (at_beginning m)) (m, Stopped) runs
    ∙ ap going_on (begun_still m is s)
    ∙ going_still m is s runs other stays
