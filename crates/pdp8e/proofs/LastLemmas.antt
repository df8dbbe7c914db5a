-- Steps in which nothing ends on disk and devices.
use Rattle.std.proofs.Common.{◌≡◌, ℕ, zero, suc, ◌+◌, ◌-◌, ◌<◌, ◌≤◌, Bool, true, false, true≢false, ◌&&◌, nat_eq, nat_le, is_none, unwrap_or, if◌then◌else◌, List, Option, Some, None, refl, ap, sym, subst, ◌∙◌, arith}
use Rattle.std.proofs.lemmas.Bool.Decides.{nat_tests}
use Rattle.cpu8.specs.declared.outcomes.Stepped.{Stepped}
use Rattle.cpu8.specs.declared.outcomes.Stepped.TheVariants.{Stopped, Interrupted, Ran, Halted, Unassigned}
use Rattle.rk8e.specs.State.{DiskState}
use Rattle.rk8e.specs.Time.{sooner, time_after, disk_after, least_time, is_over}
use Rattle.rk8e.specs.Transfer.{DiskEnd, end_on, after_ends}
use Rattle.cpu8e.specs.State.{State8e, with_core, with_request, grants_interrupt}
use Rattle.cpu8e.specs.State as CpuState
use Rattle.cpu8e.specs.Step.{next_word, after_interrupt}
use Rattle.cpu8e.specs.Step as Cpu
use Rattle.cpu8e.specs.Runs as CpuRuns
use Rattle.cpu8e.specs.Unasked as CpuUnasked
use Rattle.pdp8e.specs.Devices.{DevicesState, ReaderState, WriterState, ClockState, clock_ended, devices_ended, instructions_after}
use Rattle.pdp8e.specs.State.{Pdp8e, IsJoined, is_any_requesting, is_quiet, machine_of, with_processor, printer_done}
use Rattle.pdp8e.specs.Step.{after_beginning, at_beginning, going_on, is_for_devices, is_for_disk, is_disk_word, is_caf, after_instruction, passing, step, move_in}
use Rattle.pdp8e.specs.DeviceInstructions.{is_device_word}
use Rattle.pdp8e.specs.Runs.{printing_step, with_printer_done, after_keys, after, after_time}
use Rattle.pdp8e.specs.Lasting.{TimeLasts, DiskLasts, DevicesLast, Lasts}
use Rattle.cpu8e.proofs.CommonLemmas.{within}
use Rattle.pdp8e.proofs.StillLemmas.{alone, either, executed, idle_reader, idle_writer, if_false, if_true, interrupted, neither, other_row, quiet_is}
use Rattle.pdp8e.proofs.AloneLemmas.{Requests, cpu_stopped, ended_alone, ended_requests, ended_word, run_requests}

-- ## Times left

-- no time: it lasts
none_lasts : (x : Option ℕ) (count : ℕ) → x ≡ None → TimeLasts x count
none_lasts x count e = subst (λ (y : Option ℕ). TimeLasts y count) (sym e) tt

apart : (n : ℕ) → 0 < n → nat_eq n 0 ≡ false
apart n h = grind (arith, nat_tests)

not_over : (x : Option ℕ) (count : ℕ) → TimeLasts x (suc count) → is_over x ≡ false
not_over None count h = refl
not_over (Some time) count h = let le : suc count ≤ time = h in apart time (omega (arith, le))

fewer : (x : Option ℕ) (a b : ℕ) → a ≤ b → TimeLasts x b → TimeLasts x a
fewer None a b less h = tt
fewer (Some time) a b less h = let le : b ≤ time = h in omega (arith, less, le)

-- after so many instructions the rest is left
rest_lasts : (x : Option ℕ) (k count : ℕ) → TimeLasts x (k + count) → TimeLasts (time_after x k) count
rest_lasts None k count h = tt
rest_lasts (Some time) k count h = let le : k + count ≤ time = h in omega (arith, le)

time_none : (x : Option ℕ) → time_after x 0 ≡ x
time_none None = refl
time_none (Some time) = let e : time - 0 ≡ time = omega arith in ap (λ (t : ℕ). Some t) e

time_still : (x : Option ℕ) (k : ℕ) → x ≡ None → time_after x k ≡ x
time_still x k e = ap (λ (y : Option ℕ). time_after y k) e ∙ sym e

time_more : (x : Option ℕ) (k : ℕ) → time_after (time_after x k) 1 ≡ time_after x (suc k)
time_more None k = refl
time_more (Some time) k = let e : time - k - 1 ≡ time - suc k = omega arith in ap (λ (t : ℕ). Some t) e

is_none_after : (x : Option ℕ) (k : ℕ) → is_none (time_after x k) ≡ is_none x
is_none_after None k = refl
is_none_after (Some time) k = refl

-- ## What lasts

pub lasts_fewer : (m : Pdp8e) (a b : ℕ) → a ≤ b → Lasts m b → Lasts m a
lasts_fewer m a b less l = record {
  disk = record {
    zero = fewer m.disk.drive0.time_left a b less l.disk.zero;
    one = fewer m.disk.drive1.time_left a b less l.disk.one;
    two = fewer m.disk.drive2.time_left a b less l.disk.two;
    three = fewer m.disk.drive3.time_left a b less l.disk.three;
  };
  devices = record {
    reader = l.devices.reader;
    punch = l.devices.punch;
    printer = l.devices.printer;
    clock = fewer m.devices.clock.time_left a b less l.devices.clock;
  };
}

lasts_rest : (m : Pdp8e) (s : State8e) (k count : ℕ) → Lasts m (k + count) → Lasts (after_time k m s) count
lasts_rest m s k count l = record {
  disk = record {
    zero = rest_lasts m.disk.drive0.time_left k count l.disk.zero;
    one = rest_lasts m.disk.drive1.time_left k count l.disk.one;
    two = rest_lasts m.disk.drive2.time_left k count l.disk.two;
    three = rest_lasts m.disk.drive3.time_left k count l.disk.three;
  };
  devices = record {
    reader = l.devices.reader;
    punch = l.devices.punch;
    printer = l.devices.printer;
    clock = rest_lasts m.devices.clock.time_left k count l.devices.clock;
  };
}

-- where nothing is under way anything lasts
pub quiet_lasts : (m : Pdp8e) (count : ℕ) → is_quiet m.disk m.devices ≡ true → Lasts m count
quiet_lasts m count h =
    let q = quiet_is m h in
    record {
      disk = record {
        zero = none_lasts m.disk.drive0.time_left count q.disk.zero;
        one = none_lasts m.disk.drive1.time_left count q.disk.one;
        two = none_lasts m.disk.drive2.time_left count q.disk.two;
        three = none_lasts m.disk.drive3.time_left count q.disk.three;
      };
      devices = record {
        reader = q.devices.reader;
        punch = q.devices.punch;
        printer = q.devices.printer;
        clock = none_lasts m.devices.clock.time_left count q.devices.clock;
      };
    }

-- ## No end

none_ends : (d : DiskState) (core : List ℕ) (count : ℕ) → DiskLasts d (suc count) → after_ends d core ≡ record { disk = d; core = core; moved = None }
unfolding end_on
none_ends d core count l =
    rw (
      not_over d.drive0.time_left count l.zero,
      not_over d.drive1.time_left count l.one,
      not_over d.drive2.time_left count l.two,
      not_over d.drive3.time_left count l.three,
    ) refl

none_ticks : (c : ClockState) (count : ℕ) → TimeLasts c.time_left (suc count) → clock_ended c ≡ c
none_ticks c count h = rw (not_over c.time_left count h) refl

no_device_ends : (d : DevicesState) (count : ℕ) → DevicesLast d (suc count) → devices_ended d ≡ d
no_device_ends d count l =
    ap (λ (r : ReaderState). record (devices_ended d) { reader = r }) (idle_reader d.reader l.reader)
    ∙ ap (λ (w : WriterState). record (devices_ended d) { reader = d.reader; punch = w }) (idle_writer d.punch l.punch)
    ∙ ap (λ (w : WriterState). record (devices_ended d) { reader = d.reader; punch = d.punch; printer = w }) (idle_writer d.printer l.printer)
    ∙ ap (λ (c : ClockState). record d { clock = c }) (none_ticks d.clock count l.clock)

begun_lasting : (m : Pdp8e) (count : ℕ) → IsJoined m → Lasts m (suc count) → at_beginning m ≡ m
begun_lasting m count is l =
    ap (λ (e : DiskEnd). machine_of (with_core m.processor e.core) e.disk (devices_ended m.devices)) (none_ends m.disk m.processor.base.core count l.disk)
    ∙ ap (λ (d : DevicesState). machine_of m.processor m.disk d) (no_device_ends m.devices count l.devices)
    ∙ ap (λ (r : Bool). with_processor m (with_request m.processor r)) (sym is)

-- ## A step

abbrev is_ran : Stepped → Bool
is_ran Stopped = false
is_ran Interrupted = false
is_ran (Ran printed) = true
is_ran Halted = false
is_ran (Unassigned word) = false

ran_running : (s : State8e) → (Cpu.step s).1 ≡ Ran None → s.base.running ≡ true
ran_running s ran = either s.base.running
    (λ yes. yes)
    (λ no. absurd (true≢false (sym (ap is_ran (sym (ap (λ (r : State8e × Stepped). r.1) (cpu_stopped s no)) ∙ ran)))))

ran_ungranted : (s : State8e) → s.base.running ≡ true → (Cpu.step s).1 ≡ Ran None → grants_interrupt s ≡ false
ran_ungranted s runs ran = either (grants_interrupt s)
    (λ yes. absurd (true≢false (sym (ap is_ran (sym (ap (λ (r : State8e × Stepped). r.1) (interrupted s runs yes)) ∙ ran)))))
    (λ no. no)

-- a step in which nothing ends, and which is an instruction of the processor alone
step_lasting : Requests → (m : Pdp8e) (count : ℕ) → IsJoined m → Lasts m (suc count) → is_for_devices (next_word m.processor) ≡ false
    → (Cpu.step m.processor).1 ≡ Ran None → step m ≡ alone (passing m) (Cpu.step m.processor)
unfolding step
step_lasting stays m count is l other ran =
    let s = m.processor in
    let w = next_word s in
    let runs = ran_running s ran in
    let free = ran_ungranted s runs ran in
    let e = executed s runs free in
    let one = neither (is_for_disk w) (is_device_word w) other in
    let two = neither (is_disk_word w) (is_caf w) one.0 in
    let same = ap (λ (did : State8e × Stepped). did.0.device_request) (sym e) ∙ stays s in
    if_true s.base.running (going_on (at_beginning m)) (m, Stopped) runs
    ∙ ap going_on (begun_lasting m count is l)
    ∙ if_false (grants_interrupt s) (with_processor m (after_interrupt s), Interrupted) (after_instruction (passing m) w) free
    ∙ other_row (passing m) w two.0 one.1 two.1 same is
    ∙ ap (alone (passing m)) (sym e)

printing_lasting : Requests → (m : Pdp8e) (s : State8e) (count : ℕ) → s.device_request ≡ is_any_requesting m.disk m.devices → Lasts m (suc count)
    → is_for_devices (next_word s) ≡ false → (CpuRuns.printing_step s).1 ≡ Ran None
    → printing_step (with_processor m s) ≡ alone (passing m) (CpuRuns.printing_step s)
printing_lasting stays m s count is l other ran =
    let busy = s.base.teletype.busy in
    let t : State8e = if busy then CpuState.printer_done s else s in
    ap (λ (x : Pdp8e). step x) (ended_alone busy m s)
    ∙ step_lasting stays (with_processor m t) count (ended_requests busy s ∙ is) (record { disk = l.disk; devices = l.devices })
    (ap (λ w. is_for_devices w) (ended_word busy s) ∙ other) ran

-- ## Several steps

pub passed_none : (m : Pdp8e) → m ≡ after_time 0 m m.processor
passed_none m =
    rw (
      time_none m.disk.drive0.time_left,
      time_none m.disk.drive1.time_left,
      time_none m.disk.drive2.time_left,
      time_none m.disk.drive3.time_left,
      time_none m.devices.clock.time_left,
    ) refl

-- where nothing is under way, none pass
pub passed_quiet : (m : Pdp8e) (s : State8e) (k : ℕ) → is_quiet m.disk m.devices ≡ true → after_time k m s ≡ with_processor m s
passed_quiet m s k h =
    let q = quiet_is m h in
    rw (
      time_still m.disk.drive0.time_left k q.disk.zero,
      time_still m.disk.drive1.time_left k q.disk.one,
      time_still m.disk.drive2.time_left k q.disk.two,
      time_still m.disk.drive3.time_left k q.disk.three,
      time_still m.devices.clock.time_left k q.devices.clock,
    ) refl

passed_more : (m : Pdp8e) (s new : State8e) (k : ℕ) → with_processor (passing (after_time k m s)) new ≡ after_time (suc k) m new
passed_more m s new k =
    rw (
      time_more m.disk.drive0.time_left k,
      time_more m.disk.drive1.time_left k,
      time_more m.disk.drive2.time_left k,
      time_more m.disk.drive3.time_left k,
      time_more m.devices.clock.time_left k,
    ) refl

-- no word of these steps is for disk and devices
abbrev pub MeetsNone : State8e → ℕ → Type 0
MeetsNone s count = (j : ℕ) → j < count → is_for_devices (next_word (CpuRuns.after j s)) ≡ false

-- the step after the first k
next_lasting : Requests → (looks : Bool) (m : Pdp8e) (count : ℕ) → IsJoined m → Lasts m count → CpuUnasked.AreUnasked looks m.processor count → MeetsNone m.processor count
    → (k : ℕ) → k < count → printing_step (after_time k m (CpuRuns.after k m.processor))
    ≡ alone (passing (after_time k m (CpuRuns.after k m.processor))) (CpuRuns.printing_step (CpuRuns.after k m.processor))
next_lasting stays looks m count is l unasked none k below =
    let s = CpuRuns.after k m.processor in
    let e : count ≡ k + suc (count - suc k) = omega (arith, below) in
    printing_lasting stays (after_time k m s) s (count - suc k) (run_requests stays (λ _. None) k m.processor ∙ is)
    (lasts_rest m s k (suc (count - suc k)) (subst (λ (n : ℕ). Lasts m n) e l)) (none k below) (unasked k below).answer

pub after_lasting : Requests → (looks : Bool) (m : Pdp8e) (count : ℕ) → IsJoined m → Lasts m count → CpuUnasked.AreUnasked looks m.processor count → MeetsNone m.processor count
    → (k : ℕ) → k ≤ count → after k m ≡ after_time k m (CpuRuns.after k m.processor)
unfolding after_keys CpuRuns.after_keys
after_lasting stays looks m count is l unasked none zero within = passed_none m
after_lasting stays looks m count is l unasked none (suc k) within =
    let s = CpuRuns.after k m.processor in
    ap (λ (x : Pdp8e). (printing_step x).0) (after_lasting stays looks m count is l unasked none k (omega (arith, within)))
    ∙ ap (λ (r : Pdp8e × Stepped). r.0) (next_lasting stays looks m count is l unasked none k (omega (arith, within)))
    ∙ passed_more m s (CpuRuns.printing_step s).0 k

pub answers_lasting : Requests → (looks : Bool) (m : Pdp8e) (count : ℕ) → IsJoined m → Lasts m count → CpuUnasked.AreUnasked looks m.processor count → MeetsNone m.processor count
    → (k : ℕ) → k < count → (printing_step (after k m)).1 ≡ Ran None
answers_lasting stays looks m count is l unasked none k below =
    ap (λ (x : Pdp8e). (printing_step x).1) (after_lasting stays looks m count is l unasked none k (omega (arith, below)))
    ∙ ap (λ (r : Pdp8e × Stepped). r.1) (next_lasting stays looks m count is l unasked none k below)
    ∙ (unasked k below).answer

-- nothing ends in the beginning of these steps
begins_still : (m : Pdp8e) (count : ℕ) → IsJoined m → Lasts m (suc count) → after_beginning m ≡ m
begins_still m count is l = either m.processor.base.running
    (λ yes. if_true m.processor.base.running (at_beginning m) m yes ∙ begun_lasting m count is l)
    (λ no. if_false m.processor.base.running (at_beginning m) m no)

pub begins_lasting : Requests → (looks : Bool) (m : Pdp8e) (count : ℕ) → IsJoined m → Lasts m count → CpuUnasked.AreUnasked looks m.processor count → MeetsNone m.processor count
    → (k : ℕ) → k < count → after_beginning (with_printer_done (after k m)) ≡ with_printer_done (after k m)
begins_lasting stays looks m count is l unasked none k below =
    let s = CpuRuns.after k m.processor in
    let busy = s.base.teletype.busy in
    let t : State8e = if busy then CpuState.printer_done s else s in
    let x = after_time k m s in
    let e : count ≡ k + suc (count - suc k) = omega (arith, below) in
    let lasts = lasts_rest m s k (suc (count - suc k)) (subst (λ (n : ℕ). Lasts m n) e l) in
    let same = ap (λ (y : Pdp8e). with_printer_done y) (after_lasting stays looks m count is l unasked none k (omega (arith, below))) ∙ ended_alone busy x s in
    ap (λ (y : Pdp8e). after_beginning y) same
    ∙ begins_still (with_processor x t) (count - suc k) (ended_requests busy s ∙ run_requests stays (λ _. None) k m.processor ∙ is)
    (record { disk = lasts.disk; devices = lasts.devices })
    ∙ sym same

-- ## No transfer

none_if : {A : Type 0} (runs : Bool) (x : Option A) → x ≡ None → (if runs then x else None) ≡ None
none_if true x is = is
none_if false x is = refl

-- none ends where nothing of the disk does
pub none_moves : (m : Pdp8e) (count : ℕ) → DiskLasts m.disk (suc count) → move_in m ≡ None
none_moves m count l =
    none_if m.processor.base.running (after_ends m.disk m.processor.base.core).moved
    (ap (λ (e : DiskEnd). e.moved) (none_ends m.disk m.processor.base.core count l))

done_moves : (busy : Bool) (m : Pdp8e) (count : ℕ) → DiskLasts m.disk (suc count) → move_in (if busy then printer_done m else m) ≡ None
done_moves true m count l = none_moves (printer_done m) count l
done_moves false m count l = none_moves m count l

pub moves_lasting : (m : Pdp8e) (count : ℕ) → Lasts m count → ((k : ℕ) → k ≤ count → after k m ≡ after_time k m (CpuRuns.after k m.processor))
    → (k : ℕ) → k < count → move_in (with_printer_done (after k m)) ≡ None
moves_lasting m count l passes k below =
    let s = CpuRuns.after k m.processor in
    let e : count ≡ k + suc (count - suc k) = omega (arith, below) in
    let rest = lasts_rest m s k (suc (count - suc k)) (subst (λ (n : ℕ). Lasts m n) e l) in
    ap (λ (x : Pdp8e). move_in (with_printer_done x)) (passes k (omega (arith, below)))
    ∙ done_moves s.base.teletype.busy (after_time k m s) (count - suc k) rest.disk

-- ## The least time

-- of two times the less lasts no longer than each
record BothLast (a b : Option ℕ) (count : ℕ) : Type 0 where
  one : TimeLasts a count
  two : TimeLasts b count

beyond : (n k : ℕ) → nat_le n k ≡ false → k ≤ n
beyond n k e = grind (arith, nat_tests)

both_last : (a b : Option ℕ) (count : ℕ) → TimeLasts (sooner a b) count → BothLast a b count
both_last None b count h = record { one = tt; two = h }
both_last (Some a) None count h = record { one = h; two = tt }
both_last (Some a) (Some b) count h = either (nat_le a b)
    (λ yes. let le = within a b yes in let here : count ≤ a = rw yes at h in record { one = here; two = omega (arith, le, here) })
    (λ no. let le = beyond a b no in let here : count ≤ b = rw no at h in record { one = omega (arith, le, here); two = here })

pub least_lasts : (x : Option ℕ) (most count : ℕ) → count ≤ unwrap_or x most → TimeLasts x count
least_lasts None most count h = tt
least_lasts (Some time) most count h = h

pub disk_lasts : (d : DiskState) (count : ℕ) → TimeLasts (least_time d) count → DiskLasts d count
disk_lasts d count h =
    let a = both_last (sooner d.drive0.time_left d.drive1.time_left) (sooner d.drive2.time_left d.drive3.time_left) count h in
    let b = both_last d.drive0.time_left d.drive1.time_left count a.one in
    let c = both_last d.drive2.time_left d.drive3.time_left count a.two in
    record { zero = b.one; one = b.two; two = c.one; three = c.two }

-- ## Whether all is quiet

none_sooner : (a b : Option ℕ) → is_none (sooner a b) ≡ (is_none a && is_none b)
none_sooner None b = refl
none_sooner (Some a) None = refl
none_sooner (Some a) (Some b) = either (nat_le a b) (λ yes. rw yes refl) (λ no. rw no refl)

least_none : (d : DiskState) → is_none (least_time d)
    ≡ ((is_none d.drive0.time_left && is_none d.drive1.time_left) && (is_none d.drive2.time_left && is_none d.drive3.time_left))
least_none d =
    none_sooner (sooner d.drive0.time_left d.drive1.time_left) (sooner d.drive2.time_left d.drive3.time_left)
    ∙ ap (λ (b : Bool). b && is_none (sooner d.drive2.time_left d.drive3.time_left)) (none_sooner d.drive0.time_left d.drive1.time_left)
    ∙ ap (λ (b : Bool). (is_none d.drive0.time_left && is_none d.drive1.time_left) && b) (none_sooner d.drive2.time_left d.drive3.time_left)

-- time changes nothing of that
pub quiet_after : (disk : DiskState) (devices : DevicesState) (k : ℕ) → is_quiet (disk_after disk k) (instructions_after devices k) ≡ is_quiet disk devices
quiet_after disk devices k =
    rw (
      least_none (disk_after disk k),
      least_none disk,
      is_none_after disk.drive0.time_left k,
      is_none_after disk.drive1.time_left k,
      is_none_after disk.drive2.time_left k,
      is_none_after disk.drive3.time_left k,
      is_none_after devices.clock.time_left k,
    ) refl
