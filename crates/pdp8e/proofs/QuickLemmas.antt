-- Steps that the processor alone quickly makes.
use Rattle.std.proofs.Common.{◌≡◌, ℕ, zero, suc, ◌+◌, ◌/◌, ◌%◌, ◌<◌, ◌≤◌, Bool, true, false, true≢false, ◌&&◌, ◌||◌, not, nat_eq, nat_le, if◌then◌else◌, Option, None, refl, ap, sym, subst, ◌∙◌, arith}
use Rattle.std.proofs.lemmas.Bool.{and_parts, eqb-true}
use Rattle.std.proofs.lemmas.Bool.Decides.{nat_tests}
use Rattle.cpu8.specs.Decoding.{is_absent}
use Rattle.cpu8e.specs.State.{State8e}
use Rattle.cpu8e.specs.State as CpuState
use Rattle.cpu8e.specs.Step.{is_jump, is_transfer, next_word}
use Rattle.cpu8e.specs.Runs as CpuRuns
use Rattle.cpu8e.specs.Unasked as Cpu
use Rattle.cpu8e.specs.Unasked.{changes_fields, is_quick, is_quick_transfer}
use Rattle.terminal8e.specs.AnyTerminal as any
use Rattle.terminal8e.specs.AnyTerminal.{GoesUnasked}
use Rattle.terminal8.specs.declared.absences.Absence.{Absence}
use Rattle.terminal8e.specs.Absences as CpuAbsences
use Rattle.terminal8e.specs.Asks as CpuAsks
use Rattle.terminal8e.proofs.AbsenceLemmas.{none-at, quick-there}
use Rattle.terminal8e.proofs.QuickLemmas as CpuQuick
use Rattle.rk8e.specs.State.{DiskState}
use Rattle.rk8e.specs.Time.{disk_after}
use Rattle.pdp8e.specs.Devices.{DevicesState, instructions_after}
use Rattle.pdp8e.specs.State.{Pdp8e, IsJoined, is_quiet, with_processor}
use Rattle.pdp8e.specs.Step.{is_for_devices}
use Rattle.pdp8e.specs.Runs.{printing_step, with_printer_done, after_keys, after, after_time, AreUnasked}
use Rattle.pdp8e.specs.Lasting.{Lasts}
use Rattle.pdp8e.specs.Absences.{absence_in, absence_of_step, absence_at}
use Rattle.pdp8e.specs.Asks.{asks_for_key, is_ending, is_interrupting}
use Rattle.pdp8e.specs.Terminal.{terminal_acts}
use Rattle.pdp8e.proofs.AloneLemmas.{Requests, ended_alone, ended_word}
use Rattle.cpu8e.proofs.CommonLemmas.{within}
use Rattle.pdp8e.proofs.LastLemmas.{MeetsNone, lasts_fewer, passed_none, passed_quiet, after_lasting, answers_lasting, begins_lasting, moves_lasting}
use Rattle.pdp8e.proofs.StillLemmas.{either}

-- ## No quick word is for disk and devices

low_other : (w : ℕ) → w < 0o6000 → is_for_devices w ≡ false
low_other w h = grind (arith, nat_tests)

high_other : (w : ℕ) → 0o7000 ≤ w → is_for_devices w ≡ false
high_other w h = grind (arith, nat_tests)

fields_other : (w : ℕ) → w / 0o100 ≡ 0o62 → is_for_devices w ≡ false
fields_other w h = grind (arith, nat_tests)

jump_low : (w : ℕ) → is_jump w ≡ true → w < 0o6000
jump_low w h = let le = within (w / 0o1000) 5 h in omega (arith, le)

above : (n : ℕ) → nat_le n 5 ≡ false → nat_eq n 6 ≡ false → 7 ≤ n
above n h g = grind (arith, nat_tests)

operate_high : (w : ℕ) → is_jump w ≡ false → is_transfer w ≡ false → 0o7000 ≤ w
operate_high w h g = let le = above (w / 0o1000) h g in omega (arith, le)

transfer_other : (w : ℕ) → is_quick_transfer w ≡ true → is_for_devices w ≡ false
transfer_other w h = either (nat_eq w 0o6031)
    (λ yes. ap (λ n. is_for_devices n) (eqb-true w 0o6031 yes))
    (λ not_ksf. either (nat_eq w 0o6041)
    (λ yes. ap (λ n. is_for_devices n) (eqb-true w 0o6041 yes))
    (λ not_tsf. either (nat_eq w 0o6214)
    (λ yes. ap (λ n. is_for_devices n) (eqb-true w 0o6214 yes))
    (λ not_rdf. either (nat_eq w 0o6224)
    (λ yes. ap (λ n. is_for_devices n) (eqb-true w 0o6224 yes))
    (λ not_rif.
    let fields : changes_fields w ≡ true = rw (not_ksf, not_tsf, not_rdf, not_rif) at h in
    fields_other w (eqb-true (w / 0o100) 0o62 (and_parts (nat_eq (w / 0o100) 0o62) (nat_le 1 (w % 8) && nat_le (w % 8) 3) fields).0)))))

quick_other : (w : ℕ) → is_quick w ≡ true → is_for_devices w ≡ false
quick_other w h = either (is_jump w)
    (λ yes. low_other w (jump_low w yes))
    (λ no_jump. either (is_transfer w)
    (λ yes. transfer_other w (rw (no_jump, yes) at h))
    (λ no. high_other w (operate_high w no_jump no)))

-- ## Steps

meets_none : (looks : Bool) (s : State8e) (count : ℕ) → Cpu.AreUnasked looks s count → MeetsNone s count
meets_none looks s count unasked j below = quick_other (next_word (CpuRuns.after j s)) (unasked j below).word

pub unasked_steps : Requests → (looks : Bool) (m : Pdp8e) → IsJoined m → (count most : ℕ) → count ≤ most → Lasts m most → Cpu.AreUnasked looks m.processor count → AreUnasked looks m count
unasked_steps stays looks m sees count most within all unasked =
    let lasts = lasts_fewer m count most within all in
    let none = meets_none looks m.processor count unasked in
    let passes = after_lasting stays looks m count sees lasts unasked none in
    record {
      processor = unasked;
      passes = passes;
      answers = answers_lasting stays looks m count sees lasts unasked none;
      begins = begins_lasting stays looks m count sees lasts unasked none;
      moves = moves_lasting m count lasts passes;
      punch = λ some. all.devices.punch;
      printer = λ some. all.devices.printer;
    }

-- the state after them, where the machine is another's by its parts
pub state_passed : (looks : Bool) (m now : Pdp8e) → m ≡ now → (s : State8e) (d : DiskState) (v : DevicesState) (count : ℕ) → AreUnasked looks now count
    → s ≡ CpuRuns.after count m.processor → d ≡ disk_after m.disk count → v ≡ instructions_after m.devices count
    → record { processor = s; disk = d; devices = v } ≡ after count now
state_passed looks m now same s d v count unasked processor disk devices =
    ap (λ (x : State8e). let y : Pdp8e = record { processor = x; disk = d; devices = v } in y) processor
    ∙ ap (λ (x : DiskState). let y : Pdp8e = record { processor = CpuRuns.after count m.processor; disk = x; devices = v } in y) disk
    ∙ ap (λ (x : DevicesState). let y : Pdp8e = record { processor = CpuRuns.after count m.processor; disk = disk_after m.disk count; devices = x } in y) devices
    ∙ ap (λ (x : Pdp8e). after_time count x (CpuRuns.after count x.processor)) same
    ∙ sym (unasked.passes count (omega arith))

-- and where nothing is under way
pub state_quiet : (looks : Bool) (m now : Pdp8e) → m ≡ now → (s : State8e) (count : ℕ) → AreUnasked looks now count → is_quiet m.disk m.devices ≡ true
    → s ≡ CpuRuns.after count m.processor → with_processor m s ≡ after count now
state_quiet looks m now same s count unasked quiet processor =
    ap (λ (x : State8e). with_processor m x) processor
    ∙ sym (passed_quiet m (CpuRuns.after count m.processor) count quiet)
    ∙ ap (λ (x : Pdp8e). after_time count x (CpuRuns.after count x.processor)) same
    ∙ sym (unasked.passes count (omega arith))

pub after_none : (m : Pdp8e) → m ≡ after 0 m
unfolding after_keys
after_none m = refl

-- where no step is made
pub none_unasked : (looks : Bool) (m : Pdp8e) → AreUnasked looks m 0
unfolding CpuRuns.after_keys
none_unasked looks m = record {
  processor = λ k below. absurd (omega (arith, below));
  passes = λ k within. let e : k ≡ 0 = omega (arith, within) in
      subst (λ n. after n m ≡ after_time n m (CpuRuns.after n m.processor)) (sym e) (sym (after_none m) ∙ passed_none m);
  answers = λ k below. absurd (omega (arith, below));
  begins = λ k below. absurd (omega (arith, below));
  moves = λ k below. absurd (omega (arith, below));
  punch = λ some. absurd (omega (arith, some));
  printer = λ some. absurd (omega (arith, some));
}

-- ## At a terminal

asks_not : (a b : Bool) → a ≡ false → (a && b) ≡ false
asks_not true b h = absurd (true≢false h)
asks_not false b h = refl

pub none_asked : (m : Pdp8e) (since count : ℕ) → AreUnasked (nat_le 30000 since) m count
    → ((j : ℕ) → j < count → (nat_le 30000 (since + j) && (not (nat_le 30000 since) || (m.processor.base.interrupts_on && m.processor.console_enabled))) ≡ false)
    → (k : ℕ) → k < count → asks_for_key (since + k) (after k m) ≡ false
none_asked m since count unasked sooner k below =
    let s = CpuRuns.after k m.processor in
    let x = after_time k m s in
    ap (λ (y : Pdp8e). asks_for_key (since + k) y) (unasked.passes k (omega (arith, below)))
    ∙ asks_not (CpuAsks.asks_for_key (since + k) s) (not (is_ending x.disk || is_interrupting x))
    (CpuQuick.asks-not m.processor since k (unasked.processor k below) (sooner k below))

none_either : (b : Bool) (o : Option Absence) → o ≡ None → (if b then None else o) ≡ None
none_either true o h = refl
none_either false o h = h

-- no IOT of a device that isn't there is done in these steps
pub none_absent : (looks : Bool) (m : Pdp8e) (count : ℕ) → AreUnasked looks m count → (k : ℕ) → k < count → absence_at (after k m) ≡ None
unfolding absence_of_step
none_absent looks m count unasked k below =
    let s = CpuRuns.after k m.processor in
    let busy = s.base.teletype.busy in
    let t : State8e = if busy then CpuState.printer_done s else s in
    ap (λ (x : Pdp8e). absence_in x) (unasked.begins k below)
    ∙ ap (λ (x : Pdp8e). absence_in (with_printer_done x)) (unasked.passes k (omega (arith, below)))
    ∙ ap (λ (x : Pdp8e). absence_in x) (ended_alone busy (after_time k m s) s)
    ∙ none_either (is_for_devices (next_word t)) (CpuAbsences.absence_at t)
    (none-at t (ap (λ w. is_absent w) (ended_word busy s) ∙ quick-there (next_word s) (unasked.processor k below).word))

same_after : (k : ℕ) (m : Pdp8e) → any.after terminal_acts k m ≡ after k m
unfolding any.after after_keys
same_after zero m = refl
same_after (suc k) m = ap (λ (x : Pdp8e). (printing_step x).0) (same_after k m)

pub goes_unasked : (m new : Pdp8e) (since count : ℕ) → new ≡ after count m → AreUnasked (nat_le 30000 since) m count
    → ((j : ℕ) → j < count → (nat_le 30000 (since + j) && (not (nat_le 30000 since) || (m.processor.base.interrupts_on && m.processor.console_enabled))) ≡ false)
    → GoesUnasked terminal_acts since count m new
goes_unasked m new since count state unasked sooner = record {
  state = state ∙ sym (same_after count m);
  answers = λ k below. ap (λ (x : Pdp8e). (printing_step x).1) (same_after k m) ∙ unasked.answers k below;
  asks = λ k below. ap (λ (x : Pdp8e). asks_for_key (since + k) x) (same_after k m) ∙ none_asked m since count unasked sooner k below;
  absences = λ k below. ap (λ (x : Pdp8e). absence_at x) (same_after k m) ∙ none_absent (nat_le 30000 since) m count unasked k below;
}
