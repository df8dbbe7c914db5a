-- The boot, step by step.
use Rattle.std.proofs.Common.{◌≡◌, ◌≢◌, ℕ, zero, suc, ◌+◌, ◌-◌, ◌*◌, ◌≤◌, Bool, true, false, true≢false, ◌&&◌, nat_eq, List, Some, None, length, slice_index, slice_set, length-set, refl, ap, sym, ◌∙◌, arith}
use Rattle.std.proofs.lemmas.Bool.Decides.{nat_tests}
use Rattle.std.proofs.lemmas.Grind.{get_or-set_at}
use Rattle.std.proofs.lemmas.List.{get_or-set_other}
use Rattle.cpu8.specs.Step as Pdp8i
use Rattle.cpu8.specs.declared.outcomes.Stepped.{Stepped}
use Rattle.cpu8.specs.declared.outcomes.Stepped.TheVariants.{Ran}
use Rattle.rk8e.specs.Packs.{PackState}
use Rattle.rk8e.specs.State.{DiskState, cleared_drive, new_control}
use Rattle.rk8e.specs.Go.{begin_on}
use Rattle.rk8e.specs.Transfer.{end_on, is_reached}
use Rattle.rk8e.specs.Laws.{IsSettled}
use Rattle.cpu8e.specs.Step as Cpu
use Rattle.pdp8e.specs.Devices.{new_devices}
use Rattle.pdp8e.specs.State.{Pdp8e}
use Rattle.pdp8e.specs.Step.{step}
use Rattle.pdp8e.specs.Runs.{printing_step, after_keys}
use Rattle.pdp8e.specs.Boot.{with_bootstrap, booting}

-- ## The words of the bootstrap

dlag : (core : List ℕ) → length core ≡ 32768 → slice_index (with_bootstrap core) 0o30 ≡ 0o6743
dlag core size =
    let other : 0o30 ≢ 0o31 = λ h. omega (arith, h) in
    get_or-set_other (slice_set core 0o30 0o6743) 0o31 0o30 0o5031 0 other
    ∙ get_or-set_at core 0o30 0o30 0o6743 0 refl (omega (arith, size))

jmp : (core : List ℕ) → length core ≡ 32768 → slice_index (with_bootstrap core) 0o31 ≡ 0o5031
jmp core size =
    let same : length (slice_set core 0o30 0o6743) ≡ length core = length-set core 0o30 0o6743 in
    get_or-set_at (slice_set core 0o30 0o6743) 0o31 0o31 0o5031 0 refl (omega (arith, size, same))

pub others : (core : List ℕ) (cell : ℕ) → 256 ≤ cell → slice_index (with_bootstrap core) cell ≡ slice_index core cell
others core cell past =
    let a : cell ≢ 0o31 = λ h. omega (arith, h, past) in
    let b : cell ≢ 0o30 = λ h. omega (arith, h, past) in
    get_or-set_other (slice_set core 0o30 0o6743) 0o31 cell 0o5031 0 a ∙ get_or-set_other core 0o30 cell 0o6743 0 b

pub size_kept : (core : List ℕ) → length (with_bootstrap core) ≡ length core
size_kept core = length-set (slice_set core 0o30 0o6743) 0o31 0o5031 ∙ length-set core 0o30 0o6743

-- ## The loop

-- the disk while sector 0 is read, with so many instructions left
abbrev pub reading : DiskState → ℕ → DiskState
reading d time = record {
  control = record (new_control d.control.seek_time d.control.disk_time) { busy = true };
  drive0 = record (cleared_drive d.drive0) { function = 0; time_left = Some time };
  drive1 = cleared_drive d.drive1;
  drive2 = cleared_drive d.drive2;
  drive3 = cleared_drive d.drive3;
}

-- the machine after DLAG: only the time left changes until the transfer ends
abbrev pub looping : List ℕ → DiskState → ℕ → Pdp8e
looping core d time =
    let m = booting core d in
    record {
      processor = record m.processor { base = record m.processor.base { pc = 0o31 } };
      disk = reading d time;
      devices = new_devices;
    }

-- the time that is left after DLAG
abbrev pub first_time : DiskState → ℕ
first_time d = d.control.seek_time * ((0 - 0) + (0 - 0)) + d.control.disk_time

pub first_step : (core : List ℕ) (d : DiskState) (pack : PackState) → length core ≡ 32768 → d.drive0.pack ≡ Some pack
    → step (booting core d) ≡ (looping core d (first_time d), Ran None)
unfolding step begin_on end_on
first_step core d pack size is = rw (dlag core size, is) refl

past0 : (n : ℕ) → nat_eq (suc n) 0 ≡ false
past0 n = grind (arith, nat_tests)

less : (n : ℕ) → suc n - 1 ≡ n
less n = omega arith

pub loop_step : (core : List ℕ) (d : DiskState) (time : ℕ) → length core ≡ 32768
    → step (looping core d (suc time)) ≡ (looping core d time, Ran None)
unfolding step end_on Cpu.after_instruction Pdp8i.after_instruction
loop_step core d time size = rw (past0 time, less time, jmp core size) refl

loop_steps : (core : List ℕ) (d : DiskState) (pack : PackState) (j time : ℕ) → length core ≡ 32768 → d.drive0.pack ≡ Some pack
    → j + time ≡ first_time d → after_keys (λ _. None) (suc j) (booting core d) ≡ looping core d time
unfolding after_keys
loop_steps core d pack zero time size is sum =
    let same : first_time d ≡ time = omega (arith, sum) in
    ap (λ (r : Pdp8e × Stepped). r.0) (first_step core d pack size is) ∙ ap (λ (t : ℕ). looping core d t) same
loop_steps core d pack (suc j) time size is sum =
    let before = loop_steps core d pack j (suc time) size is (omega (arith, sum)) in
    ap (λ (m : Pdp8e). (printing_step m).0) before ∙ ap (λ (r : Pdp8e × Stepped). r.0) (loop_step core d time size)

pub boot_steps : (core : List ℕ) (d : DiskState) (pack : PackState) → length core ≡ 32768 → d.drive0.pack ≡ Some pack
    → after_keys (λ _. None) (d.control.disk_time + 1) (booting core d) ≡ looping core d 0
boot_steps core d pack size is =
    let one : d.control.disk_time + 1 ≡ suc d.control.disk_time = omega arith in
    ap (λ (k : ℕ). after_keys (λ _. None) k (booting core d)) one
    ∙ loop_steps core d pack d.control.disk_time 0 size is (omega arith)

-- ## The end of the transfer

pub reading_settled : (d : DiskState) (time : ℕ) → IsSettled (reading d time)
reading_settled d time zero small moves = record { busy = refl; drive = refl; sector = omega arith }
reading_settled d time (suc zero) small moves = absurd (true≢false (sym moves))
reading_settled d time (suc (suc zero)) small moves = absurd (true≢false (sym moves))
reading_settled d time (suc (suc (suc zero))) small moves = absurd (true≢false (sym moves))
reading_settled d time (suc (suc (suc (suc n)))) small moves = absurd (omega (arith, small))

and_false : (a b : Bool) → (a ≡ true → b ≡ false) → (a && b) ≡ false
and_false true b f = f refl
and_false false b f = refl

pub not_reached : (d : DiskState) (time cell : ℕ) → 256 ≤ cell → is_reached (reading d time).control 256 cell ≡ false
not_reached d time cell past = grind (arith, nat_tests)
