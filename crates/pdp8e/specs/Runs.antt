-- Runs of the whole 8/E. The printer ends its character before each step that finds it busy.
use Rattle.std.specs.Prelude.{◌≡◌, ℕ, zero, suc, ◌<◌, ◌≤◌, Bool, if◌then◌else◌, Option, Some, None}
use Rattle.cpu8.specs.declared.outcomes.Stepped.{Stepped}
use Rattle.cpu8.specs.declared.outcomes.Stepped.TheVariants.{Ran}
use Rattle.cpu8e.specs.Runs as CpuRuns
use Rattle.cpu8e.specs.Unasked as Cpu
use Rattle.rk8e.specs.Time.{disk_after}
use Rattle.cpu8e.specs.State.{State8e}
use Rattle.pdp8e.specs.Devices.{instructions_after}
use Rattle.pdp8e.specs.State.{Pdp8e, key_struck, printer_done}
use Rattle.pdp8e.specs.Step.{after_beginning, step, move_in}

-- the printer ends its character where it is busy
abbrev pub with_printer_done : Pdp8e → Pdp8e
with_printer_done m = if m.processor.base.teletype.busy then printer_done m else m

-- a step after that
abbrev pub printing_step : Pdp8e → Pdp8e × Stepped
printing_step m = step (with_printer_done m)

-- before step k, from 0 on, the key of k is struck, if it has one
abbrev pub with_key : Option ℕ → Pdp8e → Pdp8e
with_key (Some key) m = key_struck m key
with_key None m = m

unfoldable pub after_keys : (ℕ → Option ℕ) → ℕ → Pdp8e → Pdp8e
after_keys keys zero m = m
after_keys keys (suc k) m = (printing_step (with_key (keys k) (after_keys keys k m))).0

-- the machine after so many steps without a key
abbrev pub after : ℕ → Pdp8e → Pdp8e
after k m = after_keys (λ _. None) k m

-- ## Steps in which nothing ends on disk and devices

-- the machine with another processor, when so many instructions have passed for what is under way
abbrev pub after_time : ℕ → Pdp8e → State8e → Pdp8e
after_time count m processor = record {
  processor = processor;
  disk = disk_after m.disk count;
  devices = instructions_after m.devices count;
}

-- In so many steps that are quickly made the program waits for no key nor, if looks count, looks for one. They are instructions of the processor alone, which pass for what is
-- under way, and end nothing, no transfer either. Neither the punch nor the line printer writes.
pub record AreUnasked (looks : Bool) (m : Pdp8e) (count : ℕ) : Type 0 where
  pub processor : Cpu.AreUnasked looks m.processor count
  pub passes : (k : ℕ) → k ≤ count → after k m ≡ after_time k m (CpuRuns.after k m.processor)
  pub answers : (k : ℕ) → k < count → (printing_step (after k m)).1 ≡ Ran None
  pub begins : (k : ℕ) → k < count → after_beginning (with_printer_done (after k m)) ≡ with_printer_done (after k m)
  pub moves : (k : ℕ) → k < count → move_in (with_printer_done (after k m)) ≡ None
  pub punch : 0 < count → m.devices.punch.writing ≡ None
  pub printer : 0 < count → m.devices.printer.writing ≡ None
