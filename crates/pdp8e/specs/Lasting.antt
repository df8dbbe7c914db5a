-- Steps in which nothing ends on disk and devices, for private clauses.
use Rattle.std.specs.Prelude.{◌≡◌, ℕ, ◌≤◌, false, Option, None, Some}
use Rattle.rk8e.specs.State.{DiskState}
use Rattle.pdp8e.specs.Devices.{DevicesState}
use Rattle.pdp8e.specs.State.{Pdp8e}

-- so many instructions are left, or none is counted
abbrev pub TimeLasts : Option ℕ → ℕ → Type 0
TimeLasts None count = Unit {0}
TimeLasts (Some time) count = count ≤ time

-- no function of the disk ends in the beginning of one of the next so many steps, if each is an instruction
pub record DiskLasts (d : DiskState) (count : ℕ) : Type 0 where
  pub zero : TimeLasts d.drive0.time_left count
  pub one : TimeLasts d.drive1.time_left count
  pub two : TimeLasts d.drive2.time_left count
  pub three : TimeLasts d.drive3.time_left count

-- nor does anything of the devices, and the clock doesn't tick
pub record DevicesLast (d : DevicesState) (count : ℕ) : Type 0 where
  pub reader : d.reader.asked ≡ false
  pub punch : d.punch.writing ≡ None
  pub printer : d.printer.writing ≡ None
  pub clock : TimeLasts d.clock.time_left count

pub record Lasts (m : Pdp8e) (count : ℕ) : Type 0 where
  pub disk : DiskLasts m.disk count
  pub devices : DevicesLast m.devices count
