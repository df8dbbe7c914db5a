-- What steps of the code do. No contract of a public function cites these.
use Rattle.std.specs.Prelude.{◌≡◌, ◌≢◌, ℕ, ◌<◌, ◌≤◌, Result, Ok, Err}
use Rattle.disk_layouts.specs.declared.layouts.Layout.{Layout}
use Rattle.disk_layouts.specs.declared.layouts.Layout.TheVariants.{First, Second, Dectape}
use Rattle.disk_layouts.specs.declared.faults.DiskFault.{DiskFault}
use Rattle.disk_layouts.specs.declared.faults.DiskFault.TheVariants.{TooLong, NoTape, Memory}
use Rattle.disk_layouts.specs.declared.sizes.TheConstants.{DISK, TAPE}

-- whether a file of so many bytes may be read at a layout
abbrev pub Judges : Layout → ℕ → Result (Unit {0}) DiskFault → Type 0
Judges First size (Ok is) = size ≤ DISK
Judges Second size (Ok is) = size ≤ DISK
Judges Dectape size (Ok is) = size ≡ TAPE
Judges First size (Err TooLong) = DISK < size
Judges Second size (Err TooLong) = DISK < size
Judges Dectape size (Err TooLong) = ⊥
Judges First size (Err NoTape) = ⊥
Judges Second size (Err NoTape) = ⊥
Judges Dectape size (Err NoTape) = size ≢ TAPE
Judges layout size (Err Memory) = ⊥
