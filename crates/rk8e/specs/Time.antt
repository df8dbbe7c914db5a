-- Time, in instructions. An interrupt takes none (this project's profile).
use Rattle.std.specs.Prelude.{ℕ, ◌-◌, Bool, false, nat_eq, nat_le, if◌then◌else◌, Option, Some, None}
use Rattle.rk8e.specs.State.{DriveState, DiskState, with_each}

-- a time left is less by so many instructions
abbrev pub time_after : Option ℕ → ℕ → Option ℕ
time_after None count = None
time_after (Some time) count = Some (time - count)

abbrev pub drive_after : ℕ → DriveState → DriveState
drive_after count drive = record drive { time_left = time_after drive.time_left count }

-- Of the instructions that pass, the last is yet to be done: what it begins is not made less by it.
abbrev pub disk_after : DiskState → ℕ → DiskState
disk_after d count = with_each (drive_after count) d

-- of two times the less, where there are both
abbrev pub sooner : Option ℕ → Option ℕ → Option ℕ
sooner None b = b
sooner (Some a) None = Some a
sooner (Some a) (Some b) = if nat_le a b then Some a else Some b

-- the least of the times left
abbrev pub least_time : DiskState → Option ℕ
least_time d = sooner (sooner d.drive0.time_left d.drive1.time_left) (sooner d.drive2.time_left d.drive3.time_left)

-- no instruction is left
abbrev pub is_over : Option ℕ → Bool
is_over None = false
is_over (Some time) = nat_eq time 0
