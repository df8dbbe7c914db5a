-- How a function begins on a drive (RK8-E, Small Computer Handbook). What the handbook leaves open is as in SIMH's PDP-8.
use Rattle.std.specs.Prelude.{ℕ, ◌+◌, ◌-◌, ◌*◌, true, ◌&&◌, ◌||◌, nat_eq, nat_lt, max, is_some, is_none, if◌then◌else◌, Some}
use Rattle.rk8e.specs.State.{ControlState, DriveState, DiskState, drive_of, with_drive, with_control}
use Rattle.rk8e.specs.Command.{drive_number, with_status, is_write}

-- how many cylinders lie between two
abbrev pub distance : ℕ → ℕ → ℕ
distance a b = (a - b) + (b - a)

-- a drive whose arm goes to a cylinder, with a function that ends after so many instructions
abbrev pub with_function : DriveState → ℕ → ℕ → ℕ → DriveState
with_function drive function cylinder time = record drive {
  function = function;
  cylinder = cylinder;
  time_left = Some time;
}

-- how long the arm takes
abbrev pub arm_time : ControlState → DriveState → ℕ → ℕ
arm_time c drive cylinder = c.seek_time * distance drive.cylinder cylinder

-- A function is to begin on a drive, at a cylinder. Of these rows the first holds that applies.
-- 1. The drive has no pack: done, and not ready.
-- 2. It is not at rest, or there is no such cylinder: the same.
-- 3. A locked drive is to be written: done, and a write lock error.
-- 4. Write protect: the drive is locked, and done at once.
-- 5. Seek: done at once too, and the arm moves, for ten instructions at least.
-- 6. All others: a transfer is under way.
unfoldable pub begin_on : ControlState → DriveState → ℕ → ℕ → ControlState × DriveState
begin_on c drive function cylinder =
    if is_none drive.pack then (with_status c 0o4002, drive)
    else if is_some drive.time_left || nat_lt 202 cylinder then (with_status c 0o4002, drive)
    else if is_write function && drive.locked then (with_status c 0o4020, drive)
    else if nat_eq function 2 then (with_status c 0o4000, record drive { locked = true })
    else if nat_eq function 3 then
    (with_status c 0o4000, with_function drive function cylinder (max 10 (arm_time c drive cylinder)))
    else (record c { busy = true }, with_function drive function cylinder (arm_time c drive cylinder + c.disk_time))

-- the command's drive begins a function
abbrev pub go : DiskState → ℕ → ℕ → DiskState
go d function cylinder =
    let n = drive_number d.control in
    let done = begin_on d.control (drive_of d n) function cylinder in
    with_drive (with_control d done.0) n done.1
