-- The state of an RK8-E disk control with four RK05 drives (Small Computer Handbook).
use Rattle.std.specs.Prelude.{ℕ, Bool, true, false, nat_eq, if◌then◌else◌, Option, None}
use Rattle.rk8e.specs.Packs.{PackState}

pub record ControlState : Type 0 where
  pub command : ℕ
  -- DA: the low twelve bits of the number of a sector
  pub disk_address : ℕ
  -- MA: the address in core of the next word that is moved
  pub memory_address : ℕ
  pub status : ℕ
  -- a transfer is under way
  pub busy : Bool
  -- S: the instructions that an arm takes for each cylinder that it moves
  pub seek_time : ℕ
  -- R: the instructions of a transfer beside those of its seek
  pub disk_time : ℕ

pub record DriveState : Type 0 where
  pub pack : Option PackState
  -- no sector may be written
  pub locked : Bool
  -- where the arm is, or goes
  pub cylinder : ℕ
  -- the function that was begun last
  pub function : ℕ
  -- The instructions until that function ends. A drive with none is at rest.
  pub time_left : Option ℕ

pub record DiskState : Type 0 where
  pub control : ControlState
  pub drive0 : DriveState
  pub drive1 : DriveState
  pub drive2 : DriveState
  pub drive3 : DriveState

-- a drive at rest, with no pack
abbrev pub new_drive : DriveState
new_drive = record { pack = None; locked = false; cylinder = 0; function = 0; time_left = None }

-- a control whose registers are 0, with these times
abbrev pub new_control : ℕ → ℕ → ControlState
new_control seek_time disk_time = record {
  command = 0;
  disk_address = 0;
  memory_address = 0;
  status = 0;
  busy = false;
  seek_time = seek_time;
  disk_time = disk_time;
}

abbrev pub new_disk : ℕ → ℕ → DiskState
new_disk seek_time disk_time = record {
  control = new_control seek_time disk_time;
  drive0 = new_drive;
  drive1 = new_drive;
  drive2 = new_drive;
  drive3 = new_drive;
}

-- drive 0, 1, 2 or 3
abbrev pub drive_of : DiskState → ℕ → DriveState
drive_of d n =
    if nat_eq n 0 then d.drive0
    else if nat_eq n 1 then d.drive1
    else if nat_eq n 2 then d.drive2
    else d.drive3

-- the disk with another control
abbrev pub with_control : DiskState → ControlState → DiskState
with_control d control = record d { control = control }

-- the disk with another drive of this number
abbrev pub with_drive : DiskState → ℕ → DriveState → DiskState
with_drive d n drive =
    if nat_eq n 0 then record d { drive0 = drive }
    else if nat_eq n 1 then record d { drive1 = drive }
    else if nat_eq n 2 then record d { drive2 = drive }
    else record d { drive3 = drive }

-- what is done to each drive
abbrev pub with_each : (DriveState → DriveState) → DiskState → DiskState
with_each change d = record d {
  drive0 = change d.drive0;
  drive1 = change d.drive1;
  drive2 = change d.drive2;
  drive3 = change d.drive3;
}

-- ## What the operator does

-- a drive is write locked
abbrev pub with_lock : DriveState → DriveState
with_lock drive = record drive { locked = true }

-- a drive has this pack, or none
abbrev pub with_pack : DriveState → Option PackState → DriveState
with_pack drive pack = record drive { pack = pack }

-- a drive at rest
abbrev pub at_rest : DriveState → DriveState
at_rest drive = record drive { time_left = None }

-- Clearing, by CAF or by a start, makes the registers 0 and leaves no function under way: a transfer then moves no word. The arms
-- go to cylinder 0. Packs and locks stay.
abbrev pub cleared_drive : DriveState → DriveState
cleared_drive drive = record drive { cylinder = 0; time_left = None }

abbrev pub after_clear : DiskState → DiskState
after_clear d = with_control (with_each cleared_drive d) (new_control d.control.seek_time d.control.disk_time)
