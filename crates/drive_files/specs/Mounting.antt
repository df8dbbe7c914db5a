-- Disks in the drives of a disk control (this project's profile).
use Rattle.std.specs.Prelude.{ℕ, Bool, true, false, nat_le, if◌then◌else◌, Option, None, Some}
use Rattle.rk8e.specs.State.{DriveState, DiskState, new_control, new_drive, with_lock, with_pack}
use Rattle.program_tasks.specs.declared.boots.DiskForm.{DiskForm}
use Rattle.image_files.specs.declared.reading.ImagePlace.{ImagePlace}
use Rattle.drive_files.specs.Devices.{no_papers}
use Rattle.drive_files.specs.declared.mounting.Places.{Places}
use Rattle.drive_files.specs.declared.devices.OpenDevices.{OpenDevices}
use Rattle.drive_files.specs.declared.opening.OpenDisk.{OpenDisk}
use Rattle.drive_files.specs.declared.opening.OpenDrives.{OpenDrives}

-- ## The disk

-- a time that a disk may have: up to 1000000 instructions
abbrev pub time_of_disk : ℕ → ℕ
time_of_disk time = if nat_le time 1000000 then time else 1000000

-- a drive with a disk, if there is one
abbrev pub with_disk : Option OpenDisk → DriveState → DriveState
with_disk None drive = drive
with_disk (Some found) drive = with_pack drive (Some found.pack)

-- and locked, where that is asked for
abbrev pub drive_with : Option OpenDisk → Bool → DriveState → DriveState
drive_with found true drive = with_lock (with_disk found drive)
drive_with found false drive = with_disk found drive

-- the disk control, whose drives have these disks and locks
abbrev pub disk_of : DiskForm → OpenDrives → DiskState
disk_of form drives = record {
  control = new_control (time_of_disk form.seek_time) (time_of_disk form.disk_time);
  drive0 = drive_with drives.disk0 form.drive0.is_locked new_drive;
  drive1 = drive_with drives.disk1 form.drive1.is_locked new_drive;
  drive2 = drive_with drives.disk2 form.drive2.is_locked new_drive;
  drive3 = drive_with drives.disk3 form.drive3.is_locked new_drive;
}

-- ## Where the files are held

abbrev pub place_of : Option OpenDisk → Option ImagePlace
place_of None = None
place_of (Some found) = found.place

abbrev pub places_of : OpenDrives → Places
places_of drives = record {
  place0 = place_of drives.disk0;
  place1 = place_of drives.disk1;
  place2 = place_of drives.disk2;
  place3 = place_of drives.disk3;
  rooms = drives.rooms;
  saves = 0;
  papers = no_papers;
}

-- with those of the papers
abbrev pub with_papers : OpenDevices → Places → Places
with_papers devices places = record places { papers = devices.papers }
