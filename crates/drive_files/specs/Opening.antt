-- How the files of the disks are held and read before a machine runs (this project's profile).
use Rattle.std.specs.Prelude.{◌≡◌, ◌⊎◌, ℕ, Bool, true, false, ◌&&◌, ◌||◌, not, is_some, Option, None, Some, Result, Ok, Err, String, List, [], ◌∷◌}
use Rattle.std.specs.Global.{Global, Vec}
use Rattle.rk8e.specs.Packs.{PackState, ReadsPack}
use Rattle.rk8e.specs.declared.faults.PackFault.{PackFault}
use Rattle.rk8e.specs.declared.faults.PackFault.TheVariants as pack
use Rattle.hosts.specs.Event.{Event, tell_call}
use Rattle.hosts.specs.declared.faults.Unwritten.TheVariants.{AsItWas}
use Rattle.volume_image.specs.declared.faults.ImageFault.TheVariants as image
use Rattle.refusals.specs.declared.faults.SessionFault.TheVariants.{Memory}
use Rattle.program_reports.specs.declared.programs.ProgramLine.TheVariants as line
use Rattle.program_tasks.specs.declared.boots.DiskForm.{DiskForm}
use Rattle.program_tasks.specs.declared.boots.DriveForm.{DriveForm}
use Rattle.outcome.specs.Notes.{name_text}
use Rattle.outcome.specs.declared.contents.Content.TheVariants.{Image}
use Rattle.outcome.specs.declared.notes.NameNote.TheVariants.{Refuses}
use Rattle.outcome.specs.declared.reasons.Reason.TheVariants as reason
use Rattle.outcome.specs.declared.endings.Ending.{Ending}
use Rattle.outcome.specs.declared.endings.Ending.TheVariants.{Line, Fault, NotWritten}
use Rattle.image_files.specs.Reading.{Holds, Looks, looked_name}
use Rattle.image_files.specs.Reasons.{TellsReason}
use Rattle.image_files.specs.Waiting.{Within}
use Rattle.image_files.specs.Work.{Then, Purely, IsJust}
use Rattle.image_files.specs.declared.reading.ImagePlace.{ImagePlace}
use Rattle.drive_files.specs.Drives.{OfDrive}
use Rattle.drive_files.specs.declared.opening.OpenDisk.{OpenDisk}
use Rattle.drive_files.specs.declared.opening.OpenDrives.{OpenDrives}
use Rattle.drive_files.specs.declared.opening.SaveRooms.{SaveRooms}

-- ## Holding

-- a file that may not be written is refused, and why is printed
abbrev pub IsWritable : ImagePlace → Bool → List ℕ → List Event → Result ImagePlace Ending → List Event → Type 0
IsWritable place true name old result new = IsJust place result × (new ≡ old)
IsWritable place false name old (Ok it) new = ⊥
IsWritable place false name old (Err ending) new = (ending ≡ NotWritten Image AsItWas) × TellsReason (reason.Fault place.why) name old new

-- a file is held, to be saved later; while another program holds it, it is waited for so many seconds
abbrev pub HoldsToWrite : ℕ → List ℕ → List Event → Result ImagePlace Ending → List Event → Type 0
HoldsToWrite seconds name = Then (Within seconds name (Holds name)) (λ place. IsWritable place place.is_held name)

-- where a file is to be saved
abbrev pub HoldsIf : Bool → ℕ → List ℕ → List Event → Result (Option ImagePlace) Ending → List Event → Type 0
HoldsIf true seconds name = Then (HoldsToWrite seconds name) (λ place. Purely (IsJust (Some place)))
HoldsIf false seconds name = Purely (IsJust None)

-- ## Reading

-- a file is read that is held at a place, or one that is not
abbrev pub LooksIn : Option ImagePlace → List ℕ → List Event → Result (Vec ℕ) Ending → List Event → Type 0
LooksIn None name = Looks name name
LooksIn (Some place) name = Looks (looked_name place name) name

-- how the command ends by a fault of a disk's file
abbrev pub ending_of_pack : PackFault → Ending
ending_of_pack pack.NotWhole = Line (line.Image image.NotWhole)
ending_of_pack pack.TooLarge = Line (line.Image image.TooLarge)
ending_of_pack (pack.BadWord number) = Line (line.Image (image.BadWord number))
ending_of_pack pack.Memory = Fault Memory

-- a note says of which file, unless memory is wanted for that
abbrev pub RefusesPack : List ℕ → PackFault → List Event → Ending → List Event → Type 0
RefusesPack name fault old ending new = ((ending ≡ ending_of_pack fault) × (ok : Bool) × (new ≡ tell_call ok (name_text Refuses name) ∷ old))
    ⊎ ((ending ≡ Fault Memory) × (new ≡ old))

-- the disk in a file of these bytes
abbrev pub TakesPack : List ℕ → List ℕ → List Event → Result PackState Ending → List Event → Type 0
TakesPack name bytes old (Ok pack) new = ReadsPack bytes (Ok pack) × (new ≡ old)
TakesPack name bytes old (Err ending) new = (fault : PackFault) × ReadsPack bytes (Err fault) × RefusesPack name fault old ending new

-- ## The drives

abbrev pub open_disk : PackState → Option ImagePlace → OpenDisk
open_disk pack place = record { pack = pack; place = place }

-- the disk in a file, which is held first where it is to be saved
abbrev pub OpensDisk : Bool → ℕ → List ℕ → List Event → Result OpenDisk Ending → List Event → Type 0
OpensDisk is_kept seconds name = Then (HoldsIf is_kept seconds name) (λ place. Then (LooksIn place name) (λ bytes. Then (TakesPack name bytes.items) (λ pack. Purely (IsJust (open_disk pack place)))))

-- a file that is only looked at, or whose drive is locked, isn't saved
abbrev pub is_kept : DriveForm → DiskForm → Bool
is_kept given form = not form.is_look && not given.is_locked

-- the disk of a drive, if it has one
abbrev pub OpensNamed : ℕ → Bool → ℕ → Option (String Global) → List Event → Result (Option OpenDisk) Ending → List Event → Type 0
OpensNamed drive is_kept seconds None = Purely (IsJust None)
OpensNamed drive is_kept seconds (Some name) = Then (OfDrive drive (OpensDisk is_kept seconds name.bytes.items)) (λ disk. Purely (IsJust (Some disk)))

abbrev pub OpensDrive : ℕ → DriveForm → DiskForm → List Event → Result (Option OpenDisk) Ending → List Event → Type 0
OpensDrive drive given form = OpensNamed drive (is_kept given form) form.wait given.image

-- a drive has a file that is to be saved
abbrev pub is_saved : Bool → DriveForm → Bool
is_saved is_look drive = is_some drive.image && (not is_look && not drive.is_locked)

-- one of the drives has
abbrev pub are_saved : DiskForm → Bool
are_saved form = is_saved form.is_look form.drive0 || (is_saved form.is_look form.drive1 || (is_saved form.is_look form.drive2 || is_saved form.is_look form.drive3))

-- no file has got bytes from a save
abbrev pub HaveSavedNone : SaveRooms → Type 0
HaveSavedNone rooms = (rooms.saved0.items ≡ []) × (rooms.saved1.items ≡ []) × (rooms.saved2.items ≡ []) × (rooms.saved3.items ≡ [])

-- the disks of the drives, unless memory is wanted for a save
abbrev pub AreOpen : Option OpenDisk → Option OpenDisk → Option OpenDisk → Option OpenDisk → Result OpenDrives Ending → Type 0
AreOpen disk0 disk1 disk2 disk3 (Ok drives) = (drives.disk0 ≡ disk0) × (drives.disk1 ≡ disk1) × (drives.disk2 ≡ disk2) × (drives.disk3 ≡ disk3) × HaveSavedNone drives.rooms
AreOpen disk0 disk1 disk2 disk3 (Err ending) = ending ≡ Fault Memory

-- one after the other
abbrev pub OpensDrives : DiskForm → List Event → Result OpenDrives Ending → List Event → Type 0
OpensDrives form =
    Then (OpensDrive 0 form.drive0 form) (λ disk0. Then (OpensDrive 1 form.drive1 form) (λ disk1. Then (OpensDrive 2 form.drive2 form) (λ disk2.
    Then (OpensDrive 3 form.drive3 form) (λ disk3. Purely (AreOpen disk0 disk1 disk2 disk3)))))
