-- What the files of the disks get in a run, and at its end (this project's profile).
use Rattle.std.specs.Prelude.{◌≡◌, ◌⊎◌, ℕ, Bool, true, false, Option, None, Some, Result, Ok, Err, List}
use Rattle.std.specs.Str.{bytes_eq}
use Rattle.rk8e.specs.Packs.{PackState, IsFileOf}
use Rattle.rk8e.specs.State.{DiskState}
use Rattle.hosts.specs.Event.{Event}
use Rattle.refusals.specs.declared.faults.SessionFault.TheVariants.{Memory}
use Rattle.outcome.specs.declared.contents.Content.TheVariants.{Image}
use Rattle.outcome.specs.declared.endings.Ending.{Ending}
use Rattle.outcome.specs.declared.endings.Ending.TheVariants.{Fault}
use Rattle.image_files.specs.Saving.{IsDone, Writes}
use Rattle.image_files.specs.declared.reading.ImagePlace.{ImagePlace}
use Rattle.drive_files.specs.Drives.{OfDrive}
use Rattle.drive_files.specs.declared.mounting.Places.{Places}

-- nothing is asked of the host
abbrev pub SavesNothing : List Event → Result (Unit {0}) Ending → List Event → Type 0
SavesNothing old result new = IsDone result × (new ≡ old)

-- memory is wanted for the bytes, and nothing is asked of the host
abbrev pub WantsMemory : List Event → Result (Unit {0}) Ending → List Event → Type 0
WantsMemory old (Ok it) new = ⊥
WantsMemory old (Err ending) new = (ending ≡ Fault Memory) × (new ≡ old)

-- the bytes that a file got last: these, where it got them, or else those of before
abbrev pub last_bytes : Result (Unit {0}) Ending → List ℕ → List ℕ → List ℕ
last_bytes (Ok it) file saved = file
last_bytes (Err ending) file saved = saved

-- the file at a place gets these bytes, unless it got just them last
abbrev pub SavesBytes : Bool → List ℕ → ImagePlace → List ℕ → List ℕ → List Event → Result (Unit {0}) Ending → List Event → Type 0
SavesBytes true file place saved saved' old result new = SavesNothing old result new × (saved' ≡ saved)
SavesBytes false file place saved saved' old result new = Writes Image place.path.bytes.items place.name.bytes.items file old result new × (saved' ≡ last_bytes result file saved)

-- The file gets all sectors of a disk of which one was written, unless it got just these bytes last. Where none was, the file is left alone.
abbrev pub SavesPack : Bool → PackState → ImagePlace → List ℕ → List ℕ → List Event → Result (Unit {0}) Ending → List Event → Type 0
SavesPack false pack place saved saved' old result new = SavesNothing old result new × (saved' ≡ saved)
SavesPack true pack place saved saved' old result new = (WantsMemory old result new × (saved' ≡ saved))
    ⊎ ((file : List ℕ) × IsFileOf file pack × SavesBytes (bytes_eq file saved) file place saved saved' old result new)

-- a drive with a disk whose file is held
abbrev pub SavesDrive : ℕ → Option PackState → Option ImagePlace → List ℕ → List ℕ → List Event → Result (Unit {0}) Ending → List Event → Type 0
SavesDrive drive None place saved saved' old result new = SavesNothing old result new × (saved' ≡ saved)
SavesDrive drive (Some pack) None saved saved' old result new = SavesNothing old result new × (saved' ≡ saved)
SavesDrive drive (Some pack) (Some place) saved saved' old result new = OfDrive drive (SavesPack pack.changed pack place saved saved') old result new

-- the first of two ends that is a fault
abbrev pub earlier : Result (Unit {0}) Ending → Result (Unit {0}) Ending → Result (Unit {0}) Ending
earlier (Ok it) later = later
earlier (Err ending) later = Err ending

-- the files are held at the same places
abbrev pub ArePlaces : Places → Places → Type 0
ArePlaces places places' =
    (places'.place0 ≡ places.place0) × (places'.place1 ≡ places.place1) × (places'.place2 ≡ places.place2) × (places'.place3 ≡ places.place3)
    × (places'.papers ≡ places.papers)

-- the drives, in rising order, each whatever became of those before it
pub record SavesDrives (disk : DiskState) (places places' : Places) (old : List Event) (result : Result (Unit {0}) Ending) (new : List Event) : Type 0 where
  pub first : Result (Unit {0}) Ending
  pub second : Result (Unit {0}) Ending
  pub third : Result (Unit {0}) Ending
  pub fourth : Result (Unit {0}) Ending
  pub after_first : List Event
  pub after_second : List Event
  pub after_third : List Event
  pub saves0 : SavesDrive 0 disk.drive0.pack places.place0 places.rooms.saved0.items places'.rooms.saved0.items old first after_first
  pub saves1 : SavesDrive 1 disk.drive1.pack places.place1 places.rooms.saved1.items places'.rooms.saved1.items after_first second after_second
  pub saves2 : SavesDrive 2 disk.drive2.pack places.place2 places.rooms.saved2.items places'.rooms.saved2.items after_second third after_third
  pub saves3 : SavesDrive 3 disk.drive3.pack places.place3 places.rooms.saved3.items places'.rooms.saved3.items after_third fourth new
  pub same : ArePlaces places places'
  pub is : result ≡ earlier first (earlier second (earlier third fourth))
