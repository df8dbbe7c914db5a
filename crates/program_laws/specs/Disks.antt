-- When the disks and papers of a run are saved, and what is printed where a disk is refused, or not saved.
use Rattle.std.specs.Prelude.{◌≡◌, ◌≢◌, ◌⊎◌, ◌<◌, ◌≤◌, ◌-◌, ◌∷◌, ◌++◌, [], ℕ, Bool, true, Result, Ok, Err, List}
use Rattle.hosts.specs.Event.{Event}
use Rattle.program_reports.specs.Program.{drive_text, refusal_of_drive}
use Rattle.program_reports.specs.declared.drives.DriveRefusal.{DriveRefusal}
use Rattle.refusals.specs.declared.faults.SessionFault.TheVariants.{Memory}
use Rattle.outcome.specs.Outcomes.{outcome_of, refusal}
use Rattle.outcome.specs.declared.endings.Ending.{Ending}
use Rattle.outcome.specs.declared.endings.Ending.TheVariants.{Fault}
use Rattle.program_tasks.specs.declared.boots.ConsoleForm.{ConsoleForm}
use Rattle.drive_files.specs.Consoles.{bytes_on_paper, is_at_wait, is_waiting}
use Rattle.drive_files.specs.Devices.{SavesPapers}
use Rattle.drive_files.specs.Rounds.{AsksAfter, DoesAfter, SavedPlaces}
use Rattle.drive_files.specs.Saving.{SavesDrives}
use Rattle.drive_files.specs.declared.consoles.Console.{Console}
use Rattle.drive_files.specs.declared.mounting.Places.{Places}
use Rattle.drive_files.specs.declared.rounds.Unsaved.{Unsaved}
use Rattle.drive_files.specs.declared.rounds.Unsaved.TheVariants.{Disk, Paper}

-- A save is due after so many steps: as many as were asked for were made since the last one, and a transfer has ended since. The program waits for a
-- key, and no transfer is under way.
pub record IsDue (form : ConsoleForm) (steps : ℕ) (s : Console) (kept : SavedPlaces) : Type 0 where
  pub asked : 0 < form.every
  pub since : form.every ≤ steps - kept.1.steps
  pub changed : s.transfers ≢ kept.1.transfers
  pub waits : is_at_wait s ≡ true

-- between two parts of a run the disks were saved, or a save of one failed, and after that came what comes then
abbrev pub SavesBetween : ConsoleForm → Console → SavedPlaces → SavedPlaces → List Event → Result Bool Unsaved → List Event → Type 0
SavesBetween form s kept after old result new = (saved : Result (Unit {0}) Ending) × (mid : SavedPlaces) × (between : List Event)
    × SavesDrives s.machine.disk kept.0 after.0 old saved between × DoesAfter form.ends_with s saved mid after between result new

-- a disk, and a paper, that could not be saved in a run is none
abbrev pub NoDiskFailed : Result (Unit {0}) Unsaved → Type 0
NoDiskFailed (Ok it) = Unit {0}
NoDiskFailed (Err (Disk ending)) = ⊥
NoDiskFailed (Err (Paper ending)) = Unit {0}

abbrev pub NoPaperFailed : Result (Unit {0}) Unsaved → Type 0
NoPaperFailed (Ok it) = Unit {0}
NoPaperFailed (Err (Disk ending)) = Unit {0}
NoPaperFailed (Err (Paper ending)) = ⊥

-- more bytes are on the papers than were saved, or less, and the program waits for a key
pub record IsGrown (s : Console) (kept : SavedPlaces) : Type 0 where
  pub grown : bytes_on_paper s ≢ kept.1.bytes
  pub waits : is_waiting s ≡ true

-- the disks were saved before that, or a save of one failed; or nothing was asked of the host
abbrev pub SavesFirst : Console → Places → Places → List Event → List Event → Type 0
SavesFirst s places after old new = (new ≡ old) ⊎ ((saved : Result (Unit {0}) Ending) × SavesDrives s.machine.disk places after old saved new)

-- the papers were saved after that, or a save of one failed; or nothing was asked of the host
abbrev pub FilesNext : Console → Places → List Event → List Event → Type 0
FilesNext s places old new = (new ≡ old) ⊎ ((filed : Result (Unit {0}) Ending) × SavesPapers s.papers places.papers old filed new)

-- at the end of a run the disks were saved, or a save of one failed, and then the papers, or nothing
abbrev pub SavesAtEnd : Console → Places → Places → List Event → List Event → Type 0
SavesAtEnd s places after old new = (saved : Result (Unit {0}) Ending) × (between : List Event) × SavesDrives s.machine.disk places after old saved between × FilesNext s places between new

-- the papers were saved there, or a save of one failed, after the disks, or nothing
abbrev pub FilesAtEnd : Console → Places → Places → List Event → List Event → Type 0
FilesAtEnd s places after old new = (filed : Result (Unit {0}) Ending) × (between : List Event) × SavesFirst s places after old between × SavesPapers s.papers places.papers between filed new

-- between two parts of a run the papers were saved, after the disks, or nothing, and before it was asked for an end
abbrev pub FilesBetween : ConsoleForm → Console → Places → Places → List Event → Bool → List Event → Type 0
FilesBetween form s places after old is_asked new = (before written : List Event) × (filed : Result (Unit {0}) Ending)
    × SavesFirst s places after old before × SavesPapers s.papers after.papers before filed written × AsksAfter form.ends_with filed written (Ok is_asked) new

-- the line of a command that ends so is a refusal, with the drive after it if that isn't 0; or memory is wanted
abbrev pub NamesDrive : ℕ → Ending → Type 0
NamesDrive drive ending = (ending ≡ Fault Memory)
    ⊎ ((why : DriveRefusal) × (note : List ℕ) × ((is_data : Bool) → outcome_of is_data (Err ending) ≡ refusal is_data note (refusal_of_drive why ++ drive_text drive ++ 0o12 ∷ [])))
