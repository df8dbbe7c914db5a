-- A run in rounds. Between two of them changed disks and papers may be saved, and an end may be asked for (this project's profile).
use Rattle.std.specs.Prelude.{◌≡◌, ◌⊎◌, ◌<◌, ◌≤◌, ◌==◌, ℕ, zero, suc, ◌-◌, ◌^◌, Bool, true, false, ◌&&◌, ◌||◌, not, nat_eq, nat_le, nat_lt, if◌then◌else◌, is_some, unwrap_or, IfErr, Option, None, Some, String, Result, Ok, Err, List, ◌∷◌}
use Rattle.std.specs.Global.{Global}
use Rattle.byte_reader.specs.Readings.{Reading}
use Rattle.terminal8.specs.declared.outcomes.TerminalFault.TheVariants as terminal
use Rattle.terminal8e.specs.AnyRun.{RunsProgram}
use Rattle.terminal8e.specs.AnyTerminal.{new_terminal, later}
use Rattle.hosts.specs.Event.{Event, there_call}
use Rattle.hosts.specs.Streams.{output_text}
use Rattle.host_output.specs.Printing.{HasPrinted}
use Rattle.program_tasks.specs.declared.boots.ConsoleForm.{ConsoleForm}
use Rattle.outcome.specs.declared.endings.Ending.{Ending}
use Rattle.drive_files.specs.Inputs.{form_of, input_of}
use Rattle.drive_files.specs.Saving.{SavesDrives, SavesNothing}
use Rattle.drive_files.specs.Devices.{SavesPapers}
use Rattle.drive_files.specs.declared.mounting.Places.{Places}
use Rattle.drive_files.specs.Consoles.{bytes_on_paper, is_at_wait, is_waiting, console_acts}
use Rattle.drive_files.specs.declared.rounds.LastSave.{LastSave}
use Rattle.drive_files.specs.declared.rounds.Ran.{Ran}
use Rattle.drive_files.specs.declared.rounds.Unsaved.{Unsaved}
use Rattle.drive_files.specs.declared.rounds.Unsaved.TheVariants.{Disk, Paper}
use Rattle.drive_files.specs.declared.consoles.Console.{Console}

-- ## When disks are saved

-- the files of disks and papers, and when they were last saved
abbrev pub SavedPlaces : Type 0
SavedPlaces = Places × LastSave

-- no save was tried yet
abbrev pub none_saved : LastSave
none_saved = record { steps = 0; transfers = 0; bytes = 0 }

-- A save is due after so many steps where as many as the form says were made since the last one. A transfer has ended since one was last tried, and
-- the program waits for a key while no transfer is under way.
abbrev pub is_due : ConsoleForm → ℕ → Console → LastSave → Bool
is_due form steps s last = nat_lt 0 form.every && nat_le form.every (steps - last.steps) && not (nat_eq s.transfers last.transfers) && is_at_wait s

-- after a save that was tried there: it counts as the last one where a file was written
abbrev pub last_after : Result (Unit {0}) Ending → ℕ → Console → Places → SavedPlaces → LastSave
last_after (Ok it) steps s places' kept = record kept.1 { steps = if places'.saves == kept.0.saves then kept.1.steps else steps; transfers = s.transfers }
last_after (Err ending) steps s places' kept = kept.1

-- ## Between two rounds

-- it is asked whether a file of this name is there, if one is given
abbrev pub AsksForEnd : Option (String Global) → List Event → Bool → List Event → Type 0
AsksForEnd None old is_asked new = (is_asked ≡ false) × (new ≡ old)
AsksForEnd (Some name) old is_asked new = new ≡ there_call name.bytes.items is_asked ∷ old

-- the disks are saved, since that is due
pub record SavesThere (form : ConsoleForm) (steps : ℕ) (s : Console) (kept kept' : SavedPlaces) (old : List Event) (result : Result (Unit {0}) Ending) (new : List Event) : Type 0 where
  pub due : is_due form steps s kept.1 ≡ true
  pub saves : SavesDrives s.machine.disk kept.0 kept'.0 old result new
  pub last : kept'.1 ≡ last_after result steps s kept'.0 kept

-- or nothing is asked of the host
abbrev pub SavesIfDue : ConsoleForm → ℕ → Console → SavedPlaces → SavedPlaces → List Event → Result (Unit {0}) Ending → List Event → Type 0
SavesIfDue form steps s kept kept' old result new = ((is_due form steps s kept.1 ≡ false) × (kept' ≡ kept) × SavesNothing old result new) ⊎ SavesThere form steps s kept kept' old result new

-- more bytes are on the papers than were saved, and the program waits for a key
abbrev pub is_grown : Console → LastSave → Bool
is_grown s last = not (nat_eq (bytes_on_paper s) last.bytes) && is_waiting s

-- so much of the papers is saved then, unless that failed
abbrev pub last_on_paper : Result (Unit {0}) Ending → Console → LastSave → LastSave
last_on_paper (Ok it) s last = record last { bytes = bytes_on_paper s }
last_on_paper (Err ending) s last = last

-- the papers are saved, since one has grown
pub record FilesThere (s : Console) (places : Places) (last last' : LastSave) (old : List Event) (result : Result (Unit {0}) Ending) (new : List Event) : Type 0 where
  pub grown : is_grown s last ≡ true
  pub saves : SavesPapers s.papers places.papers old result new
  pub leaves : last' ≡ last_on_paper result s last

abbrev pub FilesIfGrown : Console → Places → LastSave → LastSave → List Event → Result (Unit {0}) Ending → List Event → Type 0
FilesIfGrown s places last last' old result new = ((is_grown s last ≡ false) × (last' ≡ last) × SavesNothing old result new) ⊎ FilesThere s places last last' old result new

-- it is asked for an end, unless a paper could not be saved
abbrev pub AsksAfter : Option (String Global) → Result (Unit {0}) Ending → List Event → Result Bool Unsaved → List Event → Type 0
AsksAfter name (Ok it) old (Ok is_asked) new = AsksForEnd name old is_asked new
AsksAfter name (Ok it) old (Err why) new = ⊥
AsksAfter name (Err ending) old (Ok is_asked) new = ⊥
AsksAfter name (Err ending) old (Err why) new = (why ≡ Paper ending) × (new ≡ old)

-- the papers are saved before that, unless a disk could not be saved
abbrev pub DoesAfter : Option (String Global) → Console → Result (Unit {0}) Ending → SavedPlaces → SavedPlaces → List Event → Result Bool Unsaved → List Event → Type 0
DoesAfter name s (Ok it) kept kept' old result new = (filed : Result (Unit {0}) Ending) × (last : LastSave) × (between : List Event)
    × FilesIfGrown s kept.0 kept.1 last old filed between × (kept' ≡ (kept.0, last)) × AsksAfter name filed between result new
DoesAfter name s (Err ending) kept kept' old (Ok is_asked) new = ⊥
DoesAfter name s (Err ending) kept kept' old (Err why) new = (why ≡ Disk ending) × (kept' ≡ kept) × (new ≡ old)

-- First the disks are saved where that is due, then the papers, and then it is asked for an end. A save that fails ends the run.
abbrev pub DoesBetween : ConsoleForm → ℕ → Console → SavedPlaces → SavedPlaces → List Event → Result Bool Unsaved → List Event → Type 0
DoesBetween form steps s kept kept' old result new = (saved : Result (Unit {0}) Ending) × (mid : SavedPlaces) × (between : List Event)
    × SavesIfDue form steps s kept mid old saved between × DoesAfter form.ends_with s saved mid kept' between result new

-- ## The rounds

-- The machine that was the first one, after so many steps in which these looks were made. What is saved of it is on its disks there.
abbrev pub console_at : Console → ℕ → List (Option ℕ) → Console
console_at first steps looks = (later console_acts steps (new_terminal first looks)).machine

-- so many rounds, after each of which the run goes on; so many steps were made in them
abbrev pub Rounds : ConsoleForm → Console → ℕ → ℕ → SavedPlaces → SavedPlaces → List Event → List Event → Type 0
Rounds form first zero steps kept kept' old new = (steps ≡ 0) × (kept' ≡ kept) × (new ≡ old)
Rounds form first (suc k) steps kept kept' old new = (earlier : ℕ) × (mid : SavedPlaces) × (before printed : List Event) × (looks : List (Option ℕ)) × (earlier < steps)
    × Rounds form first k earlier kept mid old before × HasPrinted before printed None × DoesBetween form steps (console_at first steps looks) mid kept' printed (Ok false) new

-- what was not saved where the run was broken off, since that is asked for or a save has failed
abbrev pub IsBroken : Result Bool Unsaved → Result (Unit {0}) Unsaved → Type 0
IsBroken (Ok is_asked) saved = (is_asked ≡ true) × (saved ≡ Ok tt)
IsBroken (Err why) saved = saved ≡ Err why

-- what is done after the last round breaks the run off, after so many steps
abbrev pub EndsRounds : ConsoleForm → ℕ → Console → SavedPlaces → SavedPlaces → List Event → Ran → List Event → Type 0
EndsRounds form steps s kept kept' old ran new = (printed : List Event) × (result : Result Bool Unsaved)
    × HasPrinted old printed None × DoesBetween form steps s kept kept' printed result new × IsBroken result ran.save × (ran.fault ≡ None)

-- The last round. The run ends in it, after all its steps or before, or is broken off since a print failed; or it is broken off after it.
abbrev pub EndsOrBreaks : ConsoleForm → Console → SavedPlaces → SavedPlaces → ℕ → List Event → Ran → List Event → Type 0
EndsOrBreaks form s kept kept' most old ran new =
    (((most ≡ unwrap_or form.steps (2 ^ 64 - 1)) ⊎ (is_some ran.fault ≡ true)) × HasPrinted old new ran.fault × (ran.save ≡ Ok tt) × (kept' ≡ kept)) ⊎ EndsRounds form most s kept kept' old ran new

-- A run in rounds makes the steps of one that is made at once: of at most so many, or of those after which it was broken off. The reader gives its
-- keys, and standard output is its paper.
pub record RunsRounds (form : ConsoleForm) (first after : Console) (places places' : Places) (keys : Reading) (old : List Event) (ran : Ran) (new : List Event) : Type 0 where
  pub most : ℕ
  pub runs : RunsProgram console_acts (form_of form.is_raw) (input_of form.is_live) most first after keys.before keys.after (Some (output_text old)) (Some (output_text new)) ran.absences ran.answer
  pub count : ℕ
  pub steps : ℕ
  pub mid : SavedPlaces
  pub before : List Event
  pub rounds : Rounds form first count steps (places, none_saved) mid old before
  pub within : steps ≤ most
  pub left : LastSave
  pub last : EndsOrBreaks form after mid (places', left) most before ran new
  pub cause : IfErr ran.answer (λ it. it ≡ terminal.Writer → is_some ran.fault ≡ true)
  pub failed : IfErr ran.answer (λ it. it ≡ terminal.Reader → keys.has_failed)
