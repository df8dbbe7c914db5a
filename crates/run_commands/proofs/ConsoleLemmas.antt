-- What a run of an 8/E with disks at the console leaves as it was.
use Rattle.std.proofs.Common.{◌≡◌, ◌∙◌, ℕ, zero, suc, Bool, true, false, true≢false, ◌||◌, is_some, Option, None, Some, String, Result, Ok, Err, List, [], ◌∷◌, ap, inl, inr, refl, subst, sym}
use Rattle.std.specs.Global.{Global}
use Rattle.byte_reader.specs.Readings.{Reading}
use Rattle.hosts.specs.Event.{Event}
use Rattle.hosts.specs.Streams.{changes_at}
use Rattle.hosts.specs.declared.faults.PrintFault.{PrintFault}
use Rattle.host_output.specs.Printing.{HasPrinted}
use Rattle.terminal8.specs.declared.absences.Absence.{Absence}
use Rattle.terminal8.specs.declared.outcomes.Ended.{Ended}
use Rattle.terminal8.specs.declared.outcomes.TerminalEnd.{TerminalEnd}
use Rattle.terminal8.specs.declared.outcomes.TerminalFault.{TerminalFault}
use Rattle.terminal8.specs.declared.outcomes.TerminalFault.TheVariants.{Reader, Writer}
use Rattle.pdp8e.specs.Papers.{PapersState}
use Rattle.program_tasks.specs.declared.boots.ConsoleForm.{ConsoleForm}
use Rattle.program_tasks.specs.declared.devices.DeviceForm.{DeviceForm}
use Rattle.outcome.specs.declared.endings.Ending.{Ending}
use Rattle.image_files.specs.Ending.{TellsLine}
use Rattle.image_files.specs.Laws.{KeepsFiles}
use Rattle.image_files.specs.Saving.{IsDone}
use Rattle.image_files.specs.Work.{Purely, Then}
use Rattle.image_files.proofs.KeepLemmas.{purely-keeps, same, then-keeps}
use Rattle.drive_files.specs.Opening.{OpensDrives, are_saved}
use Rattle.drive_files.specs.Mounting.{place_of, places_of, with_papers}
use Rattle.drive_files.specs.Devices.{OpensDevices, TakesPapers, has_papers, no_papers}
use Rattle.drive_files.specs.declared.devices.OpenDevices.{OpenDevices}
use Rattle.drive_files.specs.declared.opening.OpenDrives.{OpenDrives}
use Rattle.drive_files.specs.declared.mounting.Places.{Places}
use Rattle.drive_files.proofs.KeepLemmas.{AreNone, AreUnplaced, drives-keep, drives-unplaced, saves-no-place}
use Rattle.drive_files.proofs.PaperKeepLemmas.{AreUnasked, devices-keep, devices-none, saves-no-papers}
use Rattle.run_commands.specs.Lines.{TellsRun, TellsText}
use Rattle.run_commands.specs.Machines8e.{stand_of}
use Rattle.run_commands.specs.Printing.{EndsRun, IsEndOf, NotesAbsences, line_of_end}
use Rattle.run_commands.specs.RunLines.{run_line}
use Rattle.run_commands.specs.declared.run_lines.RunLine.{RunLine}
use Rattle.run_commands.specs.declared.run_lines.RunLine.TheVariants as line
use Rattle.run_commands.specs.declared.printing.Stand.{Stand}
use Rattle.run_commands.specs.Boots.{BootsDisk}
use Rattle.run_commands.specs.Bootstraps.{GetsReady, IsReady, booted_console}
use Rattle.run_commands.specs.ConsoleFiles.{AreFiles, OpensFiles}
use Rattle.run_commands.specs.declared.console_files.ConsoleFiles.{ConsoleFiles}
use Rattle.run_commands.specs.Runs8e.{RunsConsole, SavesRest}
use Rattle.drive_files.specs.Rounds.{AsksAfter, AsksForEnd, DoesAfter, DoesBetween, EndsOrBreaks, FilesIfGrown, SavedPlaces, SavesIfDue, Rounds, RunsRounds, none_saved, console_at}
use Rattle.drive_files.specs.declared.rounds.Unsaved.{Unsaved}
use Rattle.drive_files.specs.declared.rounds.Unsaved.TheVariants.{Disk, Paper}
use Rattle.run_commands.specs.declared.bootstraps.Ready.{Ready}
use Rattle.drive_files.specs.declared.rounds.Ran.{Ran}
use Rattle.drive_files.specs.declared.consoles.Console.{Console}

-- ## Before the run

or-parts : (a b : Bool) → (a || b) ≡ false → (a ≡ false) × (b ≡ false)
or-parts true b is = absurd (true≢false is)
or-parts false b is = (refl, is)

pub without-papers : (asked : DeviceForm) → has_papers asked ≡ false → AreUnasked asked
without-papers asked none =
    let first = or-parts (is_some asked.punch) (is_some asked.printer || is_some asked.transfers) none in
    let second = or-parts (is_some asked.printer) (is_some asked.transfers) first.1 in
    (first.0, second.0, second.1)

module _ (form : ConsoleForm) (none : has_papers form.devices ≡ false) where
  pub files-keep : KeepsFiles (OpensFiles form)
  files-keep = then-keeps (Purely (TakesPapers form.devices))
      (λ papers. Then (OpensDrives form.disk) (λ drives. Then (OpensDevices form.devices) (λ devices. Purely (AreFiles papers drives devices)))) (purely-keeps (TakesPapers form.devices))
      (λ papers. then-keeps (OpensDrives form.disk) (λ drives. Then (OpensDevices form.devices) (λ devices. Purely (AreFiles papers drives devices))) (drives-keep form.disk)
      (λ drives. then-keeps (OpensDevices form.devices) (λ devices. Purely (AreFiles papers drives devices)) (devices-keep form.devices (without-papers form.devices none))
      (λ devices. purely-keeps (AreFiles papers drives devices))))

  pub ready-keeps : KeepsFiles (GetsReady form)
  ready-keeps = then-keeps (OpensFiles form) (λ files. Purely (IsReady files)) files-keep (λ files. purely-keeps (IsReady files))

-- no file is held to be written
abbrev HoldNone : ConsoleFiles → Type 0
HoldNone files = AreNone (with_papers files.equipment.devices (places_of files.drives))

module _ (form : ConsoleForm) (is : are_saved form.disk ≡ false) (none : has_papers form.devices ≡ false) (files : ConsoleFiles) where
  files-are : (papers : PapersState) (drives : OpenDrives) (devices : OpenDevices) → AreUnplaced drives → devices.papers ≡ no_papers → AreFiles papers drives devices (Ok files) → HoldNone files
  files-are papers drives devices unplaced empty are = (
    ap (λ (d : OpenDrives). place_of d.disk0) are.0 ∙ unplaced.0,
    ap (λ (d : OpenDrives). place_of d.disk1) are.0 ∙ unplaced.1,
    ap (λ (d : OpenDrives). place_of d.disk2) are.0 ∙ unplaced.2,
    ap (λ (d : OpenDrives). place_of d.disk3) are.0 ∙ unplaced.3,
    ap (λ (d : OpenDevices). d.papers) are.1 ∙ empty,
  )

  after-drives : (papers : PapersState) (drives : OpenDrives) (old new : List Event) → AreUnplaced drives
      → Then (OpensDevices form.devices) (λ devices. Purely (AreFiles papers drives devices)) old (Ok files) new → HoldNone files
  after-drives papers drives old new unplaced (inl ends) = absurd ends
  after-drives papers drives old new unplaced (inr it) =
      files-are papers drives it.given unplaced (devices-none form.devices (without-papers form.devices none) it.given old it.between it.done) it.after.0

  after-papers : (papers : PapersState) (old new : List Event)
      → Then (OpensDrives form.disk) (λ drives. Then (OpensDevices form.devices) (λ devices. Purely (AreFiles papers drives devices))) old (Ok files) new → HoldNone files
  after-papers papers old new (inl ends) = absurd ends
  after-papers papers old new (inr it) = after-drives papers it.given it.between new (drives-unplaced form.disk is it.given old it.between it.done) it.after

  pub files-none : (old new : List Event) → OpensFiles form old (Ok files) new → HoldNone files
  files-none old new (inl ends) = absurd ends
  files-none old new (inr it) = after-papers it.given it.between new it.after

ready-none : (form : ConsoleForm) → are_saved form.disk ≡ false → has_papers form.devices ≡ false → (ready : Ready) (old new : List Event) → GetsReady form old (Ok ready) new → HoldNone ready.files
ready-none form is none ready old new (inl ends) = absurd ends
ready-none form is none ready old new (inr it) = subst HoldNone (sym it.after.0.1) (files-none form is none it.given old it.between it.done)

-- ## The end

pub line-keeps : (path line : List ℕ) (old new : List Event) → TellsLine line old new → changes_at path new ≡ changes_at path old
line-keeps path line old new (inl (utf8, ok, is)) = same path is
line-keeps path line old new (inr (not_utf8, is)) = same path is

pub text-keeps : (line : List ℕ) → KeepsFiles (TellsText line)
text-keeps line old (Ok it) new p path = line-keeps path line old new p
text-keeps line old (Err ending) new p path = same path p.1

notes-keep : (absences : List Absence) → KeepsFiles (NotesAbsences absences)
notes-keep [] old result new p path = purely-keeps IsDone old result new p path
notes-keep (absence ∷ others) old result new p path =
    then-keeps (TellsRun (line.NoDevice absence)) (λ it. NotesAbsences others) (text-keeps (run_line (line.NoDevice absence))) (λ it. notes-keep others) old result new p path

line-keeps-files : (line : RunLine) (end : TerminalEnd) → KeepsFiles (Then (TellsRun line) (λ it. Purely (IsEndOf end)))
line-keeps-files line end = then-keeps (TellsRun line) (λ it. Purely (IsEndOf end)) (text-keeps (run_line line)) (λ it. purely-keeps (IsEndOf end))

pub run-ends : (stand : Stand) (absences : List Absence) (why : Option PrintFault) (done : Result Ended TerminalFault) → KeepsFiles (EndsRun stand absences why done)
run-ends stand absences why (Ok ended) old result new p path =
    then-keeps (NotesAbsences absences) (λ it. Then (TellsRun (line_of_end stand ended.why)) (λ it. Purely (IsEndOf ended.why))) (notes-keep absences)
    (λ it. line-keeps-files (line_of_end stand ended.why) ended.why) old result new p path
run-ends stand absences why (Err Reader) old result new p path = same path p.1
run-ends stand absences why (Err Writer) old result new p path = same path p.1

-- ## Between two rounds

asks-keep : (name : Option (String Global)) (old : List Event) (is_asked : Bool) (new : List Event) → AsksForEnd name old is_asked new → (path : List ℕ) → changes_at path new ≡ changes_at path old
asks-keep None old is_asked new p path = same path p.1
asks-keep (Some name) old is_asked new p path = same path p

asks-after-keep : (name : Option (String Global)) (filed : Result (Unit {0}) Ending) (old : List Event) (result : Result Bool Unsaved) (new : List Event) → AsksAfter name filed old result new
    → (path : List ℕ) → changes_at path new ≡ changes_at path old
asks-after-keep name (Ok it) old (Ok is_asked) new p path = asks-keep name old is_asked new p path
asks-after-keep name (Ok it) old (Err why) new p path = absurd p
asks-after-keep name (Err ending) old (Ok is_asked) new p path = absurd p
asks-after-keep name (Err ending) old (Err why) new p path = same path p.1

saves-if-keep : (form : ConsoleForm) (steps : ℕ) (s : Console) (kept kept' : SavedPlaces) (old : List Event) (result : Result (Unit {0}) Ending) (new : List Event) → AreNone kept.0
    → SavesIfDue form steps s kept kept' old result new → (new ≡ old) × AreNone kept'.0
saves-if-keep form steps s kept kept' old result new none (inl (due, is, p)) = (p.1, subst (λ (k : SavedPlaces). AreNone k.0) (sym is) none)
saves-if-keep form steps s kept kept' old result new none (inr there) = saves-no-place s.machine.disk kept.0 kept'.0 old result new none there.saves

files-if-keep : (s : Console) (places : Places) (last last' : _) (old : List Event) (result : Result (Unit {0}) Ending) (new : List Event) → AreNone places
    → FilesIfGrown s places last last' old result new → new ≡ old
files-if-keep s places last last' old result new none (inl (grown, is, p)) = p.1
files-if-keep s places last last' old result new none (inr there) = saves-no-papers s.papers places.papers none.4 old result new there.saves

after-keeps : (name : Option (String Global)) (s : Console) (saved : Result (Unit {0}) Ending) (kept kept' : SavedPlaces) (old : List Event) (result : Result Bool Unsaved) (new : List Event) → AreNone kept.0
    → DoesAfter name s saved kept kept' old result new → ((path : List ℕ) → changes_at path new ≡ changes_at path old) × AreNone kept'.0
after-keeps name s (Ok it) kept kept' old result new none (filed, last, between, files, is, asks) = (
  λ path. asks-after-keep name filed between result new asks path ∙ same path (files-if-keep s kept.0 kept.1 last old filed between none files),
  subst (λ (k : SavedPlaces). AreNone k.0) (sym is) none,
)
after-keeps name s (Err ending) kept kept' old (Ok is_asked) new none p = absurd p
after-keeps name s (Err ending) kept kept' old (Err why) new none (is, as-it-was, p) = (λ path. same path p, subst (λ (k : SavedPlaces). AreNone k.0) (sym as-it-was) none)

between-keeps : (form : ConsoleForm) (steps : ℕ) (s : Console) (kept kept' : SavedPlaces) (old : List Event) (result : Result Bool Unsaved) (new : List Event) → AreNone kept.0 → DoesBetween form steps s kept kept' old result new
    → ((path : List ℕ) → changes_at path new ≡ changes_at path old) × AreNone kept'.0
between-keeps form steps s kept kept' old result new none (saved, mid, between, saves, after) =
    let q = saves-if-keep form steps s kept mid old saved between none saves in
    let r = after-keeps form.ends_with s saved mid kept' between result new q.1 after in
    (λ path. r.0 path ∙ same path q.0, r.1)

-- what the crate below knows of prints is handed in
module _ (output-keeps : (old new : List Event) (why : Option PrintFault) (path : List ℕ) → HasPrinted old new why → changes_at path new ≡ changes_at path old) where
  rounds-keep : (form : ConsoleForm) (first : Console) (count steps : ℕ) (kept kept' : SavedPlaces) (old new : List Event) → AreNone kept.0 → Rounds form first count steps kept kept' old new
      → ((path : List ℕ) → changes_at path new ≡ changes_at path old) × AreNone kept'.0
  rounds-keep form first zero steps kept kept' old new none (made, is, p) = (λ path. same path p, subst (λ (k : SavedPlaces). AreNone k.0) (sym is) none)
  rounds-keep form first (suc k) steps kept kept' old new none (earlier, mid, before, printed, looks, less, rounds, prints, does) =
      let r = rounds-keep form first k earlier kept mid old before none rounds in
      let q = between-keeps form steps (console_at first steps looks) mid kept' printed (Ok false) new r.1 does in
      (λ path. q.0 path ∙ (output-keeps before printed None path prints ∙ r.0 path), q.1)

  run-keeps : (form : ConsoleForm) (first after : Console) (places places' : Places) (keys : Reading) (old : List Event) (ran : Ran) (new : List Event) → AreNone places
      → RunsRounds form first after places places' keys old ran new → ((path : List ℕ) → changes_at path new ≡ changes_at path old) × AreNone places'
  run-keeps form first after places places' keys old ran new none r =
      let before = rounds-keep form first r.count r.steps (places, none_saved) r.mid old r.before none r.rounds in
      last-keeps form after r.mid (places', r.left) r.most r.before ran new before.1 r.last (λ path is. is ∙ before.0 path)
    where
      last-keeps : (form : ConsoleForm) (s : Console) (mid kept' : SavedPlaces) (most : ℕ) (before : List Event) (ran : Ran) (new : List Event) → AreNone mid.0 → EndsOrBreaks form s mid kept' most before ran new
          → ((path : List ℕ) → changes_at path new ≡ changes_at path before → changes_at path new ≡ changes_at path old) → ((path : List ℕ) → changes_at path new ≡ changes_at path old) × AreNone kept'.0
      last-keeps form s mid kept' most before ran new none (inl (all, prints, done, is)) go = (λ path. go path (output-keeps before new ran.fault path prints), subst (λ (k : SavedPlaces). AreNone k.0) (sym is) none)
      last-keeps form s mid kept' most before ran new none (inr (printed, result, prints, does, broken, fault)) go =
          let q = between-keeps form most s mid kept' printed result new none does in
          (λ path. go path (q.0 path ∙ output-keeps before printed None path prints), q.1)

  rest-keeps : (s : Console) (places places' : Places) (saved : Result (Unit {0}) Unsaved) (old : List Event) (result : Result (Unit {0}) Ending) (new : List Event) → AreNone places
      → SavesRest s places places' saved old result new → new ≡ old
  rest-keeps s places places' (Ok it) old result new none p =
      saves-no-papers s.papers places.papers none.4 p.between p.filed new p.papers ∙ (saves-no-place s.machine.disk places places' old p.saved p.between none p.disks).0
  rest-keeps s places places' (Err (Disk ending)) old result new none (filed, papers, is, as-it-was) = saves-no-papers s.papers places.papers none.4 old filed new papers
  rest-keeps s places places' (Err (Paper ending)) old result new none (saved, disks, is) = (saves-no-place s.machine.disk places places' old saved new none disks).0

  pub console-keeps : (form : ConsoleForm) (first : Console) (places : Places) (keys : Reading) → AreNone places → KeepsFiles (RunsConsole form first places keys)
  console-keeps form first places keys none old result new p path =
      let r = run-keeps form first p.after places p.mid keys old p.ran p.between none p.runs in
      run-ends (stand_of p.after.machine.processor) p.ran.absences p.ran.fault p.ran.answer p.kept p.ended new p.ends path
      ∙ (same path (rest-keeps p.after p.mid p.left p.ran.save p.between p.saved p.kept r.1 p.saves) ∙ r.0 path)

  pub unsaved-keeps : (form : ConsoleForm) (keys : Reading) → are_saved form.disk ≡ false → has_papers form.devices ≡ false → KeepsFiles (BootsDisk form keys)
  unsaved-keeps form keys is none old (Ok it) new (inl p) path = absurd p.0
  unsaved-keeps form keys is none old (Err ending) new (inl p) path = ready-keeps form none old (Err ending) new p.0 path
  unsaved-keeps form keys is none old result new (inr it) path =
      console-keeps form (booted_console form it.given) (with_papers it.given.files.equipment.devices (places_of it.given.files.drives)) keys (ready-none form is none it.given old it.between it.done)
      it.between result new it.after path ∙ ready-keeps form none old (Ok it.given) it.between it.done path
