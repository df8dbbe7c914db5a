-- The commands on machines change no file, but for those of drives that are to be saved, and of papers.
use Rattle.std.proofs.Common.{◌≡◌, ◌∙◌, ℕ, Bool, true, false, nat_eq, unwrap_or, Option, None, Some, Result, Ok, Err, List, ap, inl, inr}
use Rattle.std.specs.Global.{Vec}
use Rattle.bin_tape.specs.Items.{Item, words_of}
use Rattle.bin_tape.specs.Tape.{IsTape}
use Rattle.byte_reader.specs.Readings.{Reading}
use Rattle.hosts.specs.Event.{Event}
use Rattle.hosts.specs.Streams.{changes_at}
use Rattle.hosts.specs.declared.faults.PrintFault.{PrintFault}
use Rattle.host_output.specs.Printing.{HasPrinted}
use Rattle.terminal8.specs.declared.absences.Absence.{Absence}
use Rattle.terminal8.specs.declared.outcomes.Ended.{Ended}
use Rattle.terminal8.specs.declared.outcomes.TerminalFault.{TerminalFault}
use Rattle.trace8.specs.declared.faults.TraceFault.{TraceFault}
use Rattle.trace8.specs.declared.faults.TraceFault.TheVariants as trace
use Rattle.cpu8.specs.State.{next_cell}
use Rattle.pdp8e.specs.Papers.{PapersState}
use Rattle.program_reports.specs.Program.{program_line}
use Rattle.tape_reports.specs.Starts.{first_cell, gives_word, start_cell}
use Rattle.program_reports.specs.declared.programs.ProgramLine.TheVariants.{Start}
use Rattle.run_commands.specs.RunLines.{run_line}
use Rattle.run_commands.specs.declared.run_lines.RunLine.TheVariants.{Steps}
use Rattle.program_tasks.specs.declared.boots.ConsoleForm.{ConsoleForm}
use Rattle.program_tasks.specs.declared.boots.DiskForm.{DiskForm}
use Rattle.program_tasks.specs.declared.devices.DeviceForm.{DeviceForm}
use Rattle.program_tasks.specs.declared.forms.TapeForm.{TapeForm}
use Rattle.program_tasks.specs.declared.tasks.Cpu.{Cpu}
use Rattle.program_tasks.specs.declared.tasks.Cpu.TheVariants.{EightI, EightE}
use Rattle.program_tasks.specs.declared.tasks.TeletypeForm.{TeletypeForm}
use Rattle.program_tasks.specs.declared.tasks.TraceForm.{TraceForm}
use Rattle.outcome.specs.Endings.{ending_of_tape}
use Rattle.outcome.specs.Hints.{given_note, start_note}
use Rattle.outcome.specs.declared.endings.Ending.{Ending}
use Rattle.outcome.specs.declared.notes.PlainNote.{PlainNote}
use Rattle.image_files.specs.Answers.{AreLines}
use Rattle.image_files.specs.Laws.{KeepsFiles}
use Rattle.image_files.proofs.KeepLemmas.{purely-keeps, same, then-keeps}
use Rattle.image_files.specs.Notes.{Tells}
use Rattle.image_files.specs.Saving.{Prints}
use Rattle.image_files.specs.Work.{Then, Purely, IsJust}
use Rattle.drive_files.specs.Mounting.{places_of, with_papers}
use Rattle.drive_files.specs.Opening.{OpensDrives, are_saved}
use Rattle.drive_files.specs.declared.mounting.Places.{Places}
use Rattle.drive_files.specs.declared.opening.OpenDrives.{OpenDrives}
use Rattle.drive_files.proofs.KeepLemmas.{AreNone, AreUnplaced, drives-keep, drives-unplaced, saves-no-place}
use Rattle.drive_files.proofs.PaperKeepLemmas.{devices-keep, devices-none, saves-no-papers}
use Rattle.tape_commands.specs.Kinds.{RefusesFrames}
use Rattle.tape_commands.specs.Programs.{ReadsProgram}
use Rattle.run_commands.specs.CorePrograms.{FindsStart, LoadsCore, LoadsProgram, StartsAt, StartsIf, TellsCell, TellsStart, program_in}
use Rattle.run_commands.specs.Machines8i as pdp8i
use Rattle.run_commands.specs.Machines8e as pdp8e
use Rattle.drive_files.specs.Devices.{OpensDevices, TakesPapers, has_papers, no_papers}
use Rattle.drive_files.specs.declared.devices.OpenDevices.{OpenDevices}
use Rattle.run_commands.specs.Drives8e.{IsStation, OpensStation, PrintsIf, ProfilesDrives, ProfilesSaving, TracesDrives, TracesSaving}
use Rattle.run_commands.specs.Printing.{EndsTrace, GivesProfile, PrintsRun, PrintsTrace}
use Rattle.run_commands.specs.Profiles.{ProfilesOn, ProfilesPlain, ProfilesTape}
use Rattle.run_commands.specs.Runs.{IsReady, ReadsRun, start_or}
use Rattle.run_commands.specs.Runs8e.{RunsDisks, RunsOn8e, loaded_console, needs_console}
use Rattle.run_commands.specs.Teletypes.{ReadsProgramOf, RunsOn, RunsTeletype}
use Rattle.run_commands.specs.Traces.{TracesOn, TracesTape}
use Rattle.run_commands.proofs.ConsoleLemmas.{console-keeps, files-keep, files-none, run-ends, text-keeps, without-papers}
use Rattle.run_commands.specs.declared.core_programs.CoreProgram.{CoreProgram}
use Rattle.run_commands.specs.declared.drives8e.Station.{Station}
use Rattle.run_commands.specs.declared.printing.Stand.{Stand}
use Rattle.run_commands.specs.declared.runs.Run.{Run}

tells-keeps : (path : List ℕ) (note : Option PlainNote) (old new : List Event) → Tells note old new → changes_at path new ≡ changes_at path old
tells-keeps path None old new p = same path p
tells-keeps path (Some note) old new p = same path p.1

cell-keeps : (is : Bool) (start : ℕ) → KeepsFiles (TellsCell is start)
cell-keeps true start old result new p path = same path p.1
cell-keeps false start old result new p path = text-keeps (program_line (Start start)) old result new p path

start-keeps : (first start : ℕ) → KeepsFiles (TellsStart first start)
start-keeps first start old result new (between, tells, p) path = cell-keeps (nat_eq start 0o200) start between result new p path ∙ tells-keeps path (start_note first start) old between tells

starts-at-keeps : (words : List (ℕ × ℕ)) (given : Option ℕ) (first usual : ℕ) → KeepsFiles (StartsAt words given first usual)
starts-at-keeps words (Some cell) first usual old result new p path = tells-keeps path (given_note (gives_word words cell)) old new p.1
starts-at-keeps words None first usual old result new p path = then-keeps (TellsStart first usual) (λ it. Purely (IsJust usual)) (start-keeps first usual) (λ it. purely-keeps (IsJust usual)) old result new p path

starts-if-keeps : (words : List (ℕ × ℕ)) (given first usual : Option ℕ) → KeepsFiles (StartsIf words given first usual)
starts-if-keeps words given (Some first) (Some usual) old result new p path = starts-at-keeps words given first usual old result new p path
starts-if-keeps words given (Some first) None old result new p path = same path p.1
starts-if-keeps words given None usual old result new p path = same path p.1

finds-keeps : (frames : List ℕ) (given : Option ℕ) (items : List Item) → IsTape frames items → KeepsFiles (FindsStart frames given)
finds-keeps frames given items is old result new p path = starts-if-keeps (words_of items) given (first_cell (words_of items)) (start_cell (words_of items)) old result new (p items is) path

-- ## A station of which no file is saved

abbrev IsFileless : Station → Type 0
IsFileless station = AreNone station.places

places-none : (places : Places) (drives : OpenDrives) (devices : OpenDevices) → places ≡ with_papers devices (places_of drives) → AreUnplaced drives → devices.papers ≡ no_papers → AreNone places
places-none places drives devices is none empty = (
  ap (λ (p : Places). p.place0) is ∙ none.0,
  ap (λ (p : Places). p.place1) is ∙ none.1,
  ap (λ (p : Places). p.place2) is ∙ none.2,
  ap (λ (p : Places). p.place3) is ∙ none.3,
  ap (λ (p : Places). p.papers) is ∙ empty,
)

module _ (form : DiskForm) (asked : DeviceForm) (program : CoreProgram) (is : are_saved form ≡ false) (none : has_papers asked ≡ false) where
  station-keeps : KeepsFiles (OpensStation form asked program)
  station-keeps = then-keeps (Purely (TakesPapers asked))
      (λ papers. Then (OpensDrives form) (λ drives. Then (OpensDevices asked) (λ devices. Purely (IsStation form asked papers drives devices program)))) (purely-keeps (TakesPapers asked))
      (λ papers. then-keeps (OpensDrives form) (λ drives. Then (OpensDevices asked) (λ devices. Purely (IsStation form asked papers drives devices program))) (drives-keep form)
      (λ drives. then-keeps (OpensDevices asked) (λ devices. Purely (IsStation form asked papers drives devices program)) (devices-keep asked (without-papers asked none))
      (λ devices. purely-keeps (IsStation form asked papers drives devices program))))

  after-drives : (papers : PapersState) (drives : OpenDrives) (old : List Event) (station : Station) (new : List Event) → AreUnplaced drives
      → Then (OpensDevices asked) (λ devices. Purely (IsStation form asked papers drives devices program)) old (Ok station) new → IsFileless station
  after-drives papers drives old station new unplaced (inl ends) = absurd ends
  after-drives papers drives old station new unplaced (inr it) =
      places-none station.places drives it.given it.after.0.1 unplaced (devices-none asked (without-papers asked none) it.given old it.between it.done)

  after-papers : (papers : PapersState) (old : List Event) (station : Station) (new : List Event)
      → Then (OpensDrives form) (λ drives. Then (OpensDevices asked) (λ devices. Purely (IsStation form asked papers drives devices program))) old (Ok station) new → IsFileless station
  after-papers papers old station new (inl ends) = absurd ends
  after-papers papers old station new (inr it) =
      after-drives papers it.given it.between station new (drives-unplaced form is it.given old it.between it.done) it.after

  station-fileless : (old : List Event) (station : Station) (new : List Event) → OpensStation form asked program old (Ok station) new → IsFileless station
  station-fileless old station new (inl ends) = absurd ends
  station-fileless old station new (inr it) = after-papers it.given it.between station new it.after

-- what the crates below know of their steps is handed in
module _
    (prints-keeps : (bytes : List ℕ) → KeepsFiles (Prints bytes))
    (program-keeps : (form : TapeForm) → KeepsFiles (ReadsProgram form))
    (frames-keeps : (frames : List ℕ) (why : Ending) (old : List Event) (ending : Ending) (new : List Event) → RefusesFrames frames why old ending new → (path : List ℕ) → changes_at path new ≡ changes_at path old)
    (output-keeps : (old new : List Event) (why : Option PrintFault) (path : List ℕ) → HasPrinted old new why → changes_at path new ≡ changes_at path old)
  where
    loads-keeps : (frames : List ℕ) → KeepsFiles (LoadsCore frames)
    loads-keeps frames old (Ok core) new p path = same path p.1
    loads-keeps frames old (Err ending) new (inl p) path = same path p.1
    loads-keeps frames old (Err ending) new (inr (why, loads, p)) path = frames-keeps frames (ending_of_tape why) old ending new p path

    program-loads : (frames : List ℕ) (given switches : Option ℕ) → KeepsFiles (LoadsProgram frames given switches)
    program-loads frames given switches old (Ok program) new (inl ends) path = absurd ends
    program-loads frames given switches old (Err ending) new (inl ends) path = loads-keeps frames old (Err ending) new ends path
    program-loads frames given switches old result new (inr it) path =
        then-keeps (FindsStart frames given) (λ start. Purely (IsJust (program_in it.given switches start))) (finds-keeps frames given it.done.0.items it.done.0.is_tape)
        (λ start. purely-keeps (IsJust (program_in it.given switches start))) it.between result new it.after path ∙ same path it.done.1

    run-keeps : (form : TraceForm) → KeepsFiles (ReadsRun form)
    run-keeps form = then-keeps (ReadsProgram form.tape) (λ tape. Then (LoadsProgram tape.frames.items (start_or form.start tape.start) form.switches) (λ program. Purely (IsReady form tape.frames.items program)))
        (program-keeps form.tape) (λ tape. then-keeps (LoadsProgram tape.frames.items (start_or form.start tape.start) form.switches) (λ program. Purely (IsReady form tape.frames.items program))
        (program-loads tape.frames.items (start_or form.start tape.start) form.switches) (λ program. purely-keeps (IsReady form tape.frames.items program)))

    -- ## The commands

    plain-keeps : (most : ℕ) (run : Run) → KeepsFiles (ProfilesPlain most run)
    plain-keeps most run = then-keeps (Purely (GivesProfile (pdp8i.CountsTo most (pdp8i.terminal_of run)) run.flags.items)) (λ text. Prints text.items)
        (purely-keeps (GivesProfile (pdp8i.CountsTo most (pdp8i.terminal_of run)) run.flags.items)) (λ text. prints-keeps text.items)

    if-keeps : (text : Result (Vec ℕ) Ending) → KeepsFiles (PrintsIf text)
    if-keeps (Ok text) old result new p path = prints-keeps text.items old result new p path
    if-keeps (Err ending) old result new p path = same path p.1

    profile-saving : (most : ℕ) (station : Station) (keys : List ℕ) (flags : List Bool) → IsFileless station → KeepsFiles (ProfilesSaving most station keys flags)
    profile-saving most station keys flags none old result new p path =
        if-keeps p.text p.written p.printed new p.prints path
        ∙ (same path (saves-no-papers p.papers station.places.papers none.4 p.kept p.filed p.written p.files) ∙ same path (saves-no-place p.after.machine.disk station.places p.left old p.saved p.kept none p.saves).0)

    profile-drives : (form : DiskForm) (asked : DeviceForm) → are_saved form ≡ false → has_papers asked ≡ false → (most : ℕ) (run : Run) → KeepsFiles (ProfilesDrives form asked most run)
    profile-drives form asked is none most run old (Ok it) new (inl ends) path = absurd ends
    profile-drives form asked is none most run old (Err ending) new (inl ends) path = station-keeps form asked run.program is none old (Err ending) new ends path
    profile-drives form asked is none most run old result new (inr it) path =
        profile-saving most it.given run.keys.items run.flags.items (station-fileless form asked run.program is none old it.given it.between it.done) it.between result new it.after path
        ∙ station-keeps form asked run.program is none old (Ok it.given) it.between it.done path

    profiles-on : (cpu : Cpu) (form : DiskForm) (asked : DeviceForm) → are_saved form ≡ false → has_papers asked ≡ false → (most : ℕ) (run : Run) → KeepsFiles (ProfilesOn cpu form asked most run)
    profiles-on EightI form asked is none most run = plain-keeps most run
    profiles-on EightE form asked is none most run = profile-drives form asked is none most run

    pub profile-keeps : (form : TraceForm) → are_saved form.disk ≡ false → has_papers form.devices ≡ false → KeepsFiles (ProfilesTape form)
    profile-keeps form is none = then-keeps (ReadsRun form) (λ run. ProfilesOn form.cpu form.disk form.devices (unwrap_or form.steps 1000000) run) (run-keeps form)
        (λ run. profiles-on form.cpu form.disk form.devices is none (unwrap_or form.steps 1000000) run)

    trace-ends : (cell : ℕ) (why : Option PrintFault) (done : Result Ended TraceFault) → KeepsFiles (EndsTrace cell why done)
    trace-ends cell why (Ok ended) old result new p path = then-keeps (Purely (AreLines (run_line (Steps ended cell)))) (λ line. Prints line.items)
        (purely-keeps (AreLines (run_line (Steps ended cell)))) (λ line. prints-keeps line.items) old result new p path
    trace-ends cell why (Err trace.Memory) old result new p path = same path p.1
    trace-ends cell why (Err trace.Writer) old result new p path = same path p.1

    prints-trace : (traces_to : ℕ → Option (List ℕ) → Option (List ℕ) → Result Ended TraceFault → Type 0) → KeepsFiles (PrintsTrace traces_to)
    prints-trace traces_to old result new p path = trace-ends p.cell p.fault p.done p.between result new p.ends path ∙ output-keeps old p.between p.fault path p.prints

    trace-saving : (most : ℕ) (station : Station) (keys : List ℕ) (flags : List Bool) → IsFileless station → KeepsFiles (TracesSaving most station keys flags)
    trace-saving most station keys flags none old result new p path =
        trace-ends (next_cell p.after.machine.processor.base) p.fault p.done p.written p.ended new p.ends path
        ∙ (same path (saves-no-papers p.papers station.places.papers none.4 p.kept p.filed p.written p.files)
        ∙ (same path (saves-no-place p.after.machine.disk station.places p.left p.between p.saved p.kept none p.saves).0 ∙ output-keeps old p.between p.fault path p.prints))

    trace-drives : (form : DiskForm) (asked : DeviceForm) → are_saved form ≡ false → has_papers asked ≡ false → (most : ℕ) (run : Run) → KeepsFiles (TracesDrives form asked most run)
    trace-drives form asked is none most run old (Ok it) new (inl ends) path = absurd ends
    trace-drives form asked is none most run old (Err ending) new (inl ends) path = station-keeps form asked run.program is none old (Err ending) new ends path
    trace-drives form asked is none most run old result new (inr it) path =
        trace-saving most it.given run.keys.items run.flags.items (station-fileless form asked run.program is none old it.given it.between it.done) it.between result new it.after path
        ∙ station-keeps form asked run.program is none old (Ok it.given) it.between it.done path

    traces-on : (cpu : Cpu) (form : DiskForm) (asked : DeviceForm) → are_saved form ≡ false → has_papers asked ≡ false → (most : ℕ) (run : Run) → KeepsFiles (TracesOn cpu form asked most run)
    traces-on EightI form asked is none most run = prints-trace (pdp8i.TracesTo most (pdp8i.terminal_of run) run.flags.items)
    traces-on EightE form asked is none most run = trace-drives form asked is none most run

    pub trace-keeps : (form : TraceForm) → are_saved form.disk ≡ false → has_papers form.devices ≡ false → KeepsFiles (TracesTape form)
    trace-keeps form is none = then-keeps (ReadsRun form) (λ run. TracesOn form.cpu form.disk form.devices (unwrap_or form.steps 1000) run) (run-keeps form)
        (λ run. traces-on form.cpu form.disk form.devices is none (unwrap_or form.steps 1000) run)

    program-reads : (form : TeletypeForm) → KeepsFiles (ReadsProgramOf form)
    program-reads form = then-keeps (ReadsProgram form.tape) (λ tape. LoadsProgram tape.frames.items (start_or form.start tape.start) form.console.switches)
        (program-keeps form.tape) (λ tape. program-loads tape.frames.items (start_or form.start tape.start) form.console.switches)

    prints-run : (runs_to : Stand → Option (List ℕ) → Option (List ℕ) → List Absence → Result Ended TerminalFault → Type 0) (keys : Reading) → KeepsFiles (PrintsRun runs_to keys)
    prints-run runs_to keys old result new p path = run-ends p.stand p.absences p.fault p.done p.between result new p.ends path ∙ output-keeps old p.between p.fault path p.prints

    runs-disks : (form : ConsoleForm) (program : CoreProgram) (keys : Reading) → are_saved form.disk ≡ false → has_papers form.devices ≡ false → KeepsFiles (RunsDisks form program keys)
    runs-disks form program keys is none old (Ok it) new (inl p) path = absurd p.0
    runs-disks form program keys is none old (Err ending) new (inl p) path = files-keep form none old (Err ending) new p.0 path
    runs-disks form program keys is none old result new (inr it) path =
        console-keeps output-keeps form (loaded_console form it.given program) (with_papers it.given.equipment.devices (places_of it.given.drives)) keys
        (files-none form is none it.given old it.between it.done) it.between result new it.after path ∙ files-keep form none old (Ok it.given) it.between it.done path

    runs-8e : (is : Bool) (form : TeletypeForm) (program : CoreProgram) (keys : Reading) → are_saved form.console.disk ≡ false → has_papers form.console.devices ≡ false
        → KeepsFiles (RunsOn8e is form program keys)
    runs-8e true form program keys is none = runs-disks form.console program keys is none
    runs-8e false form program keys is none = prints-run (pdp8e.RunsTo form program keys) keys

    runs-on : (cpu : Cpu) (form : TeletypeForm) (program : CoreProgram) (keys : Reading) → are_saved form.console.disk ≡ false → has_papers form.console.devices ≡ false
        → KeepsFiles (RunsOn cpu form program keys)
    runs-on EightI form program keys is none = prints-run (pdp8i.RunsTo form program keys) keys
    runs-on EightE form program keys is none = runs-8e (needs_console form.console) form program keys is none

    pub teletype-keeps : (form : TeletypeForm) (keys : Reading) → are_saved form.console.disk ≡ false → has_papers form.console.devices ≡ false → KeepsFiles (RunsTeletype form keys)
    teletype-keeps form keys is none old (Ok it) new (inl p) path = absurd p.0
    teletype-keeps form keys is none old (Err ending) new (inl p) path = program-reads form old (Err ending) new p.0 path
    teletype-keeps form keys is none old result new (inr it) path =
        runs-on form.cpu form it.given keys is none it.between result new it.after path ∙ program-reads form old (Ok it.given) it.between it.done path
