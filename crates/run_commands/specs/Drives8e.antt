-- What an 8/E with disks and devices does with a program whose steps are printed or counted. That is its trace or its profile, and what the
-- files of its disks and papers get.
use Rattle.std.specs.Prelude.{◌≡◌, ℕ, Bool, true, is_some, IfErr, Option, Some, Result, Ok, Err, List}
use Rattle.std.specs.Global.{Vec}
use Rattle.tape_source.specs.Tags.{is_flagged}
use Rattle.cpu8.specs.State.{next_cell}
use Rattle.pdp8e.specs.Papers.{PapersState}
use Rattle.pdp8e.specs.State.{Pdp8e, after_start, new_machine, switches_set}
use Rattle.pdp8e.specs.Terminal.{Terminal, IsRun, later, terminal_with_keys}
use Rattle.terminal8.specs.declared.outcomes.Ended.{Ended}
use Rattle.trace8e.specs.Tracing.{Traces}
use Rattle.trace8e.specs.Papers.{GetSome, GetTraced}
use Rattle.trace8e.specs.Counts.{AreCounts}
use Rattle.trace8.specs.declared.faults.TraceFault.{TraceFault}
use Rattle.trace8.specs.declared.faults.TraceFault.TheVariants as trace
use Rattle.hosts.specs.Event.{Event}
use Rattle.hosts.specs.Streams.{output_text}
use Rattle.hosts.specs.declared.faults.PrintFault.{PrintFault}
use Rattle.host_output.specs.Printing.{HasPrinted}
use Rattle.program_tasks.specs.declared.boots.DiskForm.{DiskForm}
use Rattle.program_tasks.specs.declared.devices.DeviceForm.{DeviceForm}
use Rattle.refusals.specs.declared.faults.SessionFault.TheVariants.{Memory}
use Rattle.outcome.specs.declared.endings.Ending.{Ending}
use Rattle.outcome.specs.declared.endings.Ending.TheVariants.{Fault}
use Rattle.image_files.specs.Saving.{Prints}
use Rattle.image_files.specs.Work.{Then, Purely}
use Rattle.drive_files.specs.Mounting.{disk_of, places_of, with_papers}
use Rattle.drive_files.specs.Opening.{OpensDrives}
use Rattle.drive_files.specs.Saving.{SavesDrives, earlier}
use Rattle.drive_files.specs.declared.mounting.Places.{Places}
use Rattle.drive_files.specs.declared.opening.OpenDrives.{OpenDrives}
use Rattle.drive_files.specs.Devices.{OpensDevices, SavesPapers, TakesPapers, with_devices}
use Rattle.drive_files.specs.Inputs.{with_switches}
use Rattle.run_commands.specs.Printing.{EndsTrace, IsProfiled}
use Rattle.run_commands.specs.declared.core_programs.CoreProgram.{CoreProgram}
use Rattle.drive_files.specs.declared.devices.OpenDevices.{OpenDevices}
use Rattle.run_commands.specs.declared.drives8e.Station.{Station}
use Rattle.run_commands.specs.declared.runs.Run.{Run}

-- ## The machine

-- a new machine with the program's core and these disks, which stands at the program's start
abbrev pub machine_of : DiskForm → OpenDrives → CoreProgram → Pdp8e
machine_of form drives program = after_start (with_switches switches_set program.switches (new_machine program.core (disk_of form drives))) program.start

-- it, with these devices and papers, and where the files are held
abbrev pub IsStation : DiskForm → DeviceForm → PapersState → OpenDrives → OpenDevices → CoreProgram → Result Station Ending → Type 0
IsStation form asked papers drives devices program (Ok station) =
    (station.machine ≡ with_devices (machine_of form drives program) asked devices) × (station.places ≡ with_papers devices (places_of drives))
    × (station.papers ≡ papers)
IsStation form asked papers drives devices program (Err ending) = ⊥

-- papers are taken, then the disks of the drives are opened, and then the files of the devices
abbrev pub OpensStation : DiskForm → DeviceForm → CoreProgram → List Event → Result Station Ending → List Event → Type 0
OpensStation form asked program =
    Then (Purely (TakesPapers asked)) (λ papers. Then (OpensDrives form) (λ drives. Then (OpensDevices asked) (λ devices.
    Purely (IsStation form asked papers drives devices program))))

-- the machine at a terminal where these keys are struck
abbrev pub terminal_of : Station → List ℕ → Terminal
terminal_of station keys = terminal_with_keys station.machine keys

-- ## A trace

-- At most so many steps of a terminal are made, and standard output gets a line of each, with the flagged cells tagged. What is on the disks then
-- is saved, however the trace ended, and what was put on paper. Then the line of its end is printed. A disk or a paper that could not be saved is
-- how the command ends.
pub record TracesSaving (most : ℕ) (station : Station) (keys : List ℕ) (flags : List Bool) (old : List Event) (result : Result (Unit {0}) Ending) (new : List Event) : Type 0 where
  pub after : Terminal
  pub done : Result Ended TraceFault
  pub between : List Event
  pub traces : Traces (is_flagged flags) most (terminal_of station keys) after (Some (output_text old)) (Some (output_text between)) done
  pub papers : PapersState
  pub gets : GetTraced (terminal_of station keys) after station.papers papers done
  pub fault : Option PrintFault
  pub prints : HasPrinted old between fault
  pub cause : IfErr done (λ it. it ≡ trace.Writer → is_some fault ≡ true)
  pub saved : Result (Unit {0}) Ending
  pub kept : List Event
  pub left : Places
  pub saves : SavesDrives after.machine.disk station.places left between saved kept
  pub filed : Result (Unit {0}) Ending
  pub written : List Event
  pub files : SavesPapers papers station.places.papers kept filed written
  pub ended : Result (Unit {0}) Ending
  pub ends : EndsTrace (next_cell after.machine.processor.base) fault done written ended new
  pub is : result ≡ earlier saved (earlier filed ended)

-- the files are opened first
abbrev pub TracesDrives : DiskForm → DeviceForm → ℕ → Run → List Event → Result (Unit {0}) Ending → List Event → Type 0
TracesDrives form asked most run = Then (OpensStation form asked run.program) (λ station. TracesSaving most station run.keys.items run.flags.items)

-- ## A profile

-- at most so many steps of a terminal are made, which end so, before this cell; these are the counts of their fetches
abbrev pub CountsTo : ℕ → Terminal → Terminal → Ended → List ℕ → ℕ → Type 0
CountsTo most t after ended counts cell =
    IsRun t most ended.steps ended.why × AreCounts ended.steps t counts × (after ≡ later ended.steps t) × (cell ≡ next_cell after.machine.processor.base)

-- their profile, unless memory is wanted for that; the steps are made or not then; papers get what they wrote
abbrev pub CountsSteps : ℕ → Terminal → Terminal → PapersState → PapersState → List Bool → Result (Vec ℕ) Ending → Type 0
CountsSteps most t after old new flags (Ok text) = IsProfiled (CountsTo most t after) flags text.items × GetSome t after old new
CountsSteps most t after old new flags (Err ending) = (ending ≡ Fault Memory) × GetSome t after old new

-- a text is printed, if there is one
abbrev pub PrintsIf : Result (Vec ℕ) Ending → List Event → Result (Unit {0}) Ending → List Event → Type 0
PrintsIf (Ok text) = Prints text.items
PrintsIf (Err ending) = Purely (λ result. result ≡ Err ending)

-- The steps are counted, what is on the disks then is saved, and what was put on paper, and the profile is printed. A disk or a paper that could
-- not be saved is how the command ends.
pub record ProfilesSaving (most : ℕ) (station : Station) (keys : List ℕ) (flags : List Bool) (old : List Event) (result : Result (Unit {0}) Ending) (new : List Event) : Type 0 where
  pub after : Terminal
  pub text : Result (Vec ℕ) Ending
  pub papers : PapersState
  pub counts : CountsSteps most (terminal_of station keys) after station.papers papers flags text
  pub saved : Result (Unit {0}) Ending
  pub kept : List Event
  pub left : Places
  pub saves : SavesDrives after.machine.disk station.places left old saved kept
  pub filed : Result (Unit {0}) Ending
  pub written : List Event
  pub files : SavesPapers papers station.places.papers kept filed written
  pub printed : Result (Unit {0}) Ending
  pub prints : PrintsIf text written printed new
  pub is : result ≡ earlier saved (earlier filed printed)

-- the files are opened first
abbrev pub ProfilesDrives : DiskForm → DeviceForm → ℕ → Run → List Event → Result (Unit {0}) Ending → List Event → Type 0
ProfilesDrives form asked most run = Then (OpensStation form asked run.program) (λ station. ProfilesSaving most station run.keys.items run.flags.items)
