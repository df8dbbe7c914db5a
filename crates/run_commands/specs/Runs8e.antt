-- A run of an 8/E with disks at the console, and what the files of its disks and papers get (this project's profile).
use Rattle.std.specs.Prelude.{◌≡◌, ◌⊎◌, Bool, true, false, ◌||◌, is_some, Result, Ok, Err, List}
use Rattle.byte_reader.specs.Readings.{Reading}
use Rattle.hosts.specs.Event.{Event}
use Rattle.program_tasks.specs.declared.boots.ConsoleForm.{ConsoleForm}
use Rattle.program_tasks.specs.declared.boots.DiskForm.{DiskForm}
use Rattle.program_tasks.specs.declared.devices.DeviceForm.{DeviceForm}
use Rattle.program_tasks.specs.declared.tasks.TeletypeForm.{TeletypeForm}
use Rattle.outcome.specs.declared.endings.Ending.{Ending}
use Rattle.image_files.specs.Work.{Ends, Follows}
use Rattle.drive_files.specs.Mounting.{places_of, with_papers}
use Rattle.drive_files.specs.Devices.{SavesPapers}
use Rattle.drive_files.specs.Saving.{SavesDrives, earlier}
use Rattle.drive_files.specs.declared.mounting.Places.{Places}
use Rattle.run_commands.specs.ConsoleFiles.{OpensFiles, equipped_console}
use Rattle.run_commands.specs.declared.console_files.ConsoleFiles.{ConsoleFiles}
use Rattle.run_commands.specs.Drives8e.{machine_of}
use Rattle.run_commands.specs.Machines8e.{RunsTo, stand_of}
use Rattle.run_commands.specs.Printing.{EndsRun, PrintsRun}
use Rattle.drive_files.specs.Rounds.{RunsRounds}
use Rattle.drive_files.specs.declared.consoles.Console.{Console}
use Rattle.run_commands.specs.declared.core_programs.CoreProgram.{CoreProgram}
use Rattle.drive_files.specs.declared.rounds.Ran.{Ran}
use Rattle.drive_files.specs.declared.rounds.Unsaved.{Unsaved}
use Rattle.drive_files.specs.declared.rounds.Unsaved.TheVariants.{Disk, Paper}

-- what is on the disks is saved, and then what was put on paper
pub record SavesAll (s : Console) (places places' : Places) (old : List Event) (result : Result (Unit {0}) Ending) (new : List Event) : Type 0 where
  pub saved : Result (Unit {0}) Ending
  pub between : List Event
  pub filed : Result (Unit {0}) Ending
  pub disks : SavesDrives s.machine.disk places places' old saved between
  pub papers : SavesPapers s.papers places.papers between filed new
  pub is : result ≡ earlier saved filed

-- what is left is saved, where a disk or a paper could not be saved in the run: the papers, or the disks
abbrev pub SavesRest : Console → Places → Places → Result (Unit {0}) Unsaved → List Event → Result (Unit {0}) Ending → List Event → Type 0
SavesRest s places places' (Ok it) old result new = SavesAll s places places' old result new
SavesRest s places places' (Err (Disk ending)) old result new =
    (filed : Result (Unit {0}) Ending) × SavesPapers s.papers places.papers old filed new × (result ≡ Err ending) × (places' ≡ places)
SavesRest s places places' (Err (Paper ending)) old result new =
    (saved : Result (Unit {0}) Ending) × SavesDrives s.machine.disk places places' old saved new × (result ≡ earlier saved (Err ending))

-- A machine runs at the console, in rounds. What is on its disks then is saved, and what was put on paper, however the run ended. Then the IOTs of
-- absent devices that it did are noted, and the line of its end is printed. A disk or a paper that could not be saved is how the command ends.
pub record RunsConsole (form : ConsoleForm) (first : Console) (places : Places) (keys : Reading) (old : List Event) (result : Result (Unit {0}) Ending) (new : List Event) : Type 0 where
  pub after : Console
  pub ran : Ran
  pub mid : Places
  pub between : List Event
  pub runs : RunsRounds form first after places mid keys old ran between
  pub saved : Result (Unit {0}) Ending
  pub left : Places
  pub kept : List Event
  pub saves : SavesRest after mid left ran.save between saved kept
  pub ended : Result (Unit {0}) Ending
  pub ends : EndsRun (stand_of after.machine.processor) ran.absences ran.fault ran.answer kept ended new
  pub is : result ≡ earlier saved ended

-- ## The program of a tape

-- one of the drives has a disk
abbrev pub has_disk : DiskForm → Bool
has_disk form = is_some form.drive0.image || (is_some form.drive1.image || (is_some form.drive2.image || is_some form.drive3.image))

-- there is a reader with a tape, a punch or a line printer with a file, a file for transfers, or a clock
abbrev pub has_device : DeviceForm → Bool
has_device form = is_some form.reader || (is_some form.punch || (is_some form.printer || (is_some form.transfers || is_some form.clock)))

-- a program runs as one that a disk boots: where there is a disk or another device, or small letters are struck as capitals
abbrev pub needs_console : ConsoleForm → Bool
needs_console form = form.has_capitals || (has_disk form.disk || has_device form.devices)

-- the machine of a program, with these files
abbrev pub loaded_console : ConsoleForm → ConsoleFiles → CoreProgram → Console
loaded_console form files program = equipped_console form (machine_of form.disk files.drives program) files.equipment

-- the files are opened, and the program runs; where one is refused, no key is read
abbrev pub RunsDisks : ConsoleForm → CoreProgram → Reading → List Event → Result (Unit {0}) Ending → List Event → Type 0
RunsDisks form program keys old result new = (Ends (OpensFiles form) old result new × (keys.after ≡ keys.before))
    ⊎ Follows (OpensFiles form) (λ files. RunsConsole form (loaded_console form files program) (with_papers files.equipment.devices (places_of files.drives)) keys) old result new

-- without a device it runs at the Teletype alone
abbrev pub RunsOn8e : Bool → TeletypeForm → CoreProgram → Reading → List Event → Result (Unit {0}) Ending → List Event → Type 0
RunsOn8e true form program keys = RunsDisks form.console program keys
RunsOn8e false form program keys = PrintsRun (RunsTo form program keys) keys
