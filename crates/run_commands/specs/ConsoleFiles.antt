-- The files of a run at the console of an 8/E, which are opened before it (this project's profile).
use Rattle.std.specs.Prelude.{◌≡◌, Result, Ok, Err, List}
use Rattle.hosts.specs.Event.{Event}
use Rattle.pdp8e.specs.Papers.{PapersState}
use Rattle.pdp8e.specs.State.{Pdp8e}
use Rattle.program_tasks.specs.declared.boots.ConsoleForm.{ConsoleForm}
use Rattle.outcome.specs.declared.endings.Ending.{Ending}
use Rattle.image_files.specs.Work.{Then, Purely}
use Rattle.drive_files.specs.Consoles.{console_with}
use Rattle.drive_files.specs.Devices.{OpensDevices, TakesPapers, with_devices}
use Rattle.drive_files.specs.Opening.{OpensDrives}
use Rattle.drive_files.specs.declared.consoles.Console.{Console}
use Rattle.drive_files.specs.declared.devices.OpenDevices.{OpenDevices}
use Rattle.drive_files.specs.declared.opening.OpenDrives.{OpenDrives}
use Rattle.run_commands.specs.declared.console_files.ConsoleFiles.{ConsoleFiles}
use Rattle.run_commands.specs.declared.console_files.Equipment.{Equipment}

-- these drives, devices and papers
abbrev pub AreFiles : PapersState → OpenDrives → OpenDevices → Result ConsoleFiles Ending → Type 0
AreFiles papers drives devices (Ok files) = (files.drives ≡ drives) × (files.equipment.devices ≡ devices) × (files.equipment.papers ≡ papers)
AreFiles papers drives devices (Err ending) = ⊥

-- papers are taken, then the disks of the drives are opened, and then the files of the devices
abbrev pub OpensFiles : ConsoleForm → List Event → Result ConsoleFiles Ending → List Event → Type 0
OpensFiles form =
    Then (Purely (TakesPapers form.devices)) (λ papers. Then (OpensDrives form.disk) (λ drives. Then (OpensDevices form.devices) (λ devices.
    Purely (AreFiles papers drives devices))))

-- a machine with disks at the console, with all else that it has
abbrev pub equipped_console : ConsoleForm → Pdp8e → Equipment → Console
equipped_console form machine equipment = console_with form (with_devices machine form.devices equipment.devices) equipment.papers
