-- The command that counts how often each cell is fetched.
use Rattle.std.specs.Prelude.{ℕ, unwrap_or, Result, List}
use Rattle.hosts.specs.Event.{Event}
use Rattle.program_tasks.specs.declared.boots.DiskForm.{DiskForm}
use Rattle.program_tasks.specs.declared.devices.DeviceForm.{DeviceForm}
use Rattle.program_tasks.specs.declared.tasks.Cpu.{Cpu}
use Rattle.program_tasks.specs.declared.tasks.Cpu.TheVariants.{EightI, EightE}
use Rattle.program_tasks.specs.declared.tasks.TraceForm.{TraceForm}
use Rattle.outcome.specs.declared.endings.Ending.{Ending}
use Rattle.image_files.specs.Saving.{Prints}
use Rattle.image_files.specs.Work.{Then, Purely}
use Rattle.run_commands.specs.Machines8i as pdp8i
use Rattle.run_commands.specs.Drives8e.{ProfilesDrives}
use Rattle.run_commands.specs.Printing.{GivesProfile}
use Rattle.run_commands.specs.Runs.{ReadsRun}
use Rattle.run_commands.specs.declared.runs.Run.{Run}

-- the profile of at most so many steps of a program is printed
abbrev pub ProfilesPlain : ℕ → Run → List Event → Result (Unit {0}) Ending → List Event → Type 0
ProfilesPlain most run = Then (Purely (GivesProfile (pdp8i.CountsTo most (pdp8i.terminal_of run)) run.flags.items)) (λ text. Prints text.items)

-- on this machine; an 8/E has these disks and devices
abbrev pub ProfilesOn : Cpu → DiskForm → DeviceForm → ℕ → Run → List Event → Result (Unit {0}) Ending → List Event → Type 0
ProfilesOn EightI form asked most run = ProfilesPlain most run
ProfilesOn EightE form asked most run = ProfilesDrives form asked most run

-- The program is read, and the profile of its steps is printed, of a million at most if no limit is given. Nothing else goes to standard
-- output.
abbrev pub ProfilesTape : TraceForm → List Event → Result (Unit {0}) Ending → List Event → Type 0
ProfilesTape form = Then (ReadsRun form) (λ run. ProfilesOn form.cpu form.disk form.devices (unwrap_or form.steps 1000000) run)
