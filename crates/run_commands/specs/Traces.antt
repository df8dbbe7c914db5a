-- The command that prints a line for each step of a program.
use Rattle.std.specs.Prelude.{ℕ, unwrap_or, Result, List}
use Rattle.hosts.specs.Event.{Event}
use Rattle.program_tasks.specs.declared.boots.DiskForm.{DiskForm}
use Rattle.program_tasks.specs.declared.devices.DeviceForm.{DeviceForm}
use Rattle.program_tasks.specs.declared.tasks.Cpu.{Cpu}
use Rattle.program_tasks.specs.declared.tasks.Cpu.TheVariants.{EightI, EightE}
use Rattle.program_tasks.specs.declared.tasks.TraceForm.{TraceForm}
use Rattle.outcome.specs.declared.endings.Ending.{Ending}
use Rattle.image_files.specs.Work.{Then}
use Rattle.run_commands.specs.Machines8i as pdp8i
use Rattle.run_commands.specs.Drives8e.{TracesDrives}
use Rattle.run_commands.specs.Printing.{PrintsTrace}
use Rattle.run_commands.specs.Runs.{ReadsRun}
use Rattle.run_commands.specs.declared.runs.Run.{Run}

-- at most so many steps of a program on this machine are printed, with the tape's cells tagged; an 8/E has these disks and devices
abbrev pub TracesOn : Cpu → DiskForm → DeviceForm → ℕ → Run → List Event → Result (Unit {0}) Ending → List Event → Type 0
TracesOn EightI form asked most run = PrintsTrace (pdp8i.TracesTo most (pdp8i.terminal_of run) run.flags.items)
TracesOn EightE form asked most run = TracesDrives form asked most run

-- The program is read, and its steps are printed, a thousand at most if no limit is given. Nothing else goes to standard output.
abbrev pub TracesTape : TraceForm → List Event → Result (Unit {0}) Ending → List Event → Type 0
TracesTape form = Then (ReadsRun form) (λ run. TracesOn form.cpu form.disk form.devices (unwrap_or form.steps 1000) run)
