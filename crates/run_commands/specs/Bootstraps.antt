-- The machine that boots, and what is had before: a PDP-8/E with the disks of its drives and its devices (this project's profile).
use Rattle.std.specs.Prelude.{◌≡◌, Result, Ok, Err, List}
use Rattle.word12.specs.declared.sizes.TheConstants.{CORE}
use Rattle.core_load.specs.Core.{zeros}
use Rattle.pdp8e.specs.Boot.{booting}
use Rattle.pdp8e.specs.State.{switches_set}
use Rattle.hosts.specs.Event.{Event}
use Rattle.refusals.specs.declared.faults.SessionFault.TheVariants.{Memory}
use Rattle.program_tasks.specs.declared.boots.ConsoleForm.{ConsoleForm}
use Rattle.outcome.specs.declared.endings.Ending.{Ending}
use Rattle.outcome.specs.declared.endings.Ending.TheVariants.{Fault}
use Rattle.image_files.specs.Work.{Then, Purely}
use Rattle.drive_files.specs.Mounting.{disk_of}
use Rattle.drive_files.specs.Inputs.{with_switches}
use Rattle.run_commands.specs.ConsoleFiles.{OpensFiles, equipped_console}
use Rattle.run_commands.specs.declared.bootstraps.Ready.{Ready}
use Rattle.run_commands.specs.declared.console_files.ConsoleFiles.{ConsoleFiles}
use Rattle.drive_files.specs.declared.consoles.Console.{Console}

-- core whose words are 0, beside the files, unless memory is wanted for that
abbrev pub IsReady : ConsoleFiles → Result Ready Ending → Type 0
IsReady files (Ok ready) = (ready.core ≡ zeros CORE) × (ready.files ≡ files)
IsReady files (Err ending) = ending ≡ Fault Memory

-- the files first
abbrev pub GetsReady : ConsoleForm → List Event → Result Ready Ending → List Event → Type 0
GetsReady form = Then (OpensFiles form) (λ files. Purely (IsReady files))

-- the machine stands at the bootstrap, with the switches set where that is asked for
abbrev pub booted_console : ConsoleForm → Ready → Console
booted_console form ready = equipped_console form (with_switches switches_set form.switches (booting ready.core (disk_of form.disk ready.files.drives))) ready.files.equipment
