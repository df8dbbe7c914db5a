-- The command that boots a disk.
use Rattle.std.specs.Prelude.{◌≡◌, ◌⊎◌, Result, List}
use Rattle.byte_reader.specs.Readings.{Reading}
use Rattle.hosts.specs.Event.{Event}
use Rattle.program_tasks.specs.declared.boots.ConsoleForm.{ConsoleForm}
use Rattle.outcome.specs.declared.endings.Ending.{Ending}
use Rattle.image_files.specs.Work.{Ends, Follows}
use Rattle.drive_files.specs.Mounting.{places_of, with_papers}
use Rattle.run_commands.specs.Bootstraps.{GetsReady, booted_console}
use Rattle.run_commands.specs.Runs8e.{RunsConsole}

-- The files are held and read, and the machine boots. Where one is refused, no key is read.
abbrev pub BootsDisk : ConsoleForm → Reading → List Event → Result (Unit {0}) Ending → List Event → Type 0
BootsDisk form keys old result new = (Ends (GetsReady form) old result new × (keys.after ≡ keys.before))
    ⊎ Follows (GetsReady form) (λ ready. RunsConsole form (booted_console form ready) (with_papers ready.files.equipment.devices (places_of ready.files.drives)) keys) old result new
