-- The command that runs a program at the Teletype.
use Rattle.std.specs.Prelude.{◌≡◌, ◌⊎◌, Result, List}
use Rattle.byte_reader.specs.Readings.{Reading}
use Rattle.hosts.specs.Event.{Event}
use Rattle.program_tasks.specs.declared.tasks.Cpu.{Cpu}
use Rattle.program_tasks.specs.declared.tasks.Cpu.TheVariants.{EightI, EightE}
use Rattle.program_tasks.specs.declared.tasks.TeletypeForm.{TeletypeForm}
use Rattle.outcome.specs.declared.endings.Ending.{Ending}
use Rattle.image_files.specs.Work.{Then, Ends, Follows}
use Rattle.tape_commands.specs.Programs.{ReadsProgram}
use Rattle.run_commands.specs.CorePrograms.{LoadsProgram}
use Rattle.run_commands.specs.Machines8i as pdp8i
use Rattle.run_commands.specs.Printing.{PrintsRun}
use Rattle.run_commands.specs.Runs.{start_or}
use Rattle.run_commands.specs.Runs8e.{RunsOn8e, needs_console}
use Rattle.run_commands.specs.declared.core_programs.CoreProgram.{CoreProgram}

-- the program is read into core
abbrev pub ReadsProgramOf : TeletypeForm → List Event → Result CoreProgram Ending → List Event → Type 0
ReadsProgramOf form = Then (ReadsProgram form.tape) (λ tape. LoadsProgram tape.frames.items (start_or form.start tape.start) form.console.switches)

-- a program runs at the Teletype on this machine
abbrev pub RunsOn : Cpu → TeletypeForm → CoreProgram → Reading → List Event → Result (Unit {0}) Ending → List Event → Type 0
RunsOn EightI form program keys = PrintsRun (pdp8i.RunsTo form program keys) keys
RunsOn EightE form program keys = RunsOn8e (needs_console form.console) form program keys

-- The program is read, and runs at the Teletype of the machine that is asked for. Where there is none to run, no key is read. No file
-- changes but those of disks and papers.
abbrev pub RunsTeletype : TeletypeForm → Reading → List Event → Result (Unit {0}) Ending → List Event → Type 0
RunsTeletype form keys old result new = (Ends (ReadsProgramOf form) old result new × (keys.after ≡ keys.before))
    ⊎ Follows (ReadsProgramOf form) (λ program. RunsOn form.cpu form program keys) old result new
