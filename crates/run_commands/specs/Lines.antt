-- The lines of the commands on machines, and how these end where standard output takes no more.
use Rattle.std.specs.Prelude.{◌≡◌, ℕ, Option, None, Some, Result, Ok, Err, List}
use Rattle.hosts.specs.Event.{Event}
use Rattle.hosts.specs.declared.faults.PrintFault.{PrintFault}
use Rattle.hosts.specs.declared.faults.PrintFault.TheVariants.{Abandoned, Failed}
use Rattle.program_reports.specs.Program.{program_line}
use Rattle.program_reports.specs.declared.programs.ProgramLine.{ProgramLine}
use Rattle.outcome.specs.declared.endings.Ending.{Ending}
use Rattle.outcome.specs.declared.endings.Ending.TheVariants.{FullOutput, NoReader}
use Rattle.image_files.specs.Work.{Lacks}
use Rattle.image_files.specs.Ending.{TellsLine}
use Rattle.run_commands.specs.RunLines.{run_line}
use Rattle.run_commands.specs.declared.run_lines.RunLine.{RunLine}

-- a line is printed on standard error, unless memory is wanted for it
abbrev pub TellsText : List ℕ → List Event → Result (Unit {0}) Ending → List Event → Type 0
TellsText line old (Ok it) new = TellsLine line old new
TellsText line old (Err ending) new = Lacks old ending new

abbrev pub TellsProgram : ProgramLine → List Event → Result (Unit {0}) Ending → List Event → Type 0
TellsProgram line = TellsText (program_line line)

abbrev pub TellsRun : RunLine → List Event → Result (Unit {0}) Ending → List Event → Type 0
TellsRun line = TellsText (run_line line)

-- a step ends the command so
abbrev pub IsEnding : {A : Type 0} → Ending → Result A Ending → Type 0
IsEnding ending (Ok it) = ⊥
IsEnding ending (Err it) = it ≡ ending

-- how a command ends whose output failed so: nobody reads the pipe that it is, or it takes no more
abbrev pub ending_of_output : Option PrintFault → Ending
ending_of_output (Some Abandoned) = NoReader
ending_of_output (Some Failed) = FullOutput
ending_of_output None = FullOutput
