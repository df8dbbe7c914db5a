-- What a run, a trace and a profile print, whichever machine makes the steps.
use Rattle.std.specs.Prelude.{◌≡◌, ℕ, Bool, true, is_some, IfErr, Option, None, Some, Result, Ok, Err, List, [], ◌∷◌, ◌++◌}
use Rattle.std.specs.Global.{Vec}
use Rattle.byte_reader.specs.Readings.{Reading}
use Rattle.terminal8.specs.declared.absences.Absence.{Absence}
use Rattle.terminal8.specs.declared.outcomes.Ended.{Ended}
use Rattle.terminal8.specs.declared.outcomes.TerminalEnd.{TerminalEnd}
use Rattle.terminal8.specs.declared.outcomes.TerminalEnd.TheVariants as why
use Rattle.terminal8.specs.declared.outcomes.TerminalFault.{TerminalFault}
use Rattle.terminal8.specs.declared.outcomes.TerminalFault.TheVariants as terminal
use Rattle.trace8.specs.declared.faults.TraceFault.{TraceFault}
use Rattle.trace8.specs.declared.faults.TraceFault.TheVariants as trace
use Rattle.profile8.specs.Profile.{IsProfile, is_flagged}
use Rattle.hosts.specs.Event.{Event}
use Rattle.hosts.specs.Streams.{output_text}
use Rattle.hosts.specs.declared.faults.PrintFault.{PrintFault}
use Rattle.host_output.specs.Printing.{HasPrinted}
use Rattle.refusals.specs.declared.faults.SessionFault.TheVariants as session
use Rattle.outcome.specs.declared.endings.Ending.{Ending}
use Rattle.outcome.specs.declared.endings.Ending.TheVariants.{Fault, Failure}
use Rattle.image_files.specs.Answers.{AreLines}
use Rattle.image_files.specs.Saving.{IsDone, Prints}
use Rattle.image_files.specs.Work.{Then, Purely}
use Rattle.run_commands.specs.Lines.{TellsRun, IsEnding, ending_of_output}
use Rattle.run_commands.specs.RunLines.{run_line}
use Rattle.run_commands.specs.declared.run_lines.RunLine.{RunLine}
use Rattle.run_commands.specs.declared.run_lines.RunLine.TheVariants as line
use Rattle.run_commands.specs.declared.printing.Stand.{Stand}

-- ## A run

-- the line of a machine that halted: with MQ, if it has one
abbrev pub line_by_mq : Stand → Option ℕ → RunLine
line_by_mq stand None = line.Halted stand.cell stand.ac stand.l
line_by_mq stand (Some mq) = line.HaltedWithMq stand.cell stand.ac stand.l mq

abbrev pub halted_line : Stand → RunLine
halted_line stand = line_by_mq stand stand.mq

-- the line of a machine that goes no further
abbrev pub line_of_end : Stand → TerminalEnd → RunLine
line_of_end stand why.Halt = halted_line stand
line_of_end stand why.Keys = line.KeysEnd stand.cell
line_of_end stand why.Unassigned = line.Unassigned stand.cell stand.word
line_of_end stand why.Limit = line.Limit stand.cell

-- a HLT and the end of the keys are ends of a program's own, and any other is a failure
abbrev pub IsEndOf : TerminalEnd → Result (Unit {0}) Ending → Type 0
IsEndOf why.Halt result = IsDone result
IsEndOf why.Keys result = IsDone result
IsEndOf why.Unassigned result = IsEnding Failure result
IsEndOf why.Limit result = IsEnding Failure result

-- a note of each of these IOTs of absent devices is printed on standard error
abbrev pub NotesAbsences : List Absence → List Event → Result (Unit {0}) Ending → List Event → Type 0
NotesAbsences [] = Purely IsDone
NotesAbsences (absence ∷ others) = Then (TellsRun (line.NoDevice absence)) (λ it. NotesAbsences others)

-- the line of the end is printed on standard error
abbrev pub TellsEnd : Stand → TerminalEnd → List Event → Result (Unit {0}) Ending → List Event → Type 0
TellsEnd stand end = Then (TellsRun (line_of_end stand end)) (λ it. Purely (IsEndOf end))

-- absent devices are noted, and the line of the end is printed; or the keys could not be read, or standard output took no more
abbrev pub EndsRun : Stand → List Absence → Option PrintFault → Result Ended TerminalFault → List Event → Result (Unit {0}) Ending → List Event → Type 0
EndsRun stand absences fault (Ok ended) = Then (NotesAbsences absences) (λ it. TellsEnd stand ended.why)
EndsRun stand absences fault (Err terminal.Reader) = Purely (IsEnding (Fault session.Reader))
EndsRun stand absences fault (Err terminal.Writer) = Purely (IsEnding (ending_of_output fault))

-- A machine runs at the Teletype: the reader gives its keys, and standard output is its paper. It asks these absent devices. Then it stands somewhere, which its end says.
pub record PrintsRun (runs_to : Stand → Option (List ℕ) → Option (List ℕ) → List Absence → Result Ended TerminalFault → Type 0) (keys : Reading) (old : List Event) (result : Result (Unit {0}) Ending) (new : List Event) : Type 0 where
  pub done : Result Ended TerminalFault
  pub stand : Stand
  pub absences : List Absence
  pub between : List Event
  pub runs : runs_to stand (Some (output_text old)) (Some (output_text between)) absences done
  pub fault : Option PrintFault
  pub prints : HasPrinted old between fault
  pub cause : IfErr done (λ it. it ≡ terminal.Writer → is_some fault ≡ true)
  pub failed : IfErr done (λ it. it ≡ terminal.Reader → keys.has_failed)
  pub ends : EndsRun stand absences fault done between result new

-- ## A trace

-- the line of the end is printed, at which the machine stands before this cell; or memory was wanted, or standard output took no more
abbrev pub EndsTrace : ℕ → Option PrintFault → Result Ended TraceFault → List Event → Result (Unit {0}) Ending → List Event → Type 0
EndsTrace cell fault (Ok ended) = Then (Purely (AreLines (run_line (line.Steps ended cell)))) (λ text. Prints text.items)
EndsTrace cell fault (Err trace.Memory) = Purely (IsEnding (Fault session.Memory))
EndsTrace cell fault (Err trace.Writer) = Purely (IsEnding (ending_of_output fault))

-- Standard output gets a line of each step, and then that of the end.
pub record PrintsTrace (traces_to : ℕ → Option (List ℕ) → Option (List ℕ) → Result Ended TraceFault → Type 0) (old : List Event) (result : Result (Unit {0}) Ending) (new : List Event) : Type 0 where
  pub done : Result Ended TraceFault
  pub cell : ℕ
  pub between : List Event
  pub traces : traces_to cell (Some (output_text old)) (Some (output_text between)) done
  pub fault : Option PrintFault
  pub prints : HasPrinted old between fault
  pub cause : IfErr done (λ it. it ≡ trace.Writer → is_some fault ≡ true)
  pub ends : EndsTrace cell fault done between result new

-- ## A profile

-- The text is the profile of the counts of a run, for a tape that gives the flagged cells a word. After it comes the line of the run's end, at
-- which the machine stands before a cell.
pub record IsProfiled (counts_to : Ended → List ℕ → ℕ → Type 0) (flags : List Bool) (text : List ℕ) : Type 0 where
  pub ended : Ended
  pub counts : List ℕ
  pub cell : ℕ
  pub counted : counts_to ended counts cell
  pub profile : List ℕ
  pub profiled : IsProfile counts (is_flagged flags) profile
  pub lines : text ≡ profile ++ run_line (line.Steps ended cell)

abbrev pub GivesProfile : (Ended → List ℕ → ℕ → Type 0) → List Bool → Result (Vec ℕ) Ending → Type 0
GivesProfile counts_to flags (Ok text) = IsProfiled counts_to flags text.items
GivesProfile counts_to flags (Err ending) = ending ≡ Fault session.Memory
