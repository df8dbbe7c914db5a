-- What a command line does: the words that ask for a task have it done, and others are refused (this project's profile).
use Rattle.std.specs.Prelude.{◌≡◌, ◌⊎◌, ℕ, Bool, true, false, None, Result, Ok, Err, List, ◌∷◌}
use Rattle.byte_reader.specs.Readings.{Reading}
use Rattle.clap.specs.Words.{Text, kind_of}
use Rattle.clap.specs.declared.error.kind.ErrorKind.{ErrorKind}
use Rattle.clap.specs.declared.error.kind.ErrorKind.TheVariants.{DisplayHelp, DisplayVersion}
use Rattle.hosts.specs.Event.{Event, tell_call}
use Rattle.refusals.specs.declared.faults.SessionFault.TheVariants.{Memory as no_memory}
use Rattle.program_tasks.specs.declared.tasks.Task.{Task}
use Rattle.command_refusals.specs.declared.faults.TaskFault.{TaskFault}
use Rattle.command_refusals.specs.declared.faults.TaskFault.TheVariants.{Words, Memory, Refused}
use Rattle.command_line.specs.Tasks.{Answers}
use Rattle.outcome.specs.declared.endings.Ending.{Ending}
use Rattle.outcome.specs.declared.endings.Ending.TheVariants.{Fault}
use Rattle.image_files.specs.Ending.{EndsSo}
use Rattle.image_files.specs.Saving.{Prints}
use Rattle.program.specs.Tasks.{RunsTask}

-- help or the version is asked for
abbrev pub is_request : ErrorKind → Bool
is_request DisplayHelp = true
is_request DisplayVersion = true
is_request _ = false

-- a text goes to standard output, and the end of a command that printed it follows
pub record IsShown (old new : List Event) (status : ℕ) : Type 0 where
  pub text : List ℕ
  pub work : Result (Unit {0}) Ending
  pub between : List Event
  pub prints : Prints text old work between
  pub ends : EndsSo false None work between new status

-- a text goes to standard error, and nothing else; the status is 2
pub record IsMisuse (old new : List Event) (status : ℕ) : Type 0 where
  pub text : List ℕ
  pub ok : Bool
  pub tells : new ≡ tell_call ok text ∷ old
  pub misuse : status ≡ 2

abbrev pub ShowsText : Bool → List Event → List Event → ℕ → Type 0
ShowsText true old new status = IsShown old new status
ShowsText false old new status = IsMisuse old new status

-- memory is wanted
abbrev pub WantsMemory : List Event → List Event → ℕ → Type 0
WantsMemory = EndsSo false None (Err (Fault no_memory))

-- Words that ask for no task: help is shown, or why they are refused, unless memory is wanted for that.
abbrev pub RefusesWords : TaskFault → List Event → List Event → ℕ → Type 0
RefusesWords Memory old new status = WantsMemory old new status
RefusesWords (Words error) old new status = WantsMemory old new status ⊎ ShowsText (is_request (kind_of error)) old new status
RefusesWords (Refused usage refusal) old new status = WantsMemory old new status ⊎ IsMisuse old new status

-- The words of a command line, the program's own name first, ask for a task, which is done; or they are refused, and nothing else is done.
abbrev pub RunsWords : List Text → Bool → Reading → List Event → List Event → ℕ → Type 0
RunsWords words is_typed input old new status =
    ((task : Task) × Answers words (Ok task) × RunsTask task is_typed input old new status)
    ⊎ ((fault : TaskFault) × Answers words (Err fault) × RefusesWords fault old new status)
