-- The road of a program: from the sources that a job assembles to a file, to the processor that runs with what a load of that file
-- put into core.
use Rattle.std.specs.Prelude.{◌≡◌, ◌≢◌, ℕ, ◌<◌, nat_eq, unwrap_or, Bool, true, false, Some, List, [], ◌∷◌, length, slice_index, Ok, Err}
use Rattle.bin_tape.specs.declared.faults.TapeFault.{TapeFault}
use Rattle.pal_blocks.specs.Sources.{meaning_of}
use Rattle.volume_jobs.specs.Jobs.{assembling, job_of}
use Rattle.volume_jobs.specs.State.{words_among}
use Rattle.script8.specs.declared.entries.Entry.{Entry}
use Rattle.script8.specs.declared.entries.Entry.TheVariants as entry
use Rattle.script8.specs.declared.entries.JobEntry.TheVariants.{Turn}
use Rattle.refusals.specs.declared.faults.SessionFault.TheVariants.{Tape}
use Rattle.script8.specs.declared.replies.Reply.TheVariants.{Line}
use Rattle.script8.specs.declared.replies.LineReply.TheVariants.{Stored, Deleted, Assembled, Loaded}
use Rattle.system_session.specs.Console.{ConsoleReplies}
use Rattle.system_session.specs.State.{Console, State}
use Rattle.system_session.specs.System.{Answer, Run, MayAnswer}
use Rattle.system_session.specs.Work.{job_state, with_core}

-- ## What answers say

-- the file of a name was written or taken out
abbrev pub changes_file : ℕ → Answer → Bool
changes_file name (Ok (Line (Stored other blocks))) = nat_eq other name
changes_file name (Ok (Line (Deleted other))) = nat_eq other name
changes_file name (Ok (Line (Assembled number other blocks))) = nat_eq other name
changes_file name answer = false

-- a tape was laid over core
abbrev pub is_loaded : Answer → Bool
is_loaded (Ok (Line (Loaded number name))) = true
is_loaded answer = false

-- no answer says this
abbrev pub NoneTells : (Answer → Bool) → List Answer → Type 0
NoneTells tells [] = Unit {0}
NoneTells tells (answer ∷ answers) = (tells answer ≡ false) × NoneTells tells answers

-- ## The console by itself

-- an entry of the console that is replied to does there what it shows, and any other entry nothing
abbrev pub OperatesConsole : Console → Entry → Answer → Console → Type 0
OperatesConsole old (entry.Console it) (Ok reply) new = ConsoleReplies old it reply new
OperatesConsole old (entry.Console it) (Err why) new = new ≡ old
OperatesConsole old (entry.Files it) answer new = new ≡ old
OperatesConsole old (entry.Jobs it) answer new = new ≡ old

-- Entries with these answers do this to the console, one after another, whatever the files and the jobs are. Want of memory ends
-- them.
abbrev pub ConsoleGoesOn : Console → List Entry → List Answer → Console → Type 0
ConsoleGoesOn old [] [] new = new ≡ old
ConsoleGoesOn old (entry ∷ entries) [] new = new ≡ old
ConsoleGoesOn old (entry ∷ entries) (answer ∷ answers) new =
    (mid : Console) × OperatesConsole old entry answer mid × ConsoleGoesOn mid entries answers new
ConsoleGoesOn old [] (answer ∷ answers) new = ⊥

-- ## From sources to core

-- The job of a number answered that it has assembled its sources, which had these words, to the file of a name.
pub record HasMadeFile (number name : ℕ) (sources : List (List ℕ)) (old new : State) : Type 0 where
  pub from : List ℕ
  pub left : ℕ
  pub blocks : ℕ
  pub job : job_of number old.jobs ≡ Some (assembling name from left)
  pub words : sources ≡ words_among (job_state old) from
  pub step : MayAnswer old (entry.Jobs (Turn number)) (Ok (Line (Assembled number name blocks))) new

-- each cell has the word that the sources put into it, and where they put none the word that it had
pub record IsLaid (sources : List (List ℕ)) (old new : List ℕ) : Type 0 where
  pub same_size : length new ≡ length old
  pub cells : (cell : ℕ) → cell < length old
      → slice_index new cell ≡ unwrap_or (meaning_of sources cell) (slice_index old cell)

-- A load of what was made from the sources met no fault of a tape. Where it came to its end, the console goes on, up to the next
-- load, as it does with core overlaid with what the sources put into it.
pub record LoadsCore (sources : List (List ℕ)) (old : State) (answer : Answer) (new : State) : Type 0 where
  pub no_fault : (fault : TapeFault) → answer ≢ Err (Tape fault)
  pub core : List ℕ
  pub laid : is_loaded answer ≡ true → IsLaid sources old.console.machine.core core
  pub goes_on : is_loaded answer ≡ true → (last : State) → (entries : List Entry) → (answers : List Answer)
      → (stopped : Bool) → Run new entries answers stopped last
      → NoneTells is_loaded answers → ConsoleGoesOn (with_core old.console core) entries answers last.console
