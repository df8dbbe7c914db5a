-- The system machine: its steps and its runs.
use Rattle.std.specs.Prelude.{◌≡◌, ◌≢◌, ℕ, ◌+◌, Bool, true, false, Some, List, [], ◌∷◌, Result, Ok, Err}
use Rattle.os8_dir.specs.Names.{parsed_name}
use Rattle.os8_files.specs.Service.{lengths_of, blocks_in_use}
use Rattle.volume_jobs.specs.Starts.{AssembleStarts, LoadStarts, SqueezeStarts}
use Rattle.volume_jobs.specs.Turns.{Turns}
use Rattle.volume_jobs.specs.declared.turned.Turned.{Turned}
use Rattle.script8.specs.declared.entries.Entry.{Entry}
use Rattle.script8.specs.declared.entries.Entry.TheVariants as entry
use Rattle.script8.specs.declared.entries.FileEntry.{FileEntry}
use Rattle.script8.specs.declared.entries.FileEntry.TheVariants as files
use Rattle.script8.specs.declared.entries.JobEntry.{JobEntry}
use Rattle.script8.specs.declared.entries.JobEntry.TheVariants as job
use Rattle.script8.specs.declared.entries.ConsoleEntry.{ConsoleEntry}
use Rattle.refusals.specs.declared.faults.SessionFault.{SessionFault}
use Rattle.refusals.specs.declared.faults.SessionFault.TheVariants.{Memory}
use Rattle.script8.specs.declared.replies.Reply.{Reply}
use Rattle.script8.specs.declared.replies.Reply.TheVariants.{Line, Report}
use Rattle.script8.specs.declared.replies.Report.TheVariants.{Direct}
use Rattle.script8.specs.declared.replies.LineReply.TheVariants.{Stored, Deleted, Job}
use Rattle.system_session.specs.Console.{ConsoleReplies, is_within_limits}
use Rattle.system_session.specs.Files.{HasStored, HasDeleted, text_blocks}
use Rattle.system_session.specs.Refusals.{NamesFiles, MayRefuse, MayLack, after_refusal}
use Rattle.system_session.specs.State.{State}
use Rattle.system_session.specs.Work.{DoesWork, turn_reply}

-- what is answered to an entry
abbrev pub Answer : Type 0
Answer = Result Reply SessionFault

-- What the machine may do and reply to an entry of files.
abbrev pub FilesMayReply : State → FileEntry → Reply → State → Type 0
FilesMayReply old (files.Store name text) (Line (Stored other blocks)) new =
    (parsed_name name ≡ Some other) × (blocks ≡ text_blocks text) × DoesWork (HasStored other text) old new
FilesMayReply old (files.Delete name) (Line (Deleted other)) new =
    (parsed_name name ≡ Some other) × DoesWork (HasDeleted other) old new
FilesMayReply old files.Direct (Report (Direct lengths free)) new =
    (lengths ≡ lengths_of old.files) × (free + blocks_in_use old.files ≡ old.capacity) × (new ≡ old)
FilesMayReply old entry reply new = ⊥

-- What it may do and reply to an entry of jobs.
abbrev pub JobsMayReply : State → JobEntry → Reply → State → Type 0
JobsMayReply old (job.Assemble to from) (Line (Job number)) new =
    NamesFiles to from (λ target sources.
    DoesWork (λ before after. AssembleStarts before target sources (Ok number) after) old new)
JobsMayReply old (job.Load name) (Line (Job number)) new =
    (n : ℕ) × (parsed_name name ≡ Some n)
    × DoesWork (λ before after. LoadStarts before n (Ok number) after) old new
JobsMayReply old job.Squeeze (Line (Job number)) new =
    DoesWork (λ before after. SqueezeStarts before (Ok number) after) old new
JobsMayReply old (job.Turn number) (Line reply) new =
    (turned : Turned) × (reply ≡ turn_reply number turned)
    × DoesWork (λ before after. Turns before number (Ok turned) after) old new
JobsMayReply old entry reply new = ⊥

-- What it may do and reply to an entry of the console.
abbrev pub ConsoleMayReply : State → ConsoleEntry → Reply → State → Type 0
ConsoleMayReply old entry reply new =
    (is_within_limits entry ≡ true) × ConsoleReplies old.console entry reply new.console
    × (new ≡ record old { console = new.console })

-- What the machine may do and reply.
abbrev pub MayReply : State → Entry → Reply → State → Type 0
MayReply old (entry.Files it) reply new = FilesMayReply old it reply new
MayReply old (entry.Jobs it) reply new = JobsMayReply old it reply new
MayReply old (entry.Console it) reply new = ConsoleMayReply old it reply new

-- From old, the machine may answer the entry so, and go on to new.
abbrev pub MayAnswer : State → Entry → Answer → State → Type 0
MayAnswer old entry (Ok reply) new = MayReply old entry reply new
MayAnswer old entry (Err Memory) new = MayLack old entry × (new ≡ old)
MayAnswer old entry (Err why) new = MayRefuse old entry why × (new ≡ after_refusal old entry)

-- The machine may give these answers to these entries, one step after another. Want of memory ends the run before an entry for which
-- the machine may lack it.
abbrev pub Run : State → List Entry → List Answer → Bool → State → Type 0
Run old [] [] stopped new = (stopped ≡ false) × (new ≡ old)
Run old (entry ∷ entries) [] stopped new = (stopped ≡ true) × MayLack old entry × (new ≡ old)
Run old (entry ∷ entries) (answer ∷ answers) stopped new =
    (mid : State) × MayAnswer old entry answer mid × (answer ≢ Err Memory) × Run mid entries answers stopped new
Run old [] (answer ∷ answers) stopped new = ⊥
