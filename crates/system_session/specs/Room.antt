-- What a refusal for want of room says of the store's blocks. To the system machine a volume is a map of files, and of those blocks
-- it gives bounds alone.
use Rattle.std.specs.Prelude.{◌≡◌, ℕ, Some, List, Ok, Err}
use Rattle.char_pack.specs.Texts.{words_of_text}
use Rattle.os8_dir.specs.Names.{parsed_name}
use Rattle.os8_files.specs.Puts.{TellsRoom}
use Rattle.os8_dir.specs.declared.file_faults.FileFault.{FileFault}
use Rattle.volume_jobs.specs.Calls.{NumberTellsRoom}
use Rattle.volume_jobs.specs.Jobs.{job_of}
use Rattle.script8.specs.declared.entries.Entry.{Entry}
use Rattle.script8.specs.declared.entries.Entry.TheVariants as entry
use Rattle.script8.specs.declared.entries.FileEntry.TheVariants as files
use Rattle.script8.specs.declared.entries.JobEntry.TheVariants as job
use Rattle.refusals.specs.declared.faults.SessionFault.TheVariants.{File}
use Rattle.system_session.specs.Session.{SessionView}
use Rattle.system_session.specs.System.{Answer}

-- an answer that is a fault of files has this
abbrev pub IfFile : (FileFault → Type 0) → Answer → Type 0
IfFile has (Ok reply) = Unit {0}
IfFile has (Err (File why)) = has why
IfFile has (Err fault) = Unit {0}

-- Where a text is stored, and where a turn puts a target, NO ROOM gives the blocks of the store's largest empty. DIRECTORY FULL says
-- that the list of its entries would be too long with the file.
abbrev pub StoreTellsRoom : List ℕ → List ℕ → SessionView → Answer → Type 0
StoreTellsRoom bytes text old answer =
    (name : ℕ) → parsed_name bytes ≡ Some name
    → IfFile (TellsRoom old.volume.blocks name (words_of_text text)) answer

abbrev pub TurnTellsRoom : ℕ → SessionView → Answer → Type 0
TurnTellsRoom number old answer = IfFile (NumberTellsRoom (job_of number old.jobs) old.volume) answer

abbrev pub EntryTellsRoom : Entry → SessionView → Answer → Type 0
EntryTellsRoom (entry.Files (files.Store name text)) old answer = StoreTellsRoom name text old answer
EntryTellsRoom (entry.Jobs (job.Turn number)) old answer = TurnTellsRoom number old answer
EntryTellsRoom entry old answer = Unit {0}
