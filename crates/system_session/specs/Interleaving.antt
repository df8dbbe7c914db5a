-- What an entry leaves alone that jobs rest on between their turns: the blocks that it reads, and the places of files.
use Rattle.std.specs.Prelude.{◌≡◌, ℕ, Option, Some, None, List}
use Rattle.os8_dir.specs.Names.{parsed_name}
use Rattle.os8_files.specs.Laws.{KeepsPlaces, KeepsOtherPlaces}
use Rattle.os8_files.specs.Mounted.{MountState}
use Rattle.volume_jobs.specs.Calls.{ReadsFew, MovesFew}
use Rattle.volume_jobs.specs.Jobs.{Job, job_of}
use Rattle.script8.specs.Replies.{job_of_entry, job_of_turn}
use Rattle.script8.specs.declared.entries.Entry.{Entry}
use Rattle.script8.specs.declared.entries.Entry.TheVariants as entry
use Rattle.script8.specs.declared.entries.FileEntry.{FileEntry}
use Rattle.script8.specs.declared.entries.FileEntry.TheVariants as files
use Rattle.system_session.specs.Session.{SessionView}

-- ## Reads

-- what the turn of a job, where there is one, may read of the store
abbrev pub TurnReads : Option Job → MountState → MountState → Type 0
TurnReads None old new = new.reads ≡ old.reads
TurnReads (Some it) old new = ReadsFew it.work old new

-- the job of a turn, where there is one
abbrev pub job_taking : Option ℕ → List (Option Job) → Option Job
job_taking None them = None
job_taking (Some number) them = job_of number them

-- an entry that gives no turn reads no block
abbrev pub EntryReads : Entry → SessionView → SessionView → Type 0
EntryReads entry old new = TurnReads (job_taking (job_of_entry entry) old.jobs) old.volume new.volume

-- ## Places

-- the places of all files stay, but for that of a name
abbrev pub KeepsPlacesBut : Option ℕ → MountState → MountState → Type 0
KeepsPlacesBut None old new = KeepsPlaces old new
KeepsPlacesBut (Some name) old new = KeepsOtherPlaces name old new

-- which places the turn of a job may change
abbrev pub TurnPlaces : Option Job → MountState → MountState → Type 0
TurnPlaces None old new = KeepsPlaces old new
TurnPlaces (Some it) old new = MovesFew it.work old new

-- an entry of files changes the place of the file alone that it stores or deletes
abbrev pub FilesPlaces : FileEntry → MountState → MountState → Type 0
FilesPlaces (files.Store name text) old new = KeepsPlacesBut (parsed_name name) old new
FilesPlaces (files.Delete name) old new = KeepsPlacesBut (parsed_name name) old new
FilesPlaces files.Direct old new = KeepsPlaces old new

-- and of the others a turn alone changes places
abbrev pub EntryPlaces : Entry → SessionView → SessionView → Type 0
EntryPlaces (entry.Files it) old new = FilesPlaces it old.volume new.volume
EntryPlaces (entry.Jobs it) old new = TurnPlaces (job_taking (job_of_turn it) old.jobs) old.volume new.volume
EntryPlaces (entry.Console it) old new = KeepsPlaces old.volume new.volume
