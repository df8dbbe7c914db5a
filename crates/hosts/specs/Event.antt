-- The calls of a host, each with its answer.
use Rattle.std.specs.Prelude.{ℕ, Bool, true, false, Option, None, Some, List, [], if◌then◌else◌}
use Rattle.std.specs.Global.{Vec}
use Rattle.hosts.specs.declared.faults.HostFault.{HostFault}
use Rattle.hosts.specs.Faults.{fault_number}

-- what may change the file of a path, or the one beside it
pub data Change : Type 0 where
  -- a new file was made beside it, got its owner and its mode, was written, was brought to the disk, was taken away
  MakeBeside : Change
  OwnBeside : Change
  WriteBeside : Change
  SyncBeside : Change
  DropBeside : Change
  -- it got a time at which it was last changed
  DateBeside : Change
  -- the file beside it took the path, in place of any file there; or a path that no file had
  Rename : Change
  LinkNew : Change
  -- an empty file took a path that no file had; it was taken away again
  Claim : Change
  DropClaim : Change
  -- the names of its folder were brought to the disk
  SyncFolder : Change
  -- the file was written in its place, from a byte on; it was cut there, and brought to the disk
  WriteOver : Change
  FinishOver : Change

-- what a program asks of its host
pub data Call : Type 0 where
  Alter : (change : Change) → Call
  -- where a name leads; a path is held; further names of the file are taken away
  Resolve : Call
  Hold : Call
  DropSeconds : Call
  -- what a file holds, and what standard input gives
  Look : Call
  TakeInput : Call
  -- whether a new file may take the path, and whether the path still leads to the file that is held
  Alone : Call
  Leads : Call
  LockBeside : Call
  -- the path that a name leads to, which no file has; whether a name is there; a folder is made
  Free : Call
  There : Call
  MakeFolder : Call
  -- the streams
  Print : Call
  Tell : Call
  Terminal : Call
  -- how many seconds have passed, and the time between two tries
  Seconds : Call
  Pause : Call
  -- a word of the command line, and that there are no more
  Word : Call
  EndOfWords : Call
  -- when a file was last changed
  TimeOf : Call
  -- whether two names lead to one file, or to one path that no file has
  Same : Call
  -- files beside a path are taken away, of writers that were ended
  DropLeftovers : Call

-- which call, whether it succeeded, the name or path that it is about, bytes, and a number
pub record Event : Type 0 where
  pub call : Call
  pub ok : Bool
  pub name : List ℕ
  pub bytes : List ℕ
  pub number : ℕ

abbrev pub number_of : Bool → ℕ
number_of is = if is then 1 else 0

abbrev pub event_at : Call → List ℕ → Bool → List ℕ → Event
event_at call name ok bytes = record { call = call; ok = ok; name = name; bytes = bytes; number = 0 }

abbrev pub event_of_number : Call → List ℕ → Bool → ℕ → List ℕ → Event
event_of_number call name ok number bytes = record { call = call; ok = ok; name = name; bytes = bytes; number = number }

-- a call failed, and `number` is why; what it was to write is not noted
abbrev pub failed_call : Call → List ℕ → HostFault → Event
failed_call call name fault = event_of_number call name false (fault_number fault) []

-- a name led to a path
abbrev pub resolve_call : List ℕ → List ℕ → Event
resolve_call name path = event_at Resolve name true path

-- the file of a path was held, so no other program writes it, and `has_lock` is 1 where its file system has locks
abbrev pub hold_call : List ℕ → Bool → Event
hold_call path has_lock = event_of_number Hold path true (number_of has_lock) []

abbrev pub drop_seconds_call : List ℕ → Event
drop_seconds_call path = event_at DropSeconds path true []

-- so many files were taken away that writers of the file of a name had left beside it
abbrev pub leftovers_call : List ℕ → ℕ → Event
leftovers_call name count = event_of_number DropLeftovers name true count []

-- a file was read, and held these bytes, or began with them where they are one more than the most that were asked for
abbrev pub look_call : List ℕ → List ℕ → Event
look_call name bytes = event_at Look name true bytes

-- standard input was read, and gave these bytes, or began with them where they are one more than the most that were asked for
abbrev pub input_call : List ℕ → Event
input_call bytes = event_at TakeInput [] true bytes

-- it was asked whether a new file may take the path with nothing lost, and `number` is the answer
abbrev pub alone_call : List ℕ → Bool → Event
alone_call path is = event_of_number Alone path true (number_of is) []

-- it was asked whether the path still leads to the file that is held, and this was the answer
abbrev pub leads_call : List ℕ → Bool → Event
leads_call path is = event_at Leads path is []

-- it was asked whether two names lead to one file, or to one path that no file has, and `number_of` this was the answer
abbrev pub same_call : List ℕ → List ℕ → Bool → Event
same_call one other is = event_of_number Same one true (number_of is) other

-- the same question failed, and `number` is why
abbrev pub failed_same : List ℕ → List ℕ → HostFault → Event
failed_same one other fault = event_of_number Same one false (fault_number fault) other

abbrev pub make_call : List ℕ → Event
make_call path = event_at (Alter MakeBeside) path true []

abbrev pub own_call : List ℕ → Event
own_call path = event_at (Alter OwnBeside) path true []

abbrev pub lock_call : List ℕ → Event
lock_call path = event_at LockBeside path true []

abbrev pub write_call : List ℕ → List ℕ → Event
write_call path bytes = event_at (Alter WriteBeside) path true bytes

abbrev pub sync_call : List ℕ → Event
sync_call path = event_at (Alter SyncBeside) path true []

-- the file beside a path was given a time of change, in seconds after the begin of 1970 in UTC
abbrev pub date_call : List ℕ → Bool → ℕ → Event
date_call path ok seconds = event_of_number (Alter DateBeside) path ok seconds []

-- `number` is why it failed, where it did
abbrev pub drop_call : List ℕ → Bool → ℕ → Event
drop_call path ok number = event_of_number (Alter DropBeside) path ok number []

-- a call that failed has its fault's number, by `rename_number`
abbrev pub rename_call : List ℕ → Bool → ℕ → Event
rename_call path ok number = event_of_number (Alter Rename) path ok number []

-- the same by `link_number`
abbrev pub link_call : List ℕ → Bool → ℕ → Event
link_call path ok number = event_of_number (Alter LinkNew) path ok number []

abbrev pub claim_call : List ℕ → Event
claim_call path = event_at (Alter Claim) path true []

abbrev pub drop_claim_call : List ℕ → Event
drop_claim_call path = event_at (Alter DropClaim) path true []

abbrev pub sync_folder_call : List ℕ → Event
sync_folder_call path = event_at (Alter SyncFolder) path true []

abbrev pub write_over_call : List ℕ → ℕ → List ℕ → Event
write_over_call path at bytes = event_of_number (Alter WriteOver) path true at bytes

abbrev pub finish_over_call : List ℕ → ℕ → Event
finish_over_call path size = event_of_number (Alter FinishOver) path true size []

-- a name led to a path that no file has
abbrev pub free_call : List ℕ → List ℕ → Event
free_call name path = event_at Free name true path

abbrev pub there_call : List ℕ → Bool → Event
there_call name is = event_at There name is []

abbrev pub folder_call : List ℕ → Event
folder_call name = event_at MakeFolder name true []

-- these bytes were written to standard output; `is_abandoned` is 1 where that is a pipe which nobody reads any more
abbrev pub print_call : Bool → ℕ → List ℕ → Event
print_call ok is_abandoned bytes = event_of_number Print [] ok is_abandoned bytes

-- these bytes were written to standard error
abbrev pub tell_call : Bool → List ℕ → Event
tell_call ok bytes = event_at Tell [] ok bytes

-- it was asked whether standard input, 0, standard output, 1, or standard error, 2, is a terminal, and this was the answer
abbrev pub terminal_call : Bool → ℕ → Event
terminal_call is stream = event_of_number Terminal [] is stream []

-- it was asked how many seconds have passed since the first such call, and this was the answer
abbrev pub seconds_call : ℕ → Event
seconds_call passed = event_of_number Seconds [] true passed []

-- the time between two tries passed
abbrev pub pause_call : Event
pause_call = event_at Pause [] true []

-- the word of the command line at a place was asked for, and has these bytes; or there is none, and none after it
abbrev pub word_call : ℕ → Option (Vec ℕ) → Event
word_call place (Some word) = event_of_number Word [] true place word.items
word_call place None = event_of_number EndOfWords [] true place []

-- it was asked when a file was last changed, in seconds after the begin of 1970 in UTC, and this was the answer
abbrev pub time_call : List ℕ → ℕ → Event
time_call name seconds = event_of_number TimeOf name true seconds []
