-- What the calls of a host mean for its streams, and for what was asked of it.
use Rattle.std.specs.Prelude.{ℕ, zero, suc, ◌+◌, Bool, true, false, List, [], ◌∷◌, ◌++◌}
use Rattle.hosts.specs.Event.{Event, Call, Alter, OwnBeside, WriteBeside, SyncBeside, DropBeside, DateBeside, Rename, LinkNew, DropClaim, SyncFolder, Look, TakeInput, Alone, Leads, LockBeside, There, Free, MakeFolder, Print, Tell, Terminal, Same}
use Rattle.hosts.specs.Faults.{fault_number, step_number}
use Rattle.hosts.specs.Place.{Step, about}
use Rattle.hosts.specs.declared.faults.HostFault.TheVariants as host

abbrev pub with_printed : Call → Event → List (Bool × List ℕ) → List (Bool × List ℕ)
with_printed Print e before = (e.ok, e.bytes) ∷ before
with_printed _ e before = before

-- what was written to standard output, the newest first, and whether all of it was
abbrev pub output : List Event → List (Bool × List ℕ)
output [] = []
output (e ∷ earlier) = with_printed e.call e (output earlier)

abbrev pub with_told : Call → Event → List (Bool × List ℕ) → List (Bool × List ℕ)
with_told Tell e before = (e.ok, e.bytes) ∷ before
with_told _ e before = before

-- what was written to standard error, the newest first, and whether all of it was
abbrev pub errors : List Event → List (Bool × List ℕ)
errors [] = []
errors (e ∷ earlier) = with_told e.call e (errors earlier)

abbrev pub with_before_told : Call → List Event → List Event → List Event
with_before_told Tell earlier before = earlier
with_before_told _ earlier before = before

-- the calls before the newest text on standard error
abbrev pub before_told : List Event → List Event
before_told [] = []
before_told (e ∷ earlier) = with_before_told e.call earlier (before_told earlier)

abbrev pub with_text : Call → Bool → List ℕ → List ℕ → List ℕ
with_text Print true bytes before = before ++ bytes
with_text Print false bytes before = before
with_text _ ok bytes before = before

-- the bytes that standard output was given, by the calls that succeeded
abbrev pub output_text : List Event → List ℕ
output_text [] = []
output_text (e ∷ earlier) = with_text e.call e.ok e.bytes (output_text earlier)

abbrev pub with_read : Call → Event → List Event → List Event
with_read Look e before = e ∷ before
with_read TakeInput e before = e ∷ before
with_read Same e before = e ∷ before
with_read _ e before = before

-- the calls by which files and standard input were read, and by which it was asked whether two names lead to one file, the newest first
abbrev pub read : List Event → List Event
read [] = []
read (e ∷ earlier) = with_read e.call e (read earlier)

abbrev pub with_folder : Call → Event → List (Bool × List ℕ) → List (Bool × List ℕ)
with_folder MakeFolder e before = (e.ok, e.name) ∷ before
with_folder _ e before = before

-- the names of the folders that were to be made, the newest first, and whether each was
abbrev pub folders : List Event → List (Bool × List ℕ)
folders [] = []
folders (e ∷ earlier) = with_folder e.call e (folders earlier)

-- the changes of the file of a path and of the one beside it, and those folders
abbrev pub changes_at : List ℕ → List Event → List Step × List (Bool × List ℕ)
changes_at path events = (about path events, folders events)

-- a call that failed, or that answered that a path no longer leads to the held file; another answer to a question is no failure
abbrev pub with_failure : Call → Bool → ℕ → ℕ
with_failure There ok before = before
with_failure Terminal ok before = before
with_failure _ true before = before
with_failure _ false before = before + 1

-- how many calls failed
abbrev pub failures : List Event → ℕ
failures [] = 0
failures (e ∷ earlier) = with_failure e.call e.ok (failures earlier)

abbrev pub with_freed : Call → List ℕ → List ℕ → List ℕ
with_freed Free path before = path
with_freed _ path before = before

-- the path that the host gave last for a name that no file has
abbrev pub path_of_name : List Event → List ℕ
path_of_name [] = []
path_of_name (e ∷ earlier) = with_freed e.call e.bytes (path_of_name earlier)

abbrev pub with_asked : Call → List ℕ → List ℕ → List ℕ
with_asked Free name before = name
with_asked _ name before = before

-- the name of which the host was asked last for such a path
abbrev pub asked_name : List Event → List ℕ
asked_name [] = []
asked_name (e ∷ earlier) = with_asked e.call e.name (asked_name earlier)

-- an answer stands until it is asked again, or a rename shows that the path is a mount's; where the host doesn't know, nothing is written
abbrev pub with_alone : Call → Bool → ℕ → Bool → Bool
with_alone Alone true (suc zero) before = true
with_alone Alone true zero before = false
with_alone Alone false number before = true
with_alone (Alter Rename) false zero before = false
with_alone _ ok number before = before

-- whether, as the host said last, a new file may take the path with nothing lost
abbrev pub may_replace : List Event → Bool
may_replace [] = true
may_replace (e ∷ earlier) = with_alone e.call e.ok e.number (may_replace earlier)

abbrev pub with_links : Call → Bool → ℕ → Bool → Bool
with_links (Alter LinkNew) true number before = true
with_links (Alter LinkNew) false (suc zero) before = false
with_links (Alter LinkNew) false number before = true
with_links _ ok number before = before

-- whether, as the host said last, the file system has further names for a file
abbrev pub has_links : List Event → Bool
has_links [] = true
has_links (e ∷ earlier) = with_links e.call e.ok e.number (has_links earlier)

-- A call that failed says why. Where a file has the path, by which another program made it meanwhile, that is busy, and so is a held file
-- whose path leads elsewhere. A path that is a mount's, and a file system without further names, are no reasons. A call that takes away the
-- file beside it, or the empty one of the path, or that gives a time, says nothing.
abbrev pub with_fault : Call → Bool → ℕ → ℕ → ℕ
with_fault There true number before = fault_number host.Busy
with_fault There false number before = before
with_fault Terminal ok number before = before
with_fault Print ok number before = before
with_fault Tell ok number before = before
with_fault Leads true number before = before
with_fault Leads false number before = fault_number host.Busy
with_fault (Alter DropBeside) ok number before = before
with_fault (Alter DropClaim) ok number before = before
with_fault (Alter DateBeside) ok number before = before
with_fault (Alter SyncFolder) ok number before = before
with_fault (Alter LinkNew) false zero before = fault_number host.Busy
with_fault (Alter LinkNew) false (suc zero) before = fault_number host.Failed
with_fault (Alter LinkNew) false (suc (suc number)) before = step_number number
with_fault (Alter Rename) false zero before = fault_number host.Failed
with_fault (Alter Rename) false (suc number) before = step_number number
with_fault (Alter OwnBeside) false number before = step_number number
with_fault (Alter WriteBeside) false number before = step_number number
with_fault (Alter SyncBeside) false number before = step_number number
with_fault LockBeside false number before = step_number number
with_fault _ true number before = before
with_fault _ false number before = number

-- why the newest call that failed did
abbrev pub last_fault : List Event → ℕ
last_fault [] = 0
last_fault (e ∷ earlier) = with_fault e.call e.ok e.number (last_fault earlier)
