-- Why a file of the host is not read, or not written, as a note on standard error says it (this project's profile).
use Rattle.std.specs.Prelude.{ℕ, codes, List, ◌++◌}
use Rattle.shown_text.specs.Showing.{shown_text}
use Rattle.hosts.specs.declared.faults.HostFault.{HostFault}
use Rattle.hosts.specs.declared.faults.HostFault.TheVariants as host
use Rattle.outcome.specs.declared.reasons.Reason.{Reason}
use Rattle.outcome.specs.declared.reasons.Reason.TheVariants as reason

-- a call of the host failed
abbrev pub fault_words : HostFault → List ℕ
fault_words host.Failed = codes "input/output error"
fault_words host.Busy = codes "another program works on it"
fault_words host.Memory = codes "no memory is left"
fault_words host.Absent = codes "no such file"
fault_words host.Denied = codes "permission denied"
fault_words host.ReadOnly = codes "read-only file system"
fault_words host.Folder = codes "is a folder"
fault_words host.NoFolder = codes "a part of its path is no folder"
fault_words host.Full = codes "no space left"
fault_words host.Links = codes "too many links"
fault_words host.Large = codes "larger than the file system takes"
fault_words host.Changed = codes "changed while it was read"
fault_words host.Pipe = codes "is a pipe"
fault_words host.Owner = codes "its owner can't be kept"

-- a file is there that is to stay, or it has no room
abbrev pub reason_words : Reason → List ℕ
reason_words (reason.Fault fault) = fault_words fault
reason_words reason.Exists = codes "a file of that name is there"
reason_words reason.NoRoom = codes "no room for an image of another size"

-- the note on the file of a name
abbrev pub reason_text : Reason → List ℕ → List ℕ
reason_text why name = codes "note: " ++ shown_text name ++ codes ": " ++ reason_words why ++ codes "\n"

-- the note without the name, for which no memory is left
abbrev pub bare_text : Reason → List ℕ
bare_text why = codes "note: " ++ reason_words why ++ codes "\n"
