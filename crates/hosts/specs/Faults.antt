-- The numbers of faults and streams in the history.
use Rattle.std.specs.Prelude.{◌≡◌, ℕ, zero, suc}
use Rattle.hosts.specs.declared.faults.HostFault.{HostFault}
use Rattle.hosts.specs.declared.faults.HostFault.TheVariants as host
use Rattle.hosts.specs.declared.faults.FaultClass.{FaultClass}
use Rattle.hosts.specs.declared.faults.FaultClass.TheVariants as class
use Rattle.hosts.specs.declared.faults.RenameFault.{RenameFault}
use Rattle.hosts.specs.declared.faults.RenameFault.TheVariants as rename
use Rattle.hosts.specs.declared.faults.LinkFault.{LinkFault}
use Rattle.hosts.specs.declared.faults.LinkFault.TheVariants as link
use Rattle.hosts.specs.declared.faults.PrintFault.{PrintFault}
use Rattle.hosts.specs.declared.faults.PrintFault.TheVariants as print
use Rattle.hosts.specs.declared.faults.Stream.{Stream}
use Rattle.hosts.specs.declared.faults.Stream.TheVariants as stream

-- why a call failed
abbrev pub fault_number : HostFault → ℕ
fault_number host.Failed = 0
fault_number host.Busy = 1
fault_number host.Memory = 2
fault_number host.Absent = 3
fault_number host.Denied = 4
fault_number host.ReadOnly = 5
fault_number host.Folder = 6
fault_number host.NoFolder = 7
fault_number host.Full = 8
fault_number host.Links = 9
fault_number host.Large = 10
fault_number host.Changed = 11
fault_number host.Pipe = 12
fault_number host.Owner = 13

-- What a fault is to a command: the file is busy, memory is wanted, or it is any other.
abbrev pub class_of : HostFault → FaultClass
class_of host.Busy = class.Busy
class_of host.Memory = class.Memory
class_of host.Absent = class.Other
class_of host.Denied = class.Other
class_of host.ReadOnly = class.Other
class_of host.Folder = class.Other
class_of host.NoFolder = class.Other
class_of host.Full = class.Other
class_of host.Links = class.Other
class_of host.Large = class.Other
class_of host.Changed = class.Other
class_of host.Pipe = class.Other
class_of host.Owner = class.Other
class_of host.Failed = class.Other

-- The fault of a step by which a new file is made. That a file is busy, or memory is wanted, is said of other calls alone: here it is only
-- known that the step failed.
abbrev pub step_number : ℕ → ℕ
step_number (suc zero) = 0
step_number (suc (suc zero)) = 0
step_number number = number

-- 0 where the path is a mount's, else one more than the fault's number
abbrev pub rename_number : RenameFault → ℕ
rename_number rename.Mount = 0
rename_number (rename.Failed fault) = suc (fault_number fault)

-- a call failed by this number, where the fault has a reason
abbrev pub IsWhy : RenameFault → ℕ → Type 0
IsWhy rename.Mount number = Unit {0}
IsWhy (rename.Failed fault) number = fault_number fault ≡ number

-- 0 where a file has the path, 1 where the file system has no further names, else two more than the fault's number
abbrev pub link_number : LinkFault → ℕ
link_number link.Exists = 0
link_number link.NoLinks = 1
link_number (link.Failed fault) = suc (suc (fault_number fault))

-- 1 where nobody reads the pipe any more
abbrev pub pipe_number : PrintFault → ℕ
pipe_number print.Abandoned = 1
pipe_number print.Failed = 0

abbrev pub stream_number : Stream → ℕ
stream_number stream.Input = 0
stream_number stream.Output = 1
stream_number stream.Errors = 2
