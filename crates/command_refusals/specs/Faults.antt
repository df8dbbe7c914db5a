-- Why a command line asks for nothing.
use Rattle.std.specs.Prelude.{◌≡◌, ◌≢◌, ⊤, List, Option, None, Some}
use Rattle.clap.specs.Words.{Row, Text, kind_of}
use Rattle.clap.specs.declared.error.Error.{Error}
use Rattle.clap.specs.declared.error.kind.ErrorKind.TheVariants.{OutOfMemory}
use Rattle.command_refusals.specs.declared.faults.TaskFault.{TaskFault}
use Rattle.command_refusals.specs.declared.faults.TaskFault.TheVariants.{Words, Memory, Refused}
use Rattle.command_refusals.specs.declared.reasons.Refusal.{Refusal}
use Rattle.command_refusals.specs.Refusals.{refusal_of, saying_of}
use Rattle.command_table.specs.Tables.{Entry}
use Rattle.command_refusals.specs.declared.faults.TaskFault.TheVariants as fault

-- an error of `clap` as a fault: its want of memory is the program's
abbrev pub IsFaultOf : Error → TaskFault → Type 0
IsFaultOf error (Words same) = (same ≡ error) × (kind_of error ≢ OutOfMemory)
IsFaultOf error Memory = kind_of error ≡ OutOfMemory
IsFaultOf error (Refused line refusal) = ⊥

-- its arguments are refused for this, with the line on its usage
abbrev pub RefusesOf : Option Entry → List Row → Text → Refusal → Type 0
RefusesOf None values line refusal = ⊥
RefusesOf (Some entry) values line refusal = (line ≡ entry.usage) × (refusal_of entry.verb values ≡ Some (saying_of refusal))

-- the arguments of a subcommand are refused
abbrev pub IsRefusedBy : Entry → List Row → TaskFault → Type 0
IsRefusedBy entry values (fault.Words error) = ⊥
IsRefusedBy entry values fault.Memory = ⊤
IsRefusedBy entry values (fault.Refused line refusal) = RefusesOf (Some entry) values line.now refusal
