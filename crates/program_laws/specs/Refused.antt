-- What words ask for that ask for no task.
use Rattle.std.specs.Prelude.{Bool, false}
use Rattle.clap.specs.Words.{kind_of}
use Rattle.command_refusals.specs.declared.faults.TaskFault.{TaskFault}
use Rattle.command_refusals.specs.declared.faults.TaskFault.TheVariants.{Words, Memory, Refused}
use Rattle.program.specs.Words.{is_request}

-- help or the version is asked for
abbrev pub asks_help : TaskFault → Bool
asks_help Memory = false
asks_help (Words error) = is_request (kind_of error)
asks_help (Refused usage refusal) = false
