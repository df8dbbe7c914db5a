-- How a command ends where its output fails (this project's profile). No contract of a public function cites these.
use Rattle.hosts.specs.declared.faults.PrintFault.{PrintFault}
use Rattle.hosts.specs.declared.faults.PrintFault.TheVariants as print
use Rattle.outcome.specs.declared.endings.Ending.{Ending}
use Rattle.outcome.specs.declared.endings.Ending.TheVariants as ending

-- nobody reads the pipe that standard output is, or it takes no more
abbrev pub ending_of_print : PrintFault → Ending
ending_of_print print.Abandoned = ending.NoReader
ending_of_print print.Failed = ending.FullOutput
