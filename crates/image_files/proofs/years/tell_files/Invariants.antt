use Rattle.std.proofs.Common.{Result, List, length}
use Rattle.hosts.specs.Event.{Event}
use Rattle.outcome.specs.declared.endings.Ending.{Ending}
use Rattle.image_files.specs.Years.{TellsFiles}
use Rattle.image_files.proofs.years.tell_files.Given as goal

-- what is printed of the files that are left is printed of all
abbrev pub invariant-loop-rest : goal.invariant-loop-rest
invariant-loop-rest g l = (result : Result (Unit {0}) Ending) (new : List Event) → TellsFiles l.fn.last l.rest (g.H.Host.history l.host) result new → TellsFiles l.fn.last l.fn.files (g.H.Host.history l.fn.host) result new

abbrev pub decreases-loop-rest : goal.decreases-loop-rest
decreases-loop-rest g l = length l.rest
