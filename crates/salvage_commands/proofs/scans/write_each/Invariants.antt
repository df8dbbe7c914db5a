use Rattle.std.proofs.Common.{Result, List, length}
use Rattle.hosts.specs.Event.{Event}
use Rattle.outcome.specs.declared.endings.Ending.{Ending}
use Rattle.salvage_commands.specs.ScanningBlocks.{WritesEach}
use Rattle.salvage_commands.proofs.scans.write_each.Given as goal

-- what comes of the pieces that are left is what comes of all
abbrev pub invariant-loop-rest : goal.invariant-loop-rest
invariant-loop-rest g l = (result : Result (Unit {0}) Ending) (new : List Event)
    → WritesEach l.fn.folder l.fn.image l.fn.scan l.rest (g.H.Host.history l.host) result new
    → WritesEach l.fn.folder l.fn.image l.fn.scan l.fn.scan.pieces.items (g.H.Host.history l.fn.host) result new

abbrev pub decreases-loop-rest : goal.decreases-loop-rest
decreases-loop-rest g l = length l.rest
