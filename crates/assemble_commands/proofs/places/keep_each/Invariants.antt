use Rattle.std.proofs.Common.{Result, List, length, map}
use Rattle.hosts.specs.Event.{Event}
use Rattle.outcome.specs.declared.endings.Ending.{Ending}
use Rattle.assemble_commands.specs.Places.{AreApart}
use Rattle.assemble_commands.proofs.places.keep_each.Given as goal

-- what comes of the sources that are left is what comes of all
abbrev pub invariant-loop-rest : goal.invariant-loop-rest
invariant-loop-rest g l = (result : Result (Unit {0}) Ending) (new : List Event)
    → AreApart l.fn.content l.fn.place (map (λ name. name.bytes.items) l.rest) (g.H.Host.history l.host) result new
    → AreApart l.fn.content l.fn.place (map (λ name. name.bytes.items) l.fn.sources) (g.H.Host.history l.fn.host) result new

abbrev pub decreases-loop-rest : goal.decreases-loop-rest
decreases-loop-rest g l = length l.rest
