use Rattle.std.proofs.Common.{Result, List, length, map}
use Rattle.hosts.specs.Event.{Event}
use Rattle.outcome.specs.declared.endings.Ending.{Ending}
use Rattle.show_commands.specs.Checking.{DropsEach}
use Rattle.show_commands.proofs.leftovers.drop_each.Given as goal

-- what becomes of the files that are left becomes of all
abbrev pub invariant-loop-rest : goal.invariant-loop-rest
invariant-loop-rest g l = (result : Result (Unit {0}) Ending) (new : List Event) → DropsEach l.fn.form (map (λ file. file.bytes.items) l.rest) (g.H.Host.history l.host) result new
    → DropsEach l.fn.form (map (λ file. file.bytes.items) l.fn.files) (g.H.Host.history l.fn.host) result new

abbrev pub decreases-loop-rest : goal.decreases-loop-rest
decreases-loop-rest g l = length l.rest
