use Rattle.std.proofs.Common.{[], Result, List, length, map, option_copied}
use Rattle.std.specs.Global.{Vec}
use Rattle.std.specs.Prelude.{ℕ}
use Rattle.hosts.specs.Event.{Event}
use Rattle.outcome.specs.declared.endings.Ending.{Ending}
use Rattle.assemble_commands.specs.Sources.{ReadsEach}
use Rattle.assemble_commands.proofs.sources.read_sources.Given as goal

-- what becomes of the names that are left becomes of all
abbrev pub invariant-loop-rest : goal.invariant-loop-rest
invariant-loop-rest g l = (result : Result (Vec (Vec ℕ)) Ending) (new : List Event) → ReadsEach (option_copied l.fn.volume) l.texts.items (map (λ name. name.bytes.items) l.rest) (g.H.Host.history l.host) result new
    → ReadsEach (option_copied l.fn.volume) [] (map (λ name. name.bytes.items) l.fn.names) (g.H.Host.history l.fn.host) result new

abbrev pub decreases-loop-rest : goal.decreases-loop-rest
decreases-loop-rest g l = length l.rest
