use Rattle.std.proofs.Common.{Bool, true, Result, List, length, map}
use Rattle.hosts.specs.Event.{Event}
use Rattle.outcome.specs.declared.endings.Ending.{Ending}
use Rattle.get_commands.specs.Texts.{ShowsEach}
use Rattle.get_commands.proofs.texts.show_each.Given as goal

-- what becomes of what is left becomes of all
abbrev pub invariant-loop-rest : goal.invariant-loop-rest
invariant-loop-rest g l = (result : Result Bool Ending) (new : List Event)
    → ShowsEach l.are_several l.is_first l.are_there l.volume (map (λ word. word.bytes.items) l.words) l.rest (g.H.Host.history l.host) result new
    → ShowsEach l.are_several true true l.volume (map (λ word. word.bytes.items) l.words) l.fn.wishes (g.H.Host.history l.fn.host) result new

abbrev pub decreases-loop-rest : goal.decreases-loop-rest
decreases-loop-rest g l = length l.rest
