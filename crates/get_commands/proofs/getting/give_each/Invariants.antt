use Rattle.std.proofs.Common.{◌≡◌, ◌+◌, ◌≤◌, Bool, true, Result, List, length}
use Rattle.hosts.specs.Event.{Event}
use Rattle.outcome.specs.declared.endings.Ending.{Ending}
use Rattle.get_commands.specs.GettingMany.{GivesEach}
use Rattle.get_commands.proofs.getting.give_each.Given as goal

-- what becomes of what is left becomes of all
abbrev pub invariant-loop-rest : goal.invariant-loop-rest
invariant-loop-rest g l = record {
  told : l.progress.is_told ≡ l.fn.progress.is_told;
  all : l.progress.all ≡ l.fn.progress.all;
  count : l.done + length l.rest ≤ length l.fn.wishes;
  goes_on : (result : Result Bool Ending) (new : List Event) → GivesEach l.fn.form l.fn.volume l.progress.is_told l.progress.all l.done l.are_there l.rest (g.H.Host.history l.host) result new
      → GivesEach l.fn.form l.fn.volume l.fn.progress.is_told l.fn.progress.all 0 true l.fn.wishes (g.H.Host.history l.fn.host) result new;
}

abbrev pub decreases-loop-rest : goal.decreases-loop-rest
decreases-loop-rest g l = length l.rest
