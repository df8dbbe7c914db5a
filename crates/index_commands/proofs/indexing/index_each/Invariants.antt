use Rattle.std.proofs.Common.{◌≡◌, ◌+◌, false, Result, List, [], length, map}
use Rattle.hosts.specs.Event.{Event}
use Rattle.outcome.specs.declared.endings.Ending.{Ending}
use Rattle.index_commands.specs.Indexing.{IndexesImages}
use Rattle.index_commands.specs.declared.found.Found.{Found}
use Rattle.index_commands.proofs.indexing.index_each.Given as goal

-- what comes of the images that are left is what comes of all
abbrev pub invariant-loop-rest : goal.invariant-loop-rest
invariant-loop-rest g l = record {
  told : l.progress.is_told ≡ l.fn.progress.is_told;
  all : l.progress.all ≡ l.fn.progress.all;
  count : l.done + length l.rest ≡ length l.fn.images;
  goes_on : (result : Result Found Ending) (new : List Event)
      → IndexesImages l.fn.columns l.fn.style l.fn.reading l.progress.is_told l.done l.progress.all (map (λ image. image.bytes.items) l.rest) l.found.is_refused l.found.lines.items (g.H.Host.history l.host) result new
      → IndexesImages l.fn.columns l.fn.style l.fn.reading l.fn.progress.is_told 0 l.fn.progress.all (map (λ image. image.bytes.items) l.fn.images) false [] (g.H.Host.history l.fn.host) result new;
}

abbrev pub decreases-loop-rest : goal.decreases-loop-rest
decreases-loop-rest g l = length l.rest
