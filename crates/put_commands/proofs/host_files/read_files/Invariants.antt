use Rattle.std.proofs.Common.{[], Result, List, length, map}
use Rattle.std.specs.Global.{Vec}
use Rattle.hosts.specs.Event.{Event}
use Rattle.outcome.specs.declared.endings.Ending.{Ending}
use Rattle.archive_many.specs.declared.putting.NewFile.{NewFile}
use Rattle.put_commands.specs.Putting.{ReadsEach}
use Rattle.put_commands.specs.NameSteps.{KnowsNames}
use Rattle.put_commands.proofs.host_files.read_files.Given as goal

-- what becomes of the paths that are left becomes of all
abbrev pub invariant-loop-rest : goal.invariant-loop-rest
invariant-loop-rest g l = record {
  known : KnowsNames l.names l.files.items;
  goes_on : (result : Result (Vec NewFile) Ending) (new : List Event) → ReadsEach l.fn.form l.files.items (map (λ path. path.bytes.items) l.rest) (g.H.Host.history l.host) result new
      → ReadsEach l.fn.form [] (map (λ path. path.bytes.items) l.fn.form.files.items) (g.H.Host.history l.fn.host) result new;
}

abbrev pub decreases-loop-rest : goal.decreases-loop-rest
decreases-loop-rest g l = length l.rest
