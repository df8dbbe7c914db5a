use Rattle.std.proofs.Common.{◌≡◌, ◌≤◌, ◌-◌, ◌*◌, List, length}
use Rattle.hosts.specs.Event.{Event}
use Rattle.script_commands.specs.Scripts.{OpensFor}
use Rattle.image_files.specs.Waiting.{AreBusy}
use Rattle.image_files.specs.declared.waiting.TheConstants.{TRIES}
use Rattle.program.proofs.changes.open_within.Given as goal

-- each try so far found that another program holds the image
abbrev pub invariant-loop-tries : goal.invariant-loop-tries
invariant-loop-tries g l = record {
  most : l.most ≡ TRIES * l.fn.image.wait;
  few : l.tries ≤ l.most;
  busy : (tries : List (List Event)) × AreBusy (OpensFor l.fn.saving l.fn.image) tries (g.H.Host.history l.fn.host) (g.H.Host.history l.host) × (length tries ≡ l.tries);
}

abbrev pub decreases-loop-tries : goal.decreases-loop-tries
decreases-loop-tries g l = l.most - l.tries
