use Rattle.std.proofs.Common.{◌-◌, ◌<◌, ◌≤◌}
use Rattle.block_scan.specs.Programs.{Heads}
use Rattle.block_scan.proofs.programs.fewest_blocks.Given as goal

abbrev pub invariant-loop-low : goal.invariant-loop-low
invariant-loop-low l = record {
  none : 0 < l.low → Heads l.fn.kind l.fn.words l.fn.frames l.low → ⊥;
  heads : Heads l.fn.kind l.fn.words l.fn.frames l.high;
  order : l.low < l.high;
  inside : l.high ≤ l.fn.count;
}

abbrev pub decreases-loop-low : goal.decreases-loop-low
decreases-loop-low l = l.high - l.low
