use Rattle.std.proofs.Common.{◌-◌, ◌≤◌, ◌++◌, List}
use Rattle.block_scan.specs.Programs.{AreProgramsFrom}
use Rattle.block_scan.specs.declared.programs.Program.{Program}
use Rattle.block_scan.proofs.programs.programs_of.Given as goal

abbrev pub invariant-loop-block : goal.invariant-loop-block
invariant-loop-block l = record {
  are : (more : List Program) → AreProgramsFrom l.fn.words l.fn.count l.block more → AreProgramsFrom l.fn.words l.fn.count 0 (l.programs.items ++ more);
  inside : l.block ≤ l.fn.count;
}

abbrev pub decreases-loop-block : goal.decreases-loop-block
decreases-loop-block l = l.fn.count - l.block
