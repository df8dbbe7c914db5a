use Rattle.std.proofs.Common.{◌≡◌, ◌≤◌, ◌++◌, length}
use Rattle.pal8_asm.specs.Kept.{cut, total}
use Rattle.pal8_asm.specs.Marks as spec
use Rattle.pal8_asm.proofs.marks.marks_of.Given as goal

-- the marks of the words that are left come after those that were put
abbrev pub invariant-loop-heads : goal.invariant-loop-heads
invariant-loop-heads l = record {
  same : l.marks.items ++ spec.marks_of (cut l.heads l.steps) ≡ spec.marks_of (cut l.fn.heads l.fn.steps);
  fits : total l.heads ≤ length l.steps;
}

abbrev pub decreases-loop-heads : goal.decreases-loop-heads
decreases-loop-heads l = length l.heads
