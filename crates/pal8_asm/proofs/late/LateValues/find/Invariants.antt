use Rattle.std.proofs.Common.{◌≡◌, ◌≤◌, length}
use Rattle.pal8_grammar.specs.SourceNames.{own_value}
use Rattle.pal8_places.specs.Passing.{is_late}
use Rattle.pal8_asm.specs.Kept.{cut, total}
use Rattle.pal8_asm.specs.Steps.{late_of}
use Rattle.pal8_asm.specs.Tapes.{late_values}
use Rattle.pal8_asm.proofs.late.LateValues.find.Given as goal

-- the entries that are left give what all of them give
abbrev pub invariant-loop-heads : goal.invariant-loop-heads
invariant-loop-heads l = record {
  same :
      late_values (own_value l.names.table) (is_late l.names) (cut l.heads l.steps) (late_of l.self)
      ≡ late_values (own_value l.fn.names.table) (is_late l.fn.names) (cut l.fn.heads l.fn.steps) (late_of l.fn.self);
  fits : total l.heads ≤ length l.steps;
}

abbrev pub decreases-loop-heads : goal.decreases-loop-heads
decreases-loop-heads l = length l.heads
