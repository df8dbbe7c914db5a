use Rattle.std.proofs.Common.{◌≤◌, Result, length}
use Rattle.pal8_grammar.specs.SourceNames.{own_value}
use Rattle.pal8_asm.specs.Kept.{cut, total}
use Rattle.pal8_asm.specs.Tapes.{TapeWords, with_entries}
use Rattle.pal8_asm.specs.Making.{IsMaking}
use Rattle.pal8_asm.specs.Steps.{late_of}
use Rattle.pal8_asm.specs.declared.faults.Fault.{Fault}
use Rattle.pal8_asm.proofs.MakingLemmas.{IsOnTheWay}
use Rattle.pal8_asm.proofs.words.make_all.Given as goal

-- the heads that are left come to what all of them come to
abbrev pub invariant-loop-heads : goal.invariant-loop-heads
invariant-loop-heads l = record {
  way : (whole : Result TapeWords Fault) → IsMaking whole l.fn.made.pools l.fn.made.cells l.fn.made.clash l.fn.made.pairs.items
      → IsOnTheWay (own_value l.names.table) (late_of l.late) (with_entries (own_value l.fn.names.table) (late_of l.fn.late) (cut l.fn.heads l.fn.steps) whole) l.heads l.steps l.made.pools l.made.cells l.made.clash l.made.pairs.items;
  fits : total l.heads ≤ length l.steps;
}

abbrev pub decreases-loop-heads : goal.decreases-loop-heads
decreases-loop-heads l = length l.heads
