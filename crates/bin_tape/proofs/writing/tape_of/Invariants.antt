use Rattle.std.proofs.Common.{◌≡◌, reverse, take}
use Rattle.bin_tape.specs.Pairs.{ArePairs}
use Rattle.bin_tape.specs.Writing.{items_of, newest_cell}
use Rattle.bin_tape.specs.WriteSteps.{HoldsFrames}
use Rattle.bin_tape.proofs.writing.tape_of.Given as goal

abbrev pub invariant-loop-cell : goal.invariant-loop-cell
invariant-loop-cell l = record {
  holds : HoldsFrames l.tape.frames.items l.tape.sum (items_of (reverse (take l.cell-index l.pairs)));
  last : l.before ≡ newest_cell (reverse (take l.cell-index l.pairs));
  pairs : ArePairs (take l.cell-index l.pairs);
}
