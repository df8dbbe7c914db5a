use Rattle.std.proofs.Common.{◌≡◌, ◌*◌, ◌≤◌, drop}
use Rattle.char_pack.specs.declared.packing.TheConstants.{BLOCK_FRAMES}
use Rattle.block_scan.specs.TailSteps.{no_tails, tails_of}
use Rattle.block_scan.proofs.ChanceLemmas.{AreFrom}
use Rattle.block_scan.proofs.chances.chances_of.Given as goal

-- the frames from the block on are walked through
abbrev pub invariant-loop-block : goal.invariant-loop-block
invariant-loop-block l = record {
  are : AreFrom l.fn.frames l.fn.count l.block l.chances.items;
  tails_are : l.tails ≡ tails_of (drop (BLOCK_FRAMES * l.block) l.fn.frames) no_tails;
  inside : l.block ≤ l.fn.count;
}

abbrev pub decreases-loop-block : goal.decreases-loop-block
decreases-loop-block l = l.block
