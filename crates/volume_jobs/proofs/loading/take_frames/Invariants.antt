use Rattle.std.proofs.Common.{◌-◌, ◌≤◌, ◌++◌, ℕ, List, take}
use Rattle.char_pack.specs.Packing.{frames}
use Rattle.char_pack.specs.declared.packing.TheConstants.{BLOCK_FRAMES}
use Rattle.volume_jobs.specs.Reading.{HasTaken}
use Rattle.volume_jobs.proofs.loading.take_frames.Given as goal

-- as many frames of the block were taken as the offset says
abbrev pub invariant-loop-offset : goal.invariant-loop-offset
invariant-loop-offset l = record {
  taken : (before : List ℕ) → HasTaken l.fn.loader (before ++ take l.fn.offset (frames l.block)) → HasTaken l.loader (before ++ take l.offset (frames l.block));
  range : l.offset ≤ BLOCK_FRAMES;
}

abbrev pub decreases-loop-offset : goal.decreases-loop-offset
decreases-loop-offset l = BLOCK_FRAMES - l.offset
