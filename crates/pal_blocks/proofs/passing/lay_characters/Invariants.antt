use Rattle.std.proofs.Common.{◌-◌, ◌≡◌, ◌≤◌, false, length, take}
use Rattle.char_pack.specs.Packing.{frames}
use Rattle.char_pack.specs.Texts.{characters, is_ended}
use Rattle.pal_blocks.proofs.passing.lay_characters.Given as goal

abbrev pub invariant-loop-count : goal.invariant-loop-count
invariant-loop-count l = record {
  range : l.count ≤ 384;
  same : length l.bytes ≡ 384;
  laid : take l.count l.bytes ≡ characters (take l.count (frames l.block));
  not : is_ended (take l.count (frames l.block)) ≡ false;
}

abbrev pub decreases-loop-count : goal.decreases-loop-count
decreases-loop-count l = 384 - l.count
