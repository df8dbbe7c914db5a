use Rattle.std.proofs.Common.{◌≡◌, ◌-◌, ◌*◌, ◌≤◌, ◌++◌, false, length}
use Rattle.char_pack.specs.declared.packing.TheConstants.{BLOCK_FRAMES}
use Rattle.block_scan.specs.Pieces.{blocks_in, texts_from}
use Rattle.block_scan.proofs.texts.texts_of.Given as goal

abbrev pub invariant-loop-block : goal.invariant-loop-block
invariant-loop-block l = record {
  pieces : l.pieces.items ++ texts_from l.stretch l.block (blocks_in (l.count - l.block) l.rest) ≡ texts_from (record { first = 0; has_graphic = false }) 0 (blocks_in l.count l.frames);
  left : BLOCK_FRAMES * (l.count - l.block) ≤ length l.rest;
  order : l.stretch.first ≤ l.block;
}
