use Rattle.std.proofs.Common.{◌≡◌, ℕ, ◌<◌, length, All}
use Rattle.volume_image.specs.Image.{block_word, new_word}
use Rattle.volume_image.specs.Volume.{IsBlock}
use Rattle.volume_image.proofs.images.new_blocks.Given as goal

-- the blocks so far are those of the empty volume
abbrev pub invariant-loop-number : goal.invariant-loop-number
invariant-loop-number l = record {
  count : length l.blocks.items ≡ l.number;
  each : All IsBlock l.blocks.items;
  words : (n k : ℕ) → n < l.number → k < 256 → block_word l.blocks.items n k ≡ new_word l.count n k;
}
