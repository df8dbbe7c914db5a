use Rattle.std.proofs.Common.{◌≡◌, ℕ, ◌+◌, ◌*◌, ◌<◌}
use Rattle.volume_image.specs.Image.{block_word, image_word}
use Rattle.volume_image.proofs.images.put_blocks.Given as goal

-- the blocks so far stand in the image
abbrev pub invariant-loop-number : goal.invariant-loop-number
invariant-loop-number l = record {
  range : (k : ℕ) → k < 256 * l.number → image_word l.bytes k < 4096;
  words : (n k : ℕ) → n < l.number → k < 256 → block_word l.blocks n k ≡ image_word l.bytes (256 * n + k);
}
