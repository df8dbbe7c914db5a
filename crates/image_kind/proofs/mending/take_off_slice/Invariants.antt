use Rattle.std.proofs.Common.{◌≡◌, ◌⊎◌, ℕ, ◌+◌, ◌*◌, ◌%◌, ◌<◌, ◌≤◌, length, slice_index}
use Rattle.image_kind.specs.Mending.{word_from}
use Rattle.image_kind.proofs.mending.take_off_slice.Given as goal

-- the words so far have their top bits off, and all other bytes are as they were
abbrev pub invariant-loop-number : goal.invariant-loop-number
invariant-loop-number l = record {
  size : length l.bytes ≡ length l.initial.bytes;
  off : (k : ℕ) → k < l.number → word_from l.bytes l.start k ≡ word_from l.initial.bytes l.start k % 4096;
  others : (j : ℕ) → j < l.start ⊎ l.start + 2 * l.number ≤ j → slice_index l.bytes j ≡ slice_index l.initial.bytes j;
}
