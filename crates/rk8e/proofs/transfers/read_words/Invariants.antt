use Rattle.std.proofs.Common.{◌≡◌, ℕ, ◌<◌, length, slice_index}
use Rattle.rk8e.specs.Transfer.{word_read}
use Rattle.rk8e.proofs.transfers.read_words.Given as goal

-- so many words have moved
abbrev pub invariant-loop-k : goal.invariant-loop-k
invariant-loop-k l = record {
  size : length l.core ≡ length l.initial.core;
  cells : (cell : ℕ) → cell < length l.core → slice_index l.core cell ≡ word_read l.control l.k l.words l.initial.core cell;
}
