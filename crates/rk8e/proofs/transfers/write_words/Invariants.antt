use Rattle.std.proofs.Common.{◌≡◌, ℕ, ◌<◌, length, slice_index}
use Rattle.rk8e.specs.Transfer.{pack_word}
use Rattle.rk8e.proofs.transfers.write_words.Given as goal

-- so many words have moved
abbrev pub invariant-loop-k : goal.invariant-loop-k
invariant-loop-k l = (i : ℕ) → i < length l.words → slice_index l.words i ≡ pack_word l.control l.k l.core l.initial.words i
