use Rattle.std.proofs.Common.{◌≡◌, ℕ, ◌<◌, None, length, slice_index_or}
use Rattle.tape_source.proofs.sources.words_in.Given as goal

abbrev pub invariant-loop-number : goal.invariant-loop-number
invariant-loop-number l =
    (length l.words.items ≡ l.number) × ((cell : ℕ) → cell < l.number → slice_index_or l.words.items cell None ≡ slice_index_or l.map cell None)
