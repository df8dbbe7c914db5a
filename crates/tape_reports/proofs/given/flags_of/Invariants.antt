use Rattle.std.proofs.Common.{◌≡◌, ℕ, ◌<◌, None, is_some, false, length, slice_index_or}
use Rattle.tape_reports.proofs.given.flags_of.Given as goal

abbrev pub invariant-loop-number : goal.invariant-loop-number
invariant-loop-number l = record {
  size : length l.flags.items ≡ l.number;
  told : (cell : ℕ) → cell < l.number → slice_index_or l.flags.items cell false ≡ is_some (slice_index_or l.map cell None);
}
