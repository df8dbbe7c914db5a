use Rattle.std.proofs.Common.{◌≡◌, ℕ, ◌<◌, ◌||◌, false, length, slice_index_or}
use Rattle.pointer_flow.proofs.handler_cells.joined_flags.Given as goal

abbrev pub invariant-loop-number : goal.invariant-loop-number
invariant-loop-number l =
    (length l.flags.items ≡ l.number)
    × ((cell : ℕ) → cell < l.number → slice_index_or l.flags.items cell false ≡ (slice_index_or l.entries cell false || slice_index_or l.copies cell false))
