use Rattle.std.proofs.Common.{◌≡◌, ℕ, ◌<◌, false, length, slice_index_or}
use Rattle.flow8.specs.Flow.{word_in}
use Rattle.pointer_flow.specs.Steps.{is_written_zero}
use Rattle.pointer_flow.proofs.flows.written_zeros.Given as goal

abbrev pub invariant-loop-number : goal.invariant-loop-number
invariant-loop-number l =
    (length l.flags.items ≡ l.number)
    × ((cell : ℕ) → cell < l.number → slice_index_or l.flags.items cell false ≡ is_written_zero (word_in l.words cell) (word_in l.writers cell))
