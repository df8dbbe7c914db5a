use Rattle.std.proofs.Common.{◌≡◌, ℕ, ◌<◌, false, length, slice_index_or}
use Rattle.word12.specs.declared.sizes.TheConstants.{CORE}
use Rattle.flow8.specs.Flow.{word_in}
use Rattle.pointer_flow.specs.Calls.{copies_entry}
use Rattle.pointer_flow.specs.Programs.{is_some_below}
use Rattle.pointer_flow.proofs.handler_cells.copy_flags.Given as goal

abbrev pub invariant-loop-number : goal.invariant-loop-number
invariant-loop-number l = record {
  size : length l.flags.items ≡ CORE;
  set : (cell : ℕ) → cell < CORE → slice_index_or l.flags.items cell false ≡ is_some_below (copies_entry (word_in l.words) cell) l.number;
}
