use Rattle.std.proofs.Common.{◌≡◌, ℕ, ◌||◌, false, length, slice_index_or, take}
use Rattle.word12.specs.declared.sizes.TheConstants.{CORE}
use Rattle.pointer_flow.specs.Programs.{is_listed}
use Rattle.pointer_flow.proofs.handler_cells.set_listed.Given as goal

abbrev pub invariant-loop-cell : goal.invariant-loop-cell
invariant-loop-cell l = record {
  size : length l.flags ≡ CORE;
  set : (cell : ℕ) → slice_index_or l.flags cell false ≡ (is_listed cell (take l.cell-index l.cells) || slice_index_or l.initial.flags cell false);
}
