use Rattle.std.proofs.Common.{◌≡◌, None, Some, map, take, drop}
use Rattle.command_table.specs.Found.{cell_of, first_not}
use Rattle.command_table.specs.declared.table.Form.TheVariants.{Cell}
use Rattle.command_table.proofs.lists.cells_in.Given as goal

abbrev pub invariant-loop-text : goal.invariant-loop-text
invariant-loop-text l = record {
  read : map cell_of (map (λ text. text.now) (take l.text-index l.texts)) ≡ map (λ cell. Some cell) l.cells.items;
  rest : first_not Cell (map (λ text. text.now) (drop l.text-index l.texts)) ≡ None;
}
