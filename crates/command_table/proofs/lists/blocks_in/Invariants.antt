use Rattle.std.proofs.Common.{◌≡◌, None, Some, map, take, drop}
use Rattle.command_table.specs.Found.{first_not, place_of}
use Rattle.command_table.specs.declared.table.Form.TheVariants.{Block}
use Rattle.command_table.proofs.lists.blocks_in.Given as goal

abbrev pub invariant-loop-text : goal.invariant-loop-text
invariant-loop-text l = record {
  read : map place_of (map (λ text. text.now) (take l.text-index l.texts)) ≡ map (λ block. Some block) l.blocks.items;
  rest : first_not Block (map (λ text. text.now) (drop l.text-index l.texts)) ≡ None;
}
