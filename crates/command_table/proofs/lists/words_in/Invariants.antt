use Rattle.std.proofs.Common.{◌≡◌, None, Some, map, take, drop}
use Rattle.command_table.specs.Found.{first_not, word_of}
use Rattle.command_table.specs.declared.table.Form.TheVariants.{Octal}
use Rattle.command_table.proofs.lists.words_in.Given as goal

abbrev pub invariant-loop-text : goal.invariant-loop-text
invariant-loop-text l = record {
  read : map word_of (map (λ text. text.now) (take l.text-index l.texts)) ≡ map (λ word. Some word) l.words.items;
  rest : first_not Octal (map (λ text. text.now) (drop l.text-index l.texts)) ≡ None;
}
