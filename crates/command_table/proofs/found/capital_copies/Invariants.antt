use Rattle.std.proofs.Common.{◌≡◌, map, take}
use Rattle.command_table.specs.Found.{capitals}
use Rattle.command_table.proofs.found.capital_copies.Given as goal

-- the words so far are raised
abbrev pub invariant-loop-word : goal.invariant-loop-word
invariant-loop-word l = map (λ text. text.bytes.items) l.texts.items ≡ map capitals (map (λ word. word.now) (take l.word-index l.words))
