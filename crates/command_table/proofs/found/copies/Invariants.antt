use Rattle.std.proofs.Common.{◌≡◌, map, take}
use Rattle.command_table.proofs.found.copies.Given as goal

-- the words so far are copied
abbrev pub invariant-loop-word : goal.invariant-loop-word
invariant-loop-word l = map (λ text. text.bytes.items) l.texts.items ≡ map (λ word. word.now) (take l.word-index l.words)
