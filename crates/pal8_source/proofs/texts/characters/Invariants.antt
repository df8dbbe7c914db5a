use Rattle.std.proofs.Common.{◌≡◌, ◌+◌, ◌-◌, ◌++◌}
use Rattle.pal8_source.specs.Steps.{sheet_of}
use Rattle.pal8_source.specs.Texts.{characters}
use Rattle.pal8_source.proofs.texts.characters.Given as goal

abbrev pub invariant-loop-k : goal.invariant-loop-k
invariant-loop-k l = characters (sheet_of l.sheet) l.first l.count ≡ l.text.items ++ characters (sheet_of l.sheet) (l.first + l.k) (l.count - l.k)
