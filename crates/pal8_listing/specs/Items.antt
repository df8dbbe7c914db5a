-- What is found in the statements of a source, one after another.
use Rattle.std.specs.Prelude.{List, [], ◌∷◌, ◌++◌}
use Rattle.pal8_asm.specs.Sources.{PassResult, Source, Statement}
use Rattle.pal8_tape.specs.Joins.{pass_on}

-- what is found in a source, in its order, where what is found in a statement depends on what those before it leave
abbrev pub items_after : {A : Type 0} → (PassResult → Statement → List A) → PassResult → Source → List A
items_after in_statement first [] = []
items_after in_statement first (s ∷ older) = items_after in_statement first older ++ in_statement (pass_on first older) s
