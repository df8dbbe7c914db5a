-- What is read after what was read before, for private clauses.
use Rattle.std.specs.Prelude.{ℕ, Option, Some, None, List, ◌++◌}
use Rattle.pal_lex.specs.declared.phrases.Part.{Part}
use Rattle.pal_lex.specs.declared.phrases.Said.{Said}

abbrev pub parts_after : List Part → Option (List Part) → Option (List Part)
parts_after before None = None
parts_after before (Some parts) = Some (before ++ parts)

abbrev pub with_tags_before : List ℕ → Option Said → Option Said
with_tags_before names None = None
with_tags_before names (Some said) = Some record { tags = names ++ said.tags; body = said.body }
