-- What steps of the code that reads lists of extensions do. No contract of a public function cites these.
use Rattle.std.specs.Prelude.{ℕ, ◌==◌, if◌then◌else◌, List, [], ◌∷◌}
use Rattle.archive_many.specs.Extensions.{items_of}

-- the characters before the first comma
abbrev pub before_comma : List ℕ → List ℕ
before_comma [] = []
before_comma (character ∷ list) = if character == 0o54 then [] else character ∷ before_comma list

-- the items after what stands from a comma on
abbrev pub items_after : List ℕ → List (List ℕ)
items_after [] = []
items_after (comma ∷ list) = items_of list
