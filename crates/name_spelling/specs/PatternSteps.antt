-- What steps of the code that matches names do. No contract of a public function cites these.
use Rattle.std.specs.Prelude.{ℕ, Bool, true, List, [], ◌∷◌}
use Rattle.name_spelling.specs.Patterns.{are_within, is_none_left, like}

-- an extension is like what stands from a dot on
abbrev pub like_from : List ℕ → List ℕ → Bool
like_from [] = is_none_left
like_from (dot ∷ pattern) = like pattern

-- what stands from a dot on may be that of a pattern
abbrev pub is_pattern_from : List ℕ → Bool
is_pattern_from [] = true
is_pattern_from (dot ∷ part) = are_within 4 part
