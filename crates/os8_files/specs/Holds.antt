-- The names that are held, in name order, one as often as it is held.
use Rattle.std.specs.Prelude.{ℕ, ◌+◌, ◌==◌, nat_lt, if◌then◌else◌, List, [], ◌∷◌}

-- one hold more
abbrev pub with_hold : ℕ → List ℕ → List ℕ
with_hold name [] = name ∷ []
with_hold name (held ∷ holds) = if nat_lt held name then held ∷ with_hold name holds else name ∷ held ∷ holds

-- one hold less
abbrev pub without_hold : ℕ → List ℕ → List ℕ
without_hold name [] = []
without_hold name (held ∷ holds) = if held == name then holds else held ∷ without_hold name holds

-- how often a name stands in a list
abbrev pub times : ℕ → List ℕ → ℕ
times name [] = 0
times name (other ∷ others) = (if other == name then 1 else 0) + times name others
