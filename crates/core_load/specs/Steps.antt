-- Words that are laid one after the other, for private clauses.
use Rattle.std.specs.Prelude.{ℕ, List, [], ◌∷◌, slice_set}

-- ## Frame by frame

-- core after words are laid one after the other
abbrev pub core_with : List (ℕ × ℕ) → List ℕ → List ℕ
core_with [] core = core
core_with (word ∷ words) core = core_with words (slice_set core word.0 word.1)
