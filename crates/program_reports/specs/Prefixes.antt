-- Lines with what they are about before them (this project's profile).
use Rattle.std.specs.Prelude.{ℕ, nat_eq, Bool, true, if◌then◌else◌, List, [], ◌∷◌, ◌++◌}

-- a byte, with the prefix before it where a line begins
abbrev pub prefixed_byte : List ℕ → Bool → ℕ → List ℕ
prefixed_byte prefix begins byte = (if begins then prefix else []) ++ byte ∷ []

-- after each LF a line begins
abbrev pub with_prefix_from : List ℕ → Bool → List ℕ → List ℕ
with_prefix_from prefix begins [] = []
with_prefix_from prefix begins (byte ∷ bytes) = prefixed_byte prefix begins byte ++ with_prefix_from prefix (nat_eq byte 0o12) bytes

-- a text with a prefix before each of its lines
abbrev pub with_prefixes : List ℕ → List ℕ → List ℕ
with_prefixes prefix text = with_prefix_from prefix true text
