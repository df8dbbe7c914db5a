-- What bytes a comment may have.
use Rattle.std.specs.Prelude.{ℕ, nat_le, nat_lt, Bool, true, ◌&&◌, List, [], ◌∷◌}

-- graphic characters alone
abbrev pub are_graphic : List ℕ → Bool
are_graphic [] = true
are_graphic (byte ∷ bytes) = (nat_le 0o40 byte && nat_lt byte 0o177) && are_graphic bytes

abbrev pub all_graphic : List (List ℕ) → Bool
all_graphic [] = true
all_graphic (note ∷ notes) = are_graphic note && all_graphic notes
