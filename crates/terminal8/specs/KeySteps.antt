-- The keyboard once bytes were struck (this project's profile).
use Rattle.std.specs.Prelude.{ℕ, List, [], ◌∷◌}
use Rattle.terminal8.specs.Keys.{Keyboard, after_byte}

-- it is so after these bytes
abbrev pub keyboard_after : Keyboard → List ℕ → Keyboard
keyboard_after k [] = k
keyboard_after k (byte ∷ bytes) = keyboard_after (after_byte k byte) bytes
