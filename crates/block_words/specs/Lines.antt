-- Words in the lines that show them (this project's profile).
use Rattle.std.specs.Prelude.{ℕ, ◌/◌, nat_lt, if◌then◌else◌, List, [], ◌∷◌}
use Rattle.word12.specs.Octal.{octal4, octal_digit}

-- the six octal digits of sixteen bits
abbrev pub six_digits : ℕ → List ℕ
six_digits bits =
    octal_digit (bits / 0o100000) ∷ octal_digit (bits / 0o10000) ∷ octal_digit (bits / 0o1000) ∷ octal_digit (bits / 0o100) ∷ octal_digit (bits / 8)
    ∷ octal_digit bits ∷ []

-- a word of sixteen bits: four octal digits, or six where it has more than twelve bits
abbrev pub bits_text : ℕ → List ℕ
bits_text bits = if nat_lt bits 0o10000 then octal4 bits else six_digits bits
