-- Words with their addresses, as a RIM tape has them (Small Computer Handbook, read-in mode loader).
use Rattle.std.specs.Prelude.{ℕ, ◌+◌, ◌/◌, ◌%◌, ◌<◌, List, [], ◌∷◌, ◌++◌}

-- An address and its word: 01hhhhhh and 00llllll, then 00hhhhhh and 00llllll. A tape has no fields, so the number of a cell, which is
-- one of field 0, is its address.
abbrev pub frames_of : ℕ × ℕ → List ℕ
frames_of pair = (0o100 + pair.0 / 0o100) ∷ (pair.0 % 0o100) ∷ (pair.1 / 0o100) ∷ (pair.1 % 0o100) ∷ []

-- The frames of cells with their words, both in the order of the tape.
abbrev pub frames_of_pairs : List (ℕ × ℕ) → List ℕ
frames_of_pairs [] = []
frames_of_pairs (pair ∷ later) = frames_of pair ++ frames_of_pairs later

-- each is a cell of field 0 with a word of twelve bits
abbrev pub AreOfField0 : List (ℕ × ℕ) → Type 0
AreOfField0 [] = Unit {0}
AreOfField0 (pair ∷ later) = (pair.0 < 0o10000) × (pair.1 < 0o10000) × AreOfField0 later
