-- The lines of a text.
use Rattle.std.specs.Prelude.{ℕ, nat_eq, if◌then◌else◌, List, [], ◌∷◌, ◌++◌}

-- the lines of a text that goes on with a line, each without the LF at its end
abbrev pub lines_from : List ℕ → List ℕ → List (List ℕ)
lines_from line [] = []
lines_from line (byte ∷ bytes) = if nat_eq byte 0o12 then line ∷ lines_from [] bytes else lines_from (line ++ byte ∷ []) bytes

-- the lines of a text
abbrev pub lines_of : List ℕ → List (List ℕ)
lines_of text = lines_from [] text
