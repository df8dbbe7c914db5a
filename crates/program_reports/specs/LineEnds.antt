-- The ends of the lines of a text of the host (this project's profile).
use Rattle.std.specs.Prelude.{ℕ, nat_eq, Bool, false, ◌&&◌, if◌then◌else◌, List, [], ◌∷◌, ◌++◌}

-- what a byte becomes, after a CR or not: a CR ends a line as LF does, and the LF of CR LF ends no further one
abbrev pub line_end_of : Bool → ℕ → List ℕ
line_end_of after_return byte = if nat_eq byte 0o12 && after_return then [] else if nat_eq byte 0o15 then 0o12 ∷ [] else byte ∷ []

abbrev pub lines_from : Bool → List ℕ → List ℕ
lines_from after_return [] = []
lines_from after_return (byte ∷ bytes) = line_end_of after_return byte ++ lines_from (nat_eq byte 0o15) bytes

-- a text in which LF ends each line
abbrev pub with_line_feeds : List ℕ → List ℕ
with_line_feeds bytes = lines_from false bytes
