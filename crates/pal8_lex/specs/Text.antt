-- The bytes of a host's text (PAL8, the assembler of OS/8, in this project's profile). A text has the newest byte first, and so has whatever
-- is cut from it.
use Rattle.std.specs.Prelude.{ℕ, ◌+◌, ◌-◌, nat_eq, nat_le, Bool, ◌&&◌, ◌||◌, if◌then◌else◌, length, List, [], ◌∷◌}
use Rattle.pal_lex.specs.Text.{limit}

-- CR, form feed, NUL and rubout are as if they weren't there
abbrev pub is_dropped : ℕ → Bool
is_dropped b = nat_eq b 0o15 || nat_eq b 0o14 || nat_eq b 0 || nat_eq b 0o177

-- line feed ends a line, and is CR from here on
abbrev pub as_read : ℕ → ℕ
as_read b = if nat_eq b 0o12 then 0o15 else b

-- the bytes that are there, each with its place from 0
abbrev pub live : List ℕ → List (ℕ × ℕ)
live [] = []
live (b ∷ older) = if is_dropped b then live older else (as_read b, length older) ∷ live older

abbrev pub line_count : List (ℕ × ℕ) → ℕ
line_count [] = 0
line_count (x ∷ older) = (if nat_eq x.0 0o15 then 1 else 0) + line_count older

-- the line of the place after these bytes: 1 and the lines that end before
abbrev pub line_after : List (ℕ × ℕ) → ℕ
line_after bytes = limit (1 + line_count bytes)

-- a small letter's capital, and any other byte itself
abbrev pub capital : ℕ → ℕ
capital b = if nat_le 0o141 b && nat_le b 0o172 then b - 0o40 else b
