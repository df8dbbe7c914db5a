-- A text, its comments, ends and lines (PAL III Symbolic Assembler manual, and this project's profile of it). A text has
-- the newest byte first, and so has whatever is cut from it.
use Rattle.std.specs.Prelude.{ℕ, ◌+◌, ◌-◌, nat_eq, Bool, true, false, ◌&&◌, ◌||◌, not, if◌then◌else◌, min, length, List, [], ◌∷◌}

-- line feed, form feed, NUL and rubout are as if they weren't there
abbrev pub is_ignored : ℕ → Bool
is_ignored b = nat_eq b 0o12 || nat_eq b 0o14 || nat_eq b 0 || nat_eq b 0o177

-- a `/` stands after the last CR
abbrev pub in_comment : List ℕ → Bool
in_comment [] = false
in_comment (b ∷ older) = if nat_eq b 0o15 then false else (if nat_eq b 0o57 then true else in_comment older)

-- a byte after a text means nothing: it is ignored, or stands in a comment, which `/` begins and CR ends
abbrev pub is_dead : List ℕ → ℕ → Bool
is_dead older b = is_ignored b || in_comment (b ∷ older)

-- `;`, CR and `$`
abbrev pub is_end : ℕ → Bool
is_end b = nat_eq b 0o73 || nat_eq b 0o15 || nat_eq b 0o44

-- a live `$` ended the source
abbrev pub is_over : List ℕ → Bool
is_over [] = false
is_over (b ∷ older) = is_over older || (nat_eq b 0o44 && not (is_dead older b))

-- a byte after a text ends a statement
abbrev pub ends_statement : List ℕ → ℕ → Bool
ends_statement older b = is_end b && not (is_dead older b) && not (is_over older)

-- the live bytes after the last live `;`, CR or `$`, each with its place from 0
abbrev pub stretch : List ℕ → List (ℕ × ℕ)
stretch [] = []
stretch (b ∷ older) = if is_dead older b then stretch older else (if is_end b then [] else (b, length older) ∷ stretch older)

-- live bytes with places that count from a place on
abbrev pub since : ℕ → List (ℕ × ℕ) → List (ℕ × ℕ)
since seam [] = []
since seam (live ∷ older) = (live.0, live.1 - seam) ∷ since seam older

-- a text without what stands after its last live `;`, CR or `$`
abbrev pub up_to_end : List ℕ → List ℕ
up_to_end [] = []
up_to_end (b ∷ older) = if is_dead older b then up_to_end older else (if is_end b then b ∷ older else up_to_end older)

abbrev pub cr_count : List ℕ → ℕ
cr_count [] = 0
cr_count (b ∷ older) = (if nat_eq b 0o15 then 1 else 0) + cr_count older

-- a place or a line, as far as a number of 64 bits goes
abbrev pub limit : ℕ → ℕ
limit n = min n 18446744073709551615

-- the line of the place after a text
abbrev pub line_after : List ℕ → ℕ
line_after text = limit (1 + cr_count text)

-- a text from its bytes in their order
abbrev pub text_from : List ℕ → List ℕ → List ℕ
text_from text [] = text
text_from text (b ∷ bytes) = text_from (b ∷ text) bytes

abbrev pub text_of : List ℕ → List ℕ
text_of bytes = text_from [] bytes
