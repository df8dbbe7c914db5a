-- Places of sources: the source, the line and the column (this project's profile of PAL III).
use Rattle.std.specs.Prelude.{ℕ, ◌+◌, ◌-◌, nat_eq, nat_lt, if◌then◌else◌, zero, suc, take, List, [], ◌∷◌}
use Rattle.std.specs.Borrow.{Bor}
use Rattle.char_pack.specs.Texts.{host_text}
use Rattle.pal_lex.specs.Text.{text_of}
use Rattle.source_places.specs.declared.places.Place.{Place}

-- one source further
abbrev pub further : ℕ × ℕ → ℕ × ℕ
further at = (at.0 + 1, at.1)

-- the source of a place in a join, and the place in this source, by how many bytes of each are in the join
abbrev pub place_in : List ℕ → ℕ → ℕ × ℕ
place_in [] place = (0, place)
place_in (count ∷ counts) place = if nat_lt place count then (0, place) else further (place_in counts (place - count))

-- the bytes of a source, of which the first is number 0; none where there is none of this number
abbrev pub bytes_of : List (Bor (List ℕ)) → ℕ → List ℕ
bytes_of [] number = []
bytes_of (source ∷ others) zero = source.now
bytes_of (source ∷ others) (suc number) = bytes_of others number

-- the line after a text, from 1: LF ends a line
abbrev pub next_line : List ℕ → ℕ
next_line [] = 1
next_line (b ∷ older) = (if nat_eq b 0o12 then 1 else 0) + next_line older

-- the column after a text, from 1: the bytes of the line so far and one more
abbrev pub next_column : List ℕ → ℕ
next_column [] = 1
next_column (b ∷ older) = if nat_eq b 0o12 then 1 else next_column older + 1

-- what stands before a place of a source, with its newest byte first
abbrev pub before_place : List (Bor (List ℕ)) → ℕ × ℕ → List ℕ
before_place sources at = text_of (take at.1 (host_text (bytes_of sources at.0)))

-- a place of the join of sources by its source, line and column
abbrev pub place_by : List (Bor (List ℕ)) → ℕ × ℕ → Place
place_by sources at =
    record { source = at.0; line = next_line (before_place sources at); column = next_column (before_place sources at) }
