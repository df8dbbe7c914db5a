-- Texts of the host: what they are in a file, their lines, and where one can't be put (this project's profile).
use Rattle.std.specs.Prelude.{◌≡◌, ℕ, ◌+◌, ◌&&◌, Bool, true, false, not, nat_eq, if◌then◌else◌, Option, Some, None, List, [], ◌∷◌, ◌++◌, length}
use Rattle.char_pack.specs.Packing.{packed_blocks}
use Rattle.char_pack.specs.Texts.{is_storable, may_stand, text_frames}
use Rattle.archive_files.specs.Getting.{line_feeds}
use Rattle.archive_files.specs.declared.places.TextPlace.{TextPlace}

-- ## In a file

-- a text with each LF as CR LF
abbrev pub with_returns : List ℕ → List ℕ
with_returns [] = []
with_returns (byte ∷ others) = if nat_eq byte 0o12 then 0o15 ∷ 0o12 ∷ with_returns others else byte ∷ with_returns others

-- what a text of the host is in a file: each line end, LF or CR LF, is CR LF, and any other CR stays
abbrev pub file_text : List ℕ → List ℕ
file_text host = with_returns (line_feeds host)

-- the words of a text in a file: the fewest blocks, with control Z and zeros after it
abbrev pub text_words : List ℕ → List ℕ
text_words chars = packed_blocks (text_frames chars)

-- ## Lines

-- lines with an end after each, and what comes after the last end
abbrev pub lines_text : List ℕ → List (List ℕ) → List ℕ → List ℕ
lines_text end [] last = last
lines_text end (line ∷ lines) last = line ++ (end ++ lines_text end lines last)

-- no LF stands in a line
abbrev pub is_unbroken : List ℕ → Bool
is_unbroken [] = true
is_unbroken (byte ∷ others) = not (nat_eq byte 0o12) && is_unbroken others

-- no LF stands in any of these lines
abbrev pub AreUnbroken : List (List ℕ) → Type 0
AreUnbroken [] = Unit {0}
AreUnbroken (line ∷ lines) = (is_unbroken line ≡ true) × AreUnbroken lines

-- ## Where a text can't be put

-- The place of the byte that comes after these: its line and its byte of the line, both counted from 1. An LF is the last byte of its
-- line.
pub record IsPlaceAfter (before : List ℕ) (at : TextPlace) : Type 0 where
  pub lines : List (List ℕ)
  pub begun : List ℕ
  pub before_are : before ≡ lines_text (0o12 ∷ []) lines begun
  pub unbroken : AreUnbroken lines
  pub in_line : is_unbroken begun ≡ true
  pub line_is : at.line ≡ length lines + 1
  pub byte_is : at.byte ≡ length begun + 1

-- the first byte that may not stand in a text has this place
pub record IsBadAt (bytes : List ℕ) (at : TextPlace) : Type 0 where
  pub before : List ℕ
  pub bad : ℕ
  pub following : List ℕ
  pub bytes_are : bytes ≡ before ++ bad ∷ following
  pub storable : is_storable before ≡ true
  pub is_bad : may_stand bad ≡ false
  pub place : IsPlaceAfter before at

-- where a text has the first byte that may not stand in one, if it can't be put
abbrev pub FindsBad : List ℕ → Option TextPlace → Type 0
FindsBad bytes None = is_storable bytes ≡ true
FindsBad bytes (Some at) = (is_storable bytes ≡ false) × IsBadAt bytes at
