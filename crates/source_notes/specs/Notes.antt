-- What a listing shows beside its words (this project's profile), in comments and empty lines.
use Rattle.std.specs.Prelude.{ℕ, zero, suc, ◌/◌, nat_eq, Bool, false, ◌&&◌, ◌||◌, Option, Some, None, List, [], ◌∷◌, ◌++◌, codes, slice_index_or}
use Rattle.word12.specs.Octal.{octal5}
use Rattle.cpu8.specs.Decoding.{is_group_2, has_hlt}
use Rattle.source_notes.specs.Characters as read
use Rattle.source_notes.specs.Characters.{data_of}
use Rattle.source_notes.specs.Referrers.{callers, referrers}

-- the words of a tape, one or none for each cell, and which of them are instructions
pub record Notes : Type 0 where
  pub words : List (Option ℕ)
  pub code : List Bool

-- a list of flags, one for each cell, has this cell's set
abbrev pub is_flagged : List Bool → ℕ → Bool
is_flagged flags cell = slice_index_or flags cell false

-- cells by their fields and addresses, a blank before each, so many at most, and `..` where there are more
abbrev pub some_cells : ℕ → List ℕ → List ℕ
some_cells count [] = []
some_cells zero (cell ∷ cells) = codes " .."
some_cells (suc count) (cell ∷ cells) = 0o40 ∷ octal5 cell ++ some_cells count cells

-- a comment with eight cells at most, where there is one
abbrev pub cells_line : List ℕ → List ℕ → List (List ℕ)
cells_line words [] = []
cells_line words (cell ∷ cells) = (words ++ some_cells 8 (cell ∷ cells)) ∷ []

-- The comment lines above a cell's, each after its `/`: who calls the subroutine that begins there, and who refers to the cell
-- otherwise.
abbrev pub above : (ℕ → Option ℕ) → (ℕ → Bool) → ℕ → List (List ℕ)
above words is_code cell =
    cells_line (codes " SUBROUTINE, CALLED FROM") (callers words is_code cell) ++ cells_line (codes " FROM") (referrers words is_code cell)

-- comments as lines of their own
abbrev pub note_lines : List (List ℕ) → List ℕ
note_lines [] = []
note_lines (note ∷ notes) = 0o57 ∷ note ++ 0o15 ∷ 0o12 ∷ note_lines notes

-- what stands in the comment of a cell after its word: the characters of a datum
abbrev pub remark : (ℕ → Option ℕ) → (ℕ → Bool) → ℕ → List ℕ
remark words is_code cell = read.characters (data_of words is_code) cell

-- a program doesn't go on after this word: a HLT, or a JMP through a pointer, by which a subroutine returns
abbrev pub is_last : Option ℕ → Bool
is_last None = false
is_last (Some word) = nat_eq (word / 0o400) 0o13 || (nat_eq (word / 0o400) 0o17 && (is_group_2 word && has_hlt word))

-- an empty line stands after such an instruction
abbrev pub has_gap : (ℕ → Option ℕ) → (ℕ → Bool) → ℕ → Bool
has_gap words is_code cell = is_code cell && is_last (words cell)
