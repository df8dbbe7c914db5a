-- The lines of a profile (this project's profile): the cells that were fetched, the most often fetched first, and those of the tape that never were.
use Rattle.std.specs.Prelude.{◌≡◌, ◌↔◌, ◌⊎◌, ℕ, zero, suc, ◌+◌, ◌-◌, ◌%◌, ◌<◌, Bool, false, ◌&&◌, ◌||◌, not, nat_eq, if◌then◌else◌, List, [], ◌∷◌, ◌++◌, codes, decimal, slice_index_or}
use Rattle.word12.specs.declared.sizes.TheConstants.{CORE, FIELD}
use Rattle.word12.specs.Octal.{octal5}
use Rattle.flow8.specs.Flow.{IsAmong}

-- ## What was fetched

-- how often a cell was fetched
abbrev pub count_of : List ℕ → ℕ → ℕ
count_of counts cell = slice_index_or counts cell 0

-- a cell was fetched more often than another, or as often and is lower
abbrev pub StandsBefore : List ℕ → ℕ → ℕ → Type 0
StandsBefore counts a b = (count_of counts b < count_of counts a) ⊎ ((count_of counts a ≡ count_of counts b) × (a < b))

-- each of these cells stands before the next
abbrev pub AreInOrder : List ℕ → List ℕ → Type 0
AreInOrder counts [] = Unit {0}
AreInOrder counts (first ∷ []) = Unit {0}
AreInOrder counts (first ∷ second ∷ others) = StandsBefore counts first second × AreInOrder counts (second ∷ others)

-- these are the cells that were fetched, the most often fetched first
pub record AreFetched (counts cells : List ℕ) : Type 0 where
  pub all : (cell : ℕ) → IsAmong cell cells ↔ (0 < count_of counts cell)
  pub order : AreInOrder counts cells

-- the five octal digits of the cell, and how often it was fetched
abbrev pub count_line : List ℕ → ℕ → List ℕ
count_line counts cell = octal5 cell ++ 0o40 ∷ decimal (count_of counts cell) ++ 10 ∷ []

abbrev pub count_lines : List ℕ → List ℕ → List ℕ
count_lines counts [] = []
count_lines counts (cell ∷ cells) = count_line counts cell ++ count_lines counts cells

-- ## What never was

-- a run of cells begins with this one: the one before it in its field is none of them
abbrev pub begins : (ℕ → Bool) → ℕ → Bool
begins is_never cell = is_never cell && (nat_eq (cell % FIELD) 0 || not (is_never (cell - 1)))

-- it ends with this one
abbrev pub ends : (ℕ → Bool) → ℕ → Bool
ends is_never cell = is_never cell && (nat_eq (cell % FIELD) (FIELD - 1) || not (is_never (cell + 1)))

-- `NEVER` and the first cell of a run, and where it has more than one ` TO ` and the last
abbrev pub never_text : (ℕ → Bool) → ℕ → List ℕ
never_text is_never cell =
    (if begins is_never cell then codes "NEVER " ++ octal5 cell
    else if ends is_never cell then codes " TO " ++ octal5 cell
    else [])
    ++ (if ends is_never cell then 10 ∷ [] else [])

-- the lines of the runs among the cells below a number, but for the end of the last
unfoldable pub never_lines : (ℕ → Bool) → ℕ → List ℕ
never_lines is_never zero = []
never_lines is_never (suc cell) = never_lines is_never cell ++ never_text is_never cell

-- ## The whole

-- whether a list flags a cell
abbrev pub is_flagged : List Bool → ℕ → Bool
is_flagged flags cell = slice_index_or flags cell false

-- a cell has a word of the tape, and was never fetched
abbrev pub is_never : List ℕ → (ℕ → Bool) → ℕ → Bool
is_never counts given cell = given cell && nat_eq (count_of counts cell) 0

-- A text is the profile of these counts, for a tape that gives these cells a word.
pub record IsProfile (counts : List ℕ) (given : ℕ → Bool) (text : List ℕ) : Type 0 where
  pub cells : List ℕ
  pub fetched : AreFetched counts cells
  pub lines : text ≡ count_lines counts cells ++ never_lines (is_never counts given) CORE
