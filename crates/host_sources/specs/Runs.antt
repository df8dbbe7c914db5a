-- The runs of letters and digits of a statement, and its characters (this project's profile of PAL III).
use Rattle.std.specs.Prelude.{ℕ, Bool, false, ◌&&◌, ◌||◌, not, nat_lt, if◌then◌else◌, Option, Some, None, List, [], ◌∷◌, codes}
use Rattle.std.specs.Option.{option_or}
use Rattle.word12.specs.Sixbit.{is_letter, name_number}
use Rattle.pal_sym.specs.Names.{name_of}
use Rattle.pal_lex.specs.Cutting.{Piece, Run, Mark as Sign, is_legal}
use Rattle.pal_lex.specs.Runs.{are_digits, number}
use Rattle.pal_lex.specs.Language.{is_this}

-- the oldest of live bytes that is no character of PAL III, with its place
abbrev pub first_illegal : List (ℕ × ℕ) → Option (ℕ × ℕ)
first_illegal [] = None
first_illegal (live ∷ older) = option_or (first_illegal older) (if is_legal live.0 then None else Some live)

-- where the oldest run of letters and digits begins of which this holds
abbrev pub first_run : (List ℕ → Bool) → List Piece → Option ℕ
first_run holds [] = None
first_run holds (Run first others start end ∷ before) = option_or (first_run holds before) (if holds (first ∷ others) then Some start else None)
first_run holds (Sign kind place ∷ before) = first_run holds before

-- a run spells this name
abbrev pub is_name : ℕ → List ℕ → Bool
is_name name run = is_this name (name_of run)

-- a run begins with a digit, and is no number of twelve bits by this base
abbrev pub is_bad_number : ℕ → List ℕ → Bool
is_bad_number base [] = false
is_bad_number base (first ∷ others) =
    not (is_letter first) && not (are_digits base (first ∷ others) && nat_lt (number base (first ∷ others)) 0o10000)

-- a run is a word that says how what follows is read
abbrev pub sets_reading : List ℕ → Bool
sets_reading run = is_name (name_number (codes "DECIMA")) run || is_name (name_number (codes "OCTAL")) run || is_name (name_number (codes "PAUSE")) run
