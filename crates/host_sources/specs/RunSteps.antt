-- What the small steps of the search for a run do, for private clauses.
use Rattle.std.specs.Prelude.{◌≡◌, ℕ, nat_lt, Bool, true, false, ◌&&◌, if◌then◌else◌, Option, Some, None, List, [], ◌∷◌}
use Rattle.std.specs.Option.{option_or}
use Rattle.pal_lex.specs.Cutting.{Piece, Run, Mark as Sign, is_legal}
use Rattle.pal_lex.specs.Runs.{are_digits, number_after}
use Rattle.host_sources.specs.Runs.{first_run, is_bad_number, is_name, sets_reading}
use Rattle.host_sources.specs.declared.runs.Search.{Search}
use Rattle.host_sources.specs.declared.runs.Wanted.{Wanted}
use Rattle.host_sources.specs.declared.runs.Wanted.TheVariants as wanted

-- ## What is looked for

-- the base of numbers, in decimal or in octal
abbrev pub base_of : Bool → ℕ
base_of true = 10
base_of false = 8

-- a run is one that is looked for
abbrev pub is_wanted : Wanted → List ℕ → Bool
is_wanted (wanted.Name name) run = is_name name run
is_wanted (wanted.BadNumber is_decimal) run = is_bad_number (base_of is_decimal) run
is_wanted wanted.Reading run = sets_reading run

-- ## Numbers

-- digits after a number are a number of twelve bits with it
abbrev pub is_number_by : ℕ → ℕ → List ℕ → Bool
is_number_by base n digits = are_digits base digits && nat_lt (number_after base n digits) 0o10000

-- a digit goes on with a number, or they are none of twelve bits
abbrev pub TakesDigit : ℕ → ℕ → ℕ → List ℕ → Option ℕ → Type 0
TakesDigit base n digit others None = is_number_by base n (digit ∷ others) ≡ false
TakesDigit base n digit others (Some next) = is_number_by base n (digit ∷ others) ≡ is_number_by base next others

-- ## Bytes of a statement

-- live bytes with one byte more, which is dead or not, and ends the statement or not
abbrev pub with_live : Bool → Bool → ℕ → ℕ → List (ℕ × ℕ) → List (ℕ × ℕ)
with_live dead end b place live = if dead then live else (if end then [] else (b, place) ∷ live)

abbrev pub illegal_by : Option (ℕ × ℕ) → Bool → Bool → ℕ → ℕ → Option (ℕ × ℕ)
illegal_by found dead end b place = if dead then found else (if end then None else option_or found (if is_legal b then None else Some (b, place)))

-- where a run begins that a letter or a digit at a place goes on
abbrev pub start_by : List ℕ → ℕ → ℕ → ℕ
start_by [] place start = place
start_by (b ∷ run) place start = start

-- the letters and digits of the newest piece, if it is a run
abbrev pub newest_run : List Piece → List ℕ
newest_run [] = []
newest_run (Run first others start end ∷ before) = first ∷ others
newest_run (Sign kind place ∷ before) = []

abbrev pub newest_start : List Piece → ℕ
newest_start [] = 0
newest_start (Run first others start end ∷ before) = start
newest_start (Sign kind place ∷ before) = 0

-- where the oldest run begins of which this holds, but for the newest piece
abbrev pub first_run_before : (List ℕ → Bool) → List Piece → Option ℕ
first_run_before holds [] = None
first_run_before holds (Run first others start end ∷ before) = first_run holds before
first_run_before holds (Sign kind place ∷ before) = first_run holds before

-- The search has met these pieces.
pub record IsSearch (holds : List ℕ → Bool) (search : Search) (before : List Piece) : Type 0 where
  pub run : search.run.items ≡ newest_run before
  pub start : search.start ≡ newest_start before
  pub found : search.first ≡ first_run_before holds before
