-- What the lines of a text say, each judged by the lines before it.
use Rattle.std.specs.Prelude.{◌≡◌, ◌<◌, ◌+◌, ℕ, nat_eq, Bool, false, ◌&&◌, ◌||◌, not, if◌then◌else◌, Option, Some, None, List, [], ◌∷◌, ◌++◌, length, reverse, slice_index_or}
use Rattle.word12.specs.declared.sizes.TheConstants.{CORE}
use Rattle.source_names.specs.Names.{cell_in, name_in, says_nothing, short_name, six_places, why_taken}
use Rattle.pal_faults.specs.declared.names.LineRefusal.{LineRefusal}
use Rattle.pal_faults.specs.declared.names.LineRefusal.TheVariants.{BadLine, NoName}

abbrev pub is_this : Option ℕ → ℕ → Bool
is_this None number = false
is_this (Some other) number = nat_eq other number

-- a line says a name of this number, or this cell
abbrev pub says_name : List ℕ → ℕ → Bool
says_name line number = not (says_nothing line) && is_this (short_name (name_in line)) number

abbrev pub says_cell : List ℕ → ℕ → Bool
says_cell line cell = not (says_nothing line) && is_this (cell_in line) cell

-- one of these lines says this cell, or a name of this number
abbrev pub say_either : List (List ℕ) → ℕ → ℕ → Bool
say_either [] cell number = false
say_either (line ∷ older) cell number = (says_name line number || says_cell line cell) || say_either older cell number

-- why a name isn't given to a cell after lines
abbrev pub why_after : (ℕ → Option ℕ) → List (List ℕ) → Option ℕ → List ℕ → Option ℕ → Option LineRefusal
why_after words older None name number = Some BadLine
why_after words older (Some cell) name None = Some NoName
why_after words older (Some cell) name (Some number) = why_taken (words cell) (say_either older cell number) name number

-- why a line is refused after these
abbrev pub refusal_after : (ℕ → Option ℕ) → List (List ℕ) → List ℕ → Option LineRefusal
refusal_after words older line =
    if says_nothing line then None else why_after words older (cell_in line) (name_in line) (short_name (name_in line))

-- each of these lines, the newest first, is taken after those before it
abbrev pub AreTaken : (ℕ → Option ℕ) → List (List ℕ) → Type 0
AreTaken words [] = Unit {0}
AreTaken words (line ∷ older) = (refusal_after words older line ≡ None) × AreTaken words older

-- the name that these lines say for a cell, in six places
abbrev pub name_said : List (List ℕ) → ℕ → Option (List ℕ)
name_said [] cell = None
name_said (line ∷ older) cell = if says_cell line cell then Some (six_places (name_in line)) else name_said older cell

-- All lines are taken, and a table has the names that they say.
pub record AreSaid (words : ℕ → Option ℕ) (lines : List (List ℕ)) (table : List (Option (List ℕ))) : Type 0 where
  pub newest_first : List (List ℕ)
  pub are : lines ≡ reverse newest_first
  pub taken : AreTaken words newest_first
  pub names : (cell : ℕ) → cell < CORE → slice_index_or table cell None ≡ name_said newest_first cell

-- The lines before one, the newest first, are taken, and this one is refused after them: so it is the first that is.
pub record IsFirstRefused (words : ℕ → Option ℕ) (lines : List (List ℕ)) (number : ℕ) (why : LineRefusal) : Type 0 where
  pub older : List (List ℕ)
  pub line : List ℕ
  pub later : List (List ℕ)
  pub are : lines ≡ reverse older ++ line ∷ later
  pub taken : AreTaken words older
  pub refused : refusal_after words older line ≡ Some why
  pub count : number ≡ length older + 1
