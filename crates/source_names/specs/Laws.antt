-- What the names of a file are, and what they are not.
use Rattle.std.specs.Prelude.{◌≡◌, ◌<◌, ℕ, nat_eq, true, false, if◌then◌else◌, Option, Some, None, is_some, List, [], ◌∷◌, slice_index_or}
use Rattle.word12.specs.declared.sizes.TheConstants.{CORE}
use Rattle.pal_sym.specs.Names.{name_number}
use Rattle.source_names.specs.Names.{has_tag_form, is_taken, short_name}

-- the characters of a name in six places
abbrev pub visible_name : List ℕ → List ℕ
visible_name [] = []
visible_name (byte ∷ others) = if nat_eq byte 0 then [] else byte ∷ visible_name others

-- a name that no symbol of the language has, and no tag that a listing makes
pub record IsOwnName (name : List ℕ) : Type 0 where
  pub is_name : short_name name ≡ Some (name_number name)
  pub not_taken : is_taken (name_number name) ≡ false
  pub no_tag : has_tag_form name ≡ false

-- what a cell is given: a name of its own, and it has a word
pub record IsGiven (words : ℕ → Option ℕ) (cell : ℕ) (name : List ℕ) : Type 0 where
  pub own : IsOwnName name
  pub word : is_some (words cell) ≡ true

-- each cell that has a name in the table of a text
abbrev pub AreGiven : (ℕ → Option ℕ) → List (Option (List ℕ)) → Type 0
AreGiven words table = (cell : ℕ) (six : List ℕ) → cell < CORE → slice_index_or table cell None ≡ Some six → IsGiven words cell (visible_name six)

-- no two cells have the same name
abbrev pub AreDifferent : List (Option (List ℕ)) → Type 0
AreDifferent table =
    (a b : ℕ) (six other : List ℕ) → a < CORE → b < CORE → slice_index_or table a None ≡ Some six → slice_index_or table b None ≡ Some other
    → name_number (visible_name six) ≡ name_number (visible_name other) → a ≡ b
