-- How a listing shows cells, and what else it shows beside their words (this project's profile).
use Rattle.std.specs.Prelude.{◌≡◌, ◌≢◌, ℕ, ◌<◌, Bool, true, false, ◌&&◌, ◌||◌, Option, Some, None, is_some, List, [], ◌∷◌, slice_index_or}
use Rattle.word12.specs.declared.sizes.TheConstants.{CORE}
use Rattle.word12.specs.Sixbit.{is_letter}
use Rattle.pal_lex.specs.Cutting.{are_coded}
use Rattle.pal_lex.specs.Runs.{name_number}
use Rattle.pal_lex.specs.Language.{is_reserved}
use Rattle.pal_sym.specs.Permanent.{permanent}
use Rattle.source_notes.specs.Laws.{all_graphic, are_graphic}
use Rattle.source_notes.specs.Notes as notes
use Rattle.source_names.specs.Laws.{visible_name}
use Rattle.tape_source.specs.Tags.{is_given, is_referred, tag}

-- How the tags of cells are spelled. Which cells have a name of their own, and so a tag whatever refers to them. Which words are shown as
-- instructions. The comments that stand on lines of their own above a cell's, each after its `/`. What stands in a cell's comment after
-- its word. Whether an empty line stands after a cell's.
pub record Look : Type 0 where
  pub name : ℕ → List ℕ
  pub has_name : ℕ → Bool
  pub is_code : ℕ → Bool
  pub above : ℕ → List (List ℕ)
  pub remark : ℕ → List ℕ
  pub has_gap : ℕ → Bool

-- Comments are made of graphic characters, and so none of them ends its line.
pub record AreNotes (look : Look) : Type 0 where
  pub above : (cell : ℕ) → cell < CORE → all_graphic (look.above cell) ≡ true
  pub remark : (cell : ℕ) → cell < CORE → are_graphic (look.remark cell) ≡ true

-- Of cells with their words a source tags those that have a name of their own, and those that a memory reference among its instructions
-- names.
abbrev pub is_tagged : Look → List (ℕ × ℕ) → ℕ → Bool
is_tagged look pairs cell = is_given pairs cell && (look.has_name cell || is_referred look.is_code pairs cell)

-- a letter followed by letters and digits
abbrev pub is_name : List ℕ → Bool
is_name [] = false
is_name (first ∷ others) = is_letter first && are_coded others

-- the name that a cell's tag is
abbrev pub name_in : (ℕ → List ℕ) → ℕ → ℕ
name_in name cell = name_number (name cell)

-- Each cell's tag is a name of its own, no permanent one, and no word of the language.
pub record IsNaming (name : ℕ → List ℕ) : Type 0 where
  pub are_names : (cell : ℕ) → cell < CORE → is_name (name cell) ≡ true
  pub differ : (a b : ℕ) → a < CORE → b < CORE → name_in name a ≡ name_in name b → a ≡ b
  pub not_permanent : (cell : ℕ) → cell < CORE → permanent (name_in name cell) ≡ None
  pub not_reserved : (cell : ℕ) → cell < CORE → is_reserved (name_in name cell) ≡ false

-- a name is the tag that is made of a cell
pub record IsTagOf (name : List ℕ) : Type 0 where
  pub cell : ℕ
  pub small : cell < CORE
  pub is : tag cell ≡ name

-- ## Names that some cells are given

abbrev pub or_tag : Option (List ℕ) → ℕ → List ℕ
or_tag None cell = tag cell
or_tag (Some name) cell = name

-- the name that a cell is given, or the tag that is made of it
abbrev pub name_or_tag : (ℕ → Option (List ℕ)) → ℕ → List ℕ
name_or_tag given cell = or_tag (given cell) cell

-- Each name that a cell is given is one of its own, no permanent one, no word of the language, and no tag that is made of a cell.
pub record AreOwnNames (given : ℕ → Option (List ℕ)) : Type 0 where
  pub are_names : (cell : ℕ) (name : List ℕ) → cell < CORE → given cell ≡ Some name → is_name name ≡ true
  pub differ : (a b : ℕ) (name other : List ℕ) → a < CORE → b < CORE → given a ≡ Some name → given b ≡ Some other
      → name_number name ≡ name_number other → a ≡ b
  pub not_permanent : (cell : ℕ) (name : List ℕ) → cell < CORE → given cell ≡ Some name → permanent (name_number name) ≡ None
  pub not_reserved : (cell : ℕ) (name : List ℕ) → cell < CORE → given cell ≡ Some name → is_reserved (name_number name) ≡ false
  pub no_tags : (cell other : ℕ) (name : List ℕ) → cell < CORE → other < CORE → given cell ≡ Some name → name_number name ≢ name_in tag other

-- a name in six places as it is shown
abbrev pub as_shown : Option (List ℕ) → Option (List ℕ)
as_shown None = None
as_shown (Some six) = Some (visible_name six)

-- the names that a table gives cells
abbrev pub names_in : List (Option (List ℕ)) → ℕ → Option (List ℕ)
names_in table cell = as_shown (slice_index_or table cell None)

-- it gives no cell a name
abbrev pub GivesNoName : List (Option (List ℕ)) → Type 0
GivesNoName table = (cell : ℕ) → cell < CORE → slice_index_or table cell None ≡ None

-- ## Looks

-- these are instructions, tags are those that are made of the cells, and nothing is shown beside the words
abbrev pub bare : (ℕ → Bool) → Look
bare is_code = record { name = tag; has_name = λ cell. false; is_code = is_code; above = λ cell. []; remark = λ cell. []; has_gap = λ cell. false }

-- the same with the notes of these words
abbrev pub with_notes : (ℕ → Option ℕ) → (ℕ → Bool) → Look
with_notes words is_code = record {
  name = tag;
  has_name = λ cell. false;
  is_code = is_code;
  above = λ cell. notes.above words is_code cell;
  remark = λ cell. notes.remark words is_code cell;
  has_gap = λ cell. notes.has_gap words is_code cell;
}

-- all words are instructions
abbrev pub plain : Look
plain = bare (λ cell. true)

-- the same with the names of a table, as the tags of their cells
abbrev pub with_names : List (Option (List ℕ)) → Look → Look
with_names table look = record look { name = name_or_tag (names_in table); has_name = λ cell. is_some (names_in table cell) }
