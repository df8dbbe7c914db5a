-- The tags that a source defines, and what they stand for.
use Rattle.std.specs.Prelude.{◌≡◌, ◌≢◌, ◌⊎◌, ℕ, ◌<◌, ◌%◌, Bool, if◌then◌else◌, Option, Some, None, Ok, Err, reverse, ◌↔◌, true, List, [], ◌∷◌, ◌++◌}
use Rattle.word12.specs.declared.sizes.TheConstants.{CORE, FIELD}
use Rattle.pal_lex.specs.Text.{text_of}
use Rattle.pal_lex.specs.Runs.{name_number}
use Rattle.pal_lex.specs.Statements.{statements}
use Rattle.pal_sym.specs.Permanent.{permanent}
use Rattle.pal_asm.specs.Places.{Source, values}
use Rattle.bin_tape.specs.Items.{Item, tape_map}
use Rattle.flow8.specs.Exits.{referred_cell}
use Rattle.tape_source.specs.References.{is_reference}
use Rattle.tape_source.specs.Looks.{Look, names_in, is_tagged, name_in}
use Rattle.tape_source.specs.Sources.{words_of_tape}

-- the tags that statements define, in the order of the source
abbrev pub tags_in : Source → List ℕ
tags_in [] = []
tags_in (Err fault ∷ older) = tags_in older
tags_in (Ok s ∷ older) = tags_in older ++ s.tags

-- the tags of the cells that are tagged, spelled so, in the order of their words
abbrev pub tags_of : (ℕ → List ℕ) → (ℕ → Bool) → List (ℕ × ℕ) → List ℕ
tags_of name tagged [] = []
tags_of name tagged (pair ∷ later) = (if tagged pair.0 then name_in name pair.0 ∷ [] else []) ++ tags_of name tagged later

-- a name is none of these
abbrev pub IsNoneOf : List ℕ → ℕ → Type 0
IsNoneOf [] name = Unit {0}
IsNoneOf (other ∷ others) name = (name ≢ other) × IsNoneOf others name

-- no two of these names are the same
abbrev pub Differ : List ℕ → Type 0
Differ [] = Unit {0}
Differ (name ∷ others) = IsNoneOf others name × Differ others

-- a name is no cell's tag
abbrev pub IsNoTag : (ℕ → List ℕ) → ℕ → Type 0
IsNoTag name other = (cell : ℕ) → cell < CORE → name_in name cell ≢ other

-- A text defines the tags of the tagged cells among these, the newest first, each once. They stand for the addresses of
-- their cells, and other names for their permanent values.
pub record DefinesTags (look : Look) (text : List ℕ) (pairs : List (ℕ × ℕ)) : Type 0 where
  pub tags_are : tags_in (statements (text_of text)) ≡ tags_of look.name (is_tagged look pairs) (reverse pairs)
  pub once : Differ (tags_in (statements (text_of text)))
  pub values_are : (cell : ℕ) → cell < CORE → values (statements (text_of text)) (name_in look.name cell) ≡ (if is_tagged look pairs cell then Some (cell % FIELD) else None)
  pub others_are : (name : ℕ) → IsNoTag look.name name → values (statements (text_of text)) name ≡ permanent name

-- In a text each name of a table stands for the address of its cell.
abbrev pub DefinesNames : List ℕ → List (Option (List ℕ)) → Type 0
DefinesNames text table =
    (cell : ℕ) (name : List ℕ) → cell < CORE → names_in table cell ≡ Some name
    → values (statements (text_of text)) (name_number name) ≡ Some (cell % FIELD)

-- ## Which cells are tagged, by the tape alone

-- an instruction of a tape is a memory reference that names this cell
pub record Refers (is_code : ℕ → Bool) (items : List Item) (named : ℕ) : Type 0 where
  pub cell : ℕ
  pub word : ℕ
  pub there : tape_map items cell ≡ Some word
  pub code : is_code cell ≡ true
  pub reference : is_reference (cell % FIELD) word ≡ true
  pub names : referred_cell cell word ≡ named

-- A cell is tagged exactly where a tape gives it a word, and it has a name of its own or is named by a memory reference among the
-- instructions.
abbrev pub TagsWhatIsNamed : Look → List Item → Type 0
TagsWhatIsNamed look items =
    (cell : ℕ) → cell < CORE → (is_tagged look (words_of_tape items) cell ≡ true)
    ↔ ((tape_map items cell ≢ None) × ((look.has_name cell ≡ true) ⊎ Refers look.is_code items cell))
