-- The statements that name cells by their tags.
use Rattle.std.specs.Prelude.{◌≡◌, ◌≢◌, ℕ, ◌+◌, ◌*◌, ◌/◌, ◌%◌, nat_eq, Bool, true, false, Some, Ok, List, [], ◌∷◌, ◌++◌}
use Rattle.word12.specs.declared.sizes.TheConstants.{FIELD}
use Rattle.pal_lex.specs.Text.{text_of}
use Rattle.pal_lex.specs.Language.{word_of}
use Rattle.pal_lex.specs.Statements.{statements}
use Rattle.pal_lex.specs.declared.pieces.Term.TheVariants.{Name}
use Rattle.pal_lex.specs.declared.phrases.Joint.TheVariants.{Add}
use Rattle.pal_lex.specs.declared.phrases.Operation.{Operation}
use Rattle.pal_lex.specs.declared.phrases.Body.{Body}
use Rattle.pal_lex.specs.declared.phrases.Body.TheVariants.{Reference, Word}
use Rattle.pal_lex.specs.declared.phrases.Statement.{Statement}
use Rattle.pal_asm.specs.Places.{Source, place_at, field_at}
use Rattle.bin_tape.specs.Items.{Item, tape_map}
use Rattle.flow8.specs.Exits.{referred_cell}
use Rattle.tape_source.specs.References.{is_reference}
use Rattle.tape_source.specs.Looks.{Look, is_tagged, name_in}
use Rattle.tape_source.specs.Sources.{words_of_tape}

-- A body is a reference of this word's operation by a name, and indirect where the word is.
pub record IsReferenceBy (word name : ℕ) (body : Body) : Type 0 where
  pub operation : Operation
  pub is_operation : word_of operation ≡ 0o1000 * (word / 0o1000)
  pub body_is : body ≡ Reference operation (nat_eq (word / 0o400 % 2) 1) (Some (record { joint = Add; term = Name name } ∷ []))

-- The body of a cell's word is by a tag in two cases. The word is an instruction that is a memory reference, and the cell that it
-- names is tagged. Or it is a datum other than 0, and the cell is tagged whose address it is in its own field.
pub record IsByTag (look : Look) (tagged : ℕ → Bool) (cell word : ℕ) (body : Body) : Type 0 where
  pub reference : look.is_code cell ≡ true → is_reference (cell % FIELD) word ≡ true → tagged (referred_cell cell word) ≡ true
      → IsReferenceBy word (name_in look.name (referred_cell cell word)) body
  pub datum : look.is_code cell ≡ false → word ≢ 0 → tagged (FIELD * (cell / FIELD) + word) ≡ true
      → body ≡ Word (record { joint = Add; term = Name (name_in look.name (FIELD * (cell / FIELD) + word)) } ∷ [])

-- The statement of a source at a cell has a body of which this holds.
pub record IsThere (Is : Body → Type 0) (source : Source) (cell : ℕ) : Type 0 where
  pub newer : Source
  pub older : Source
  pub statement : Statement
  pub split : source ≡ newer ++ Ok statement ∷ older
  pub place : FIELD * field_at older + place_at older ≡ cell
  pub is : Is statement.body

-- Of each word of a tape the statement of a text there is by a tag, where it can be.
abbrev pub NamesTags : Look → List ℕ → List Item → Type 0
NamesTags look text items =
    (cell word : ℕ) → tape_map items cell ≡ Some word
    → IsThere (IsByTag look (is_tagged look (words_of_tape items)) cell word) (statements (text_of text)) cell
