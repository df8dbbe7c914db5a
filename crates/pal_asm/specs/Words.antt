-- The words of a source, each with its cell (PAL III Symbolic Assembler manual, and this project's profile of it).
use Rattle.std.specs.Prelude.{ℕ, ◌+◌, ◌*◌, ◌/◌, ◌%◌, nat_eq, nat_lt, if◌then◌else◌, Bool, Option, Some, None, Ok, Err, List, [], ◌∷◌, ◌++◌}
use Rattle.word12.specs.declared.sizes.TheConstants.{FIELD, PAGE}
use Rattle.pal_lex.specs.Language.{word_of}
use Rattle.pal_lex.specs.Statements.{statements}
use Rattle.pal_lex.specs.declared.phrases.Operation.{Operation}
use Rattle.pal_lex.specs.declared.phrases.Body.{Body}
use Rattle.pal_lex.specs.declared.phrases.Body.TheVariants.{Nothing, Origin, Define, Decimal, Octal, Pause, Field, Reference, Word}
use Rattle.pal_asm.specs.Expressions.{Meanings, value_of, address_value}
use Rattle.pal_sym.specs.Values.{if_none}
use Rattle.pal_asm.specs.Places.{Source, place_at, field_at, values, values_at}

-- What stands in a memory reference for an address. Below 0200 it is its offset on page zero, and on the page of the
-- reference its offset with 0200. No other address can be reached.
abbrev pub offset_of : ℕ → ℕ → Option ℕ
offset_of place address =
    if nat_lt address PAGE then Some address
    else (if nat_eq (address / PAGE) (place / PAGE) then Some (address % PAGE + 0o200) else None)

abbrev pub offset_to : ℕ → Option ℕ → Option ℕ
offset_to place None = None
offset_to place (Some address) = offset_of place address

-- `I` is 0400
abbrev pub with_offset : Operation → Bool → Option ℕ → Option ℕ
with_offset operation indirect None = None
with_offset operation indirect (Some offset) = Some (word_of operation + (if indirect then 0o400 else 0) + offset)

-- the word of a body at a place, where it is one and has one
abbrev pub body_word : Meanings → ℕ → Body → Option ℕ
body_word known place Nothing = None
body_word known place (Origin e) = None
body_word known place (Define name e) = None
body_word known place Decimal = None
body_word known place Pause = None
body_word known place Octal = None
body_word known place (Field e) = None
body_word known place (Reference operation indirect address) = with_offset operation indirect (offset_to place (address_value known place address))
body_word known place (Word e) = value_of known place e

-- the cell of a word after these statements
abbrev pub cell_at : Source → ℕ
cell_at older = FIELD * field_at older + place_at older

abbrev pub with_pair : List (ℕ × ℕ) → ℕ → Option ℕ → List (ℕ × ℕ)
with_pair pairs cell None = pairs
with_pair pairs cell (Some word) = pairs ++ (cell, word) ∷ []

-- what names stand for in a word with these tags after these statements: their last definition before it, and where
-- there is none, what they stand for at last
abbrev pub word_values : Meanings → List ℕ → Source → Meanings
word_values last tags older name = if_none (values_at tags older name) (last name)

-- the words of statements with their cells, in the order of the source, where names stand for these values at last
abbrev pub pairs_by : Meanings → Source → List (ℕ × ℕ)
pairs_by last [] = []
pairs_by last (Err fault ∷ older) = pairs_by last older
pairs_by last (Ok s ∷ older) = with_pair (pairs_by last older) (cell_at older) (body_word (word_values last s.tags older) (place_at older) s.body)

-- The words of a text with their cells, in the order of the source. A word may use names that are only defined after it,
-- and these stand for their last definition.
abbrev pub pairs_of : List ℕ → List (ℕ × ℕ)
pairs_of text = pairs_by (values (statements text)) (statements text)
