-- The first fault of a source (PAL III Symbolic Assembler manual, and this project's profile of it).
use Rattle.std.specs.Prelude.{ℕ, nat_eq, nat_lt, Bool, true, false, if◌then◌else◌, Option, Some, None, Ok, Err, List, [], ◌∷◌}
use Rattle.pal_lex.specs.Text.{is_over, line_after}
use Rattle.pal_lex.specs.Statements.{statements}
use Rattle.pal_faults.specs.Faults.{lexical}
use Rattle.pal_lex.specs.declared.pieces.Term.{Term}
use Rattle.pal_lex.specs.declared.pieces.Term.TheVariants.{Name, Number, Here}
use Rattle.pal_lex.specs.declared.phrases.Part.{Part}
use Rattle.pal_lex.specs.declared.phrases.Body.{Body}
use Rattle.pal_lex.specs.declared.phrases.Body.TheVariants.{Nothing, Origin, Define, Decimal, Octal, Pause, Field, Reference, Word}
use Rattle.pal_lex.specs.declared.phrases.Statement.{Statement}
use Rattle.pal_faults.specs.declared.assembling.Code.{Code}
use Rattle.pal_faults.specs.declared.assembling.Code.TheVariants.{UA, DT, RD, IR, FD, PF, NE, NW}
use Rattle.pal_faults.specs.declared.assembling.AsmFault.{AsmFault}
use Rattle.pal_faults.specs.declared.assembling.AsmFault.TheVariants.{At}
use Rattle.pal_asm.specs.Expressions.{Meanings, value_of, address_value}
use Rattle.pal_asm.specs.Places.{Source, is_word, place_at, values, values_at, is_fixed_at}
use Rattle.pal_asm.specs.Words.{offset_of, word_values}

-- the first of two
abbrev pub first_of : {A : Type 0} → Option A → Option A → Option A
first_of None later = later
first_of (Some fault) later = Some fault

-- no address is past 7777
abbrev pub past : ℕ → Option Code
past place = if nat_lt 0o7777 place then Some PF else None

abbrev pub fault_of_name : Option ℕ → Option Code
fault_of_name None = Some UA
fault_of_name (Some value) = None

-- a name stands for a value other than this one
abbrev pub defined_otherwise : Code → ℕ → Option ℕ → Option Code
defined_otherwise code value None = None
defined_otherwise code value (Some known) = if nat_eq known value then None else Some code

-- ## Expressions

abbrev pub term_fault : Meanings → ℕ → Term → Option Code
term_fault known place (Name n) = fault_of_name (known n)
term_fault known place (Number n) = None
term_fault known place Here = past place

-- the terms from the left
abbrev pub terms_fault : Meanings → ℕ → List Part → Option Code
terms_fault known place [] = None
terms_fault known place (part ∷ others) = first_of (term_fault known place part.term) (terms_fault known place others)

-- ## In the order of the source, each statement by those before it

-- the tags from the left, PF of each before DT
abbrev pub tags_fault : Meanings → ℕ → List ℕ → Option Code
tags_fault known place [] = None
tags_fault known place (tag ∷ tags) = first_of (first_of (past place) (defined_otherwise DT place (known tag))) (tags_fault known place tags)

abbrev pub field_fault : Option ℕ → Option Code
field_fault None = None
field_fault (Some number) = if nat_lt 7 number then Some FD else None

-- `=` gives a permanent name or a tag no other value
abbrev pub definition_fault : Bool → Option ℕ → Option ℕ → Option Code
definition_fault fixed None known = None
definition_fault false (Some value) known = None
definition_fault true (Some value) known = defined_otherwise RD value known

-- the fault of a body, where these names are fixed and stand for these values
abbrev pub body_fault : (ℕ → Bool) → Meanings → ℕ → Body → Option Code
body_fault fixed known place Nothing = None
body_fault fixed known place (Origin e) = terms_fault known place e
body_fault fixed known place (Define name e) = first_of (terms_fault known place e) (definition_fault (fixed name) (value_of known place e) (known name))
body_fault fixed known place Decimal = None
body_fault fixed known place Pause = None
body_fault fixed known place Octal = None
body_fault fixed known place (Field e) = first_of (terms_fault known place e) (field_fault (value_of known place e))
body_fault fixed known place (Reference operation indirect address) = past place
body_fault fixed known place (Word e) = past place

-- the fault of a statement after others: its tags, then its body
abbrev pub statement_fault : Statement → Source → Option Code
statement_fault s older =
    first_of (tags_fault (values older) (place_at older) s.tags) (body_fault (is_fixed_at s.tags older) (values_at s.tags older) (place_at older) s.body)

abbrev pub at_line : ℕ → Option Code → Option AsmFault
at_line line None = None
at_line line (Some code) = Some (At code line)

-- The first fault of the first order: in the order of the source, what the lexer refuses, and what a statement is refused
-- by the statements before it.
abbrev pub first_order : Source → Option AsmFault
first_order [] = None
first_order (Err fault ∷ older) = first_of (first_order older) (Some (lexical fault))
first_order (Ok s ∷ older) = first_of (first_order older) (at_line s.line (statement_fault s older))

-- ## No `$`

abbrev pub no_end : List ℕ → Option AsmFault
no_end text = if is_over text then None else Some (At NE (line_after text))

-- ## Words: a name may be defined after them

abbrev pub no_offset : Option ℕ → Option Code
no_offset None = Some IR
no_offset (Some offset) = None

-- an address that a memory reference at a place has no offset for
abbrev pub out_of_reach : ℕ → Option ℕ → Option Code
out_of_reach place None = None
out_of_reach place (Some address) = no_offset (offset_of place address)

abbrev pub address_fault : Meanings → ℕ → Option (List Part) → Option Code
address_fault known place None = None
address_fault known place (Some e) = terms_fault known place e

abbrev pub word_fault : Meanings → ℕ → Body → Option Code
word_fault known place Nothing = None
word_fault known place (Origin e) = None
word_fault known place (Define name e) = None
word_fault known place Decimal = None
word_fault known place Pause = None
word_fault known place Octal = None
word_fault known place (Field e) = None
word_fault known place (Reference operation indirect address) =
    first_of (address_fault known place address) (out_of_reach place (address_value known place address))
word_fault known place (Word e) = terms_fault known place e

-- the first fault of a word, where names stand for these values at last
abbrev pub words_fault : Meanings → Source → Option AsmFault
words_fault last [] = None
words_fault last (Err fault ∷ older) = words_fault last older
words_fault last (Ok s ∷ older) = first_of (words_fault last older) (at_line s.line (word_fault (word_values last s.tags older) (place_at older) s.body))

-- ## No word

abbrev pub has_word : Source → Bool
has_word [] = false
has_word (Err fault ∷ older) = has_word older
has_word (Ok s ∷ older) = if is_word s.body then true else has_word older

-- the line of the last statement, which is that of the `$`
abbrev pub last_line : Source → ℕ
last_line [] = 1
last_line (Err fault ∷ older) = last_line older
last_line (Ok s ∷ older) = s.line

abbrev pub no_word : Source → Option AsmFault
no_word source = if has_word source then None else Some (At NW (last_line source))

-- ## The first fault of a text: one of the first order, else the missing `$`, else that of a word, else that there is none

abbrev pub fault_by : Source → Option AsmFault → Option AsmFault
fault_by source unended = first_of (first_order source) (first_of unended (first_of (words_fault (values source) source) (no_word source)))

abbrev pub fault_of : List ℕ → Option AsmFault
fault_of text = fault_by (statements text) (no_end text)
