-- The name that a fault UA is about (this project's profile of PAL III).
use Rattle.std.specs.Prelude.{ℕ, if◌then◌else◌, Option, Some, None, is_some, Ok, Err, List, [], ◌∷◌}
use Rattle.std.specs.Option.{option_or}
use Rattle.pal_lex.specs.Text.{is_over, ends_statement}
use Rattle.pal_lex.specs.Statements.{statements}
use Rattle.pal_lex.specs.declared.pieces.Term.{Term}
use Rattle.pal_lex.specs.declared.pieces.Term.TheVariants.{Name, Number, Here}
use Rattle.pal_lex.specs.declared.phrases.Part.{Part}
use Rattle.pal_lex.specs.declared.phrases.Body.{Body}
use Rattle.pal_lex.specs.declared.phrases.Body.TheVariants.{Nothing, Origin, Define, Decimal, Octal, Pause, Field, Reference, Word}
use Rattle.pal_faults.specs.declared.assembling.Code.{Code}
use Rattle.pal_faults.specs.declared.assembling.Code.TheVariants.{IC, SY, NU, UA, DT, RD, IR, FD, PF, NE, NW}
use Rattle.pal_asm.specs.Expressions.{Meanings}
use Rattle.pal_asm.specs.Places.{Source, values, values_at}
use Rattle.pal_asm.specs.Words.{word_values}
use Rattle.host_sources.specs.Places.{shortest, is_refused, is_settled}

-- ## In a statement

-- a name that stands for nothing
abbrev pub unknown_term : Meanings → Term → Option ℕ
unknown_term known (Name n) = if is_some (known n) then None else Some n
unknown_term known (Number n) = None
unknown_term known Here = None

-- the first name of an expression, from the left, that stands for nothing
abbrev pub unknown_of : Meanings → List Part → Option ℕ
unknown_of known [] = None
unknown_of known (part ∷ others) = option_or (unknown_term known part.term) (unknown_of known others)

abbrev pub unknown_address : Meanings → Option (List Part) → Option ℕ
unknown_address known None = None
unknown_address known (Some e) = unknown_of known e

-- the first name of a body that is to stand for something there, and stands for nothing
abbrev pub unknown_in : Meanings → Body → Option ℕ
unknown_in known Nothing = None
unknown_in known (Origin e) = unknown_of known e
unknown_in known (Define name e) = unknown_of known e
unknown_in known Decimal = None
unknown_in known Octal = None
unknown_in known Pause = None
unknown_in known (Field e) = unknown_of known e
unknown_in known (Reference operation indirect address) = unknown_address known address
unknown_in known (Word e) = unknown_of known e

-- ## In a text

-- what names stand for at the body of a statement with these tags after others
abbrev pub Standing : Type 0
Standing = List ℕ → Source → Meanings

-- the first name of the newest of statements that stands for nothing there
abbrev pub newest_unknown : Standing → Source → Option ℕ
newest_unknown standing [] = None
newest_unknown standing (Err fault ∷ older) = None
newest_unknown standing (Ok s ∷ older) = unknown_in (standing s.tags older) s.body

-- the first name of the statement that the newest byte of a text ends, that stands for nothing there
abbrev pub unknown_ended : Standing → List ℕ → Option ℕ
unknown_ended standing [] = None
unknown_ended standing (b ∷ older) = if ends_statement older b then newest_unknown standing (statements (b ∷ older)) else None

-- The first name that stands for nothing where the statement with the fault of a text is judged. In the first pass it is
-- judged by the statements before it. In the second one, where words are judged, it is judged by those, else by the whole text.
abbrev pub unknown_name : List ℕ → Option ℕ
unknown_name text =
    if is_refused text then unknown_ended values_at (shortest is_refused text)
    else (if is_over text then unknown_ended (word_values (values (statements text))) (shortest (is_settled (values (statements text))) text)
    else None)

-- a fault UA is about a name, and no other fault is
abbrev pub about : Code → Option ℕ → Option ℕ
about IC name = None
about SY name = None
about NU name = None
about UA name = name
about DT name = None
about RD name = None
about IR name = None
about FD name = None
about PF name = None
about NE name = None
about NW name = None
