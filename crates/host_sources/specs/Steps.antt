-- What the small steps do, for private clauses.
use Rattle.std.specs.Prelude.{◌≡◌, ◌⊎◌, ℕ, ◌+◌, ◌≤◌, ◌<◌, nat_eq, Bool, true, false, if◌then◌else◌, Option, Some, None, is_some, Ok, take, length, List, [], ◌∷◌, ◌++◌}
use Rattle.pal_lex.specs.Text.{text_of, is_over, ends_statement}
use Rattle.pal_lex.specs.Statements.{statements, first_fault}
use Rattle.pal_lex.specs.Joins.{pauses, before_pause}
use Rattle.pal_lex.specs.Reading.{HasRead, is_pause_body, with_tokens}
use Rattle.pal_lex.specs.Progress.{Progress}
use Rattle.pal_faults.specs.declared.lexical.LexFault.{LexFault}
use Rattle.pal_faults.specs.declared.lexical.LexFault.TheVariants as lex
use Rattle.pal_lex.specs.declared.phrases.Statement.{Statement}
use Rattle.pal_lex.specs.declared.pieces.Token.{Token}
use Rattle.pal_asm.specs.Places.{Source, values}
use Rattle.pal_asm.specs.Faults.{first_order}
use Rattle.pal_asm.specs.Passes.{IsFirst, IsSecond}
use Rattle.pal_asm.specs.Progress as asm
use Rattle.host_sources.specs.Places.{is_refused, is_settled}
use Rattle.host_sources.specs.declared.pauses.Met.{Met}
use Rattle.host_sources.specs.declared.pauses.Met.TheVariants.{Nothing, End, Pause}
use Rattle.host_sources.specs.declared.locating.Step.{Step}
use Rattle.host_sources.specs.declared.locating.Step.TheVariants as step
use Rattle.host_sources.specs.declared.locating.Passed.{Passed}
use Rattle.host_sources.specs.declared.locating.Passed.TheVariants as passed

abbrev pub is_memory : LexFault → Bool
is_memory (lex.IC line) = false
is_memory (lex.SY line) = false
is_memory (lex.NU line) = false
is_memory (lex.NE line) = false
is_memory lex.Memory = true

-- ## PAUSE

-- what the end of a statement is, which is PAUSE or not
abbrev pub end_by : Bool → Met
end_by true = Pause
end_by false = End

-- what a byte after a text is to a lexer: it ends nothing, or a statement, or PAUSE
abbrev pub Meets : List ℕ → ℕ → Met → Progress → Type 0
Meets text b Nothing new = (ends_statement text b ≡ false) × (first_fault (statements (b ∷ text)) ≡ None) × HasRead new 0 (b ∷ text)
Meets text b End new = (ends_statement text b ≡ true) × (pauses text b ≡ false)
Meets text b Pause new = pauses text b ≡ true

abbrev pub is_pause_met : Met → Bool
is_pause_met Nothing = false
is_pause_met End = false
is_pause_met Pause = true

-- after this byte the text is over
abbrev pub ends_text : Met → ℕ → Bool
ends_text Nothing b = false
ends_text End b = nat_eq b 0o44
ends_text Pause b = false

-- The end of the last statement after a byte, and what reads on: a lexer of no byte after an end.
abbrev pub Renews : Met → ℕ → ℕ → ℕ → Progress → Progress → Type 0
Renews Nothing end following result old new = (result ≡ end) × (new ≡ old)
Renews End end following result old new = (result ≡ following) × HasRead new 0 []
Renews Pause end following result old new = (result ≡ end) × (new ≡ old)

-- how many bytes of a text stand before its PAUSE, if it has one
abbrev pub IsPrefix : List ℕ → Option ℕ → Type 0
IsPrefix bytes None = before_pause (text_of bytes) ≡ None
IsPrefix bytes (Some count) = (count ≤ length bytes) × (before_pause (text_of bytes) ≡ Some (text_of (take count bytes)))

-- ## Joins

-- A text was put after a join, whole or up to its PAUSE, and others follow it or not.
abbrev pub Puts : Bool → List ℕ → Bool → List ℕ → List ℕ → List ℕ → List ℕ → Type 0
Puts last bytes true old new counts counts_then =
    (last ≡ false) × ((count : ℕ) × (before_pause (text_of bytes) ≡ Some (text_of (take count bytes)))
    × (count ≤ length bytes) × (new ≡ old ++ take count bytes) × (counts_then ≡ counts ++ count ∷ []))
Puts last bytes false old new counts counts_then =
    ((last ≡ true) ⊎ (before_pause (text_of bytes) ≡ None)) × (new ≡ old ++ bytes) × (counts_then ≡ counts)

-- ## The passes of one text

abbrev pub step_after : ℕ → Step
step_after b = if nat_eq b 0o44 then step.Over else step.GoesOn

-- what the first pass answers for a statement after others: that it has no fault, or has one
abbrev pub PassesStatement : Statement → Source → Bool → asm.Progress → Type 0
PassesStatement s older true new = (tokens : List Token) → is_pause_body s.body ≡ false → IsFirst new (Ok (with_tokens tokens s) ∷ older)
PassesStatement s older false new = (tokens : List Token) → is_pause_body s.body ≡ false → is_some (first_order (Ok (with_tokens tokens s) ∷ older)) ≡ true

-- what the first pass answers for a byte after a text
abbrev pub PassesByte : List ℕ → ℕ → Step → Progress → asm.Progress → Type 0
PassesByte text b step.GoesOn lexer assembler = HasRead lexer 0 (b ∷ text) × IsFirst assembler (statements (b ∷ text)) × (is_over (b ∷ text) ≡ false)
PassesByte text b step.Over lexer assembler = IsFirst assembler (statements (b ∷ text)) × (is_over (b ∷ text) ≡ true)
PassesByte text b step.Refused lexer assembler = is_refused (b ∷ text) ≡ true

-- what the first pass gives
abbrev pub Passes : List ℕ → Passed → asm.Progress → Type 0
Passes bytes (passed.Refused end) assembler =
    (end < length bytes) × (is_refused (text_of (take (end + 1) bytes)) ≡ true) × (is_refused (text_of (take end bytes)) ≡ false)
Passes bytes (passed.Over end) assembler =
    (end < length bytes) × IsFirst assembler (statements (text_of (take (end + 1) bytes)))
    × (is_over (text_of (take (end + 1) bytes)) ≡ true) × (is_over (text_of (take end bytes)) ≡ false)
Passes bytes passed.Open assembler = (is_refused (text_of bytes) ≡ false) × (is_over (text_of bytes) ≡ false)

-- what the second pass of a whole source answers for a byte after a text: whether it goes on
abbrev pub MakesByte : Source → List ℕ → ℕ → Bool → Progress → asm.Progress → Type 0
MakesByte whole text b true lexer assembler =
    HasRead lexer 0 (b ∷ text) × IsSecond assembler whole (statements (b ∷ text)) × (is_over (b ∷ text) ≡ false)
MakesByte whole text b false lexer assembler = is_settled (values whole) (b ∷ text) ≡ true

-- this byte ends the first word with a fault, or is the `$`
abbrev pub IsSettledAt : List ℕ → ℕ → Type 0
IsSettledAt bytes end =
    (end < length bytes) × (is_settled (values (statements (text_of bytes))) (text_of (take (end + 1) bytes)) ≡ true)
    × (is_settled (values (statements (text_of bytes))) (text_of (take end bytes)) ≡ false)

-- The byte that ends the statement with the fault of a text, and the pass that meets it there.
abbrev pub IsMetAt : List ℕ → Passed → Type 0
IsMetAt bytes (passed.Refused end) =
    (end < length bytes) × (is_refused (text_of (take (end + 1) bytes)) ≡ true) × (is_refused (text_of (take end bytes)) ≡ false)
IsMetAt bytes (passed.Over end) = IsSettledAt bytes end × (is_refused (text_of bytes) ≡ false) × (is_over (text_of bytes) ≡ true)
IsMetAt bytes passed.Open = (is_refused (text_of bytes) ≡ false) × (is_over (text_of bytes) ≡ false)
