-- What stands after a command: quoted texts, registers, forms, classes and comparisons.
use Rattle.std.specs.Prelude.{ℕ, Bool, false, ◌+◌, ◌-◌, ◌==◌, nat_eq, if◌then◌else◌, codes, List, [], ◌∷◌, length, position, Option, None, Some, Result, Ok, Err}
use Rattle.std.specs.Str.{bytes_eq}
use Rattle.debug_lines.specs.Cells.{cell_in}
use Rattle.debug_lines.specs.Numbers.{refusal_at, word_in}
use Rattle.debug_lines.specs.Parts.{text_of, first_bytes, following_bytes, is_word, if_read}
use Rattle.debug_lines.specs.Words.{is_quote}
use Rattle.debug_lines.specs.declared.commands.Form.{Form}
use Rattle.debug_lines.specs.declared.commands.Form.TheVariants.{Octal, Instruction, Character, Sixbit, Text}
use Rattle.debug_lines.specs.declared.comparisons.Comparison.{Comparison}
use Rattle.debug_lines.specs.declared.comparisons.Register.{Register}
use Rattle.debug_lines.specs.declared.comparisons.Register.TheVariants.{Accumulator, Link, Quotient, Counter, Switches, InstructionField, DataField}
use Rattle.debug_lines.specs.declared.comparisons.Sign.{Sign}
use Rattle.debug_lines.specs.declared.comparisons.Sign.TheVariants.{Equal, Unequal, Less, Greater}
use Rattle.debug_lines.specs.declared.comparisons.Subject.{Subject}
use Rattle.debug_lines.specs.declared.comparisons.Subject.TheVariants as subject
use Rattle.debug_lines.specs.declared.faults.Refusal.{Refusal}
use Rattle.debug_lines.specs.declared.faults.Refused.{Refused}
use Rattle.debug_lines.specs.declared.faults.Refused.TheVariants.{NotName, NotComparison, NotQuoted, UnclosedQuote}
use Rattle.debug_lines.specs.declared.parts.Part.{Part}
use Rattle.debug_lines.specs.declared.references.Reference.{Reference}
use Rattle.debug_lines.specs.declared.spots.Class.{Class}
use Rattle.debug_lines.specs.declared.spots.Class.TheVariants.{Transfer, Call, Jump, Halt, Operate, MemoryReference}

-- what was found, or why nothing was
abbrev pub or_refused : {A : Type 0} → Refused → Part → Option A → Result A Refusal
or_refused why part None = Err (refusal_at why part)
or_refused why part (Some it) = Ok it

-- ## Quotes

abbrev pub is_byte : ℕ → ℕ → Bool
is_byte wanted byte = byte == wanted

-- a word begins with a quote
abbrev pub begins_quote : List ℕ → Bool
begins_quote [] = false
begins_quote (first ∷ following) = is_quote first

abbrev pub is_quoted : List ℕ → Part → Bool
is_quoted line part = begins_quote (text_of line part)

-- what stands in a quote before its end
abbrev pub until_close : Part → Option ℕ → Result Part Refusal
until_close part None = Err (refusal_at UnclosedQuote part)
until_close part (Some end) = Ok (first_bytes end (following_bytes 1 part))

abbrev pub quoted_text : Part → List ℕ → Result Part Refusal
quoted_text part [] = Err (refusal_at NotQuoted part)
quoted_text part (first ∷ following) =
    if is_quote first then until_close part (position (is_byte first) following) else Err (refusal_at NotQuoted part)

-- what stands between quotes
abbrev pub quote_in : List ℕ → Part → Result Part Refusal
quote_in line part = quoted_text part (text_of line part)

-- a text: a word, or what stands between quotes
abbrev pub text_in : List ℕ → Part → Result Part Refusal
text_in line part = if is_quoted line part then quote_in line part else Ok part

-- one character between quotes
abbrev pub one_character : Part → Part → List ℕ → Result Part Refusal
one_character part inside [] = Err (refusal_at NotQuoted part)
one_character part inside (character ∷ []) = Ok inside
one_character part inside (character ∷ other ∷ others) = Err (refusal_at NotQuoted part)

abbrev pub character_in : List ℕ → Part → Result Part Refusal
character_in line part = if_read (quote_in line part) (λ inside. one_character part inside (text_of line inside))

-- ## Names of the language

abbrev pub register_of : List ℕ → Option Register
register_of name =
    if bytes_eq name (codes "ac") then Some Accumulator
    else if bytes_eq name (codes "l") then Some Link
    else if bytes_eq name (codes "mq") then Some Quotient
    else if bytes_eq name (codes "pc") then Some Counter
    else if bytes_eq name (codes "sr") then Some Switches
    else if bytes_eq name (codes "if") then Some InstructionField
    else if bytes_eq name (codes "df") then Some DataField
    else None

abbrev pub register_in : List ℕ → Part → Result Register Refusal
register_in line part = or_refused NotName part (register_of (text_of line part))

abbrev pub form_of : List ℕ → Option Form
form_of name =
    if bytes_eq name (codes "octal") then Some Octal
    else if bytes_eq name (codes "instruction") then Some Instruction
    else if bytes_eq name (codes "character") then Some Character
    else if bytes_eq name (codes "sixbit") then Some Sixbit
    else if bytes_eq name (codes "text") then Some Text
    else None

abbrev pub form_in : List ℕ → Part → Result Form Refusal
form_in line part = or_refused NotName part (form_of (text_of line part))

abbrev pub class_of : List ℕ → Option Class
class_of name =
    if bytes_eq name (codes "iot") then Some Transfer
    else if bytes_eq name (codes "jms") then Some Call
    else if bytes_eq name (codes "jmp") then Some Jump
    else if bytes_eq name (codes "hlt") then Some Halt
    else if bytes_eq name (codes "opr") then Some Operate
    else if bytes_eq name (codes "ref") then Some MemoryReference
    else None

-- ## Comparisons

-- the place of the bracket that is a text's last byte
abbrev pub if_last : List ℕ → Option ℕ → Option ℕ
if_last text None = None
if_last text (Some place) = if nat_eq (length text - place) 1 then Some place else None

abbrev pub bracket_in : List ℕ → Option ℕ
bracket_in text = if_last text (position (is_byte 0o135) text)

abbrev pub bracketed_cell : List ℕ → Part → Option ℕ → Result Subject Refusal
bracketed_cell line part None = Err (refusal_at NotComparison part)
bracketed_cell line part (Some end) = if_read (cell_in line (first_bytes end (following_bytes 1 part))) (λ cell. Ok (subject.Cell cell))

abbrev pub register_to_compare : Part → Option Register → Result Subject Refusal
register_to_compare part None = Err (refusal_at NotComparison part)
register_to_compare part (Some register) = Ok (subject.Register register)

abbrev pub subject_of : List ℕ → Part → List ℕ → Result Subject Refusal
subject_of line part [] = register_to_compare part (register_of [])
subject_of line part (first ∷ following) =
    if first == 0o133 then bracketed_cell line part (bracket_in following) else register_to_compare part (register_of (first ∷ following))

-- what is compared: a register, or a cell in brackets
abbrev pub subject_in : List ℕ → Part → Result Subject Refusal
subject_in line part = subject_of line part (text_of line part)

-- how it is compared
abbrev pub sign_in : List ℕ → Part → Result Sign Refusal
sign_in line part =
    if is_word (codes "=") line part then Ok Equal
    else if is_word (codes "#") line part then Ok Unequal
    else if is_word (codes "<") line part then Ok Less
    else if is_word (codes ">") line part then Ok Greater
    else Err (refusal_at NotComparison part)

abbrev pub comparison : Subject → Sign → ℕ → Comparison
comparison subject sign word = record { subject = subject; sign = sign; word = word }

-- a comparison: a register or a cell in brackets, a sign, and a word
abbrev pub comparison_in : List ℕ → Part → Part → Part → Result Comparison Refusal
comparison_in line subject sign word =
    if_read (subject_in line subject) (λ what.
    if_read (sign_in line sign) (λ how.
    if_read (word_in line word) (λ number. Ok (comparison what how number))))
