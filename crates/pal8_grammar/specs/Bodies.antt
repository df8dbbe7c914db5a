-- What a statement says (PAL8, in this project's profile).
use Rattle.std.specs.Prelude.{ℕ, ◌*◌, nat_eq, Bool, true, false, ◌&&◌, ◌||◌, not, if◌then◌else◌, is_some, Option, Some, None, Result, Ok, Err, take, drop, List, [], ◌∷◌, codes}
use Rattle.word12.specs.Sixbit.{name_number}
use Rattle.pal8_lex.specs.Kinds.{is_comma}
use Rattle.pal8_lex.specs.Judging.{has_bad, has_bad_number, tag_count}
use Rattle.pal8_lex.specs.declared.tokens.Token.{Token}
use Rattle.pal8_lex.specs.declared.tokens.Kind.{Kind}
use Rattle.pal8_lex.specs.declared.tokens.Kind.TheVariants.{Name, Number, Character, Here, Operator, Equals, Comma, Star, Opening, Closing, String, Bad}
use Rattle.pal8_lex.specs.declared.rules.End.{End}
use Rattle.pal8_lex.specs.declared.rules.End.TheVariants as end
use Rattle.pal8_lex.specs.declared.judging.Radix.{Radix}
use Rattle.pal8_grammar.specs.Permanent.{is_reserved}
use Rattle.pal8_grammar.specs.SourceNames.{Vocabulary}
use Rattle.pal8_grammar.specs.Values.{sign_of, steps_of}
pub use Rattle.pal8_grammar.specs.Names.{free_name, name_of}
use Rattle.pal8_grammar.specs.Names.{device_steps, extension_of, file_steps, one_name, spaced_name, spaced_run}
use Rattle.pal8_grammar.specs.declared.steps.Step.{Step}
use Rattle.pal8_grammar.specs.declared.stands.Stand.TheVariants as stand
use Rattle.pal8_grammar.specs.declared.bodies.Body.{Body}
use Rattle.pal8_grammar.specs.declared.bodies.Body.TheVariants as body
use Rattle.pal8_grammar.specs.declared.forms.Form.{Form}
use Rattle.pal8_grammar.specs.declared.forms.Form.TheVariants as form
use Rattle.pal8_grammar.specs.declared.faults.GrammarFault.{GrammarFault}
use Rattle.pal8_grammar.specs.declared.faults.GrammarFault.TheVariants.{IC, NU, SY}

-- ## Tokens

abbrev pub is_star : Kind → Bool
is_star (Name name) = false
is_star (Number n) = false
is_star (Character c) = false
is_star Here = false
is_star (Operator op) = false
is_star Equals = false
is_star Comma = false
is_star Star = true
is_star (Opening pool) = false
is_star (Closing pool) = false
is_star String = false
is_star Bad = false

abbrev pub is_equals : Kind → Bool
is_equals (Name name) = false
is_equals (Number n) = false
is_equals (Character c) = false
is_equals Here = false
is_equals (Operator op) = false
is_equals Equals = true
is_equals Comma = false
is_equals Star = false
is_equals (Opening pool) = false
is_equals (Closing pool) = false
is_equals String = false
is_equals Bad = false

abbrev pub is_string : Kind → Bool
is_string (Name name) = false
is_string (Number n) = false
is_string (Character c) = false
is_string Here = false
is_string (Operator op) = false
is_string Equals = false
is_string Comma = false
is_string Star = false
is_string (Opening pool) = false
is_string (Closing pool) = false
is_string String = true
is_string Bad = false

-- ## Forms

-- What a reserved name begins: a form that stands alone, one with an expression, or either; a text; a name, of a file or a device too; an
-- operation. The others begin nothing.
abbrev pub form_by : ℕ → Form
form_by name =
    if nat_eq name (name_number (codes "DECIMA")) then form.Alone body.Decimal
    else (if nat_eq name (name_number (codes "OCTAL")) then form.Alone body.Octal
    else (if nat_eq name (name_number (codes "EJECT")) then form.Alone body.Listing
    else (if nat_eq name (name_number (codes "XLIST")) then form.Alone body.Listing
    else (if nat_eq name (name_number (codes "FIELD")) then form.Valued body.Field
    else (if nat_eq name (name_number (codes "ZBLOCK")) then form.Valued body.Zeros
    else (if nat_eq name (name_number (codes "PAGE")) then form.Page
    else (if nat_eq name (name_number (codes "TEXT")) then form.Text
    else (if nat_eq name (name_number (codes "IFZERO")) then form.Valued body.IfZero
    else (if nat_eq name (name_number (codes "IFNZRO")) then form.Valued body.IfNotZero
    else (if nat_eq name (name_number (codes "IFDEF")) then form.IfDefined
    else (if nat_eq name (name_number (codes "IFNDEF")) then form.IfUndefined
    else (if nat_eq name (name_number (codes "NOPUNC")) then form.Alone body.NoPunch
    else (if nat_eq name (name_number (codes "ENPUNC")) then form.Alone body.Punch
    else (if nat_eq name (name_number (codes "RELOC")) then form.Reloc
    else (if nat_eq name (name_number (codes "FILENA")) then form.FileName
    else (if nat_eq name (name_number (codes "DEVICE")) then form.Device
    else (if nat_eq name (name_number (codes "EXPUNG")) then form.Alone body.Expunge
    else (if nat_eq name (name_number (codes "FIXTAB")) then form.Alone body.FixTable
    else (if nat_eq name (name_number (codes "FIXMRI")) then form.FixOperation
    else form.Later)))))))))))))))))))

-- ## Bodies: what they say, with the steps of their value

abbrev pub Phrase : Type 0
Phrase = Body × List Step

abbrev pub phrase : Body → Option (List Step) → Option Phrase
phrase body None = None
phrase body (Some steps) = Some (body, steps)

abbrev pub expression_steps : Vocabulary → Radix → List Token → Option (List Step)
expression_steps names radix tokens = steps_of record { names = names; radix = radix; has_literals = false } stand.Expression tokens

-- `=` has a value without literals after it
abbrev pub value_steps : Vocabulary → Radix → List Token → Option (List Step)
value_steps names radix tokens = steps_of record { names = names; radix = radix; has_literals = false } stand.Value tokens

-- a blank and an expression, or one that begins with `+` or `-`
abbrev pub argument_steps : Vocabulary → Radix → List Token → Option (List Step)
argument_steps names radix [] = None
argument_steps names radix (t ∷ others) = if t.is_spaced || is_some (sign_of t.kind) then expression_steps names radix (t ∷ others) else None

abbrev pub alone : Body → List Token → Option Phrase
alone body [] = Some (body, [])
alone body (t ∷ others) = None

abbrev pub page_phrase : Vocabulary → Radix → List Token → Option Phrase
page_phrase names radix [] = Some (body.NextPage, [])
page_phrase names radix (t ∷ others) = phrase body.Page (argument_steps names radix (t ∷ others))

abbrev pub reloc_phrase : Vocabulary → Radix → List Token → Option Phrase
reloc_phrase names radix [] = Some (body.Unrelocate, [])
reloc_phrase names radix (t ∷ others) = phrase body.Relocate (argument_steps names radix (t ∷ others))

abbrev pub text_phrase : List Token → Option Phrase
text_phrase [] = None
text_phrase (t ∷ []) = if is_string t.kind then Some (body.Text, []) else None
text_phrase (t ∷ u ∷ others) = None

abbrev pub if_defined : Option ℕ → Option Phrase
if_defined None = None
if_defined (Some name) = Some (body.IfDefined name, [])

abbrev pub defined_phrase : List Token → Option Phrase
defined_phrase rest = if_defined (one_name rest)

abbrev pub if_undefined : Option ℕ → Option Phrase
if_undefined None = None
if_undefined (Some name) = Some (body.IfUndefined name, [])

abbrev pub undefined_phrase : List Token → Option Phrase
undefined_phrase rest = if_undefined (one_name rest)

-- a file's name, or its name, `.` and its extension
abbrev pub file_phrase : List Token → Option Phrase
file_phrase [] = None
file_phrase (t ∷ []) = phrase body.FileName (file_steps (spaced_run t) (Some 0))
file_phrase (t ∷ u ∷ []) = None
file_phrase (t ∷ u ∷ v ∷ []) = phrase body.FileName (file_steps (spaced_run t) (extension_of u v))
file_phrase (t ∷ u ∷ v ∷ w ∷ others) = None

abbrev pub device_phrase : List Token → Option Phrase
device_phrase [] = None
device_phrase (t ∷ []) = phrase body.Device (device_steps (spaced_run t))
device_phrase (t ∷ u ∷ others) = None

abbrev pub operation_by : Vocabulary → Radix → Bool → Option ℕ → List Token → Option Phrase
operation_by names radix false name rest = None
operation_by names radix true None rest = None
operation_by names radix true (Some name) rest = phrase (body.FixOperation name) (value_steps names radix rest)

-- a name after a blank, `=` and a value
abbrev pub operation_phrase : Vocabulary → Radix → List Token → Option Phrase
operation_phrase names radix [] = None
operation_phrase names radix (t ∷ []) = None
operation_phrase names radix (t ∷ u ∷ others) = operation_by names radix (is_equals u.kind) (spaced_name t) others

-- what a form says with these tokens after its name
abbrev pub form_phrase : Vocabulary → Radix → Form → List Token → Option Phrase
form_phrase names radix (form.Alone body) rest = alone body rest
form_phrase names radix (form.Valued body) rest = phrase body (argument_steps names radix rest)
form_phrase names radix form.Page rest = page_phrase names radix rest
form_phrase names radix form.Reloc rest = reloc_phrase names radix rest
form_phrase names radix form.Text rest = text_phrase rest
form_phrase names radix form.IfDefined rest = defined_phrase rest
form_phrase names radix form.IfUndefined rest = undefined_phrase rest
form_phrase names radix form.FileName rest = file_phrase rest
form_phrase names radix form.Device rest = device_phrase rest
form_phrase names radix form.FixOperation rest = operation_phrase names radix rest
form_phrase names radix form.Later rest = None

-- a value in a word, with literals
abbrev pub word_phrase : Vocabulary → Radix → List Token → Option Phrase
word_phrase names radix tokens = phrase body.Word (steps_of record { names = names; radix = radix; has_literals = true } stand.Value tokens)

abbrev pub definition_phrase : Vocabulary → Radix → ℕ → List Token → Option Phrase
definition_phrase names radix name rest = phrase (body.Define name) (value_steps names radix rest)

-- a body that begins with a name that isn't reserved
abbrev pub named_phrase : Vocabulary → Radix → ℕ → Token → List Token → Option Phrase
named_phrase names radix name t [] = word_phrase names radix (t ∷ [])
named_phrase names radix name t (u ∷ others) =
    if is_equals u.kind then definition_phrase names radix name others else word_phrase names radix (t ∷ u ∷ others)

abbrev pub phrase_by : Vocabulary → Radix → Option ℕ → Token → List Token → Option Phrase
phrase_by names radix None t rest = word_phrase names radix (t ∷ rest)
phrase_by names radix (Some name) t rest = if is_reserved name then form_phrase names radix (form_by name) rest else named_phrase names radix name t rest

-- what a body says
abbrev pub body_phrase : Vocabulary → Radix → List Token → Option Phrase
body_phrase names radix [] = Some (body.Nothing, [])
body_phrase names radix (t ∷ rest) =
    if is_star t.kind then phrase body.Origin (expression_steps names radix rest) else phrase_by names radix (name_of t.kind) t rest

-- ## Statements

-- the tags are names that aren't reserved
abbrev pub has_free_tags : List Token → Bool
has_free_tags [] = true
has_free_tags (t ∷ []) = true
has_free_tags (t ∷ next ∷ others) = if is_comma next.kind then is_some (free_name t.kind) && has_free_tags others else true

-- the tags, each with its `,`
abbrev pub tags_in : List Token → List Token
tags_in tokens = take (2 * tag_count tokens) tokens

abbrev pub body_in : List Token → List Token
body_in tokens = drop (2 * tag_count tokens) tokens

abbrev pub is_file_name : Option ℕ → Bool
is_file_name None = false
is_file_name (Some name) = nat_eq name (name_number (codes "FILENA")) || nat_eq name (name_number (codes "DEVICE"))

-- FILENAME or DEVICE begins
abbrev pub names_file : List Token → Bool
names_file [] = false
names_file (t ∷ others) = is_file_name (name_of t.kind)

-- what is judged as a number after FILENAME and DEVICE, and elsewhere
abbrev pub number_tokens : List Token → List Token
number_tokens tokens = if names_file (body_in tokens) then tags_in tokens else tokens

abbrev pub opens : End → Bool
opens end.Semicolon = false
opens end.Line = false
opens end.Open = true
opens end.Close = false
opens end.Dollar = false

abbrev pub is_condition : Body → Bool
is_condition body.Nothing = false
is_condition body.Origin = false
is_condition (body.Define name) = false
is_condition body.Decimal = false
is_condition body.Octal = false
is_condition body.Field = false
is_condition body.NextPage = false
is_condition body.Page = false
is_condition body.Zeros = false
is_condition body.Text = false
is_condition body.Listing = false
is_condition body.IfZero = true
is_condition body.IfNotZero = true
is_condition (body.IfDefined name) = true
is_condition (body.IfUndefined name) = true
is_condition body.NoPunch = false
is_condition body.Punch = false
is_condition body.Relocate = false
is_condition body.Unrelocate = false
is_condition body.FileName = false
is_condition body.Device = false
is_condition body.Expunge = false
is_condition body.FixTable = false
is_condition (body.FixOperation name) = false
is_condition body.Word = false

-- `<` ends a condition, and nothing else
abbrev pub ends_condition : End → Body → Bool
ends_condition end body = if is_condition body then opens end else not (opens end)

abbrev pub phrase_or_fault : End → Option Phrase → Result Phrase GrammarFault
phrase_or_fault end None = Err SY
phrase_or_fault end (Some it) = if ends_condition end it.0 then Ok it else Err SY

-- What a statement says by the names and the radix before it, or its fault.
abbrev pub phrase_by_names : Vocabulary → Radix → List Token → Bool → End → Result Phrase GrammarFault
phrase_by_names names radix tokens is_cut end =
    if has_bad tokens then Err IC
    else (if has_bad_number radix (number_tokens tokens) then Err NU
    else (if is_cut || not (has_free_tags tokens) then Err SY
    else phrase_or_fault end (body_phrase names radix (body_in tokens))))
