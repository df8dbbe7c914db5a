-- The names after IFDEF and IFNDEF, and those of files and devices (PAL8, in this project's profile). These read as words of two characters
-- in sixbit, in which missing ones are 0.
use Rattle.std.specs.Prelude.{ℕ, ◌/◌, ◌%◌, Bool, true, false, ◌&&◌, not, if◌then◌else◌, Option, Some, None, List, [], ◌∷◌}
use Rattle.pal8_lex.specs.declared.tokens.Token.{Token}
use Rattle.pal8_lex.specs.declared.tokens.Kind.{Kind}
use Rattle.pal8_lex.specs.declared.tokens.Kind.TheVariants.{Name, Number, Character, Here, Operator, Equals, Comma, Star, Opening, Closing, String, Bad}
use Rattle.pal8_grammar.specs.Permanent.{is_reserved}
use Rattle.pal8_grammar.specs.declared.steps.Step.{Step}
use Rattle.pal8_grammar.specs.declared.steps.Step.TheVariants as step

abbrev pub name_of : Kind → Option ℕ
name_of (Name name) = Some name
name_of (Number n) = None
name_of (Character c) = None
name_of Here = None
name_of (Operator op) = None
name_of Equals = None
name_of Comma = None
name_of Star = None
name_of (Opening pool) = None
name_of (Closing pool) = None
name_of String = None
name_of Bad = None

abbrev pub if_free : Option ℕ → Option ℕ
if_free None = None
if_free (Some name) = if is_reserved name then None else Some name

-- the name that a token is, if it isn't reserved
abbrev pub free_name : Kind → Option ℕ
free_name kind = if_free (name_of kind)

-- the name after a blank
abbrev pub spaced_name : Token → Option ℕ
spaced_name t = if t.is_spaced then free_name t.kind else None

-- the name that tokens are, if they are one after a blank
abbrev pub one_name : List Token → Option ℕ
one_name [] = None
one_name (t ∷ []) = spaced_name t
one_name (t ∷ u ∷ others) = None

-- ## Files and devices

-- the first six letters and digits of a token that is made of such, whether it begins with a letter or a digit
abbrev pub spelling_of : Kind → Option ℕ
spelling_of (Name name) = Some name
spelling_of (Number n) = Some n.spelling
spelling_of (Character c) = None
spelling_of Here = None
spelling_of (Operator op) = None
spelling_of Equals = None
spelling_of Comma = None
spelling_of Star = None
spelling_of (Opening pool) = None
spelling_of (Closing pool) = None
spelling_of String = None
spelling_of Bad = None

abbrev pub is_here : Kind → Bool
is_here (Name name) = false
is_here (Number n) = false
is_here (Character c) = false
is_here Here = true
is_here (Operator op) = false
is_here Equals = false
is_here Comma = false
is_here Star = false
is_here (Opening pool) = false
is_here (Closing pool) = false
is_here String = false
is_here Bad = false

-- letters and digits after a blank
abbrev pub spaced_run : Token → Option ℕ
spaced_run t = if t.is_spaced then spelling_of t.kind else None

-- `.` and letters and digits, no blank before either
abbrev pub extension_of : Token → Token → Option ℕ
extension_of point run = if is_here point.kind && not point.is_spaced && not run.is_spaced then spelling_of run.kind else None

-- two of the six characters of a name, by their place in its number
abbrev pub pair_of : ℕ → ℕ → ℕ
pair_of name place = name / place % 0o10000

-- a device has the first four characters in two words
abbrev pub device_steps : Option ℕ → Option (List Step)
device_steps None = None
device_steps (Some name) = Some (step.Number (pair_of name 0o100000000) ∷ step.Number (pair_of name 0o10000) ∷ [])

-- a file has six characters in three words, and two of its extension in one
abbrev pub file_steps : Option ℕ → Option ℕ → Option (List Step)
file_steps None extension = None
file_steps (Some name) None = None
file_steps (Some name) (Some extension) =
    Some (step.Number (pair_of name 0o100000000) ∷ step.Number (pair_of name 0o10000) ∷ step.Number (pair_of name 1)
    ∷ step.Number (pair_of extension 0o100000000) ∷ [])
