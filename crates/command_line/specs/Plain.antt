-- Plain command lines: what they give the arguments of a subcommand, and that `clap` reads just this of their words.
use Rattle.std.specs.Prelude.{◌≡◌, ◌≢◌, ⊤, true, if◌then◌else◌, codes, fold, map, List, [], ◌∷◌, Some}
use Rattle.std.specs.Option.{option_map_or}
use Rattle.clap.specs.Walk.{has_row, with_values}
use Rattle.clap.specs.Words.{Row, Text, subcommand_of, takes}
use Rattle.clap.specs.declared.builder.value_parser.Reading.TheVariants.{AsWritten}
use Rattle.clap.specs.declared.parser.matches.ValueSource.{ValueSource}
use Rattle.clap.specs.declared.parser.matches.ValueSource.TheVariants.{CommandLine, DefaultValue}
use Rattle.command_table.specs.declared.table.Kind.{Kind}
use Rattle.command_table.specs.declared.table.Kind.TheVariants.{Flag}
use Rattle.command_table.specs.Tables.{Argument, entry_named, pdp8, rows_for}

-- an argument by its name: a text in its place, an option alone, an option with its value
pub data Use : Type 0 where
  in_place : Text → Text → Use
  alone : Text → Use
  with_value : Text → Text → Use

-- the words
abbrev pub words_of : List Use → List Text
words_of [] = []
words_of (in_place id text ∷ rest) = text ∷ words_of rest
words_of (alone id ∷ rest) = (0o55 ∷ 0o55 ∷ id) ∷ words_of rest
words_of (with_value id text ∷ rest) = (0o55 ∷ 0o55 ∷ id) ∷ text ∷ words_of rest

-- the text begins with no hyphen, so it is no option; a hyphen by itself is none too
abbrev pub IsPlain : Text → Type 0
IsPlain [] = ⊤
IsPlain (byte ∷ []) = ⊤
IsPlain (byte ∷ next ∷ rest) = byte ≢ 0o55

abbrev pub ArePlain : List Use → Type 0
ArePlain [] = ⊤
ArePlain (in_place id text ∷ rest) = IsPlain text × ArePlain rest
ArePlain (alone id ∷ rest) = ArePlain rest
ArePlain (with_value id text ∷ rest) = IsPlain text × ArePlain rest

-- ## What the arguments have then

-- an argument has this text, after those that it has
abbrev with_text : Text → ValueSource → Text → List Row → List Row
with_text id source text values = with_values id AsWritten source (text ∷ []) values

abbrev pub with_use : List Row → Use → List Row
with_use values (in_place id text) = with_text id CommandLine text values
with_use values (alone id) = with_text id CommandLine (codes "true") values
with_use values (with_value id text) = with_text id CommandLine text values

-- an option that takes no value, and was not given
abbrev without_flag : Kind → Text → List Row → List Row
without_flag Flag id values = if has_row id values then values else with_text id DefaultValue (codes "false") values
without_flag kind id values = values

abbrev after_row : List Row → Argument → List Row
after_row values row = without_flag row.kind row.id values

-- of a subcommand: what is given, and nothing else
abbrev pub only_gives : Text → List Use → List Row
only_gives word uses = fold after_row (fold with_use [] uses)
    (option_map_or (λ entry. rows_for entry.verb) (entry_named word) [])

-- the words are taken, whatever the program's own name is, and the arguments of the subcommand have just what is given
abbrev pub IsTakenBy : Text → Text → List Use → Type 0
IsTakenBy name word uses = (takes pdp8 (name ∷ word ∷ words_of uses) ≡ true)
    × (subcommand_of pdp8 (name ∷ word ∷ words_of uses) ≡ Some (word, only_gives word uses))

abbrev pub IsTaken : Text → List Use → Type 0
IsTaken word uses = ArePlain uses → (name : Text) → IsTakenBy name word uses

abbrev pub EachIsTaken : Text → List (List Use) → Type 0
EachIsTaken word [] = ⊤
EachIsTaken word (uses ∷ rest) = IsTaken word uses × EachIsTaken word rest

pub record AreTaken (word : Text) (lines : List (List Use)) : Type 0 where
  pub each : EachIsTaken word lines

-- lines that begin alike
abbrev pub after : Use → List (List Use) → List (List Use)
after first rests = map (λ rest. first ∷ rest) rests
