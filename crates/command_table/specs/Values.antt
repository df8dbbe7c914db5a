-- What the readers of arguments ask for, by the kind of an argument, and what `clap` has found.
use Rattle.std.specs.Prelude.{◌≡◌, ⊤, ◌≤◌, find, option_map, Bool, true, false, is_some, length, List, Option, Some, None}
use Rattle.std.specs.Borrow.{Bor}
use Rattle.std.specs.Option.{option_map_or}
use Rattle.std.specs.Str.{bytes_eq}
use Rattle.clap.specs.Words.{Row, Text, first_of, found_of, one_of, rows_of, IsUnsignedIn}
use Rattle.clap.specs.declared.parser.matches.ArgMatches.{ArgMatches}
use Rattle.word12.specs.declared.sizes.TheConstants.{MOST_BLOCKS}
use Rattle.command_table.specs.declared.table.Form.{Form}
use Rattle.command_table.specs.declared.table.Form.TheVariants.{Text as a_text, Block}
use Rattle.command_table.specs.declared.table.Kind.{Kind}
use Rattle.command_table.specs.declared.table.Kind.TheVariants.{Word, Value, Words, Size, One, Many, Count}
use Rattle.command_table.specs.Found.{first_not, passes, values_of}
use Rattle.command_table.specs.Tables.{Argument, most_steps}

abbrev pub kind_at : Text → List Argument → Option Kind
kind_at id rows = option_map (λ row. row.kind) (find (λ row. bytes_eq row.id id) rows)

-- one that takes a text, and one that takes several
abbrev pub takes_text : Option Kind → Bool
takes_text (Some Word) = true
takes_text (Some (One a_text)) = true
takes_text kind = false

abbrev pub takes_texts : Option Kind → Bool
takes_texts (Some (Words most)) = true
takes_texts (Some (Many a_text)) = true
takes_texts kind = false

-- and one that takes one at least
abbrev pub has_text : Option Kind → Bool
has_text (Some Word) = true
has_text (Some (One a_text)) = true
has_text kind = takes_texts kind

-- and one that takes a block
abbrev pub takes_block : Option Kind → Bool
takes_block (Some (One Block)) = true
takes_block (Some (Many Block)) = true
takes_block (Some (Value Block)) = true
takes_block kind = false

-- the values that were found for the arguments of a subcommand
abbrev pub values_in : ArgMatches → List Row
values_in found = rows_of (found_of found)

-- what is found of a text is this
abbrev pub IsText : Option (Bor Text) → Option Text → Type 0
IsText None given = given ≡ None
IsText (Some text) given = given ≡ Some text.now

-- an argument has a value
abbrev pub Has : Text → List Row → Type 0
Has id values = is_some (first_of id values) ≡ true

-- what `clap` took is of its kind
abbrev pub IsTaken : Kind → Text → List Row → Type 0
IsTaken (Words most) id values = length (values_of id values) ≤ most
IsTaken Size id values = (text : Text) → one_of id values ≡ Some text → IsUnsignedIn 8 MOST_BLOCKS text
IsTaken Count id values = (text : Text) → one_of id values ≡ Some text → IsUnsignedIn 1 most_steps text
IsTaken kind id values = ⊤

-- all are of the form
abbrev pub IsWell : Form → Text → List Row → Type 0
IsWell form id values = first_not form (values_of id values) ≡ None

-- the first of them is
abbrev pub IsFirst : Form → Text → List Row → Type 0
IsFirst form id values = option_map_or (passes form) (first_of id values) true ≡ true
