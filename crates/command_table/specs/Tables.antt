-- The command line that the table describes, as `clap` reads it: one definition, computed from the table.
use Rattle.std.specs.Prelude.{find, ◌&&◌, Bool, true, ℕ, codes, List, [], ◌∷◌, ◌++◌, map, not, Option, Some, None, ◌≡◌, false, IfOk, Result}
use Rattle.std.specs.List.{list_any}
use Rattle.std.specs.Option.{option_map_or}
use Rattle.std.specs.Str.{bytes_eq}
use Rattle.clap.specs.Walk.{is_empty}
use Rattle.clap.specs.Simple.{new_shape}
use Rattle.clap.specs.Words.{App, Rule, Shape, Text, new_app, new_rule, app_of}
use Rattle.clap.specs.declared.builder.range.ValueRange.{ValueRange}
use Rattle.clap.specs.declared.builder.value_parser.ValueParser.{ValueParser}
use Rattle.clap.specs.declared.builder.value_parser.ValueParser.TheVariants.{Unsigned}
use Rattle.word12.specs.declared.sizes.TheConstants.{MOST_BLOCKS}
use Rattle.clap.specs.declared.builder.action.ArgAction.{ArgAction}
use Rattle.clap.specs.declared.builder.action.ArgAction.TheVariants.{Append, SetTrue}
use Rattle.command_table.specs.declared.table.Kind.{Kind}
use Rattle.command_table.specs.declared.table.Kind.TheVariants.{Word, Value, Words, Size, Flag, Many, Count}
use Rattle.command_table.specs.declared.table.ArgumentOf.{ArgumentOf}
use Rattle.command_table.specs.declared.table.EntryOf.{EntryOf}
use Rattle.command_table.specs.declared.table.TheConstants.{COMMANDS, PAIRS}
use Rattle.command_table.specs.declared.rows.TheConstants.{TAPE, RIM, SOURCE, ASSEMBLE, TELETYPE, TRACE, BOOT, RUN, CREATE, LIST, GET, PUT, DELETE, RENAME, COPY, SQUEEZE, CHECK, DUMP, PATCH, INDEX, RESCUE, SCAN}
use Rattle.command_table.specs.declared.table.Verb.{Verb}
use Rattle.command_table.specs.declared.table.Verb.TheVariants as verb
use Rattle.std.specs.Borrow.{Bor}
use Rattle.clap.specs.declared.builder.command.Command.{Command}
use Rattle.clap.specs.declared.builder.command.Command.TheViews.{out-Command as fields_of}

-- the most that `u64` holds
abbrev pub most_steps : ℕ
most_steps = 18446744073709551615

-- a row, with its texts
abbrev pub Argument : Type 0
Argument = ArgumentOf Text

abbrev pub Entry : Type 0
Entry = EntryOf Text

-- ## The table, as functions get it and as it is declared

-- a text and a list of the declared constants
abbrev pub TextAnd : Type 0 → Type 0
TextAnd A = record { now : A }

-- a row and an entry whose texts are read so
abbrev pub row_with : {T : Type 0} → (T → Text) → ArgumentOf T → Argument
row_with text row = record {
  id = text row.id;
  letter = row.letter;
  kind = row.kind;
  is_required = row.is_required;
  is_hidden = row.is_hidden;
  value = text row.value;
  title = text row.title;
  help = text row.help;
}

abbrev pub entry_with : {T : Type 0} → (T → Text) → EntryOf T → Entry
entry_with text entry = record { verb = entry.verb; word = text entry.word; usage = text entry.usage }

abbrev declared_row : ArgumentOf (TextAnd Text) → Argument
declared_row row = row_with (λ text. text.now) row

-- the arguments of a subcommand
abbrev pub rows_for : Verb → List Argument
rows_for verb.Tape = map declared_row TAPE.now
rows_for verb.Rim = map declared_row RIM.now
rows_for verb.Source = map declared_row SOURCE.now
rows_for verb.Assemble = map declared_row ASSEMBLE.now
rows_for verb.Teletype = map declared_row TELETYPE.now
rows_for verb.Trace = map declared_row TRACE.now
rows_for verb.Profile = map declared_row TRACE.now
rows_for verb.Boot = map declared_row BOOT.now
rows_for verb.Run = map declared_row RUN.now
rows_for verb.Create = map declared_row CREATE.now
rows_for verb.List = map declared_row LIST.now
rows_for verb.Get = map declared_row GET.now
rows_for verb.Put = map declared_row PUT.now
rows_for verb.Delete = map declared_row DELETE.now
rows_for verb.Rename = map declared_row RENAME.now
rows_for verb.Copy = map declared_row COPY.now
rows_for verb.Squeeze = map declared_row SQUEEZE.now
rows_for verb.Check = map declared_row CHECK.now
rows_for verb.Dump = map declared_row DUMP.now
rows_for verb.Patch = map declared_row PATCH.now
rows_for verb.Index = map declared_row INDEX.now
rows_for verb.Rescue = map declared_row RESCUE.now
rows_for verb.Scan = map declared_row SCAN.now

-- the subcommands
abbrev pub table : List Entry
table = map (entry_with (λ (text : TextAnd Text). text.now)) COMMANDS.now

abbrev pub pairs : List (Text × Text)
pairs = map (λ (pair : TextAnd Text × TextAnd Text). (pair.0.now, pair.1.now)) PAIRS.now

-- as functions get them
abbrev pub row_of : ArgumentOf (Bor Text) → Argument
row_of row = row_with (λ text. text.now) row

abbrev pub entry_of : EntryOf (Bor Text) → Entry
entry_of entry = entry_with (λ text. text.now) entry

-- two arguments that exclude each other, by their names
abbrev pub pair_of : Bor Text × Bor Text → Text × Text
pair_of pair = (pair.0.now, pair.1.now)

-- ## The kinds of argument

abbrev pub kind_long : Text → Kind → Option Text
kind_long id Word = None
kind_long id (Value form) = None
kind_long id (Words most) = None
kind_long id Size = None
kind_long id kind = Some id

abbrev pub kind_action : Kind → Option ArgAction
kind_action Flag = Some SetTrue
kind_action (Many form) = Some Append
kind_action kind = None

abbrev pub kind_range : Kind → Option ValueRange
kind_range (Words most) = Some (record { start_inclusive = 1; end_inclusive = most })
kind_range kind = None

abbrev pub kind_names : Kind → ℕ
kind_names Word = 0
kind_names (Value form) = 0
kind_names (Words most) = 0
kind_names Size = 0
kind_names Flag = 0
kind_names kind = 1

abbrev pub kind_parser : Kind → Option ValueParser
kind_parser Size = Some (Unsigned 8 MOST_BLOCKS)
kind_parser Count = Some (Unsigned 1 most_steps)
kind_parser kind = None

abbrev pub kind_rule : Text → Kind → Rule
kind_rule id kind = record (new_rule id) {
  long = kind_long id kind;
  action = kind_action kind;
  range = kind_range kind;
  value_names = kind_names kind;
  parser = kind_parser kind;
}

-- an option with its letter, if it has one
abbrev pub rule_with_letter : Option ℕ → Rule → Rule
rule_with_letter letter rule = record rule { short = letter }

-- what `clap` reads of an argument of the table
abbrev pub rule_for : Argument → Rule
rule_for row = rule_with_letter row.letter (record (kind_rule row.id row.kind) { required = row.is_required })

-- ## The command

abbrev pub rules_for : List Argument → List Rule
rules_for rows = map rule_for rows

abbrev pub leaf_with : Text → List Rule → App
leaf_with word rules = record { top = record (new_shape word) { rules = rules }; subs = [] }

abbrev pub leaf_app : Entry → App
leaf_app entry = leaf_with entry.word (rules_for (rows_for entry.verb))

-- a subcommand of the table
abbrev pub leaf_shape : Entry → Shape
leaf_shape entry = (leaf_app entry).top

-- the program without its subcommands: it must get one, and has a version to show
abbrev pub bare_app : App
bare_app = record (new_app (codes "pdp8")) {
  top = record (new_app (codes "pdp8")).top { subcommand_required = true; has_version = true };
}

abbrev pub app_with : List Shape → App
app_with subs = record { top = record bare_app.top { is_leaf = is_empty subs }; subs = subs }

abbrev pub app_of_table : List Entry → App
app_of_table entries = app_with (map leaf_shape entries)

-- the program: to its subcommands `clap` adds what is its own, help and version
abbrev pub pdp8 : App
pdp8 = app_of_table table

-- ## The command, as `clap` has it

-- This fact stays closed, so a proof cites what `clap` makes of a part and does not compute it again.

-- the command is this one to `clap`, and has no argument for its subcommands too
unfoldable pub IsCommand : Command → App → Type 0
IsCommand command app = (app_of command ≡ app) × ((fields_of command).has_globals ≡ false)

-- the command, if there was memory for it, is this one
abbrev pub IsDraft : {E : Type 0} → Result Command E → App → Type 0
IsDraft draft app = IfOk draft (λ command. IsCommand command app)

-- no name stands twice
abbrev pub are_distinct : List Text → Bool
are_distinct [] = true
are_distinct (id ∷ ids) = not (list_any (λ other. bytes_eq other id) ids) && are_distinct ids

-- ## A subcommand of the table

-- the subcommand of this name
abbrev pub entry_named : Text → Option Entry
entry_named name = find (λ entry. bytes_eq name entry.word) table

-- ## The letters of options

abbrev with_letter : Argument → List (Text × Text) → List (Text × Text)
with_letter row rest = option_map_or (λ letter. (letter ∷ [], row.id) ∷ rest) row.letter rest

abbrev letters_in : List Argument → List (Text × Text)
letters_in [] = []
letters_in (row ∷ rows) = with_letter row (letters_in rows)

-- the letters of a subcommand's options, each with its option
abbrev pub letters_of : Entry → List (Text × Text)
letters_of entry = letters_in (rows_for entry.verb)

-- no letter stands twice, and none is that of help
abbrev pub are_apart : List (Text × Text) → Bool
are_apart letters = are_distinct (map (λ pair. pair.0) letters ++ codes "h" ∷ [])

-- the letter is the usual one: `-o` of `--output`, and so on; in `list` `-l` is `--long`
abbrev usual : List (Text × Text)
usual = (codes "o", codes "output") ∷ (codes "l", codes "list") ∷ (codes "l", codes "long") ∷ (codes "t", codes "text") ∷ (codes "a", codes "all")
    ∷ (codes "f", codes "force") ∷ (codes "v", codes "volume") ∷ []

abbrev pub is_usual : Text × Text → Bool
is_usual pair = list_any (λ other. bytes_eq other.0 pair.0 && bytes_eq other.1 pair.1) usual
