-- What the parts of the command that `clap` reads are, for private clauses.
use Rattle.std.specs.Prelude.{◌≡◌, ◌&&◌, ◌||◌, Bool, true, false, ℕ, nat_lt, codes, List, [], ◌∷◌, ◌++◌, map, not, Option, Some, None}
use Rattle.std.specs.List.{list_all}
use Rattle.clap.specs.Lexer.{usize_max}
use Rattle.clap.specs.Words.{App, Rule, Text, new_rule, rule_of, with_subcommand}
use Rattle.clap.specs.declared.builder.action.ArgAction.TheVariants.{Append}
use Rattle.clap.specs.declared.builder.arg.Arg.{Arg}
use Rattle.command_table.specs.declared.table.Kind.{Kind}
use Rattle.command_table.specs.declared.table.Kind.TheVariants.{Word, Value, Words, Size, Flag, Many}
use Rattle.command_table.specs.Tables.{Argument, Entry, are_distinct, rows_for}

abbrev pub option_rule : Text → Rule
option_rule id = record (new_rule id) { long = Some id; value_names = 1 }

abbrev pub options_rule : Text → Rule
options_rule id = record (option_rule id) { action = Some Append }

-- several texts in one place are some, and fewer than all
abbrev pub fits : Kind → Bool
fits (Words most) = nat_lt 0 most && nat_lt most usize_max
fits kind = true

-- what stands in its place has no letter
abbrev pub may_have_letter : Kind → Bool
may_have_letter Word = false
may_have_letter (Value form) = false
may_have_letter (Words most) = false
may_have_letter Size = false
may_have_letter kind = true

abbrev pub is_fit : Kind → Option ℕ → Bool
is_fit kind None = fits kind
is_fit kind (Some letter) = fits kind && may_have_letter kind

abbrev pub ids_of : List Argument → List Text
ids_of rows = map (λ row. row.id) rows

-- what must be given is no list of an option, and no flag
abbrev pub can_be_required : Kind → Bool
can_be_required Flag = false
can_be_required (Many form) = false
can_be_required kind = true

-- each kind fits, no two arguments have one name, and none is that of help
abbrev pub is_sound : Entry → Bool
is_sound entry = list_all (λ row. is_fit row.kind row.letter) (rows_for entry.verb)
    && (list_all (λ row. not row.is_required || can_be_required row.kind) (rows_for entry.verb)
    && are_distinct (ids_of (rows_for entry.verb) ++ codes "help" ∷ []))

-- the argument is this one to `clap`, and of its own command alone
unfoldable pub IsArgument : Arg → Rule → Type 0
IsArgument argument rule = (rule_of argument ≡ rule) × (argument.global ≡ false)

-- the command with this subcommand
abbrev pub with_leaf : App → App → App
with_leaf app leaf = with_subcommand app leaf.top
