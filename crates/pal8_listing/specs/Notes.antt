-- Which statements palbart 2.13 reads in another way than this project's profile of PAL8 (as it was seen to read sources).
use Rattle.std.specs.Prelude.{ℕ, nat_eq, nat_lt, Bool, true, false, ◌&&◌, ◌||◌, not, if◌then◌else◌, is_some, Ok, List, [], ◌∷◌, ◌++◌}
use Rattle.pal8_lex.specs.declared.tokens.Token.{Token}
use Rattle.pal8_lex.specs.declared.tokens.Kind.{Kind}
use Rattle.pal8_lex.specs.declared.tokens.Kind.TheVariants.{Name, Number, Character, Here, Operator, Equals, Comma, Star, Opening, Closing, String, Bad}
use Rattle.pal8_grammar.specs.Permanent.{is_reserved}
use Rattle.pal8_asm.specs.Sources.{Statement, PassResult, first_left, statements}
use Rattle.pal8_places.specs.declared.options.Options.{Options}
use Rattle.pal8_tape.specs.Joins.{is_operation, is_read}
use Rattle.pal8_listing.specs.Items.{items_after}
use Rattle.pal8_listing.specs.Closer.{first_levels, has_closer}
use Rattle.pal8_listing.specs.declared.differences.Difference.{Difference}
use Rattle.pal8_listing.specs.declared.differences.Difference.TheVariants.{Apart, Closer, Tab}
use Rattle.pal8_listing.specs.declared.notes.Note.{Note}

-- ## A blank before an operator

-- a token is a term that is no literal
abbrev pub is_term : Kind → Bool
is_term (Name name) = not (is_reserved name)
is_term (Number n) = true
is_term (Character c) = true
is_term Here = true
is_term (Operator op) = false
is_term Equals = false
is_term Comma = false
is_term Star = false
is_term (Opening pool) = false
is_term (Closing pool) = false
is_term String = false
is_term Bad = false

abbrev pub is_operator : Kind → Bool
is_operator (Name name) = false
is_operator (Number n) = false
is_operator (Character c) = false
is_operator Here = false
is_operator (Operator op) = true
is_operator Equals = false
is_operator Comma = false
is_operator Star = false
is_operator (Opening pool) = false
is_operator (Closing pool) = false
is_operator String = false
is_operator Bad = false

-- between a term and the operator after it stands a byte that is no token: a blank, mostly
abbrev pub are_apart : Token → Token → Bool
are_apart t next = is_term t.kind && is_operator next.kind && nat_lt t.end next.start

abbrev pub has_apart : List Token → Bool
has_apart [] = false
has_apart (t ∷ []) = false
has_apart (t ∷ next ∷ others) = are_apart t next || has_apart (next ∷ others)

-- ## Tabs

abbrev pub is_tab : Kind → Bool
is_tab (Name name) = false
is_tab (Number n) = false
is_tab (Character c) = nat_eq c 0o211
is_tab Here = false
is_tab (Operator op) = false
is_tab Equals = false
is_tab Comma = false
is_tab Star = false
is_tab (Opening pool) = false
is_tab (Closing pool) = false
is_tab String = false
is_tab Bad = false

-- a tab stands after `"`
abbrev pub has_tab : List Token → Bool
has_tab [] = false
has_tab (t ∷ others) = is_tab t.kind || has_tab others

-- a tab stands in a string
abbrev pub has_tab_byte : List ℕ → Bool
has_tab_byte [] = false
has_tab_byte (b ∷ others) = nat_eq b 0o11 || has_tab_byte others

-- ## Statements

abbrev pub if_so : Bool → Difference → List Difference
if_so true difference = difference ∷ []
if_so false difference = []

-- in which ways a statement with these tokens and this string is read otherwise, where these names begin memory references
abbrev pub differences : (ℕ → Bool) → List Token → List ℕ → List Difference
differences operates tokens string =
    if_so (has_apart tokens) Apart ++ if_so (has_closer operates first_levels tokens) Closer ++ if_so (has_tab tokens || has_tab_byte string) Tab

-- a note on a line for each of these
abbrev pub notes_at : ℕ → List Difference → List Note
notes_at line [] = []
notes_at line (difference ∷ others) = record { line = line; difference = difference } ∷ notes_at line others

-- the notes on a statement, if it is read
abbrev pub notes_on : PassResult → ℕ → List Token → List ℕ → List Note
notes_on left line tokens string = if is_read left then notes_at line (differences (is_operation left) tokens string) else []

abbrev pub notes_read : PassResult → Statement → List Note
notes_read left s = notes_on left s.line s.tokens s.string

-- the notes on a text that is read by these options
abbrev pub notes : Options → List ℕ → List Note
notes options text = items_after notes_read (Ok (first_left options)) (statements text)
