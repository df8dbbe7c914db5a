-- The cross reference of a listing (PAL8, the assembler of OS/8, in this project's profile): the lines whose statements use a name.
use Rattle.std.specs.Prelude.{ℕ, ◌+◌, ◌-◌, nat_eq, nat_lt, Bool, true, false, ◌||◌, if◌then◌else◌, Option, Some, None, Ok, filter, codes, decimal, List, [], ◌∷◌, ◌++◌}
use Rattle.pal_lex.specs.Text.{limit}
use Rattle.pal8_lex.specs.Kinds.{is_comma}
use Rattle.pal8_lex.specs.declared.tokens.Token.{Token}
use Rattle.pal8_grammar.specs.Bodies.{free_name, is_equals, names_file}
use Rattle.pal8_asm.specs.Sources.{PassResult, Statement, first_left, statements}
use Rattle.pal8_places.specs.declared.options.Options.{Options}
use Rattle.pal8_tape.specs.Joins.{is_read}
use Rattle.pal8_listing.specs.Items.{items_after}
use Rattle.source_listing.specs.Symbols.{symbol_text}
use Rattle.pal8_listing.specs.Rows.{join_after, lines_read, number_after}
use Rattle.pal8_listing.specs.declared.mentions.Mention.{Mention}

-- ## What statements name

-- a name is defined where `,` or `=` stands after it
abbrev pub is_defining : List Token → Bool
is_defining [] = false
is_defining (t ∷ others) = is_comma t.kind || is_equals t.kind

abbrev pub mention_by : Option ℕ → ℕ → Bool → List Mention
mention_by None line is_definition = []
mention_by (Some name) line is_definition = record { name = name; line = line; is_definition = is_definition } ∷ []

-- the names in the tokens of a statement that begins in a line, but for reserved ones and for those of a file or a device
abbrev pub names_in : ℕ → List Token → List Mention
names_in line [] = []
names_in line (t ∷ others) = if names_file (t ∷ others) then [] else mention_by (free_name t.kind) line (is_defining others) ++ names_in line others

-- the names in a statement, if it is read
abbrev pub names_read : PassResult → Statement → List Mention
names_read left s = if is_read left then names_in s.line s.tokens else []

-- the names in the statements of a text that are read by these options, in its order
abbrev pub mentions : Options → List ℕ → List Mention
mentions options text = items_after names_read (Ok (first_left options)) (statements text)

-- the uses of a name, each with the line in which its statement begins
abbrev pub is_of : ℕ → Mention → Bool
is_of name m = nat_eq m.name name

abbrev pub uses : Options → List ℕ → ℕ → List Mention
uses options text name = filter (is_of name) (mentions options text)

-- ## Lines

-- the number in a join of the first line of each source but the first, after this one
abbrev pub later_starts : ℕ → List ℕ → List ℕ → List ℕ
later_starts number [] join = []
later_starts number (count ∷ counts) join =
    number_after number (lines_read (count ∷ counts) join) ∷ later_starts (number_after number (lines_read (count ∷ counts) join)) counts (join_after (count ∷ counts) join)

-- the source, from 1, in which a line of a join stands, and its line there, where this source begins at one and further ones at others
abbrev pub spot_from : ℕ → ℕ → List ℕ → ℕ → ℕ × ℕ
spot_from source first [] line = (source, limit (line - first + 1))
spot_from source first (next ∷ starts) line = if nat_lt line next then (source, limit (line - first + 1)) else spot_from (limit (source + 1)) next starts line

-- ## Their text

-- the number of a source stands before its line where there are several
abbrev pub spot_text : List ℕ → ℕ × ℕ → List ℕ
spot_text [] spot = decimal spot.1
spot_text (next ∷ starts) spot = decimal spot.0 ++ codes ":" ++ decimal spot.1

abbrev pub sign_text : Bool → List ℕ
sign_text true = codes "#"
sign_text false = []

-- `#` stands after a line that defines the name
abbrev pub use_text : List ℕ → Mention → List ℕ
use_text starts u = spot_text starts (spot_from 1 1 starts u.line) ++ sign_text u.is_definition

-- two uses in a line are one
abbrev pub one_use : Mention → Mention → Mention
one_use u v = record { name = u.name; line = u.line; is_definition = u.is_definition || v.is_definition }

-- a use and further ones, each line once
abbrev pub further_text : List ℕ → Mention → List Mention → List ℕ
further_text starts u [] = use_text starts u
further_text starts u (v ∷ others) = if nat_eq u.line v.line then further_text starts (one_use u v) others else use_text starts u ++ codes " " ++ further_text starts v others

abbrev pub uses_text : List ℕ → List Mention → List ℕ
uses_text starts [] = []
uses_text starts (u ∷ others) = codes "  " ++ further_text starts u others

-- names, each on a line with its value and the lines that use it
abbrev pub cross_text : List ℕ → (ℕ → List Mention) → List (ℕ × ℕ) → List ℕ
cross_text starts of_name [] = []
cross_text starts of_name (entry ∷ entries) = symbol_text entry ++ uses_text starts (of_name entry.0) ++ codes "\n" ++ cross_text starts of_name entries
