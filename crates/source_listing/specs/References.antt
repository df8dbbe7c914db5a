-- The cross reference of sources (PAL III Symbolic Assembler manual and PAL8, and this project's profile of them).
use Rattle.std.specs.Prelude.{ℕ, ◌+◌, nat_eq, Bool, ◌&&◌, is_some, if◌then◌else◌, Option, Some, None, unwrap_or, Ok, Err, length, codes, decimal, List, [], ◌∷◌, ◌++◌}
use Rattle.std.specs.Borrow.{Bor}
use Rattle.std.specs.Ordering.{nat_cmp}
use Rattle.std.specs.List.Sorted.{IsSortedByKey, IsStableByKey}
use Rattle.pal_sym.specs.Permanent.{permanent}
use Rattle.pal_lex.specs.Text.{ends_statement}
use Rattle.pal_lex.specs.Statements.{statements}
use Rattle.pal_lex.specs.declared.pieces.Term.{Term}
use Rattle.pal_lex.specs.declared.pieces.Term.TheVariants.{Name, Number, Here}
use Rattle.pal_lex.specs.declared.phrases.Part.{Part}
use Rattle.pal_lex.specs.declared.phrases.Body.{Body}
use Rattle.pal_lex.specs.declared.phrases.Body.TheVariants.{Nothing, Origin, Define, Decimal, Octal, Pause, Field, Reference, Word}
use Rattle.pal_asm.specs.Expressions.{Meanings}
use Rattle.pal_asm.specs.Places.{Source}
use Rattle.host_sources.specs.Places.{place_at_byte}
use Rattle.source_listing.specs.Symbols.{symbol_text}
use Rattle.source_listing.specs.declared.spots.Spot.{Spot}
use Rattle.source_listing.specs.declared.references.Mention.{Mention}

-- the source, from 1, and the line of a byte of the join of sources
abbrev pub spot_by : List (Bor (List ℕ)) → ℕ → Spot
spot_by sources at = let place = place_at_byte sources at in record { source = place.source + 1; line = place.line }

-- ## What statements name

abbrev pub term_names : Term → List ℕ
term_names (Name n) = n ∷ []
term_names (Number n) = []
term_names Here = []

abbrev pub part_names : List Part → List ℕ
part_names [] = []
part_names (part ∷ others) = term_names part.term ++ part_names others

abbrev pub address_names : Option (List Part) → List ℕ
address_names None = []
address_names (Some e) = part_names e

-- the names in a body, in its order
abbrev pub body_names : Body → List ℕ
body_names Nothing = []
body_names (Origin e) = part_names e
body_names (Define name e) = name ∷ part_names e
body_names Decimal = []
body_names Octal = []
body_names Pause = []
body_names (Field e) = part_names e
body_names (Reference operation indirect address) = address_names address
body_names (Word e) = part_names e

-- the names in the newest of statements, the tags first
abbrev pub newest_names : Source → List ℕ
newest_names [] = []
newest_names (Err fault ∷ older) = []
newest_names (Ok s ∷ older) = s.tags ++ body_names s.body

-- the names in the statement that a byte after a text ends
abbrev pub names_ended : List ℕ → ℕ → List ℕ
names_ended older b = if ends_statement older b then newest_names (statements (b ∷ older)) else []

-- names at a source and line, but for the permanent ones
abbrev pub mentions_at : Spot → List ℕ → List Mention
mentions_at spot [] = []
mentions_at spot (name ∷ names) = (if is_some (permanent name) then [] else record { name = name; spot = spot } ∷ []) ++ mentions_at spot names

-- the names in the statements of a text, in its order, each where its statement ends
abbrev pub mentions : (ℕ → Spot) → List ℕ → List Mention
mentions spot [] = []
mentions spot (b ∷ older) = mentions spot older ++ mentions_at (spot (length older)) (names_ended older b)

-- ## Their text

-- a line, after the number of its source where there are several
abbrev pub spot_text : Bool → Spot → List ℕ
spot_text several spot = (if several then decimal spot.source ++ codes ":" else []) ++ decimal spot.line

-- a name with its value and the first of its lines
abbrev pub opening_text : Bool → Meanings → Mention → List ℕ
opening_text several last mention = symbol_text (mention.name, unwrap_or (last mention.name) 0) ++ codes "  " ++ spot_text several mention.spot

abbrev pub is_same_spot : Spot → Spot → Bool
is_same_spot a b = nat_eq a.source b.source && nat_eq a.line b.line

-- a mention after another one, if there is one: the name begins a line, or goes on there with a further one
abbrev pub mention_text : Bool → Meanings → Option Mention → Mention → List ℕ
mention_text several last None mention = opening_text several last mention
mention_text several last (Some before) mention =
    if nat_eq before.name mention.name then (if is_same_spot before.spot mention.spot then [] else codes " " ++ spot_text several mention.spot)
    else codes "\n" ++ opening_text several last mention

abbrev pub ending_text : Option Mention → List ℕ
ending_text None = []
ending_text (Some before) = codes "\n"

-- mentions that stand by their names: each name once, with its value and the lines at which it is named, each once
abbrev pub cross_text : Bool → Meanings → Option Mention → List Mention → List ℕ
cross_text several last before [] = ending_text before
cross_text several last before (mention ∷ others) = mention_text several last before mention ++ cross_text several last (Some mention) others

-- These are the same mentions by their names, those of one name in the order that they had.
pub record AreByName (mentions by_name : List Mention) : Type 0 where
  pub sorted : IsSortedByKey (λ (mention : Mention). mention.name) nat_cmp by_name
  pub stable : IsStableByKey (λ (mention : Mention). mention.name) nat_cmp mentions by_name
