-- What the small steps of the two passes give, for private clauses.
use Rattle.std.specs.Prelude.{◌≡◌, ℕ, ◌+◌, ◌*◌, ◌%◌, ◌≤◌, nat_eq, Bool, true, ◌||◌, if◌then◌else◌, Option, Some, None, unwrap_or, Result, Ok, Err, List, [], ◌∷◌, length}
use Rattle.word12.specs.declared.sizes.TheConstants.{FIELD}
use Rattle.pal_sym.specs.SymbolTable.{SymbolTable}
use Rattle.pal_sym.specs.Permanent.{permanent}
use Rattle.pal_sym.specs.Values.{symbol_value, is_fixed as fixed_in, set_again}
use Rattle.pal_lex.specs.declared.phrases.Body.{Body}
use Rattle.pal_lex.specs.declared.phrases.Body.TheVariants.{Nothing, Origin, Define, Decimal, Octal, Pause, Field, Reference, Word}
use Rattle.pal_lex.specs.declared.phrases.Part.{Part}
use Rattle.pal_faults.specs.declared.assembling.Code.{Code}
use Rattle.pal_faults.specs.declared.assembling.Code.TheVariants.{DT}
use Rattle.pal_asm.specs.declared.spots.Spot.{Spot}
use Rattle.pal_asm.specs.declared.spots.TheConstants.{FIRST_PLACE}
use Rattle.pal_asm.specs.Expressions.{Meanings, value_of}
use Rattle.pal_asm.specs.Places.{is_word, with_tags, with_body, is_among, field_by}
use Rattle.pal_asm.specs.Words.{body_word}
use Rattle.pal_asm.specs.Faults.{first_of, past, defined_otherwise, terms_fault, tags_fault, field_fault, body_fault, word_fault}

-- ## One statement

-- the place after a body
abbrev pub place_by : Meanings → ℕ → Body → ℕ
place_by known place Nothing = place
place_by known place (Origin e) = unwrap_or (value_of known place e) 0
place_by known place (Define name e) = place
place_by known place Decimal = place
place_by known place Pause = place
place_by known place Octal = place
place_by known place (Field e) = FIRST_PLACE
place_by known place (Reference operation indirect address) = place + 1
place_by known place (Word e) = place + 1

abbrev pub spot_by : Meanings → Body → Spot → Spot
spot_by known body spot = record {
  location = place_by known spot.location body;
  field = field_by known spot.location body spot.field;
  word = if is_word body then true else spot.word;
}

-- a value, or the fault that refuses it
abbrev pub GivesValue : Option ℕ → Option Code → Result ℕ Code → Type 0
GivesValue value fault (Ok found) = (value ≡ Some found) × (fault ≡ None)
GivesValue value fault (Err code) = fault ≡ Some code

-- the spot after a body, or the fault that refuses it
abbrev pub Moves : Spot → Option Code → Result Spot Code → Type 0
Moves next fault (Ok found) = (found ≡ next) × (fault ≡ None)
Moves next fault (Err code) = fault ≡ Some code

-- the fault of a tag at a place, by what it stands for so far
abbrev pub tag_fault : ℕ → Option ℕ → Option Code
tag_fault place known = first_of (past place) (defined_otherwise DT place known)

-- the fault, or that there is none
abbrev pub Judges : Option Code → Result (Unit {0}) Code → Type 0
Judges fault (Ok nothing) = fault ≡ None
Judges fault (Err code) = fault ≡ Some code

-- Tags at a place were defined.
pub record AreDefined (tags : List ℕ) (place : ℕ) (old new : SymbolTable) : Type 0 where
  pub no_fault : tags_fault (symbol_value old) place tags ≡ None
  pub values : (n : ℕ) → symbol_value new n ≡ with_tags tags place (symbol_value old) n
  pub fixed : (n : ℕ) → fixed_in new n ≡ (is_among tags n || fixed_in old n)
  pub room : old.room ≤ new.room + length tags

abbrev pub DefinesTags : List ℕ → ℕ → SymbolTable → SymbolTable → Result (Unit {0}) Code → Type 0
DefinesTags tags place old new (Ok nothing) = AreDefined tags place old new
DefinesTags tags place old new (Err code) = tags_fault (symbol_value old) place tags ≡ Some code

-- A body was passed at a spot.
pub record IsPassed (body : Body) (spot : Spot) (old new : SymbolTable) (next : Spot) : Type 0 where
  pub no_fault : body_fault (fixed_in old) (symbol_value old) spot.location body ≡ None
  pub values : (n : ℕ) → symbol_value new n ≡ with_body (symbol_value old) spot.location body n
  pub fixed : (n : ℕ) → fixed_in new n ≡ fixed_in old n
  pub moved : next ≡ spot_by (symbol_value old) body spot

abbrev pub PassesBody : Body → Spot → SymbolTable → SymbolTable → Result Spot Code → Type 0
PassesBody body spot old new (Ok next) = IsPassed body spot old new next
PassesBody body spot old new (Err code) = body_fault (fixed_in old) (symbol_value old) spot.location body ≡ Some code

-- what names stand for at a body, by a table before its tags
abbrev pub meanings_at_body : List ℕ → ℕ → SymbolTable → Meanings
meanings_at_body tags place table = with_tags tags place (symbol_value table)

-- the names that are fixed at a body, by a table before its tags
abbrev pub is_fixed_at_body : List ℕ → SymbolTable → ℕ → Bool
is_fixed_at_body tags table n = is_among tags n || fixed_in table n

-- the fault of tags and a body, by a table before them
abbrev pub fault_by_table : List ℕ → Body → ℕ → SymbolTable → Option Code
fault_by_table tags body place table =
    first_of (tags_fault (symbol_value table) place tags) (body_fault (is_fixed_at_body tags table) (meanings_at_body tags place table) place body)

-- A statement was passed at a spot.
pub record IsRead (tags : List ℕ) (body : Body) (spot : Spot) (old new : SymbolTable) (next : Spot) : Type 0 where
  pub no_fault : fault_by_table tags body spot.location old ≡ None
  pub values : (n : ℕ) → symbol_value new n ≡ with_body (meanings_at_body tags spot.location old) spot.location body n
  pub fixed : (n : ℕ) → fixed_in new n ≡ is_fixed_at_body tags old n
  pub moved : next ≡ spot_by (meanings_at_body tags spot.location old) body spot

abbrev pub ReadsStatement : List ℕ → Body → Spot → SymbolTable → SymbolTable → Result Spot Code → Type 0
ReadsStatement tags body spot old new (Ok next) = IsRead tags body spot old new next
ReadsStatement tags body spot old new (Err code) = fault_by_table tags body spot.location old ≡ Some code

-- what keeps an assembler from going on after a body, where each name may be defined again
abbrev pub spot_fault : Meanings → ℕ → Body → Option Code
spot_fault known place Nothing = None
spot_fault known place (Origin e) = terms_fault known place e
spot_fault known place (Define name e) = terms_fault known place e
spot_fault known place Decimal = None
spot_fault known place Pause = None
spot_fault known place Octal = None
spot_fault known place (Field e) = first_of (terms_fault known place e) (field_fault (value_of known place e))
spot_fault known place (Reference operation indirect address) = past place
spot_fault known place (Word e) = past place

-- what names stand for where one of them was set again to a value, if there is one
abbrev pub with_again : ℕ → Option ℕ → Meanings → Meanings
with_again name None known n = known n
with_again name (Some value) known n = if nat_eq name n then set_again (permanent name) (known name) value else known n

-- what names stand for where tags were set again to a place, from the left
abbrev pub with_tags_again : List ℕ → ℕ → Meanings → Meanings
with_tags_again [] place known = known
with_tags_again (tag ∷ tags) place known = with_tags_again tags place (with_again tag (Some place) known)

-- what names stand for where a body was passed again
abbrev pub with_body_again : Meanings → ℕ → Body → Meanings
with_body_again known place Nothing = known
with_body_again known place (Origin e) = known
with_body_again known place (Define name e) = with_again name (value_of known place e) known
with_body_again known place Decimal = known
with_body_again known place Pause = known
with_body_again known place Octal = known
with_body_again known place (Field e) = known
with_body_again known place (Reference operation indirect address) = known
with_body_again known place (Word e) = known

-- a name was set again to the value of an expression, or the fault of its terms refuses it
abbrev pub SetsValue : ℕ → List Part → ℕ → SymbolTable → SymbolTable → Result (Unit {0}) Code → Type 0
SetsValue name e place old new (Ok nothing) =
    (terms_fault (symbol_value old) place e ≡ None) × ((n : ℕ) → symbol_value new n ≡ with_again name (value_of (symbol_value old) place e) (symbol_value old) n)
SetsValue name e place old new (Err code) = terms_fault (symbol_value old) place e ≡ Some code

-- the word of a body, if it is one, or the fault that refuses it
abbrev pub MakesWord : Option ℕ → Option Code → Result (Option ℕ) Code → Type 0
MakesWord word fault (Ok found) = (found ≡ word) × (fault ≡ None)
MakesWord word fault (Err code) = fault ≡ Some code

abbrev pub pair_at : Spot → Option ℕ → Option (ℕ × ℕ)
pair_at spot None = None
pair_at spot (Some word) = Some (FIELD * spot.field + spot.location % 0o10000, word)

-- A body was passed in the second pass, where names stood for these values.
pub record IsMade (known : Meanings) (new : SymbolTable) (spot next : Spot) (body : Body) (pair : Option (ℕ × ℕ)) : Type 0 where
  pub no_word_fault : word_fault known spot.location body ≡ None
  pub no_spot_fault : spot_fault known spot.location body ≡ None
  pub moved : next ≡ spot_by known body spot
  pub handed : pair ≡ pair_at spot (body_word known spot.location body)
  pub values : (n : ℕ) → symbol_value new n ≡ with_body_again known spot.location body n

abbrev pub MakesBody : Meanings → SymbolTable → Spot → Body → Result (Spot × Option (ℕ × ℕ)) Code → Type 0
MakesBody known new spot body (Ok made) = IsMade known new spot made.0 body made.1
MakesBody known new spot body (Err code) = first_of (word_fault known spot.location body) (spot_fault known spot.location body) ≡ Some code
