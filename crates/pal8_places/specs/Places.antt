-- What a statement does to places and names, by those before it (PAL8, in this project's profile). No place and no name rests on a literal
-- or a link.
use Rattle.std.specs.Prelude.{ℕ, ◌+◌, ◌-◌, ◌*◌, ◌/◌, ◌%◌, nat_eq, nat_lt, Bool, true, false, ◌&&◌, ◌||◌, not, if◌then◌else◌, is_some, Option, Some, None, Result, Ok, Err, List, [], ◌∷◌}
use Rattle.word12.specs.declared.sizes.TheConstants.{PAGE}
use Rattle.pal8_lex.specs.Kinds.{is_comma}
use Rattle.pal8_lex.specs.declared.tokens.Token.{Token}
use Rattle.pal8_lex.specs.declared.judging.Radix.{Radix}
use Rattle.pal8_lex.specs.declared.judging.Radix.TheVariants as radix
use Rattle.pal8_grammar.specs.SourceNames.{NameState, is_fixed, is_other, kept_value, names_after_expunge, names_after_fixtab, names_with_operation, names_with_tag, names_with_value, value_of, with_one}
use Rattle.pal8_grammar.specs.Bodies.{free_name}
use Rattle.pal8_grammar.specs.declared.bodies.Body.{Body}
use Rattle.pal8_grammar.specs.declared.bodies.Body.TheVariants as body
use Rattle.pal8_grammar.specs.declared.steps.Step.{Step}
use Rattle.pal8_grammar.specs.declared.steps.Step.TheVariants as step
use Rattle.pal8_values.specs.Sums.{Meanings, early_value, here_of}
use Rattle.pal8_values.specs.declared.sums.Spot.{Spot}
use Rattle.pal8_values.specs.declared.faults.ValueFault.{ValueFault}
use Rattle.pal8_values.specs.declared.faults.ValueFault.TheVariants as value
use Rattle.pal8_places.specs.declared.faults.Code.{Code}
use Rattle.pal8_places.specs.declared.faults.Code.TheVariants as code
use Rattle.pal8_places.specs.declared.options.Options.{Options}
use Rattle.pal8_places.specs.declared.places.Position.{Position}
use Rattle.pal8_places.specs.declared.places.TheConstants.{FIRST_PLACE, LAST_STAY}

-- What statements leave: names, and where the next statement stands. A definition by `=` is late where a name of its value has none by then. It counts
-- in words alone, so names are those of the other definitions; the late names are those whose last definition is late.
pub record Standing : Type 0 where
  pub names : NameState
  pub late : ℕ → Bool
  pub position : Position

-- ## Places

-- The place is the location, which RELOC shifts: the address at which a word runs, where the tape loads it at another one. (Without a shift a
-- location may be 10000, which is past 7777.)
abbrev pub place_of_location : ℕ → ℕ → ℕ
place_of_location shift location = if nat_eq shift 0 then location else (location + shift) % 0o10000

-- the location that has this place
abbrev pub location_at : ℕ → ℕ → ℕ
location_at shift place = (place + 0o10000 - shift) % 0o10000

-- where a statement stands
abbrev pub spot_at : Position → Spot
spot_at p = record {
  field = p.field;
  location = p.location;
  here = place_of_location p.shift p.location;
  is_punched = p.is_punched;
  may_link = not p.options.is_without_links;
  zero_stay = p.zero_stay;
  page_stay = p.page_stay;
}

-- ## Names

abbrev pub without_one : ℕ → (ℕ → Bool) → ℕ → Bool
without_one name has n = if nat_eq name n then false else has n

-- a tag stands for the place, which must not be past 7777, and its name keeps no other value
abbrev pub with_tag_by : ℕ → ℕ → Standing → Bool → Result Standing Code
with_tag_by tag place s true = Err (code.DT tag)
with_tag_by tag place s false = Ok record { names = names_with_tag tag place s.names; late = without_one tag s.late; position = s.position }

abbrev pub with_tag_at : ℕ → Option ℕ → Standing → Result Standing Code
with_tag_at tag None s = Err code.PF
with_tag_at tag (Some place) s = with_tag_by tag place s (is_other (kept_value s.names tag) place)

abbrev pub with_tag : Option ℕ → Standing → Result Standing Code
with_tag None s = Ok s
with_tag (Some tag) s = with_tag_at tag (here_of (spot_at s.position)) s

abbrev pub with_tag_if : Option ℕ → Result Standing Code → Result Standing Code
with_tag_if tag (Err fault) = Err fault
with_tag_if tag (Ok s) = with_tag tag s

-- the tags in front, from the left
abbrev pub with_tags : List Token → Result Standing Code → Result Standing Code
with_tags [] s = s
with_tags (t ∷ []) s = s
with_tags (t ∷ next ∷ others) s = if is_comma next.kind then with_tags others (with_tag_if (free_name t.kind) s) else s

-- `=` gives a name a value. One that is fixed must have that value already.
abbrev pub with_definition_by : ℕ → ℕ → Standing → Bool → Result Standing Code
with_definition_by name v s true = Err code.RD
with_definition_by name v s false = Ok record { names = names_with_value name v s.names; late = without_one name s.late; position = s.position }

abbrev pub with_definition : ℕ → ℕ → Standing → Result Standing Code
with_definition name v s = with_definition_by name v s (is_fixed s.names name && is_other (value_of s.names name) v)

-- FIXMRI gives any name any value, and makes it an operation
abbrev pub with_operation : ℕ → ℕ → Standing → Standing
with_operation name v s = record { names = names_with_operation name v s.names; late = without_one name s.late; position = s.position }

-- the last definition of a name is late
abbrev pub with_late : ℕ → Standing → Standing
with_late name s = record { names = s.names; late = with_one name s.late; position = s.position }

-- a name of these steps has no value (a permanent name has one with its step)
abbrev pub is_later : Meanings → Step → Bool
is_later own (step.Operation word) = false
is_later own step.Alone = false
is_later own step.Indirect = false
is_later own (step.Name name) = not (is_some (own name))
is_later own (step.Permanent name value) = false
is_later own (step.Number word) = false
is_later own step.Here = false
is_later own (step.Sign op) = false
is_later own (step.Open pool) = false
is_later own step.Close = false

abbrev pub has_later : Meanings → List Step → Bool
has_later own [] = false
has_later own (s ∷ others) = is_later own s || has_later own others

-- ## Positions

-- one stay more; 2^32 - 1 is the last one that is counted
abbrev pub next_stay : ℕ → ℕ
next_stay stay = if nat_lt stay LAST_STAY then stay + 1 else stay

abbrev pub stay_if : Bool → ℕ → ℕ
stay_if true stay = next_stay stay
stay_if false stay = stay

-- a location is on another page than the one before
abbrev pub is_elsewhere : ℕ → Position → Bool
is_elsewhere location p = not (nat_eq (location / PAGE) (p.location / PAGE))

-- A page but page zero is asked in a new stay where the location comes to another page.
abbrev pub at_location : ℕ → Position → Position
at_location location p = record p { location = location; page_stay = stay_if (p.options.has_stays && is_elsewhere location p) p.page_stay }

-- `*` and PAGE set the place
abbrev pub to_place : ℕ → Position → Position
to_place place p = at_location (location_at p.shift place) p

-- so many words more; the last one must not be past 7777
abbrev pub with_size : ℕ → Position → Result Position Code
with_size n p =
    if nat_eq n 0 then Ok p
    else (if nat_lt 0o10000 (p.location + n) then Err code.PF else Ok (at_location (p.location + n) p))

-- where FIELD goes on, whose pages are asked in a new stay
abbrev pub location_in_field : Position → ℕ
location_in_field p = if p.options.is_without_origin then p.location else FIRST_PLACE

abbrev pub with_field : ℕ → Position → Result Position Code
with_field n p =
    if nat_lt 7 n then Err code.FD else Ok record p {
      location = location_in_field p;
      field = n;
      zero_stay = stay_if p.options.has_stays p.zero_stay;
      page_stay = stay_if p.options.has_stays p.page_stay;
    }

abbrev pub with_page : ℕ → Position → Result Position Code
with_page n p = if nat_lt 0o37 n then Err code.PG else Ok (to_place (0o200 * n) p)

-- so many places are left to the first one of a page that isn't before this one
abbrev pub to_page : ℕ → ℕ
to_page place = (0o200 - place % 0o200) % 0o200

-- past 7777 a location takes no word, and counts modulo 10000 alone
abbrev pub kept_low : ℕ → ℕ
kept_low location = if nat_lt location 0o20000 then location else location - 0o10000

abbrev pub next_page : Position → Position
next_page p = at_location (kept_low (p.location + to_page (place_of_location p.shift p.location))) p

-- DECIMAL and OCTAL
abbrev pub with_radix : Radix → Position → Position
with_radix radix p = record p { radix = radix }

-- ENPUNCH and NOPUNCH
abbrev pub with_punching : Bool → Position → Position
with_punching is_punched p = record p { is_punched = is_punched }

-- RELOC alone: the place is the location again
abbrev pub without_relocation : Position → Position
without_relocation p = record p { shift = 0 }

-- RELOC: this is the place from here on
abbrev pub with_relocation : ℕ → Position → Position
with_relocation place p = record p { shift = (place + 0o20000 - p.location) % 0o10000 }

-- two characters a word, and 00 after the last one, unless an even text has none
abbrev pub text_size : Options → ℕ → ℕ
text_size options length = if options.is_without_zero then (length + 1) / 2 else length / 2 + 1

-- ## Bodies

-- (no value asks for memory, or a pool)
abbrev pub code_of : ValueFault → Code
code_of (value.UA name) = code.UA name
code_of value.PF = code.PF
code_of value.DZ = code.DZ
code_of value.IR = code.IR
code_of value.II = code.II
code_of value.PE = code.PE
code_of value.ZE = code.ZE
code_of value.RL = code.RL
code_of value.Memory = code.SY

abbrev pub as_code : Result ℕ ValueFault → Result ℕ Code
as_code (Err fault) = Err (code_of fault)
as_code (Ok v) = Ok v

abbrev pub standing_at : Standing → Result Position Code → Result Standing Code
standing_at s (Err fault) = Err fault
standing_at s (Ok position) = Ok record { names = s.names; late = s.late; position = position }

-- a body with a value
abbrev pub with_valued : Body → Standing → ℕ → Result Standing Code
with_valued body.Nothing s v = Ok s
with_valued body.Origin s v = standing_at s (Ok (to_place v s.position))
with_valued (body.Define name) s v = with_definition name v s
with_valued body.Decimal s v = Ok s
with_valued body.Octal s v = Ok s
with_valued body.Field s v = standing_at s (with_field v s.position)
with_valued body.NextPage s v = Ok s
with_valued body.Page s v = standing_at s (with_page v s.position)
with_valued body.Zeros s v = standing_at s (with_size v s.position)
with_valued body.Text s v = Ok s
with_valued body.Listing s v = Ok s
with_valued body.IfZero s v = Ok s
with_valued body.IfNotZero s v = Ok s
with_valued (body.IfDefined name) s v = Ok s
with_valued (body.IfUndefined name) s v = Ok s
with_valued body.NoPunch s v = Ok s
with_valued body.Punch s v = Ok s
with_valued body.Relocate s v = standing_at s (Ok (with_relocation v s.position))
with_valued body.Unrelocate s v = Ok s
with_valued body.FileName s v = Ok s
with_valued body.Device s v = Ok s
with_valued body.Expunge s v = Ok s
with_valued body.FixTable s v = Ok s
with_valued (body.FixOperation name) s v = Ok (with_operation name v s)
with_valued body.Word s v = Ok s

abbrev pub with_value_of : Body → Standing → Result ℕ Code → Result Standing Code
with_value_of body s (Err fault) = Err fault
with_value_of body s (Ok v) = with_valued body s v

-- a value by the names before, of which a statement's own tags are some (a permanent name has its value with its step)
abbrev pub value_at : Standing → List Step → Result ℕ Code
value_at s steps = as_code (early_value s.names.own (spot_at s.position) steps)

abbrev pub with_names : NameState → Standing → Standing
with_names names s = record { names = names; late = s.late; position = s.position }

-- a late definition isn't judged here
abbrev pub with_define : ℕ → List Step → Standing → Bool → Result Standing Code
with_define name steps s true = Ok (with_late name s)
with_define name steps s false = with_value_of (body.Define name) s (value_at s steps)

-- what a body does, with the steps of its value and the length of its string
abbrev pub with_body : Body → List Step → ℕ → Standing → Result Standing Code
with_body body.Nothing steps length s = Ok s
with_body body.Origin steps length s = with_value_of body.Origin s (value_at s steps)
with_body (body.Define name) steps length s = with_define name steps s (has_later s.names.own steps)
with_body body.Decimal steps length s = standing_at s (Ok (with_radix radix.Decimal s.position))
with_body body.Octal steps length s = standing_at s (Ok (with_radix radix.Octal s.position))
with_body body.Field steps length s = with_value_of body.Field s (value_at s steps)
with_body body.NextPage steps length s = standing_at s (Ok (next_page s.position))
with_body body.Page steps length s = with_value_of body.Page s (value_at s steps)
with_body body.Zeros steps length s = with_value_of body.Zeros s (value_at s steps)
with_body body.Text steps length s = standing_at s (with_size (text_size s.position.options length) s.position)
with_body body.Listing steps length s = Ok s
with_body body.IfZero steps length s = Ok s
with_body body.IfNotZero steps length s = Ok s
with_body (body.IfDefined name) steps length s = Ok s
with_body (body.IfUndefined name) steps length s = Ok s
with_body body.NoPunch steps length s = standing_at s (Ok (with_punching false s.position))
with_body body.Punch steps length s = standing_at s (Ok (with_punching true s.position))
with_body body.Relocate steps length s = with_value_of body.Relocate s (value_at s steps)
with_body body.Unrelocate steps length s = standing_at s (Ok (without_relocation s.position))
with_body body.FileName steps length s = standing_at s (with_size 4 s.position)
with_body body.Device steps length s = standing_at s (with_size 2 s.position)
with_body body.Expunge steps length s = Ok (with_names (names_after_expunge s.names) s)
with_body body.FixTable steps length s = Ok (with_names (names_after_fixtab s.names) s)
with_body (body.FixOperation name) steps length s = with_value_of (body.FixOperation name) s (value_at s steps)
with_body body.Word steps length s = standing_at s (with_size 1 s.position)

abbrev pub with_body_if : Body → List Step → ℕ → Result Standing Code → Result Standing Code
with_body_if body steps length (Err fault) = Err fault
with_body_if body steps length (Ok s) = with_body body steps length s

-- ## Conditions

abbrev pub is_zero : Result ℕ Code → Result Bool Code
is_zero (Err fault) = Err fault
is_zero (Ok v) = Ok (nat_eq v 0)

abbrev pub is_not_zero : Result ℕ Code → Result Bool Code
is_not_zero (Err fault) = Err fault
is_not_zero (Ok v) = Ok (not (nat_eq v 0))

-- Whether a condition is true, by the names before, of which a statement's own tags are some. No other body is one.
abbrev pub truth_of : Body → List Step → Standing → Result Bool Code
truth_of body.Nothing steps s = Ok false
truth_of body.Origin steps s = Ok false
truth_of (body.Define name) steps s = Ok false
truth_of body.Decimal steps s = Ok false
truth_of body.Octal steps s = Ok false
truth_of body.Field steps s = Ok false
truth_of body.NextPage steps s = Ok false
truth_of body.Page steps s = Ok false
truth_of body.Zeros steps s = Ok false
truth_of body.Text steps s = Ok false
truth_of body.Listing steps s = Ok false
truth_of body.Word steps s = Ok false
truth_of body.IfZero steps s = is_zero (value_at s steps)
truth_of body.IfNotZero steps s = is_not_zero (value_at s steps)
truth_of (body.IfDefined name) steps s = Ok (is_some (value_of s.names name))
truth_of (body.IfUndefined name) steps s = Ok (not (is_some (value_of s.names name)))
truth_of body.NoPunch steps s = Ok false
truth_of body.Punch steps s = Ok false
truth_of body.Relocate steps s = Ok false
truth_of body.Unrelocate steps s = Ok false
truth_of body.FileName steps s = Ok false
truth_of body.Device steps s = Ok false
truth_of body.Expunge steps s = Ok false
truth_of body.FixTable steps s = Ok false
truth_of (body.FixOperation name) steps s = Ok false

-- what a statement does: its tags from the left, then its body; or its first fault
abbrev pub with_statement : List Token → Body → List Step → ℕ → Standing → Result Standing Code
with_statement tokens body steps length s = with_body_if body steps length (with_tags tokens (Ok s))
