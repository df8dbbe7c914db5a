-- Where a statement stands, and what names stand for, by the statements before it (PAL III Symbolic Assembler manual, and
-- this project's profile of it). Statements have the newest first.
use Rattle.std.specs.Prelude.{ℕ, ◌+◌, nat_eq, if◌then◌else◌, Bool, true, false, ◌||◌, Option, Some, is_some, unwrap_or, Result, Ok, Err, List, [], ◌∷◌}
use Rattle.pal_sym.specs.Permanent.{permanent}
use Rattle.pal_faults.specs.declared.lexical.LexFault.{LexFault}
use Rattle.pal_lex.specs.declared.phrases.Body.{Body}
use Rattle.pal_lex.specs.declared.phrases.Body.TheVariants.{Nothing, Origin, Define, Decimal, Octal, Pause, Field, Reference, Word}
use Rattle.pal_lex.specs.declared.phrases.Statement.{Statement}
use Rattle.pal_asm.specs.Expressions.{Meanings, value_of}
use Rattle.pal_asm.specs.declared.spots.TheConstants.{FIRST_PLACE}

-- the statements of a source, each as it reads or with its fault
abbrev pub Source : Type 0
Source = List (Result Statement LexFault)

-- memory references and expressions are words
abbrev pub is_word : Body → Bool
is_word Nothing = false
is_word (Origin e) = false
is_word (Define name e) = false
is_word Decimal = false
is_word Pause = false
is_word Octal = false
is_word (Field e) = false
is_word (Reference operation indirect address) = true
is_word (Word e) = true

-- `*` and `FIELD` set the location
abbrev pub sets_location : Body → Bool
sets_location Nothing = false
sets_location (Origin e) = true
sets_location (Define name e) = false
sets_location Decimal = false
sets_location Pause = false
sets_location Octal = false
sets_location (Field e) = true
sets_location (Reference operation indirect address) = false
sets_location (Word e) = false

-- the words after the last statement that sets the location
abbrev pub words_since : Source → ℕ
words_since [] = 0
words_since (Err fault ∷ older) = words_since older
words_since (Ok s ∷ older) = if sets_location s.body then 0 else ((if is_word s.body then 1 else 0) + words_since older)

-- what a body sets the location to, or the setting before it
abbrev pub set_by : Meanings → ℕ → Body → ℕ → ℕ
set_by known place Nothing before = before
set_by known place (Origin e) before = unwrap_or (value_of known place e) 0
set_by known place (Define name e) before = before
set_by known place Decimal before = before
set_by known place Pause before = before
set_by known place Octal before = before
set_by known place (Field e) before = FIRST_PLACE
set_by known place (Reference operation indirect address) before = before
set_by known place (Word e) before = before

-- a tag stands for the place of its statement
abbrev pub with_tags : List ℕ → ℕ → Meanings → Meanings
with_tags [] place known name = known name
with_tags (tag ∷ tags) place known name = if nat_eq tag name then Some place else with_tags tags place known name

-- `=` gives a name the value of an expression
abbrev pub with_body : Meanings → ℕ → Body → Meanings
with_body known place Nothing name = known name
with_body known place (Origin e) name = known name
with_body known place (Define defined e) name = if nat_eq defined name then value_of known place e else known name
with_body known place Decimal name = known name
with_body known place Pause name = known name
with_body known place Octal name = known name
with_body known place (Field e) name = known name
with_body known place (Reference operation indirect address) name = known name
with_body known place (Word e) name = known name

abbrev mutual
  -- the value of the last `*`, or 0200 after `FIELD` and where there is none
  pub last_setting : Source → ℕ
  last_setting [] = FIRST_PLACE
  last_setting (Err fault ∷ older) = last_setting older
  last_setting (Ok s ∷ older) =
      set_by (with_tags s.tags (last_setting older + words_since older) (values older)) (last_setting older + words_since older) s.body (last_setting older)

  -- what names stand for: their last definition, or the permanent value
  pub values : Source → ℕ → Option ℕ
  values [] name = permanent name
  values (Err fault ∷ older) name = values older name
  values (Ok s ∷ older) name =
      with_body (with_tags s.tags (last_setting older + words_since older) (values older)) (last_setting older + words_since older) s.body name

-- the place of a statement after these: the last setting of the location, and one more for each word since
abbrev pub place_at : Source → ℕ
place_at older = last_setting older + words_since older

-- what names stand for at the body of a statement with these tags: its own tags count
abbrev pub values_at : List ℕ → Source → Meanings
values_at tags older = with_tags tags (place_at older) (values older)

-- a name is one of these tags
abbrev pub is_among : List ℕ → ℕ → Bool
is_among [] name = false
is_among (tag ∷ tags) name = nat_eq tag name || is_among tags name

-- the names that `=` can't redefine after these statements: the permanent ones, and the tags
abbrev pub is_fixed : Source → ℕ → Bool
is_fixed [] name = is_some (permanent name)
is_fixed (Err fault ∷ older) name = is_fixed older name
is_fixed (Ok s ∷ older) name = is_among s.tags name || is_fixed older name

-- the same at the body of a statement with these tags: its own tags count
abbrev pub is_fixed_at : List ℕ → Source → ℕ → Bool
is_fixed_at tags older name = is_among tags name || is_fixed older name

-- the number that `FIELD` gives, or that before it
abbrev pub field_by : Meanings → ℕ → Body → ℕ → ℕ
field_by known place Nothing before = before
field_by known place (Origin e) before = before
field_by known place (Define name e) before = before
field_by known place Decimal before = before
field_by known place Pause before = before
field_by known place Octal before = before
field_by known place (Field e) before = unwrap_or (value_of known place e) 0
field_by known place (Reference operation indirect address) before = before
field_by known place (Word e) before = before

-- the number of the last `FIELD`, else 0
abbrev pub field_at : Source → ℕ
field_at [] = 0
field_at (Err fault ∷ older) = field_at older
field_at (Ok s ∷ older) = field_by (values_at s.tags older) (place_at older) s.body (field_at older)
