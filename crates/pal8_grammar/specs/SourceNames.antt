-- What the names of a source stand for by the statements before (PAL8, in this project's profile). It is the last definition of a name, or else its
-- permanent value, until EXPUNGE takes the permanent values and the operations away.
use Rattle.std.specs.Prelude.{◌≡◌, ℕ, nat_eq, Bool, true, false, ◌&&◌, ◌||◌, not, if◌then◌else◌, Option, Some, None, is_some, Result, Ok, Err}
use Rattle.std.specs.Ordering.{nat_cmp}
use Rattle.std.specs.BTreeMap.{get}
use Rattle.std.specs.BTreeSet.{contains}
use Rattle.std.specs.declared.alloc.AllocError.{AllocError}
use Rattle.pal_lex.specs.Language as pal3
use Rattle.pal_sym.specs.Values.{if_none}
use Rattle.pal_sym.specs.declared.faults.SymFault.{SymFault}
use Rattle.pal_sym.specs.declared.faults.SymFault.TheVariants.{DT, RD, Memory}
use Rattle.pal8_grammar.specs.Permanent.{permanent}
use Rattle.pal8_grammar.specs.declared.permanent_names.Meaning.{Meaning}
use Rattle.pal8_grammar.specs.declared.permanent_names.Standing.{Standing}
use Rattle.pal8_grammar.specs.declared.permanent_names.Standing.TheVariants.{Operation, Firm, Soft}
use Rattle.pal8_grammar.specs.declared.source_names.SourceNames.{SourceNames}

-- ## Names

-- What statements leave of names. Each of the source's own names has the last value that the source gave it, by a tag, `=` or FIXMRI. Some of these
-- are fixed, by a tag or a FIXTAB. Some names begin a memory reference. EXPUNGE may have taken the permanent names away.
pub record NameState : Type 0 where
  pub own : ℕ → Option ℕ
  pub fixed : ℕ → Bool
  pub operation : ℕ → Bool
  pub is_expunged : Bool

-- where a source begins: the permanent names alone, with the six operations
abbrev pub first_names : NameState
first_names = record { own = λ n. None; fixed = λ n. false; operation = λ n. is_some (pal3.operation_of n); is_expunged = false }

abbrev pub value_in : Option Meaning → Option ℕ
value_in None = None
value_in (Some m) = Some m.value

abbrev pub keeps : Standing → Bool
keeps Operation = true
keeps Firm = true
keeps Soft = false

-- a permanent name that isn't soft
abbrev pub is_kept : Option Meaning → Bool
is_kept None = false
is_kept (Some m) = keeps m.standing

-- the value that a permanent name has, if it isn't soft
abbrev pub hard_value : Option Meaning → Option ℕ
hard_value None = None
hard_value (Some m) = if keeps m.standing then Some m.value else None

-- what a permanent name stands for, unless EXPUNGE took it away
abbrev pub permanent_in : NameState → ℕ → Option Meaning
permanent_in names name = if names.is_expunged then None else permanent name

abbrev pub permanent_value : NameState → ℕ → Option ℕ
permanent_value names name = value_in (permanent_in names name)

-- what a name stands for
abbrev pub value_of : NameState → ℕ → Option ℕ
value_of names name = if_none (names.own name) (permanent_value names name)

-- the value that a name keeps, whatever the source defines later: a soft one gives way
abbrev pub kept_value : NameState → ℕ → Option ℕ
kept_value names name = if_none (names.own name) (hard_value (permanent_in names name))

-- `=` can't give a name another value
abbrev pub is_fixed : NameState → ℕ → Bool
is_fixed names name = is_kept (permanent_in names name) || names.fixed name

-- the word of an operation: the value of its name
abbrev pub operation_word : NameState → ℕ → Option ℕ
operation_word names name = if names.operation name then value_of names name else None

-- ## What a statement reads by

-- Of the names before a statement: the words of those that begin a memory reference, and the values of the permanent ones.
pub record Vocabulary : Type 0 where
  pub operation : ℕ → Option ℕ
  pub permanent : ℕ → Option ℕ

abbrev pub vocabulary_of : NameState → Vocabulary
vocabulary_of names = record { operation = operation_word names; permanent = permanent_value names }

-- ## What statements do to names

abbrev pub with_own : ℕ → ℕ → (ℕ → Option ℕ) → ℕ → Option ℕ
with_own name value own n = if nat_eq name n then Some value else own n

abbrev pub with_one : ℕ → (ℕ → Bool) → ℕ → Bool
with_one name has n = if nat_eq name n then true else has n

-- a tag has this place, and is fixed
abbrev pub names_with_tag : ℕ → ℕ → NameState → NameState
names_with_tag name value names = record names { own = with_own name value names.own; fixed = with_one name names.fixed }

-- `=` gives a name a value, which is its word where it is an operation
abbrev pub names_with_value : ℕ → ℕ → NameState → NameState
names_with_value name value names = record names { own = with_own name value names.own }

-- FIXMRI gives a name a value and makes it an operation
abbrev pub names_with_operation : ℕ → ℕ → NameState → NameState
names_with_operation name value names = record names { own = with_own name value names.own; operation = with_one name names.operation }

-- EXPUNGE: permanent names have no value, and no name is an operation; the source's own names stay
abbrev pub names_after_expunge : NameState → NameState
names_after_expunge names = record names { operation = λ n. false; is_expunged = true }

-- FIXTAB: all names that the source has defined are fixed
abbrev pub names_after_fixtab : NameState → NameState
names_after_fixtab names = record names { fixed = λ n. is_some (names.own n) }

-- ## The table

-- the last value that the source gave a name
abbrev pub own_value : SourceNames → ℕ → Option ℕ
own_value table name = get nat_cmp table.own name

-- the source gave a name a value, by a tag or before a FIXTAB
abbrev pub is_own_fixed : SourceNames → ℕ → Bool
is_own_fixed table name = is_some (own_value table name) && not (contains nat_cmp table.free name)

abbrev pub is_operation : SourceNames → ℕ → Bool
is_operation table name = contains nat_cmp table.operations name || (not table.is_expunged && is_some (pal3.operation_of name))

-- what a table holds
abbrev pub names_of : SourceNames → NameState
names_of table = record { own = own_value table; fixed = is_own_fixed table; operation = is_operation table; is_expunged = table.is_expunged }

-- A table holds the same.
pub record Stays (old new : SourceNames) : Type 0 where
  pub own : (n : ℕ) → own_value new n ≡ own_value old n
  pub fixed : (n : ℕ) → is_own_fixed new n ≡ is_own_fixed old n
  pub operations : (n : ℕ) → is_operation new n ≡ is_operation old n
  pub permanent : new.is_expunged ≡ old.is_expunged

-- a name stands for another value than this one
abbrev pub is_other : Option ℕ → ℕ → Bool
is_other None value = false
is_other (Some known) value = not (nat_eq known value)

-- What a tag answers. A value that its name keeps must be this one. Memory is taken for a new name alone.
abbrev pub DefinesTag : ℕ → ℕ → SourceNames → SourceNames → Result (Unit {0}) SymFault → Type 0
DefinesTag name value old new (Ok nothing) =
    (is_other (kept_value (names_of old) name) value ≡ false) × (names_of new ≡ names_with_tag name value (names_of old))
DefinesTag name value old new (Err DT) = (new ≡ old) × (is_other (kept_value (names_of old) name) value ≡ true)
DefinesTag name value old new (Err RD) = ⊥
DefinesTag name value old new (Err Memory) =
    Stays old new × (is_other (kept_value (names_of old) name) value ≡ false) × (own_value old name ≡ None)

-- What `=` answers. A fixed name must stand for this value already. Memory is taken for a new name alone.
abbrev pub DefinesValue : ℕ → ℕ → SourceNames → SourceNames → Result (Unit {0}) SymFault → Type 0
DefinesValue name value old new (Ok nothing) =
    ((is_fixed (names_of old) name && is_other (value_of (names_of old) name) value) ≡ false) × (names_of new ≡ names_with_value name value (names_of old))
DefinesValue name value old new (Err DT) = ⊥
DefinesValue name value old new (Err RD) = (new ≡ old) × ((is_fixed (names_of old) name && is_other (value_of (names_of old) name) value) ≡ true)
DefinesValue name value old new (Err Memory) =
    Stays old new × ((is_fixed (names_of old) name && is_other (value_of (names_of old) name) value) ≡ false) × (own_value old name ≡ None)

-- What FIXMRI answers. It may give any name any value.
abbrev pub DefinesOperation : ℕ → ℕ → SourceNames → SourceNames → Result (Unit {0}) AllocError → Type 0
DefinesOperation name value old new (Ok nothing) = names_of new ≡ names_with_operation name value (names_of old)
DefinesOperation name value old new (Err refused) = Stays old new
