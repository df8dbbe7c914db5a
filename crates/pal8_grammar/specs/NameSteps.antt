-- What the small steps of a look-up give, for private clauses.
use Rattle.std.specs.Prelude.{◌≡◌, ℕ, Bool, true, ◌&&◌, if◌then◌else◌, nat_eq, nat_lt, Some, None, is_some, Result, Ok, Err, List, [], ◌∷◌}
use Rattle.std.specs.Ordering.{nat_cmp}
use Rattle.std.specs.BTreeSet.{contains}
use Rattle.std.specs.declared.alloc.AllocError.{AllocError}
use Rattle.pal8_grammar.specs.SourceNames.{is_own_fixed, own_value}
use Rattle.pal8_grammar.specs.declared.source_names.SourceNames.{SourceNames}

-- each value of a list is a word
abbrev pub all_words : List (ℕ × ℕ) → Bool
all_words [] = true
all_words (entry ∷ others) = nat_lt entry.1 0o10000 && all_words others

-- The fields of names stay, except what a private step changes.
pub record KeepsRest (old new : SourceNames) : Type 0 where
  pub operations : new.operations ≡ old.operations
  pub permanent : new.is_expunged ≡ old.is_expunged

-- a value was put, and which names are free stays
abbrev pub Puts : ℕ → ℕ → SourceNames → SourceNames → Result (Unit {0}) AllocError → Type 0
Puts name value old new (Ok nothing) =
    ((n : ℕ) → own_value new n ≡ (if nat_eq name n then Some value else own_value old n)) × (new.free ≡ old.free) × KeepsRest old new
Puts name value old new (Err refused) =
    ((n : ℕ) → own_value new n ≡ own_value old n) × (new.free ≡ old.free) × KeepsRest old new × (own_value old name ≡ None)

-- a name without a value was set free
abbrev pub Frees : ℕ → SourceNames → SourceNames → Result (Unit {0}) AllocError → Type 0
Frees name old new (Ok nothing) =
    (new.own ≡ old.own)
    × ((n : ℕ) → contains nat_cmp new.free n ≡ (if nat_eq name n then (if is_some (own_value old name) then contains nat_cmp old.free name else true) else contains nat_cmp old.free n))
    × KeepsRest old new
Frees name old new (Err refused) =
    (new.own ≡ old.own) × ((n : ℕ) → contains nat_cmp new.free n ≡ contains nat_cmp old.free n) × KeepsRest old new × (own_value old name ≡ None)

-- a value was put by no tag
abbrev pub PutsFree : ℕ → ℕ → SourceNames → SourceNames → Result (Unit {0}) AllocError → Type 0
PutsFree name value old new (Ok nothing) =
    ((n : ℕ) → own_value new n ≡ (if nat_eq name n then Some value else own_value old n)) × ((n : ℕ) → is_own_fixed new n ≡ is_own_fixed old n) × KeepsRest old new
PutsFree name value old new (Err refused) =
    ((n : ℕ) → own_value new n ≡ own_value old n) × ((n : ℕ) → is_own_fixed new n ≡ is_own_fixed old n) × KeepsRest old new × (own_value old name ≡ None)
