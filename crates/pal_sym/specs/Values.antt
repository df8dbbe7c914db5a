-- The value of a name, and what defining it changes (PAL III Symbolic Assembler manual, and this project's profile).
use Rattle.std.specs.Prelude.{◌≡◌, ◌≢◌, ℕ, ◌+◌, ◌≤◌, ◌<◌, nat_eq, Bool, true, false, ◌||◌, if◌then◌else◌, ◌⊎◌, Option, Some, None, is_some, Result, Ok, Err}
use Rattle.std.specs.FinMap.{get}
use Rattle.std.specs.declared.alloc.AllocError.{AllocError}
use Rattle.pal_sym.specs.Permanent.{permanent}
use Rattle.pal_sym.specs.SymbolTable.{SymbolTable}
use Rattle.pal_sym.specs.declared.symbols.Symbol.{Symbol}
use Rattle.pal_sym.specs.declared.faults.SymFault.{SymFault}
use Rattle.pal_sym.specs.declared.faults.SymFault.TheVariants.{DT, RD, Memory}

abbrev pub if_none : Option ℕ → Option ℕ → Option ℕ
if_none None other = other
if_none (Some value) other = Some value

abbrev pub defined_value : Option Symbol → Option ℕ
defined_value None = None
defined_value (Some symbol) = Some symbol.value

abbrev pub is_tag : Option Symbol → Bool
is_tag None = false
is_tag (Some symbol) = symbol.is_tag

-- what a name stands for: its permanent value, else what it was defined as
unfoldable pub symbol_value : SymbolTable → ℕ → Option ℕ
symbol_value table name = if_none (permanent name) (defined_value (get table.defined name))

-- a name that `=` can't redefine: a permanent one, or a tag
unfoldable pub is_fixed : SymbolTable → ℕ → Bool
is_fixed table name = is_some (permanent name) || is_tag (get table.defined name)

-- a name stands for a value other than this one
abbrev pub IsOther : Option ℕ → ℕ → Type 0
IsOther None value = ⊥
IsOther (Some known) value = known ≢ value

-- A name stands for this value, the other names for what they stood for. A new name takes the room of one, another none.
pub record StandsFor (name value : ℕ) (old new : SymbolTable) : Type 0 where
  pub values : (n : ℕ) → symbol_value new n ≡ (if nat_eq name n then Some value else symbol_value old n)
  pub room : old.room ≤ new.room + 1
  pub known : (v : ℕ) → symbol_value old name ≡ Some v → new.room ≡ old.room

-- What defining a tag answers. The name must stand for nothing, or for this value already. On a fault nothing changes;
-- memory is taken for a new name alone, and only where no room is left.
abbrev pub DefinesTag : ℕ → ℕ → SymbolTable → SymbolTable → Result (Unit {0}) SymFault → Type 0
DefinesTag name value old new (Ok nothing) =
    ((symbol_value old name ≡ None) ⊎ (symbol_value old name ≡ Some value)) × StandsFor name value old new
    × ((n : ℕ) → is_fixed new n ≡ (if nat_eq name n then true else is_fixed old n))
DefinesTag name value old new (Err DT) = (new ≡ old) × IsOther (symbol_value old name) value
DefinesTag name value old new (Err RD) = ⊥
DefinesTag name value old new (Err Memory) = (new ≡ old) × (symbol_value old name ≡ None) × (old.room ≡ 0)

-- What `=` answers. A permanent name and a tag must stand for this value already; another name may stand for any. On a
-- fault nothing changes; memory is taken for a new name alone, and only where no room is left.
abbrev pub DefinesValue : ℕ → ℕ → SymbolTable → SymbolTable → Result (Unit {0}) SymFault → Type 0
DefinesValue name value old new (Ok nothing) =
    ((is_fixed old name ≡ false) ⊎ (symbol_value old name ≡ Some value)) × StandsFor name value old new
    × ((n : ℕ) → is_fixed new n ≡ is_fixed old n)
DefinesValue name value old new (Err DT) = ⊥
DefinesValue name value old new (Err RD) = (new ≡ old) × (is_fixed old name ≡ true) × IsOther (symbol_value old name) value
DefinesValue name value old new (Err Memory) = (new ≡ old) × (symbol_value old name ≡ None) × (old.room ≡ 0)

-- what a name stands for that is set again: a permanent one keeps its value, and one that isn't there stays so
abbrev pub set_again : Option ℕ → Option ℕ → ℕ → Option ℕ
set_again (Some fixed) known value = known
set_again None None value = None
set_again None (Some known) value = Some value

-- A name was set again.
pub record IsSetAgain (name value : ℕ) (old new : SymbolTable) : Type 0 where
  pub values : (n : ℕ) → symbol_value new n ≡ (if nat_eq name n then set_again (permanent name) (symbol_value old name) value else symbol_value old n)
  pub fixed : (n : ℕ) → is_fixed new n ≡ is_fixed old n
  pub room : new.room ≡ old.room

-- The values stay, and there is room for so many new names.
pub record HasRoom (names : ℕ) (old new : SymbolTable) : Type 0 where
  pub values : (n : ℕ) → symbol_value new n ≡ symbol_value old n
  pub fixed : (n : ℕ) → is_fixed new n ≡ is_fixed old n
  pub enough : names ≤ new.room
  pub kept : old.room ≤ new.room

-- what making room for new names answers
abbrev pub MakesRoom : ℕ → SymbolTable → SymbolTable → Result (Unit {0}) AllocError → Type 0
MakesRoom names old new (Ok nothing) = HasRoom names old new
MakesRoom names old new (Err refused) = (new ≡ old) × (old.room < names)
