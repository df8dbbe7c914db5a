-- What the small steps of a table give, for private clauses.
use Rattle.std.specs.Prelude.{◌≡◌, ℕ, ◌+◌, ◌<◌, ◌≤◌, nat_eq, if◌then◌else◌, Some, Result, Ok, Err, length, Bool, true, ◌&&◌, nat_lt, List, [], ◌∷◌, ◌≢◌}
use Rattle.std.specs.Ordering.{nat_cmp}
use Rattle.std.specs.FinMap.{find}
use Rattle.std.specs.declared.alloc.AllocError.{AllocError}
use Rattle.pal_sym.specs.declared.symbols.Symbol.{Symbol}
use Rattle.pal_sym.specs.declared.faults.SymFault.{SymFault}
use Rattle.pal_sym.specs.Entries.{Entries, name_at, Rise}

-- ## Entries

-- The entry at a place has the name.
pub record IsAt (entries : Entries) (name place : ℕ) : Type 0 where
  pub in_range : place < length entries
  pub has_name : name_at entries place ≡ name

-- The name would stand at a place: smaller names before it, and greater ones from it on.
pub record IsGapFor (entries : Entries) (name place : ℕ) : Type 0 where
  pub in_range : place ≤ length entries
  pub smaller_before : (j : ℕ) → j < place → name_at entries j < name
  pub greater_after : (j : ℕ) → place ≤ j → j < length entries → name < name_at entries j

-- The names still rise; the name is defined as this, and the others as they were.
pub record PutsSymbol (name : ℕ) (symbol : Symbol) (old new : Entries) : Type 0 where
  pub rise : Rise new
  pub found : (n : ℕ) → find nat_cmp n new ≡ (if nat_eq name n then Some symbol else find nat_cmp n old)

-- What putting a name among entries with so much room answers: it takes the room of one, or there was none.
abbrev pub Inserts : ℕ → Symbol → Entries → ℕ → Entries → ℕ → Result (Unit {0}) AllocError → Type 0
Inserts name symbol old room new less (Ok nothing) = PutsSymbol name symbol old new × (room ≤ less + 1)
Inserts name symbol old room new less (Err refused) = (new ≡ old) × (room ≡ 0) × (less ≡ 0)

-- ## Permanent

-- each value of a list is a word
abbrev pub all_words : List (ℕ × ℕ) → Bool
all_words [] = true
all_words (entry ∷ others) = nat_lt entry.1 0o10000 && all_words others

-- ## Values

-- a value that is known is this one, or refused
abbrev pub IsRefused : SymFault → ℕ → ℕ → Result (Unit {0}) SymFault → Type 0
IsRefused twice known value (Ok nothing) = known ≡ value
IsRefused twice known value (Err fault) = (fault ≡ twice) × (known ≢ value)
