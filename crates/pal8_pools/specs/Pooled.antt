-- What pools hold of the asks so far.
use Rattle.std.specs.Prelude.{◌≡◌, ℕ, ◌+◌, ◌*◌, ◌<◌, ◌≤◌, nat_eq, nat_lt, Bool, true, false, ◌||◌, Result, Ok, Err, length, slice_index_or, List, [], ◌∷◌, refl}
use Rattle.std.specs.Coded.{Coded, code_by, coded×, coded_ℕ, coded_bool, coded_list}
use Rattle.std.specs.declared.alloc.AllocError.{AllocError}
use Rattle.word12.specs.declared.sizes.TheConstants.{FIELD}
use Rattle.pal8_pools.specs.Asks.{Ask, IsAsked, cell_in, item_of, pool_of, rank}
use Rattle.pal8_pools.specs.Values.{HoldsValues}
use Rattle.pal8_pools.specs.declared.faults.PoolFault.{PoolFault}
use Rattle.pal8_pools.specs.declared.faults.PoolFault.TheVariants.{Full, Memory}

-- What a contract sees of pools: by cell the items and whether a punched word asks for it, and how many items each page has.
pub record PoolTable : Type 0 where
  pub values : List ℕ
  pub counts : List ℕ
  pub punched : List Bool

abbrev pub table_code : Coded PoolTable
table_code =
    code_by (List ℕ × (List ℕ × List Bool)) (coded× (coded_list coded_ℕ) (coded× (coded_list coded_ℕ) (coded_list coded_bool)))
    (λ t. (t.values, (t.counts, t.punched))) (λ p. record { values = p.0; counts = p.1.0; punched = p.1.1 }) (λ _. refl)

-- The table is made whole, or isn't made.
pub record HasSizes (values counts : List ℕ) (punched : List Bool) : Type 0 where
  pub whole_or_none : (nat_eq (length counts) 0 || nat_eq (length counts) 0o400) ≡ true
  pub values_are : length values ≡ 0o200 * length counts
  pub punched_are : length punched ≡ 0o200 * length counts

-- asks take no memory
abbrev pub has_room : PoolTable → Bool
has_room table = nat_lt 0 (length table.counts)

-- one of these asks has the cell
abbrev pub is_cell_of : List Ask → List Ask → ℕ → Bool
is_cell_of asks [] c = false
is_cell_of asks (a ∷ older) c = nat_eq (cell_in asks a) c || is_cell_of asks older c

-- The pools after these asks, of which those are of punched words.
pub record Holds (table : PoolTable) (asks punched : List Ask) : Type 0 where
  pub holds_values : HoldsValues table.values table.counts asks
  pub has_marks : (c : ℕ) → slice_index_or table.punched c false ≡ is_cell_of asks punched c
  pub are_asks : (a : Ask) → IsAsked punched a → IsAsked asks a

abbrev pub with_punched : Bool → Ask → List Ask → List Ask
with_punched true a punched = a ∷ punched
with_punched false a punched = punched

-- What an ask answers after these asks: the address of its cell; or that its page is full, and nothing changes; or that there was no room
-- and no memory.
abbrev pub Answers : Ask → Bool → List Ask → List Ask → PoolTable → PoolTable → Result ℕ PoolFault → Type 0
Answers a is_punched asks punched old new (Ok address) =
    (FIELD * a.field + address ≡ cell_in (a ∷ asks) a) × (rank (pool_of (a ∷ asks) a.field a.page) (item_of a) ≤ 0o177)
    × Holds new (a ∷ asks) (with_punched is_punched a punched) × (has_room new ≡ true)
Answers a is_punched asks punched old new (Err Full) = (new ≡ old) × (0o177 < rank (pool_of (a ∷ asks) a.field a.page) (item_of a))
Answers a is_punched asks punched old new (Err Memory) = (new ≡ old) × (has_room old ≡ false)

-- The asks stay, and there is room for further ones.
pub record GetsRoom (old new : PoolTable) : Type 0 where
  pub keeps : (asks punched : List Ask) → Holds old asks punched → Holds new asks punched
  pub stays : has_room old ≡ true → new ≡ old

-- what making room for so many asks answers
abbrev pub MakesRoom : ℕ → PoolTable → PoolTable → Result (Unit {0}) AllocError → Type 0
MakesRoom n old new (Ok nothing) = GetsRoom old new × (0 < n → has_room new ≡ true)
MakesRoom n old new (Err refused) = (new ≡ old) × (has_room old ≡ false)
