-- What the small steps of pools give, for private clauses.
use Rattle.std.specs.Prelude.{◌≡◌, ℕ, ◌+◌, ◌*◌, ◌<◌, ◌≤◌, ◌-◌, nat_eq, Bool, true, false, if◌then◌else◌, Option, Some, None, Result, Ok, Err, slice_index, slice_set, zero, suc, List, ◌∷◌}
use Rattle.std.specs.declared.alloc.AllocError.{AllocError}
use Rattle.word12.specs.declared.sizes.TheConstants.{FIELD}
use Rattle.pal8_pools.specs.Asks.{Ask, cell_in, item_of, pool_of, rank}
use Rattle.pal8_pools.specs.Values.{HoldsValues}
use Rattle.pal8_pools.specs.Pooled.{GetsRoom, Holds, PoolTable, has_room, with_punched}
use Rattle.pal8_pools.specs.declared.faults.PoolFault.{PoolFault}
use Rattle.pal8_pools.specs.declared.faults.PoolFault.TheVariants.{Full, Memory}

-- the rank of a value among so many from the last cell of a page on, if it is there
abbrev pub rank_below : List ℕ → ℕ → ℕ → ℕ → Option ℕ
rank_below values last zero v = None
rank_below values last (suc n) v = if nat_eq (slice_index values (last - n)) v then Some n else rank_below values last n v

-- the rank that an ask gets, or that its page is full
abbrev pub Ranks : Ask → List Ask → List ℕ → List ℕ → List ℕ → List ℕ → Option ℕ → Type 0
Ranks a asks values counts new_values new_counts (Some r) =
    (r ≡ rank (pool_of (a ∷ asks) a.field a.page) (item_of a)) × (r < 0o200) × HoldsValues new_values new_counts (a ∷ asks)
Ranks a asks values counts new_values new_counts None =
    (new_values ≡ values) × (new_counts ≡ counts) × (0o177 < rank (pool_of (a ∷ asks) a.field a.page) (item_of a))

-- what making the table answers
abbrev pub Makes : PoolTable → PoolTable → Result (Unit {0}) AllocError → Type 0
Makes old new (Ok nothing) = GetsRoom old new × (has_room new ≡ true)
Makes old new (Err refused) = (new ≡ old) × (has_room old ≡ false)

-- what an ask answers where the table is made
abbrev pub Puts : Ask → Bool → List Ask → List Ask → PoolTable → PoolTable → Result ℕ PoolFault → Type 0
Puts a is_punched asks punched old new (Ok address) =
    (FIELD * a.field + address ≡ cell_in (a ∷ asks) a) × (rank (pool_of (a ∷ asks) a.field a.page) (item_of a) ≤ 0o177)
    × Holds new (a ∷ asks) (with_punched is_punched a punched) × (has_room new ≡ true)
Puts a is_punched asks punched old new (Err Full) = (new ≡ old) × (0o177 < rank (pool_of (a ∷ asks) a.field a.page) (item_of a))
Puts a is_punched asks punched old new (Err Memory) = ⊥

-- marks with one more, if it is one
abbrev pub with_mark : Bool → List Bool → ℕ → List Bool
with_mark true marks c = slice_set marks c true
with_mark false marks c = marks
