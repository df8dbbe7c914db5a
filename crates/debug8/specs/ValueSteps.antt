-- The snapshot as a value of serde_json, for a private clause.
use Rattle.std.specs.Prelude.{ℕ, List, [], ◌∷◌}
use Rattle.serde_json.specs.Data.{Data, boolean, string, Members, member, no_members}
use Rattle.debug8.specs.Snapshot.{KeyValue, digits, truth}

abbrev pub data_of : KeyValue → Data
data_of (digits ds) = string ds
data_of (truth b) = boolean b

abbrev pub members_of : List (List ℕ × KeyValue) → Members
members_of [] = no_members
members_of (m ∷ ms) = member m.0 (data_of m.1) (members_of ms)
