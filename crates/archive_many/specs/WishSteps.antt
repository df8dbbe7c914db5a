-- Sets of blocks that are asked for. No contract of a public function cites these.
use Rattle.std.specs.Prelude.{◌≡◌, ℕ, Bool, List}
use Rattle.std.specs.Ordering.{nat_cmp}
use Rattle.std.specs.BTreeSet.{BTreeSet}
use Rattle.std.specs.BTreeSet as set
use Rattle.archive_many.specs.Wishing.{has_place}
use Rattle.archive_many.specs.declared.wishes.Wish.{Wish}

-- a number is in a set
abbrev pub has_key : BTreeSet ℕ → ℕ → Bool
has_key places place = set.contains nat_cmp places place

-- a set has the first blocks of the files that are asked for
abbrev pub KnowsPlaces : BTreeSet ℕ → List Wish → Type 0
KnowsPlaces places wishes = (place : ℕ) → has_key places place ≡ has_place place wishes
