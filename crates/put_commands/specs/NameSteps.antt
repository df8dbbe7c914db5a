-- Sets of names that are taken. No contract of a public function cites these.
use Rattle.std.specs.Prelude.{◌≡◌, ℕ, Bool, List}
use Rattle.std.specs.Ordering.{nat_cmp}
use Rattle.std.specs.BTreeSet.{BTreeSet}
use Rattle.std.specs.BTreeSet as set
use Rattle.archive_many.specs.declared.putting.NewFile.{NewFile}
use Rattle.put_commands.specs.Putting.{has_name}

-- a number is in a set
abbrev pub has_key : BTreeSet ℕ → ℕ → Bool
has_key names name = set.contains nat_cmp names name

-- a set has the names of some files
abbrev pub KnowsNames : BTreeSet ℕ → List NewFile → Type 0
KnowsNames names files = (name : ℕ) → has_key names name ≡ has_name name files
