-- What a save means for who keeps a disk.
use Rattle.std.specs.Prelude.{ℕ, List}
use Rattle.hosts.specs.Event.{Event}
use Rattle.hosts.specs.Place.{about}
use Rattle.hosts.specs.Saving.{AnyMomentOf}
use Rattle.hosts.specs.Streams.{may_replace}
use Rattle.rk8e.specs.Packs.{PackState, IsFileOf}

-- At each moment of a save a crash left what it might have left before, or the file of the disk with all its sectors. Nothing is promised
-- where the file could only be written in its place.
pub record IsSavedOrKept (pack : PackState) (path : List ℕ) (old new : List Event) : Type 0 where
  pub file : List ℕ
  pub is : IsFileOf file pack
  pub moments : AnyMomentOf (may_replace new) file (about path old) (about path new)
