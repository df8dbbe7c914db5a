-- What is kept of the file of a disk or a DECtape while its volume is changed.
use Rattle.std.specs.Prelude.{◌≡◌, ℕ, ◌≤◌, List, length}
use Rattle.disk_layouts.specs.declared.layouts.Layout.{Layout}
use Rattle.disk_layouts.specs.declared.layouts.Layout.TheVariants.{First, Second, Dectape}
use Rattle.disk_layouts.specs.declared.sizes.TheConstants.{DISK, TAPE}
use Rattle.disk_layouts.specs.Disks.{byte}

-- how many bytes a whole disk or DECtape has
abbrev pub most_bytes : Layout → ℕ
most_bytes First = DISK
most_bytes Second = DISK
most_bytes Dectape = TAPE

-- the bytes of a file with zeros after them up to a whole disk or DECtape, and how many of them the file has
pub record IsKept (layout : Layout) (bytes : List ℕ) (count : ℕ) : Type 0 where
  pub whole : length bytes ≡ most_bytes layout
  pub within : count ≤ length bytes
  pub zeros : (k : ℕ) → count ≤ k → byte bytes k ≡ 0
  pub tape : layout ≡ Dectape → count ≡ TAPE
