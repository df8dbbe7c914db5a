-- What a file is with another image of its volume.
use Rattle.std.specs.Prelude.{◌≡◌, ◌≢◌, ℕ, zero, suc, ◌+◌, ◌*◌, ◌<◌, ◌≤◌, Bool, true, false, max, List, length, Result, Ok, Err}
use Rattle.std.specs.Global.{Vec}
use Rattle.disk_layouts.specs.declared.layouts.Layout.{Layout}
use Rattle.disk_layouts.specs.declared.layouts.Layout.TheVariants.{First, Second, Dectape}
use Rattle.disk_layouts.specs.declared.faults.DiskFault.{DiskFault}
use Rattle.disk_layouts.specs.declared.faults.DiskFault.TheVariants.{TooLong, NoTape, Memory}
use Rattle.disk_layouts.specs.declared.sizes.TheConstants.{DISK_VOLUME, DISK, TAPE_VOLUME, TAPE}
use Rattle.disk_layouts.specs.Disks.{byte, image_size, place, IsOutside, FitsLayout}

-- a file, and where the volume that is meant lies in it
pub record Disk : Type 0 where
  pub layout : Layout
  pub bytes : List ℕ

-- what is answered where bytes are to be the file of a disk or a DECtape: `Memory` is reported for such a file only
abbrev pub Opens : Layout → List ℕ → Result Disk DiskFault → Type 0
Opens layout bytes (Ok disk) = FitsLayout layout bytes × (disk.layout ≡ layout) × (disk.bytes ≡ bytes)
Opens First bytes (Err TooLong) = DISK < length bytes
Opens Second bytes (Err TooLong) = DISK < length bytes
Opens Dectape bytes (Err TooLong) = ⊥
Opens First bytes (Err NoTape) = ⊥
Opens Second bytes (Err NoTape) = ⊥
Opens Dectape bytes (Err NoTape) = length bytes ≢ TAPE
Opens layout bytes (Err Memory) = FitsLayout layout bytes

-- an image has zeros alone after so many blocks, and after no fewer
pub record IsUsed (image : List ℕ) (blocks : ℕ) : Type 0 where
  pub zeros : (k : ℕ) → 512 * blocks ≤ k → byte image k ≡ 0
  pub least : (fewer : ℕ) → ((k : ℕ) → 512 * fewer ≤ k → byte image k ≡ 0) → blocks ≤ fewer

-- where the last of so many blocks of the volume ends in the file; of none nothing is needed, and a DECtape is whole
abbrev pub needed_bytes : Layout → ℕ → ℕ
needed_bytes First blocks = 512 * blocks
needed_bytes Second zero = 0
needed_bytes Second (suc more) = DISK_VOLUME + 512 * suc more
needed_bytes Dectape blocks = 0

-- A file has this image in place of its volume's bytes. Each byte that is none of the volume's is as it was. The file is longer
-- only where a block that isn't zeros alone ends after it.
pub record HasLaid (old : Disk) (image : List ℕ) (new : Disk) : Type 0 where
  pub fits : length image ≡ image_size old.layout
  pub layout : new.layout ≡ old.layout
  pub volume : (k : ℕ) → k < image_size old.layout → byte new.bytes (place old.layout k) ≡ byte image k
  pub others : (at : ℕ) → IsOutside old.layout at → byte new.bytes at ≡ byte old.bytes at
  pub used : ℕ
  pub is_used : IsUsed image used
  pub size : length new.bytes ≡ max (length old.bytes) (needed_bytes old.layout used)

-- what is answered where an image is to be laid in a file: one of another size leaves the file as it is
abbrev pub Lays : Disk → List ℕ → Bool → Disk → Type 0
Lays old image true new = HasLaid old image new
Lays old image false new = (length image ≢ image_size old.layout) × (new ≡ old)

-- a DECtape with this image of its volume: each 129th word is 0
pub record IsBlankTape (image file : List ℕ) : Type 0 where
  pub fits : length image ≡ TAPE_VOLUME
  pub size : length file ≡ TAPE
  pub volume : (k : ℕ) → k < TAPE_VOLUME → byte file (place Dectape k) ≡ byte image k
  pub others : (at : ℕ) → IsOutside Dectape at → byte file at ≡ 0

-- what is answered where a new DECtape is wanted: `Memory` is reported for an image of its volume only
abbrev pub MakesTape : List ℕ → Result (Vec ℕ) DiskFault → Type 0
MakesTape image (Ok file) = IsBlankTape image file.items
MakesTape image (Err TooLong) = ⊥
MakesTape image (Err NoTape) = length image ≢ TAPE_VOLUME
MakesTape image (Err Memory) = length image ≡ TAPE_VOLUME
