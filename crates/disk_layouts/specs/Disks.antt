-- Where the bytes of a volume lie in the file of a disk or a DECtape (OS/8 Software Support Manual; SIMH's files of the RK05, of which
-- each word has two bytes, and of the TU56).
use Rattle.std.specs.Prelude.{◌≡◌, ◌≢◌, ℕ, ◌+◌, ◌*◌, ◌/◌, ◌%◌, ◌<◌, ◌≤◌, ◌==◌, ◌&&◌, nat_lt, nat_le, if◌then◌else◌, List, length, slice_index, Option, Some, None}
use Rattle.disk_layouts.specs.declared.layouts.Layout.{Layout}
use Rattle.disk_layouts.specs.declared.layouts.Layout.TheVariants.{First, Second, Dectape}
use Rattle.disk_layouts.specs.declared.sizes.TheConstants.{DISK_VOLUME, DISK, TAPE_VOLUME, TAPE}

-- byte k of a file; 0 after its end
abbrev pub byte : List ℕ → ℕ → ℕ
byte file k = slice_index file k

-- how many bytes the image of the volume has
abbrev pub image_size : Layout → ℕ
image_size First = DISK_VOLUME
image_size Second = DISK_VOLUME
image_size Dectape = TAPE_VOLUME

-- Where byte k of the volume lies in the file. The volumes of a disk lie one after the other, and a DECtape has 256 bytes of the volume
-- in each 258.
abbrev pub place : Layout → ℕ → ℕ
place First k = k
place Second k = k + DISK_VOLUME
place Dectape k = 258 * (k / 256) + k % 256

-- no byte of the volume lies here
abbrev pub IsOutside : Layout → ℕ → Type 0
IsOutside layout at = (k : ℕ) → k < image_size layout → place layout k ≢ at

-- the file of a disk is at most a whole disk, that of a DECtape is whole
abbrev pub FitsLayout : Layout → List ℕ → Type 0
FitsLayout First file = length file ≤ DISK
FitsLayout Second file = length file ≤ DISK
FitsLayout Dectape file = length file ≡ TAPE

-- the image of the volume in a file
pub record IsImageIn (layout : Layout) (file image : List ℕ) : Type 0 where
  pub size : length image ≡ image_size layout
  pub bytes : (k : ℕ) → k < image_size layout → byte image k ≡ byte file (place layout k)

-- what a file of so many bytes may be
abbrev pub guess_of : ℕ → Option Layout
guess_of size = if size == TAPE then Some Dectape else if nat_lt DISK_VOLUME size && nat_le size DISK then Some First else None
