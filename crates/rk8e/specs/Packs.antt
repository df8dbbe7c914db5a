-- Packs of an RK05 drive: 203 cylinders of 32 sectors of 256 words (RK8-E, Small Computer Handbook). A file of a pack has 512
-- bytes for each sector, and a word in two of them, the low one first (this project's profile).
use Rattle.std.specs.Prelude.{◌≡◌, ℕ, ◌+◌, ◌*◌, ◌%◌, ◌<◌, ◌≤◌, ◌⊎◌, Bool, false, Option, Some, None, List, length, slice_index, Result, Ok, Err}
use Rattle.rk8e.specs.declared.faults.PackFault.{PackFault}
use Rattle.rk8e.specs.declared.faults.PackFault.TheVariants.{NotWhole, TooLarge, BadWord, Memory}
use Rattle.rk8e.specs.declared.sizes.TheConstants.{SECTORS, SECTOR, PACK}

pub record PackState : Type 0 where
  -- the words of all sectors, one sector after the other
  pub words : List ℕ
  -- the sectors that its file has: those of the file that was read, and all up to the last one written
  pub sectors : ℕ
  -- a sector was written since the file was read or saved
  pub changed : Bool

-- word k of a sector
abbrev pub sector_word : List ℕ → ℕ → ℕ → ℕ
sector_word words sector k = slice_index words (SECTOR * sector + k)

-- whether a sector of the pack was written, if there is one
abbrev pub is_changed_in : Option PackState → Bool
is_changed_in None = false
is_changed_in (Some pack) = pack.changed

-- words for 6496 sectors, where those that the file doesn't have are zeros
pub record IsPack (words : List ℕ) (sectors : ℕ) : Type 0 where
  pub size : length words ≡ PACK
  pub most : sectors ≤ SECTORS
  pub zeros : (k : ℕ) → SECTOR * sectors ≤ k → slice_index words k ≡ 0

-- ## Files

-- word k of a file; past its end that is 0
abbrev pub file_word : List ℕ → ℕ → ℕ
file_word bytes k = slice_index bytes (2 * k) + 256 * slice_index bytes (2 * k + 1)

-- whole sectors, 1 to 6496 of them
pub record HasFileSize (bytes : List ℕ) : Type 0 where
  pub whole : length bytes % 512 ≡ 0
  pub least : 1 ≤ length bytes
  pub most : length bytes ≤ 512 * SECTORS

-- the first word that has more than twelve bits
pub record IsFirstBadWord (bytes : List ℕ) (number : ℕ) : Type 0 where
  pub within : 2 * number < length bytes
  pub bad : 0o10000 ≤ file_word bytes number
  pub before : (k : ℕ) → k < number → file_word bytes k < 0o10000

-- the file of a pack: the words of its sectors
pub record IsFileOf (bytes : List ℕ) (pack : PackState) : Type 0 where
  pub size : length bytes ≡ 512 * pack.sectors
  pub words : (k : ℕ) → slice_index pack.words k ≡ file_word bytes k

-- What is answered where a file is to be read as a pack. `Memory` is reported for a file of a pack only.
abbrev pub ReadsPack : List ℕ → Result PackState PackFault → Type 0
ReadsPack bytes (Ok pack) = HasFileSize bytes × IsFileOf bytes pack × (pack.changed ≡ false)
ReadsPack bytes (Err NotWhole) = (length bytes ≡ 0) ⊎ (1 ≤ length bytes % 512)
ReadsPack bytes (Err TooLarge) = (length bytes % 512 ≡ 0) × (512 * SECTORS < length bytes)
ReadsPack bytes (Err (BadWord number)) = HasFileSize bytes × IsFirstBadWord bytes number
ReadsPack bytes (Err Memory) = HasFileSize bytes × ((k : ℕ) → file_word bytes k < 0o10000)
