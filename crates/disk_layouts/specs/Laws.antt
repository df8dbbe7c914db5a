-- What holds of a file in which an image was laid.
use Rattle.std.specs.Prelude.{◌≡◌, ℕ, ◌+◌, ◌*◌, ◌%◌, ◌<◌, ◌≤◌, true, List, length}
use Rattle.disk_layouts.specs.declared.layouts.Layout.TheVariants.{First, Second, Dectape}
use Rattle.disk_layouts.specs.declared.sizes.TheConstants.{DISK_VOLUME}
use Rattle.disk_layouts.specs.Disks.{byte, IsImageIn}
use Rattle.disk_layouts.specs.Files.{Disk, Lays}

-- what was laid is read again
abbrev pub ReadsWhatItLays : Type 0
ReadsWhatItLays = (old new : Disk) (image read : List ℕ) → Lays old image true new → IsImageIn new.layout new.bytes read → read ≡ image

-- where the first volume was laid, each byte from the second on is as it was, and the second is read as before
pub record SecondStays : Type 0 where
  pub bytes : (old new : Disk) (image : List ℕ) → old.layout ≡ First → Lays old image true new
      → (at : ℕ) → DISK_VOLUME ≤ at → byte new.bytes at ≡ byte old.bytes at
  pub read : (old new : Disk) (image other : List ℕ) → old.layout ≡ First → Lays old image true new
      → IsImageIn Second old.bytes other → IsImageIn Second new.bytes other

-- where the second volume was laid, each byte before it is as it was, and the first is read as before
pub record FirstStays : Type 0 where
  pub bytes : (old new : Disk) (image : List ℕ) → old.layout ≡ Second → Lays old image true new
      → (at : ℕ) → at < DISK_VOLUME → byte new.bytes at ≡ byte old.bytes at
  pub read : (old new : Disk) (image other : List ℕ) → old.layout ≡ Second → Lays old image true new
      → IsImageIn First old.bytes other → IsImageIn First new.bytes other

-- where a DECtape's volume was laid, both bytes of the 129th word of each block are as they were
abbrev pub WordsStay : Type 0
WordsStay = (old new : Disk) (image : List ℕ) → old.layout ≡ Dectape → Lays old image true new
    → (block at : ℕ) → 258 * block + 256 ≤ at → at < 258 * block + 258 → byte new.bytes at ≡ byte old.bytes at

-- A file in which the image that was read of it is laid has the bytes that it had. It has just those where it was whole blocks of
-- 512 bytes, or a DECtape. Else it may have zeros after them to the end of its last block.
pub record LaysWhatItReads : Type 0 where
  pub bytes : (old new : Disk) (image : List ℕ) → IsImageIn old.layout old.bytes image → Lays old image true new
      → (at : ℕ) → byte new.bytes at ≡ byte old.bytes at
  pub whole : (old new : Disk) (image : List ℕ) → IsImageIn old.layout old.bytes image → Lays old image true new
      → length old.bytes % 512 ≡ 0 → new ≡ old
  pub tape : (old new : Disk) (image : List ℕ) → IsImageIn old.layout old.bytes image → Lays old image true new
      → old.layout ≡ Dectape → new ≡ old
  pub most : (old new : Disk) (image : List ℕ) → IsImageIn old.layout old.bytes image → Lays old image true new
      → length new.bytes < length old.bytes + 512
