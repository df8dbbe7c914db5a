-- What a file of unknown origin holds (OS/8's use of the RK05 disk and of the DECtape; SIMH's files of both). Whole blocks with a whole
-- directory are a volume. Then the length counts, and at last a whole directory after a header, or before a trailer.
use Rattle.std.specs.Prelude.{ℕ, ◌+◌, ◌-◌, ◌*◌, ◌/◌, ◌%◌, ◌==◌, nat_le, nat_lt, min, Bool, true, false, ◌&&◌, ◌||◌, if◌then◌else◌, Option, Some, None, List, length}
use Rattle.disk_layouts.specs.declared.sizes.TheConstants.{DISK, DISK_VOLUME, TAPE}
use Rattle.image_kind.specs.declared.directories.Blocks.{Blocks}
use Rattle.image_kind.specs.declared.directories.TheConstants.{BLOCK_BYTES, TAPE_BLOCK_BYTES}
use Rattle.image_kind.specs.declared.kinds.Form.{Form}
use Rattle.image_kind.specs.declared.kinds.Form.TheVariants.{Volume, Disk, Dectape}
use Rattle.image_kind.specs.declared.kinds.ImageKind.{ImageKind}
use Rattle.image_kind.specs.declared.kinds.Readings.{Readings}
use Rattle.image_kind.specs.declared.kinds.TheConstants.{LARGEST, DISK_BLOCKS, TAPE_BLOCKS}
use Rattle.image_kind.specs.Directories.{directory_end, is_sound}
use Rattle.image_kind.specs.Heads.{is_head}

-- how many whole blocks so many bytes are, as far as a volume goes
abbrev pub volume_blocks : ℕ → ℕ
volume_blocks size = min (size / BLOCK_BYTES) 4095

-- a file of this form, with so many bytes before its volumes and after them
abbrev pub kind_with : Form → ℕ → ℕ → Option ImageKind
kind_with form before after = Some (record { form = form; before = before; after = after })

-- the first of two that there is
abbrev pub or_else : Option ImageKind → Option ImageKind → Option ImageKind
or_else None other = other
or_else (Some kind) other = Some kind

-- ## A volume

-- after so many bytes a whole directory reads through, in a volume of as many blocks as the file has
abbrev pub is_volume_at : List ℕ → ℕ → Bool
is_volume_at bytes before = is_sound bytes (record { is_tape = false; start = before; count = volume_blocks (length bytes) })

-- 8 to 4095 whole blocks
abbrev pub are_blocks : ℕ → Bool
are_blocks size = size % BLOCK_BYTES == 0 && (nat_le (8 * BLOCK_BYTES) size && nat_le size LARGEST)

-- its directory covers more than the first volume of a disk, where the file has more
abbrev pub is_past_disk_volume : List ℕ → Bool
is_past_disk_volume bytes =
    nat_le (length bytes) DISK_VOLUME
    || nat_lt DISK_BLOCKS (directory_end bytes (record { is_tape = false; start = 0; count = volume_blocks (length bytes) }))

-- whole blocks with a whole directory, whatever stands in them
abbrev pub whole_volume : List ℕ → Option ImageKind
whole_volume bytes = if (are_blocks (length bytes) && is_volume_at bytes 0) && is_past_disk_volume bytes then kind_with Volume 0 0 else None

-- ## The length of a DECtape or of a disk

-- A directory begins in block 1 of one of a disk's volumes, and in the second where a file of this length may be one volume.
abbrev pub has_disk_head : List ℕ → Bool
has_disk_head bytes =
    if is_head bytes (DISK_VOLUME + BLOCK_BYTES) DISK_BLOCKS then true else nat_lt LARGEST (length bytes) && is_head bytes BLOCK_BYTES DISK_BLOCKS

-- a DECtape is of exactly its length; a disk may end early, but not in its first volume
abbrev pub kind_by_length : List ℕ → Option ImageKind
kind_by_length bytes =
    if length bytes == TAPE && is_head bytes (2 * TAPE_BLOCK_BYTES) TAPE_BLOCKS then kind_with Dectape 0 0
    else if nat_lt DISK_VOLUME (length bytes) && (nat_le (length bytes) DISK && has_disk_head bytes) then kind_with Disk 0 0
    else None

-- ## A header or a trailer

-- how many bytes, fewer than a block has, a file of so many has beyond its form's; 0 where it has none, or can't be of the form
abbrev pub excess : Form → ℕ → ℕ
excess Dectape size = if nat_lt size (TAPE + BLOCK_BYTES) then size - TAPE else 0
excess Disk size = if nat_lt size (DISK + BLOCK_BYTES) then size - DISK else 0
excess Volume size = if nat_lt size (8 * BLOCK_BYTES) || nat_le (LARGEST + BLOCK_BYTES) size then 0 else size % BLOCK_BYTES

-- that of a disk's volume
abbrev pub is_disk_volume : List ℕ → ℕ → Bool
is_disk_volume bytes start = is_sound bytes (record { is_tape = false; start = start; count = DISK_BLOCKS })

-- after so many bytes a whole directory of the form reads through; of a disk that of one of its volumes
abbrev pub is_form_at : List ℕ → Form → ℕ → Bool
is_form_at bytes Dectape before = is_sound bytes (record { is_tape = true; start = before; count = TAPE_BLOCKS })
is_form_at bytes Disk before = is_disk_volume bytes before || is_disk_volume bytes (before + DISK_VOLUME)
is_form_at bytes Volume before = is_volume_at bytes before

-- a file of the form with a trailer, and with a header
abbrev pub with_trailer : List ℕ → Form → Option ImageKind
with_trailer bytes form =
    if nat_lt 0 (excess form (length bytes)) && is_form_at bytes form 0 then kind_with form 0 (excess form (length bytes)) else None

abbrev pub with_header : List ℕ → Form → Option ImageKind
with_header bytes form =
    if nat_lt 0 (excess form (length bytes)) && is_form_at bytes form (excess form (length bytes))
    then kind_with form (excess form (length bytes)) 0
    else None

-- the readings so far and one more; more than two are as two
abbrev pub with_some_reading : Option ImageKind → Option ImageKind → ImageKind → Readings
with_some_reading None other kind = record { first = Some kind; other = other }
with_some_reading (Some first) None kind = record { first = Some first; other = Some kind }
with_some_reading (Some first) (Some other) kind = record { first = Some first; other = Some other }

-- where it fits
abbrev pub with_reading : Readings → Option ImageKind → Readings
with_reading found None = found
with_reading found (Some kind) = with_some_reading found.first found.other kind

abbrev pub with_readings : List ℕ → Form → Readings → Readings
with_readings bytes form found = with_reading (with_reading found (with_trailer bytes form)) (with_header bytes form)

-- all that fit, in this order
abbrev pub readings_beside : List ℕ → Readings
readings_beside bytes =
    with_readings bytes Volume (with_readings bytes Disk (with_readings bytes Dectape (record { first = None; other = None })))

-- ## What a file holds

-- what is known of a file by itself, or else by its length
abbrev pub told_kind : List ℕ → Option ImageKind
told_kind bytes = or_else (whole_volume bytes) (kind_by_length bytes)

-- the readings that fit
abbrev pub readings_by : List ℕ → Option ImageKind → Readings
readings_by bytes None = readings_beside bytes
readings_by bytes (Some kind) = record { first = Some kind; other = None }

unfoldable pub readings_of : List ℕ → Readings
readings_of bytes = readings_by bytes (told_kind bytes)

-- the first of them
abbrev pub kind_of : List ℕ → Option ImageKind
kind_of bytes = (readings_of bytes).first
