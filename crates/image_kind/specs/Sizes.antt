-- How long an image file is that is mended, and how many words it has (this project's profile; the lengths of disks and DECtapes are SIMH's).
use Rattle.std.specs.Prelude.{ℕ, ◌+◌, ◌-◌, ◌*◌, ◌/◌, max, min, if◌then◌else◌, Option, Some, None}
use Rattle.word12.specs.declared.sizes.TheConstants.{BLOCK, MOST_BLOCKS}
use Rattle.disk_layouts.specs.declared.layouts.Layout.{Layout}
use Rattle.disk_layouts.specs.declared.layouts.Layout.TheVariants.{First, Second, Dectape}
use Rattle.disk_layouts.specs.declared.sizes.TheConstants.{DISK, TAPE}
use Rattle.image_kind.specs.declared.kinds.ImageKind.{ImageKind}
use Rattle.image_kind.specs.Margins.{may_be}
use Rattle.image_kind.specs.declared.margins.Margins.{Margins}
use Rattle.image_kind.specs.declared.volumes.Volumes.{Volumes}
use Rattle.image_kind.specs.declared.volumes.Volumes.TheVariants.{One, Both}

-- so many bytes are these blocks, the last of them perhaps in part, but at least 8 and at most those of a volume
abbrev pub mended_blocks : ℕ → ℕ
mended_blocks size = min (max ((size + 511) / 512) 8) MOST_BLOCKS

-- The length nearest to this one that a file has which is read so. A volume is whole blocks. A disk may end early, and a DECtape is whole.
abbrev pub fitted_size : Option Layout → ℕ → ℕ
fitted_size None size = 512 * mended_blocks size
fitted_size (Some First) size = min size DISK
fitted_size (Some Second) size = min size DISK
fitted_size (Some Dectape) size = TAPE

-- a file of a kind that may be read as it is asked for keeps its length
abbrev pub mended_size : Option Layout → Option ImageKind → ℕ → ℕ
mended_size given None size = fitted_size given size
mended_size given (Some kind) size = if may_be given kind.form then size else fitted_size given size

-- how many words lie between the margins of a file of so many bytes
abbrev pub words_within : Margins → ℕ → ℕ
words_within margins size = (size - margins.before - margins.after) / 2

-- how many words a block has: those of a DECtape have one more
abbrev pub block_words : Volumes → ℕ
block_words (One (Some Dectape)) = 129
block_words (One (Some First)) = BLOCK
block_words (One (Some Second)) = BLOCK
block_words (One None) = BLOCK
block_words Both = BLOCK
