-- What may help where an image is refused (this project's profile).
use Rattle.std.specs.Prelude.{ℕ, ◌*◌, ◌/◌, ◌%◌, nat_eq, nat_le, nat_lt, Bool, true, false, ◌&&◌, if◌then◌else◌, codes, decimal, Option, Some, None, List, ◌++◌}
use Rattle.disk_layouts.specs.Disks.{guess_of}
use Rattle.disk_layouts.specs.declared.layouts.Layout.{Layout}
use Rattle.disk_layouts.specs.declared.layouts.Layout.TheVariants.{First, Second, Dectape}
use Rattle.file_kind.specs.declared.kinds.FileKind.{FileKind}
use Rattle.file_kind.specs.declared.kinds.FileKind.TheVariants as kind
use Rattle.os8_dir.specs.declared.faults.DirFault.{DirFault}
use Rattle.os8_dir.specs.declared.faults.DirFault.TheVariants as directory
use Rattle.archive_files.specs.declared.faults.ArchiveFault.{ArchiveFault}
use Rattle.archive_files.specs.declared.faults.ArchiveFault.TheVariants.{Image, Directory, Refused}
use Rattle.volume_image.specs.declared.faults.ImageFault.{ImageFault}
use Rattle.volume_image.specs.declared.faults.ImageFault.TheVariants as image
use Rattle.outcome.specs.declared.hints.TheConstants.{IMAGE}
use Rattle.outcome.specs.declared.hints.ImageNote.{ImageNote}
use Rattle.outcome.specs.declared.hints.ImageNote.TheVariants.{Plain, Size, Word}
use Rattle.outcome.specs.Notes.{plain_text}
use Rattle.outcome.specs.declared.notes.PlainNote.{PlainNote}
use Rattle.outcome.specs.declared.notes.PlainNote.TheVariants as plain

-- so many bytes are those of a volume: 8 to 4095 blocks of 512
abbrev pub is_volume_size : ℕ → Bool
is_volume_size size = nat_eq (size % 512) 0 && (nat_le (8 * 512) size && nat_le size IMAGE)

-- a file that is no image may be that of a DECtape or of a disk; else it may have the length of none
abbrev pub layout_note : ℕ → Option Layout → Option ImageNote
layout_note size None = if is_volume_size size then None else Some (Size size)
layout_note size (Some Dectape) = Some (Plain plain.Dectape)
layout_note size (Some First) = Some (Plain plain.Disk)
layout_note size (Some Second) = Some (Plain plain.Disk)

-- a directory that covers more blocks than a file has may be that of a disk whose end was never written
abbrev pub directory_note : ℕ → DirFault → Option ImageNote
directory_note size directory.PastVolume = if nat_lt size IMAGE then Some (Plain plain.ShortDisk) else None
directory_note size (directory.BadLink number) = None
directory_note size (directory.BadCount number) = None
directory_note size directory.EntryPastSegment = None
directory_note size directory.SameName = None
directory_note size directory.WrongFirstBlock = None
directory_note size directory.MixedInfo = None
directory_note size directory.Device = None
directory_note size directory.Memory = None

-- a word of more than twelve bits is named, unless the file may be that of a DECtape or of a disk
abbrev pub word_note : ℕ → Option ImageNote → Option ImageNote
word_note number None = Some (Word number)
word_note number (Some note) = Some note

-- so many bytes are no image by this fault
abbrev pub fault_note : ℕ → ImageFault → Option ImageNote
fault_note size (image.BadWord number) = word_note number (layout_note size (guess_of size))
fault_note size image.NotWhole = layout_note size (guess_of size)
fault_note size image.TooSmall = layout_note size (guess_of size)
fault_note size image.TooLarge = layout_note size (guess_of size)
fault_note size image.Memory = layout_note size (guess_of size)

-- what may help where an image of so many bytes, or a file of it, is refused
abbrev pub image_note : ℕ → ArchiveFault → Option ImageNote
image_note size (Image fault) = fault_note size fault
image_note size (Directory fault) = directory_note size fault
image_note size (Refused fault) = None

-- that a file has so many bytes, and which lengths images have
abbrev pub size_text : ℕ → List ℕ
size_text size = codes "note: " ++ decimal size ++ codes " bytes are no image: a volume has 8 to 4095 blocks of 512, a disk 1662977 to 3325952 bytes, a DECtape 380292\n"

-- that a word has more than twelve bits, by its place in its block of 0o400
abbrev pub word_text : ℕ → List ℕ
word_text number = codes "note: word " ++ decimal (number % 0o400) ++ codes " of block " ++ decimal (number / 0o400) ++ codes " has more than 12 bits: --lenient reads it without the top ones\n"

-- a note on an image, with the end of its line
abbrev pub image_text : ImageNote → List ℕ
image_text (Plain note) = plain_text note
image_text (Size size) = size_text size
image_text (Word number) = word_text number

-- what is said of frames that are no BIN tape, by what they are
abbrev pub kind_note : FileKind → Option PlainNote
kind_note kind.Rim = Some plain.RimTape
kind_note kind.Text = Some plain.TextFile
kind_note (kind.Core start) = Some plain.CoreImage
kind_note kind.Zeros = None
kind_note kind.Bin = None
kind_note kind.Unknown = None

-- what is said of where a program starts if that isn't given, by the cell of its first word: nothing where both are 00200
abbrev pub start_note : ℕ → ℕ → Option PlainNote
start_note first start = if nat_eq start 0o200 then (if nat_eq first 0o200 then None else Some plain.StartAt200) else Some plain.StartAtFirst

-- what is said of a start that is given, by whether the tape gives its cell a word
abbrev pub given_note : Bool → Option PlainNote
given_note true = None
given_note false = Some plain.StartAtNoWord
