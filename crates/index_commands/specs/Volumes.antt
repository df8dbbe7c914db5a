-- The volumes of an image file of unknown origin (this project's profile; the layouts are those of OS/8).
use Rattle.std.specs.Prelude.{◌≡◌, ℕ, ◌-◌, Bool, Option, Some, None, List, [], ◌∷◌, Err, drop, length, take}
use Rattle.disk_layouts.specs.Disks.{FitsLayout, IsImageIn}
use Rattle.disk_layouts.specs.Files.{Opens}
use Rattle.disk_layouts.specs.declared.faults.DiskFault.TheVariants as disk
use Rattle.disk_layouts.specs.declared.layouts.Layout.{Layout}
use Rattle.disk_layouts.specs.declared.layouts.Layout.TheVariants as layout
use Rattle.image_kind.specs.declared.kinds.Form.{Form}
use Rattle.image_kind.specs.declared.kinds.Form.TheVariants as form
use Rattle.image_kind.specs.declared.kinds.ImageKind.{ImageKind}
use Rattle.image_kind.specs.Judging.{judged_kind}
use Rattle.refusals.specs.declared.faults.SessionFault.TheVariants.{Memory}
use Rattle.program_reports.specs.declared.programs.ProgramLine.TheVariants as line
use Rattle.outcome.specs.declared.endings.Ending.{Ending}
use Rattle.outcome.specs.declared.endings.Ending.TheVariants.{Line, Fault}

-- ## The bytes of the image

-- those of a file without what other programs put before and after them
abbrev pub body_in : Option ImageKind → List ℕ → List ℕ
body_in None file = file
body_in (Some kind) file = take (length file - kind.before - kind.after) (drop kind.before file)

-- where a layout is given, all bytes are taken
abbrev pub body_of : Option Layout → Bool → List ℕ → List ℕ
body_of (Some layout) is_plain file = file
body_of None is_plain file = body_in (judged_kind is_plain file) file

-- ## The volumes

abbrev pub layouts_of : Form → List (Option Layout)
layouts_of form.Volume = None ∷ []
layouts_of form.Disk = Some layout.First ∷ Some layout.Second ∷ []
layouts_of form.Dectape = Some layout.Dectape ∷ []

-- those of what a file is; what is unknown is taken as one volume
abbrev pub layouts_by : Option ImageKind → List (Option Layout)
layouts_by None = None ∷ []
layouts_by (Some kind) = layouts_of kind.form

-- where each volume lies: as it is given, or else as the file's length and its directory show
abbrev pub layouts_in : Option Layout → Bool → List ℕ → List (Option Layout)
layouts_in (Some layout) is_plain file = Some layout ∷ []
layouts_in None is_plain file = layouts_by (judged_kind is_plain file)

-- the number of a volume of a disk
abbrev pub number_of : Option Layout → Option ℕ
number_of None = None
number_of (Some layout.First) = Some 1
number_of (Some layout.Second) = Some 2
number_of (Some layout.Dectape) = None

-- ## The image of a volume

-- it is all bytes, or lies in them as in a disk or a DECtape
abbrev pub IsImageAt : Option Layout → List ℕ → List ℕ → Type 0
IsImageAt None bytes image = image ≡ bytes
IsImageAt (Some layout) bytes image = FitsLayout layout bytes × IsImageIn layout bytes image

-- the bytes are none of a disk or of a DECtape so, or memory is wanted for the image
abbrev pub IsNoImage : Option Layout → List ℕ → Ending → Type 0
IsNoImage (Some layout) bytes (Line (line.Disk disk.TooLong)) = Opens layout bytes (Err disk.TooLong)
IsNoImage (Some layout) bytes (Line (line.Disk disk.NoTape)) = Opens layout bytes (Err disk.NoTape)
IsNoImage (Some layout) bytes (Fault Memory) = Unit {0}
IsNoImage layout bytes _ = ⊥
