-- What a check that ends well says.
use Rattle.std.specs.Prelude.{◌≡◌, ℕ, Bool, true, false, Option, Some, Ok, List, [], ◌∷◌}
use Rattle.std.specs.Global.{Vec}
use Rattle.hosts.specs.Event.{Event, look_call}
use Rattle.program_tasks.specs.declared.forms.CheckForm.{CheckForm}
use Rattle.disk_layouts.specs.declared.layouts.Layout.{Layout}
use Rattle.disk_layouts.specs.declared.layouts.Layout.TheVariants.{First, Second}
use Rattle.image_kind.specs.Margins.{body_of}
use Rattle.image_kind.specs.Volumes.{volumes_in}
use Rattle.image_kind.specs.declared.volumes.Volumes.{Volumes}
use Rattle.image_kind.specs.declared.volumes.Volumes.TheVariants.{One, Both}
use Rattle.image_files.specs.Reading.{FindsVolume, file_named, reading_named}
use Rattle.image_files.specs.declared.mending.ImageReading.{ImageReading}
use Rattle.image_kind.specs.Mending.{IsMended}
use Rattle.image_kind.specs.declared.mending.MendedFile.{MendedFile}
use Rattle.show_commands.specs.Checking.{kind_of_check, reading_of_check}
use Rattle.show_commands.specs.Reporting.{Reports}
use Rattle.show_commands.specs.declared.reports.Report.{Report}

-- the image of the volume that lies so in bytes without margins is sound
pub record IsSoundVolume (is_all : Bool) (layout : Option Layout) (body : List ℕ) : Type 0 where
  pub image : Vec ℕ
  pub found : FindsVolume layout body (Ok image)
  pub report : Report
  pub reports : Reports (kind_of_check is_all) image.items (Ok report)
  pub sound : report.is_sound ≡ true

-- each volume that is meant is
abbrev pub AreSoundIn : Bool → Volumes → List ℕ → Type 0
AreSoundIn is_all (One layout) body = IsSoundVolume is_all layout body
AreSoundIn is_all Both body = IsSoundVolume is_all (Some First) body × IsSoundVolume is_all (Some Second) body

-- what a file is read as: its own bytes, or those of the mended file
abbrev pub IsReadAs : Bool → Option Layout → Bool → List ℕ → List ℕ → Type 0
IsReadAs false given is_plain file bytes = bytes ≡ file
IsReadAs true given is_plain file bytes = (it : MendedFile) × IsMended given is_plain file it × (bytes ≡ it.bytes.items)

-- each volume in a file of these bytes is
abbrev pub IsSoundFile : Bool → ImageReading → List ℕ → Type 0
IsSoundFile is_all reading file =
    (bytes : List ℕ) × IsReadAs reading.is_lenient reading.layout reading.is_plain file bytes × AreSoundIn is_all (volumes_in reading.layout reading.is_plain bytes) (body_of reading.layout reading.is_plain bytes)

-- each of the files that these names mean was read, in their order and nothing else, and each volume in it is sound; by what was read before and after
abbrev pub AreSound : CheckForm → List (List ℕ) → List Event → List Event → Type 0
AreSound form [] old new = new ≡ old
AreSound form (name ∷ names) old new =
    (file : List ℕ) × IsSoundFile form.is_all (reading_named (reading_of_check form) name) file × AreSound form names (look_call (file_named (reading_of_check form) name) file ∷ old) new
