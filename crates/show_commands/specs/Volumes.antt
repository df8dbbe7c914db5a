-- The reports of the volumes in an image file: of the one that is asked for, or else of each that the file has by its kind.
use Rattle.std.specs.Prelude.{◌≡◌, ◌⊎◌, ℕ, Bool, true, false, ◌&&◌, ◌||◌, not, nat_eq, decimal, Option, Some, Result, Ok, Err, List, ◌∷◌, ◌++◌, length, String}
use Rattle.std.specs.Global.{Vec, Global}
use Rattle.hosts.specs.Event.{Event, tell_call}
use Rattle.disk_layouts.specs.declared.layouts.Layout.{Layout}
use Rattle.disk_layouts.specs.declared.layouts.Layout.TheVariants.{First, Second}
use Rattle.image_kind.specs.Margins.{body_of, margins_in}
use Rattle.image_kind.specs.Volumes.{volumes_in}
use Rattle.image_kind.specs.declared.margins.Margins.{Margins}
use Rattle.image_kind.specs.declared.volumes.Volumes.{Volumes}
use Rattle.image_kind.specs.declared.volumes.Volumes.TheVariants.{One, Both}
use Rattle.refusals.specs.declared.faults.SessionFault.TheVariants.{Memory}
use Rattle.outcome.specs.Notes.{margins_text}
use Rattle.outcome.specs.declared.endings.Ending.{Ending}
use Rattle.outcome.specs.declared.endings.Ending.TheVariants.{Fault}
use Rattle.image_files.specs.Answers.{Answers, AreLines}
use Rattle.image_files.specs.Reading.{FindsVolume, LooksImage}
use Rattle.image_files.specs.Work.{After, Then, Purely, Lacks}
use Rattle.image_files.specs.declared.mending.ImageReading.{ImageReading}
use Rattle.image_files.specs.Ending.{EndsSound}
use Rattle.show_commands.specs.Reporting.{PrintsNamed, PrintsReport, Reports, ReportsAmong, TellsRefusal}
use Rattle.show_commands.specs.declared.reports.Report.{Report}
use Rattle.show_commands.specs.declared.reports.ReportKind.{ReportKind}
use Rattle.show_commands.specs.declared.reports.ReportKind.TheVariants as kinds

-- ## A volume

-- the report of the volume that lies so in bytes without margins; a refusal is reported by its line
abbrev pub ReportsAt : ReportKind → Option Layout → List ℕ → List Event → Result Report Ending → List Event → Type 0
ReportsAt kind layout body old result new = ((image : Vec ℕ) × FindsVolume layout body (Ok image) × ReportsAmong kind image.items old result new)
    ⊎ ((ending : Ending) × FindsVolume layout body (Err ending) × TellsRefusal ending result × (new ≡ old))

-- its lines are printed with a name before each, and it is answered whether it is sound
abbrev pub ReportsVolume : ReportKind → List ℕ → Option Layout → List ℕ → List Event → Result Bool Ending → List Event → Type 0
ReportsVolume kind name layout body = Then (ReportsAt kind layout body) (PrintsNamed name)

-- the name of a volume of a disk: that of the file, a colon, and its number
abbrev pub volume_name : List ℕ → ℕ → List ℕ
volume_name file number = file ++ 0o72 ∷ decimal number

abbrev pub IsVolumeName : List ℕ → ℕ → Result (String Global) Ending → Type 0
IsVolumeName file number (Ok name) = name.bytes.items ≡ volume_name file number
IsVolumeName file number (Err ending) = ending ≡ Fault Memory

-- a volume of a disk, for which its bytes are copied
abbrev pub ReportsNumbered : ReportKind → List ℕ → ℕ → Layout → List ℕ → List Event → Result Bool Ending → List Event → Type 0
ReportsNumbered kind file number layout body =
    Then (Purely (IsVolumeName file number)) (λ name. Then (Purely (AreLines body)) (λ copy. ReportsVolume kind name.bytes.items (Some layout) copy.items))

-- both volumes of a disk, one after the other
abbrev pub ReportsBoth : ReportKind → List ℕ → List ℕ → List Event → Result Bool Ending → List Event → Type 0
ReportsBoth kind file body =
    Then (ReportsNumbered kind file 1 First body) (λ one. Then (After one (ReportsNumbered kind file 2 Second body)) (λ other. Purely (λ result. result ≡ Ok (one && other))))

-- ## Bytes that are none of the volumes'

-- an image is checked, and not listed
abbrev pub is_check : ReportKind → Bool
is_check kinds.Directory = true
is_check kinds.Survey = true
is_check kinds.Files = false
is_check (kinds.Places year) = false

-- a file has bytes before or after the blocks of its volumes
abbrev pub has_margins : Margins → Bool
has_margins margins = not (nat_eq margins.before 0) || not (nat_eq margins.after 0)

-- a note on them is printed, for which memory may be wanted
abbrev pub TellsMarginsIf : Bool → List ℕ → Margins → List Event → Result (Unit {0}) Ending → List Event → Type 0
TellsMarginsIf false name margins old result new = (result ≡ Ok tt) × (new ≡ old)
TellsMarginsIf true name margins old (Ok it) new = (ok : Bool) × (new ≡ tell_call ok (margins_text name margins.before margins.after) ∷ old)
TellsMarginsIf true name margins old (Err ending) new = Lacks old ending new

-- where an image is checked
abbrev pub TellsMargins : ReportKind → List ℕ → Margins → List Event → Result (Unit {0}) Ending → List Event → Type 0
TellsMargins kind name margins = TellsMarginsIf (is_check kind && has_margins margins) name margins

-- ## The one image file that is asked for

-- Its volume alone: the report is printed as it is. Where it is refused the command ends with that, and what may help is printed.
abbrev pub ReportsAlone : ReportKind → Option Layout → List ℕ → List Event → Result (Unit {0}) Ending → List Event → Type 0
ReportsAlone kind layout body = Then (Purely (FindsVolume layout body)) (λ image. Then (Answers (Reports kind image.items) (length image.items)) PrintsReport)

-- of a disk both volumes are reported by their names
abbrev pub ReportsFile : ReportKind → List ℕ → Volumes → List ℕ → List Event → Result (Unit {0}) Ending → List Event → Type 0
ReportsFile kind file (One layout) body = ReportsAlone kind layout body
ReportsFile kind file Both body = Then (ReportsBoth kind file body) (λ is_sound. Purely (EndsSound is_sound))

-- its bytes beside the volumes are noted, and then these are reported
abbrev pub ReportsBytes : ReportKind → Option Layout → Bool → List ℕ → List ℕ → List Event → Result (Unit {0}) Ending → List Event → Type 0
ReportsBytes kind given is_plain file bytes =
    Then (TellsMargins kind file (margins_in given is_plain bytes)) (λ it. ReportsFile kind file (volumes_in given is_plain bytes) (body_of given is_plain bytes))

-- the image file is read first
abbrev pub ReportsOne : ReportKind → ImageReading → List ℕ → List Event → Result (Unit {0}) Ending → List Event → Type 0
ReportsOne kind reading file = Then (LooksImage reading file) (λ bytes. ReportsBytes kind reading.layout reading.is_plain file bytes.items)

-- ## One of several

abbrev pub ReportsVolumes : ReportKind → List ℕ → Volumes → List ℕ → List Event → Result Bool Ending → List Event → Type 0
ReportsVolumes kind file (One layout) body = ReportsVolume kind file layout body
ReportsVolumes kind file Both body = ReportsBoth kind file body

-- its bytes beside the volumes are noted before
abbrev pub ReportsBytesAmong : ReportKind → Option Layout → Bool → List ℕ → List ℕ → List Event → Result Bool Ending → List Event → Type 0
ReportsBytesAmong kind given is_plain file bytes =
    Then (TellsMargins kind file (margins_in given is_plain bytes)) (λ it. ReportsVolumes kind file (volumes_in given is_plain bytes) (body_of given is_plain bytes))

-- the volumes of a file that was read are reported; one that can't be read is reported by its line
abbrev pub ReportsRead : ReportKind → Option Layout → Bool → List ℕ → Result (Vec ℕ) Ending → List Event → Result Bool Ending → List Event → Type 0
ReportsRead kind given is_plain file (Ok bytes) = ReportsBytesAmong kind given is_plain file bytes.items
ReportsRead kind given is_plain file (Err ending) = Then (Purely (TellsRefusal ending)) (PrintsNamed file)

-- each line has the name before it by which the file is asked for
abbrev pub ReportsNext : ReportKind → ImageReading → List ℕ → List ℕ → List Event → Result Bool Ending → List Event → Type 0
ReportsNext kind reading file name old result new =
    (bytes : Result (Vec ℕ) Ending) × (between : List Event) × LooksImage reading file old bytes between × ReportsRead kind reading.layout reading.is_plain name bytes between result new
