-- How an image file is held and read.
use Rattle.std.specs.Prelude.{◌≡◌, ◌≢◌, ◌⊎◌, ◌<◌, ◌≤◌, ℕ, ◌%◌, nat_eq, Bool, true, false, if◌then◌else◌, Option, None, Some, Result, Ok, Err, List, ◌∷◌, length}
use Rattle.std.specs.Global.{Vec}
use Rattle.hosts.specs.Event.{Event, Look, failed_call, resolve_call, hold_call, drop_seconds_call, look_call, tell_call}
use Rattle.hosts.specs.Faults.{class_of, fault_number}
use Rattle.hosts.specs.Streams.{output, errors, read, changes_at, failures, last_fault}
use Rattle.hosts.specs.declared.faults.FaultClass.{FaultClass}
use Rattle.hosts.specs.declared.faults.FaultClass.TheVariants as class
use Rattle.hosts.specs.declared.faults.HostFault.{HostFault}
use Rattle.hosts.specs.declared.faults.HostFault.TheVariants as host
use Rattle.image_kind.specs.declared.kinds.ImageKind.{ImageKind}
use Rattle.image_kind.specs.Margins.{body_by, body_of, margins_by}
use Rattle.image_kind.specs.Judging.{judged_kind}
use Rattle.image_kind.specs.declared.judging.Judgment.{Judgment}
use Rattle.image_kind.specs.Parts.{Parts, parts_by}
use Rattle.image_kind.specs.Volumes.{script_kind, volumes_in, volumes_with}
use Rattle.image_kind.specs.declared.margins.Margins.{Margins}
use Rattle.image_kind.specs.declared.volumes.Volumes.{Volumes}
use Rattle.image_kind.specs.declared.volumes.Volumes.TheVariants.{One, Both}
use Rattle.disk_layouts.specs.Disks.{FitsLayout, IsImageIn}
use Rattle.disk_layouts.specs.Files.{Disk, Opens as OpensDisk}
use Rattle.disk_layouts.specs.declared.layouts.Layout.{Layout}
use Rattle.refusals.specs.declared.faults.TheConstants.{MOST}
use Rattle.refusals.specs.declared.faults.SessionFault.TheVariants.{Memory}
use Rattle.program_reports.specs.declared.programs.ProgramLine.TheVariants.{HostRead}
use Rattle.program_reports.specs.declared.programs.ProgramLine.TheVariants as line
use Rattle.outcome.specs.Contents.{content_name}
use Rattle.outcome.specs.Notes.{file_text, name_text, plain_text}
use Rattle.outcome.specs.declared.contents.Content.{Content}
use Rattle.outcome.specs.declared.contents.Content.TheVariants.{Image}
use Rattle.outcome.specs.declared.notes.FileNote.TheVariants.{NoLock}
use Rattle.outcome.specs.declared.notes.NameNote.TheVariants.{TooLong}
use Rattle.outcome.specs.declared.notes.PlainNote.TheVariants as plain
use Rattle.outcome.specs.declared.endings.Ending.{Ending}
use Rattle.outcome.specs.declared.endings.Ending.TheVariants.{Line, Fault, Busy}
use Rattle.program_tasks.specs.Names.{volume_named}
use Rattle.program_tasks.specs.declared.forms.ImageForm.{ImageForm}
use Rattle.volume_image.specs.declared.faults.ImageFault.{ImageFault}
use Rattle.volume_image.specs.declared.faults.ImageFault.TheVariants as image
use Rattle.image_files.specs.Judging.{Judges}
use Rattle.image_files.specs.Mending.{Mends}
use Rattle.image_files.specs.Reasons.{TellsFault, TellsUnheld}
use Rattle.image_files.specs.Work.{Then, Purely, Lacks, OrLacks, EndsTelling}
use Rattle.image_files.specs.declared.reading.ImagePlace.{ImagePlace}
use Rattle.image_files.specs.declared.images.Image.{Image as Opened}
use Rattle.image_files.specs.declared.mending.ImageReading.{ImageReading}

-- no file was changed, no folder was made, nothing was printed, and nothing was read
pub record IsIdle (old new : List Event) : Type 0 where
  pub files : (path : List ℕ) → changes_at path new ≡ changes_at path old
  pub prints : output new ≡ output old
  pub tells : errors new ≡ errors old
  pub reads : read new ≡ read old

-- the file that a name leads to was held, at this path, the newest call first
abbrev pub hold_calls : List ℕ → List ℕ → Bool → List Event → List Event
hold_calls name path has_lock old = drop_seconds_call path ∷ hold_call path has_lock ∷ resolve_call name path ∷ old

-- a note was printed where the file system of a file for this has no locks
abbrev pub with_lock_note : Content → Bool → Bool → List Event → List Event
with_lock_note content true ok old = old
with_lock_note content false ok old = tell_call ok (file_text NoLock (content_name content)) ∷ old

-- an image can't be held, or can't be read
abbrev pub image_ending : FaultClass → Ending
image_ending class.Busy = Busy Image
image_ending class.Memory = Fault Memory
image_ending class.Other = Line HostRead

abbrev pub ending_of_image : HostFault → Ending
ending_of_image fault = image_ending (class_of fault)

-- by which fault a command ends so, whose image file is not held, nor read
abbrev pub IsUnheld : HostFault → Ending → Type 0
IsUnheld host.Denied ending = ⊥
IsUnheld host.ReadOnly ending = ⊥
IsUnheld fault ending = ending ≡ ending_of_image fault

-- An image file is held before it is read. One that may not be written is not held; by another fault of a call the command ends.
abbrev pub HoldsAt : List ℕ → ImagePlace → Bool → List Event → List Event → Type 0
HoldsAt name place true old new = (has_lock : Bool) × (ok : Bool) × (new ≡ with_lock_note Image has_lock ok (hold_calls name place.path.bytes.items has_lock old))
HoldsAt name place false old new = IsIdle old new × (failures old < failures new) × (last_fault new ≡ fault_number place.why) × ((place.why ≡ host.Denied) ⊎ (place.why ≡ host.ReadOnly))

-- a file of this name is not held by this fault, which is printed; nothing is changed or read
abbrev pub IsNotHeld : List ℕ → HostFault → List Event → List Event → Type 0
IsNotHeld name fault old new =
    (between : List Event) × IsIdle old between × (failures old < failures between) × (last_fault between ≡ fault_number fault) × TellsUnheld Image fault name between new

-- why it is neither held nor read: by a fault; or memory is wanted for its name
unfoldable pub IsUnheldImage : List ℕ → List Event → Ending → List Event → Type 0
IsUnheldImage name old ending new = ((fault : HostFault) × IsUnheld fault ending × IsNotHeld name fault old new) ⊎ Lacks old ending new

-- its name is kept
abbrev pub Holds : List ℕ → List Event → Result ImagePlace Ending → List Event → Type 0
Holds name old (Ok place) new = (place.name.bytes.items ≡ name) × HoldsAt name place place.is_held old new
Holds name old (Err ending) new = IsUnheldImage name old ending new

-- the path of a file that is held, else its name
abbrev pub looked_name : ImagePlace → List ℕ → List ℕ
looked_name place name = if place.is_held then place.path.bytes.items else name

-- bytes are more than are read, of which a note is printed unless memory is wanted for it
abbrev pub IsTooLong : List ℕ → List Event → Ending → List Event → Type 0
IsTooLong shown = OrLacks (EndsTelling (Line HostRead) (name_text TooLong shown))

-- why a file is not read, which is printed: its call failed, by this fault; or it has more bytes than are read
unfoldable pub IsUnread : List ℕ → List ℕ → List Event → Ending → List Event → Type 0
IsUnread name shown old ending new = ((fault : HostFault) × (ending ≡ ending_of_image fault) × TellsFault fault shown (failed_call Look name fault ∷ old) new)
    ⊎ ((bytes : List ℕ) × (MOST < length bytes) × IsTooLong shown (look_call name bytes ∷ old) ending new)

-- a file is read whole, and has no more bytes than are read
abbrev pub Looks : List ℕ → List ℕ → List Event → Result (Vec ℕ) Ending → List Event → Type 0
Looks name shown old (Ok bytes) new = (length bytes.items ≤ MOST) × (new ≡ look_call name bytes.items ∷ old)
Looks name shown old (Err ending) new = IsUnread name shown old ending new

-- an image is the whole file, or the volume that lies in it as a disk or a DECtape
abbrev pub IsVolumeOf : Option Layout → List ℕ → List ℕ → Option Disk → Type 0
IsVolumeOf None file image None = image ≡ file
IsVolumeOf None file image (Some disk) = ⊥
IsVolumeOf (Some layout) file image None = ⊥
IsVolumeOf (Some layout) file image (Some disk) = (disk.layout ≡ layout) × (disk.bytes ≡ file) × FitsLayout layout file × IsImageIn layout file image

-- the file is none of a disk or of a DECtape so
abbrev pub IsNoVolume : Option Layout → List ℕ → Ending → Type 0
IsNoVolume None file ending = ⊥
IsNoVolume (Some layout) file (Line (line.Disk fault)) = OpensDisk layout file (Err fault)
IsNoVolume (Some layout) file (Fault Memory) = FitsLayout layout file
IsNoVolume (Some layout) file _ = ⊥

-- the bytes beside the volumes of a file are kept, where it has any
abbrev pub IsParted : Margins → List ℕ → Option Parts → Type 0
IsParted margins file None = margins ≡ record { before = 0; after = 0 }
IsParted margins file (Some parts) = parts ≡ parts_by margins file

-- memory may be wanted for them
abbrev pub IsUnparted : Margins → Ending → Type 0
IsUnparted margins ending = (margins ≢ record { before = 0; after = 0 }) × (ending ≡ Fault Memory)

-- the image of the volume that lies so in a file with these margins, which is held at a place
abbrev pub MakesImage : ImagePlace → Judgment → Option Layout → Margins → List ℕ → Result Opened Ending → Type 0
MakesImage place judgment layout margins file (Ok image) = (image.place ≡ place) × (image.judgment ≡ judgment) × IsVolumeOf layout (body_by margins file) image.bytes.items image.disk × IsParted margins file image.parts
MakesImage place judgment layout margins file (Err ending) = IsNoVolume layout (body_by margins file) ending ⊎ IsUnparted margins ending

-- the image of a volume in bytes without margins
abbrev pub FindsVolume : Option Layout → List ℕ → Result (Vec ℕ) Ending → Type 0
FindsVolume layout file (Ok image) = (disk : Option Disk) × IsVolumeOf layout file image.items disk
FindsVolume layout file (Err ending) = IsNoVolume layout file ending

-- a disk of two volumes is no image of one: it is too large, or isn't whole blocks
abbrev pub disk_fault : ℕ → ImageFault
disk_fault size = if nat_eq (size % 512) 0 then image.TooLarge else image.NotWhole

-- a disk of so many bytes is refused where none of its volumes is named; a note says how to name one
abbrev pub RefusesDisk : ℕ → List Event → Ending → List Event → Type 0
RefusesDisk size = EndsTelling (Line (line.Image (disk_fault size))) (plain_text plain.Disk)

-- that of the one volume that is meant
abbrev pub MakesOne : ImagePlace → Judgment → Volumes → Margins → List ℕ → List Event → Result Opened Ending → List Event → Type 0
MakesOne place judgment (One layout) margins file old result new = MakesImage place judgment layout margins file result × (new ≡ old)
MakesOne place judgment Both margins file old (Ok image) new = ⊥
MakesOne place judgment Both margins file old (Err ending) new = RefusesDisk (length (body_by margins file)) old ending new

-- what a file is taken for that is asked for so
abbrev pub judgment_of : ImageForm → List ℕ → Judgment
judgment_of form file = record { layout = form.layout; is_plain = form.is_plain; kind = judged_kind form.is_plain file }

-- the image of the volume that is asked for in a file, or else of the one of what it is taken for
abbrev pub MakesOf : ImagePlace → ImageForm → List ℕ → Option ImageKind → List Event → Result Opened Ending → List Event → Type 0
MakesOf place form file kind = MakesOne place (judgment_of form file) (volumes_with form.layout kind) (margins_by form.layout kind) file

-- An image file is held, and then read. One that may be read in two ways is refused. The volume is the one that is asked for, or else the one
-- of what the file is taken for by its length and its directories.
abbrev pub JudgesOpened : ImagePlace → ImageForm → List ℕ → List Event → Result Opened Ending → List Event → Type 0
JudgesOpened place form file =
    Then (Judges form.file.bytes.items form.layout form.is_plain file) (λ it. MakesOf place form file (judged_kind form.is_plain file))

abbrev pub Opens : ImageForm → List Event → Result Opened Ending → List Event → Type 0
Opens form = Then (Holds form.file.bytes.items) (λ place. Then (Looks (looked_name place form.file.bytes.items) form.file.bytes.items) (λ file. JudgesOpened place form file.items))

-- The same for a run of a script, for which whole blocks are one volume.
abbrev pub JudgesForScript : ImagePlace → ImageForm → List ℕ → List Event → Result Opened Ending → List Event → Type 0
JudgesForScript place form file =
    Then (Judges form.file.bytes.items form.layout form.is_plain file) (λ it. MakesOf place form file (script_kind form.is_plain file))

abbrev pub OpensForScript : ImageForm → List Event → Result Opened Ending → List Event → Type 0
OpensForScript form =
    Then (Holds form.file.bytes.items) (λ place. Then (Looks (looked_name place form.file.bytes.items) form.file.bytes.items) (λ file. JudgesForScript place form file.items))

-- the image of the one volume that is meant
abbrev pub FindsIn : Volumes → List ℕ → List Event → Result (Vec ℕ) Ending → List Event → Type 0
FindsIn (One layout) body old result new = FindsVolume layout body result × (new ≡ old)
FindsIn Both body old (Ok image) new = ⊥
FindsIn Both body old (Err ending) new = RefusesDisk (length body) old ending new

-- that of a file: of the volume that is asked for, or else of the one that it has by its kind
abbrev pub FindsOne : Option Layout → Bool → List ℕ → List Event → Result (Vec ℕ) Ending → List Event → Type 0
FindsOne given is_plain file = FindsIn (volumes_in given is_plain file) (body_of given is_plain file)

-- a file is read, and its faults are mended in memory
abbrev pub LooksLeniently : Option Layout → Bool → List ℕ → List Event → Result (Vec ℕ) Ending → List Event → Type 0
LooksLeniently given is_plain name = Then (Looks name name) (λ file. Mends given is_plain name file.items)

-- a file is read so, or as it is
abbrev pub LooksIf : Bool → Option Layout → Bool → List ℕ → List Event → Result (Vec ℕ) Ending → List Event → Type 0
LooksIf true given is_plain name = LooksLeniently given is_plain name
LooksIf false given is_plain name = Looks name name

-- bytes are those of a file that may not be read in two ways
abbrev pub IsJudged : Vec ℕ → Result (Vec ℕ) Ending → Type 0
IsJudged file (Ok it) = it ≡ file
IsJudged file (Err ending) = ⊥

abbrev pub JudgesLooked : ImageReading → List ℕ → Vec ℕ → List Event → Result (Vec ℕ) Ending → List Event → Type 0
JudgesLooked reading name file = Then (Judges name reading.layout reading.is_plain file.items) (λ it. Purely (IsJudged file))

-- and one that may be read in two ways is refused
abbrev pub LooksImage : ImageReading → List ℕ → List Event → Result (Vec ℕ) Ending → List Event → Type 0
LooksImage reading name = Then (LooksIf reading.is_lenient reading.layout reading.is_plain name) (λ file. JudgesLooked reading name file)

-- how the image file that is asked for is read
abbrev pub reading_of : ImageForm → ImageReading
reading_of form = record { layout = form.layout; is_plain = form.is_plain; is_lenient = form.is_lenient }

-- the image file that a name means where images are read so, and how it is read
abbrev pub file_named : ImageReading → List ℕ → List ℕ
file_named reading name = (volume_named reading.layout name).0

abbrev pub reading_named : ImageReading → List ℕ → ImageReading
reading_named reading name = record { layout = (volume_named reading.layout name).1; is_plain = reading.is_plain; is_lenient = reading.is_lenient }

-- it is read so, and its volume is found
abbrev pub LooksAt : ImageForm → List Event → Result (Vec ℕ) Ending → List Event → Type 0
LooksAt form = Then (LooksImage (reading_of form) form.file.bytes.items) (λ file. FindsOne form.layout form.is_plain file.items)

-- a script's image file is read: the volume that is asked for, or else the one of what the file is taken for where a script runs over it
abbrev pub FindsForScript : Option Layout → Bool → List ℕ → List Event → Result (Vec ℕ) Ending → List Event → Type 0
FindsForScript given is_plain file = FindsIn (volumes_with given (script_kind is_plain file)) (body_by (margins_by given (script_kind is_plain file)) file)
