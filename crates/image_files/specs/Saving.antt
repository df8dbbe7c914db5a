-- How an image file gets another image.
use Rattle.std.specs.Prelude.{◌≡◌, ◌≢◌, ◌⊎◌, ◌<◌, ℕ, Bool, true, false, Option, None, Some, Result, Ok, Err, List, ◌∷◌, ◌++◌, ◌*◌, length}
use Rattle.std.specs.Str.{bytes_eq}
use Rattle.hosts.specs.Event.{Event, print_call}
use Rattle.hosts.specs.Faults.{fault_number}
use Rattle.hosts.specs.Place.{about}
use Rattle.hosts.specs.Saving.{KeepsFile, ClearsBeside, StaysAsItWas, AnyMomentOf, IsCutShort, IsOrdered, IsPlaceNoted}
use Rattle.hosts.specs.Streams.{output, errors, read, folders, failures, last_fault, may_replace}
use Rattle.hosts.specs.declared.faults.Durability.{Durability}
use Rattle.hosts.specs.declared.faults.Durability.TheVariants.{Certain, Unknown}
use Rattle.hosts.specs.declared.faults.HostFault.{HostFault}
use Rattle.hosts.specs.declared.faults.Unwritten.TheVariants as unwritten
use Rattle.word12.specs.declared.sizes.TheConstants.{BLOCK, FIRST_FILE_BLOCK}
use Rattle.disk_layouts.specs.Disks.{image_size}
use Rattle.disk_layouts.specs.Files.{Disk, HasLaid}
use Rattle.image_kind.specs.Keeping.{keeps_kind}
use Rattle.image_kind.specs.Parts.{Parts}
use Rattle.image_kind.specs.declared.judging.Judgment.{Judgment}
use Rattle.outcome.specs.Contents.{content_name}
use Rattle.outcome.specs.Notes.{file_text}
use Rattle.outcome.specs.declared.contents.Content.{Content}
use Rattle.outcome.specs.declared.contents.Content.TheVariants as kind
use Rattle.outcome.specs.declared.notes.FileNote.TheVariants.{InPlace, NoSync}
use Rattle.outcome.specs.declared.reasons.Reason.TheVariants.{Fault, NoRoom}
use Rattle.outcome.specs.declared.endings.Ending.{Ending}
use Rattle.outcome.specs.declared.endings.Ending.TheVariants.{NotWritten, FullOutput, NoReader, Unreported}
use Rattle.image_files.specs.Reasons.{TellsReason}
use Rattle.image_files.specs.Judging.{RefusesKind}
use Rattle.image_files.specs.Work.{Then}
use Rattle.image_files.specs.declared.images.Image.{Image}

-- what standard error got besides: the note that the file is written in its place, where no new file may take its path
abbrev pub IsPlaceTold : Bool → Content → List (Bool × List ℕ) → List (Bool × List ℕ) → Type 0
IsPlaceTold may_replace content old new = IsPlaceNoted may_replace (file_text InPlace (content_name content)) old new

-- what standard error got besides: the note that it is not known whether a crash keeps the file, where this is so
abbrev pub IsSyncTold : Content → Durability → List (Bool × List ℕ) → List (Bool × List ℕ) → Type 0
IsSyncTold content Certain old new = new ≡ old
IsSyncTold content Unknown old new = (ok : Bool) × (new ≡ (ok, file_text NoSync (content_name content)) ∷ old)

-- the bytes of the volumes with this image: the image alone, or the disk or the DECtape with it
abbrev pub IsBodyWith : Option Disk → List ℕ → List ℕ → Type 0
IsBodyWith None image body = body ≡ image
IsBodyWith (Some disk) image body = HasLaid disk image (record { layout = disk.layout; bytes = body })

-- the file with these bytes of its volumes: they alone, or with those that stand before and after them
abbrev pub IsFileAround : Option Parts → List ℕ → List ℕ → Type 0
IsFileAround None body file = file ≡ body
IsFileAround (Some parts) body file = (length body ≡ length parts.body) × (file ≡ parts.before ++ body ++ parts.after)

-- what the file of an image is with these bytes of the image
abbrev pub IsFileWith : Image → List ℕ → List ℕ → Type 0
IsFileWith image bytes file = (body : List ℕ) × IsBodyWith image.disk bytes body × IsFileAround image.parts body file

-- bytes stand after the volumes of a file, which would need another number of bytes
abbrev pub HasNoRoom : Option Parts → List ℕ → Type 0
HasNoRoom None body = ⊥
HasNoRoom (Some parts) body = length body ≢ length parts.body

-- how many bytes of a volume stand before its files: the first block, and its directory
abbrev pub directory_size : ℕ
directory_size = FIRST_FILE_BLOCK * BLOCK * 2

-- No file but the one at a path was changed, no folder was made, nothing was printed on standard output, and nothing was read. No file is left
-- beside the path, unless it could not be taken away.
pub record TouchesOnly (path : List ℕ) (old new : List Event) : Type 0 where
  pub others : (other : List ℕ) → bytes_eq path other ≡ false → about other new ≡ about other old
  pub beside : ClearsBeside (about path old) (about path new)
  pub prints : output new ≡ output old
  pub reads : read new ≡ read old
  pub keeps_folders : folders new ≡ folders old

-- The file at a path has these bytes now, and after a crash too, unless a note says that this is not known. At each moment meanwhile a crash
-- left what it might have left before, or these bytes, whole. Where the file could only be written in its place, nothing is promised of a
-- crash meanwhile. So many bytes at its begin are then written last, with the directory of a volume that begins there.
pub record HasSaved (content : Content) (path file : List ℕ) (old new : List Event) : Type 0 where
  pub durability : Durability
  pub kept : KeepsFile (may_replace new) durability file (about path old) (about path new)
  pub moments : AnyMomentOf (may_replace new) file (about path old) (about path new)
  pub order : IsOrdered (may_replace new) directory_size file (about path old) (about path new)
  pub noted : List (Bool × List ℕ)
  pub place : IsPlaceTold (may_replace new) content (errors old) noted
  pub sync : IsSyncTold content durability noted (errors new)
  pub only : TouchesOnly path old new

-- the file at a path is as it was, and so it was at each moment or it had these bytes, since a call failed by this fault
pub record IsUnsaved (content : Content) (path file : List ℕ) (fault : HostFault) (old new : List Event) : Type 0 where
  pub same : StaysAsItWas (about path old) (about path new)
  pub moments : AnyMomentOf (may_replace new) file (about path old) (about path new)
  pub cause : failures old < failures new
  pub why : fault_number fault ≡ last_fault new
  pub silent : errors new ≡ errors old
  pub only : TouchesOnly path old new

-- The file at a path, which could only be written in its place, may have a part of what it was to have, since a call failed by this fault. A
-- note said before that it is written so, now or at an earlier save. Its begin was written, if it was, after the rest.
pub record IsInPart (content : Content) (path file : List ℕ) (fault : HostFault) (old new : List Event) : Type 0 where
  pub in_place : may_replace new ≡ false
  pub order : IsCutShort directory_size file (about path old) (about path new)
  pub cause : failures old < failures new
  pub why : fault_number fault ≡ last_fault new
  pub place : (errors new ≡ errors old) ⊎ IsPlaceTold false content (errors old) (errors new)
  pub only : TouchesOnly path old new

-- what becomes of the file at a path, for this, that is to have these bytes; where it does not get them the fault is printed with its name
abbrev pub Writes : Content → List ℕ → List ℕ → List ℕ → List Event → Result (Unit {0}) Ending → List Event → Type 0
Writes content path name file old (Ok it) new = HasSaved content path file old new
Writes content path name file old (Err (NotWritten it unwritten.AsItWas)) new =
    (it ≡ content) × (fault : HostFault) × (between : List Event) × IsUnsaved content path file fault old between × TellsReason (Fault fault) name between new
Writes content path name file old (Err (NotWritten it unwritten.InPart)) new =
    (it ≡ content) × (fault : HostFault) × (between : List Event) × IsInPart content path file fault old between × TellsReason (Fault fault) name between new
Writes content path name file old (Err _) new = ⊥

-- a file is read as it was with bytes that it is to have, or else the change is refused
abbrev pub WritesIf : Bool → Judgment → List ℕ → List ℕ → List ℕ → List Event → Result (Unit {0}) Ending → List Event → Type 0
WritesIf true judgment path name file old result new = Writes kind.Image path name file old result new
WritesIf false judgment path name file old (Ok it) new = ⊥
WritesIf false judgment path name file old (Err ending) new = RefusesKind judgment.is_plain file old ending new

abbrev pub WritesJudged : Judgment → List ℕ → List ℕ → List ℕ → List Event → Result (Unit {0}) Ending → List Event → Type 0
WritesJudged judgment path name file = WritesIf (keeps_kind judgment file) judgment path name file

-- an image can't be saved by its size: it has another one than the volume, or the file has no room for it
abbrev pub CannotHold : Image → List ℕ → Type 0
CannotHold image bytes = ((disk : Disk) × (image.disk ≡ Some disk) × (length bytes ≢ image_size disk.layout))
    ⊎ ((body : List ℕ) × IsBodyWith image.disk bytes body × HasNoRoom image.parts body)

-- why it can't be saved is printed: its file may not be written, or it has such a size
abbrev pub TellsCannot : Image → List ℕ → List Event → List Event → Type 0
TellsCannot image bytes old new = ((image.place.is_held ≡ false) × TellsReason (Fault image.place.why) image.place.name.bytes.items old new)
    ⊎ (CannotHold image bytes × TellsReason NoRoom image.place.name.bytes.items old new)

abbrev pub IsDone : Result (Unit {0}) Ending → Type 0
IsDone (Ok it) = Unit {0}
IsDone (Err ending) = ⊥

abbrev pub IsRefused : Result (Unit {0}) Ending → Type 0
IsRefused (Ok it) = ⊥
IsRefused (Err ending) = ending ≡ NotWritten kind.Image unwritten.AsItWas

-- whether the image has these bytes, and what becomes of its file
abbrev pub SavesIf : Bool → Image → List ℕ → List Event → Result (Unit {0}) Ending → List Event → Type 0
SavesIf true image bytes old result new = IsDone result × (new ≡ old)
SavesIf false image bytes old result new = (IsRefused result × TellsCannot image bytes old new)
    ⊎ ((image.place.is_held ≡ true) × (file : List ℕ) × IsFileWith image bytes file × WritesJudged image.judgment image.place.path.bytes.items image.place.name.bytes.items file old result new)

-- What becomes of an image file that is to have these bytes of an image. Where it has them, nothing is asked of the host.
abbrev pub Saves : Image → List ℕ → List Event → Result (Unit {0}) Ending → List Event → Type 0
Saves image bytes old result new = SavesIf (bytes_eq image.bytes.items bytes) image bytes old result new

-- bytes are printed; where standard output doesn't take them, the command ends
abbrev pub Prints : List ℕ → List Event → Result (Unit {0}) Ending → List Event → Type 0
Prints bytes old (Ok it) new = new ≡ print_call true 0 bytes ∷ old
Prints bytes old (Err FullOutput) new = new ≡ print_call false 0 bytes ∷ old
Prints bytes old (Err NoReader) new = new ≡ print_call false 1 bytes ∷ old
Prints bytes old (Err _) new = ⊥

-- The lines that report a change are printed, which is made. Where standard output doesn't take them, the command ends, and the change stays.
abbrev pub Reports : List ℕ → List Event → Result (Unit {0}) Ending → List Event → Type 0
Reports lines old (Ok it) new = new ≡ print_call true 0 lines ∷ old
Reports lines old (Err Unreported) new = new ≡ print_call false 0 lines ∷ old
Reports lines old (Err NoReader) new = new ≡ print_call false 1 lines ∷ old
Reports lines old (Err _) new = ⊥

-- an image file gets an image, and only then the lines are printed that report it
abbrev pub Stores : Image → List ℕ → List ℕ → List Event → Result (Unit {0}) Ending → List Event → Type 0
Stores image bytes lines = Then (Saves image bytes) (λ it. Reports lines)
