-- What it means that a file with a new volume is made, or that a file that is there becomes one.
use Rattle.std.specs.Prelude.{◌≡◌, ◌⊎◌, ℕ, Bool, true, false, Option, Some, Result, Ok, Err, List, ◌∷◌}
use Rattle.std.specs.Global.{Vec}
use Rattle.hosts.specs.Event.{Event, look_call}
use Rattle.hosts.specs.Place.{Place, Just, Leaves, may_leave, about, replay, ever}
use Rattle.hosts.specs.Saving.{IsUnmade, replacements}
use Rattle.hosts.specs.Streams.{asked_name, has_links, may_replace, output, path_of_name, read}
use Rattle.hosts.specs.declared.faults.Unwritten.TheVariants.{AsItWas, InPart}
use Rattle.outcome.specs.declared.endings.Ending.{Ending}
use Rattle.outcome.specs.declared.endings.Ending.TheVariants.{Line, Fault, Failure, Busy, NotWritten, FullOutput, Unreported, NoReader, Misuse}
use Rattle.program_reports.specs.Program.{program_line}
use Rattle.program_reports.specs.declared.programs.ProgramLine.TheVariants as line
use Rattle.program_tasks.specs.declared.forms.CreateForm.{CreateForm}
use Rattle.program_tasks.specs.declared.forms.ImageForm.{ImageForm}
use Rattle.image_files.specs.Reading.{FindsOne}
use Rattle.volume_salvage.specs.Salvaging.{Salvages, is_complete, rescued_text}
use Rattle.volume_salvage.specs.declared.salvages.Salvage.{Salvage}
use Rattle.keeper_laws.specs.Changed.{Becomes, IsUnwarned, ChangesNoOther}

-- A file was made, whole, at the path that the host gave for a name that had none. Unless a note warns of it a crash now leaves it. One at any
-- moment before left it, whole, or what it might have left before, where the file system has further names. It has replaced no file, and no
-- other file is changed.
pub record IsFirst (name file : List ℕ) (old new : List Event) : Type 0 where
  pub path : List ℕ
  pub asked : (asked_name new ≡ name) × (path ≡ path_of_name new)
  pub now : (start : Place) → (replay start (about path new)).seen ≡ Just (Some file)
  pub after : IsUnwarned old new → (start : Place) (found : Option (List ℕ)) → Leaves (may_leave (replay start (about path new))) found → found ≡ Some file
  pub moments : has_links new ≡ true → (start : Place) (found : Option (List ℕ)) → Leaves (ever start (about path new)) found
      → (found ≡ Some file) ⊎ Leaves (ever start (about path old)) found
  pub first : replacements (about path new) ≡ replacements (about path old)
  pub alone : ChangesNoOther path old new

-- a file that is to be the first of its name is made; another one may be made, or one that is there becomes it
abbrev pub GetsFile : Bool → List ℕ → List ℕ → List Event → List Event → Type 0
GetsFile true name file old new = IsFirst name file old new
GetsFile false name file old new = IsFirst name file old new ⊎ ((path : List ℕ) × ((was : List ℕ) → Becomes path was file old new))

-- No file is made. One path is as it was, or has no file. Where the file system has no further names it may have an empty one, which could
-- not be taken away. No other file is changed, and no line of a change is printed.
pub record MakesNone (old new : List Event) : Type 0 where
  pub path : List ℕ
  pub there : (start : Place) → IsUnmade (about path new) (replay start (about path old)) (replay start (about path new))
  pub alone : ChangesNoOther path old new
  pub prints : output new ≡ output old

-- a file that is there, and could only be written in its place, may hold a part of the new bytes
pub record MayBeInPart (old new : List Event) : Type 0 where
  pub path : List ℕ
  pub in_place : may_replace new ≡ false
  pub alone : ChangesNoOther path old new
  pub prints : output new ≡ output old

-- The file is made where the command ends well, and where only its line can't be printed. Else none is made, or the ending says that the file
-- that is there may hold a part.
abbrev pub EndsMade : (Bool → List Event → List Event → Type 0) → Result (Unit {0}) Ending → List Event → List Event → Type 0
EndsMade done (Ok it) old new = done true old new
EndsMade done (Err Unreported) old new = done false old new
EndsMade done (Err NoReader) old new = done false old new
EndsMade done (Err (NotWritten it AsItWas)) old new = MakesNone old new
EndsMade done (Err (NotWritten it InPart)) old new = MayBeInPart old new
EndsMade done (Err (Line it)) old new = MakesNone old new
EndsMade done (Err (Fault it)) old new = MakesNone old new
EndsMade done (Err (Busy it)) old new = MakesNone old new
EndsMade done (Err Failure) old new = ⊥
EndsMade done (Err FullOutput) old new = ⊥
EndsMade done (Err Misuse) old new = ⊥

-- ## The commands

-- The file of a new volume is made of such bytes. Its line was to be printed, and nothing else. Whether it was is `ok`.
pub record HasCreated (gives : Result (Vec ℕ) Ending → Type 0) (form : CreateForm) (blocks : ℕ) (ok : Bool) (old new : List Event) : Type 0 where
  pub file : Vec ℕ
  pub gave : gives (Ok file)
  pub has : GetsFile form.is_new form.file.bytes.items file.items old new
  pub prints : output new ≡ (ok, program_line (line.Created blocks)) ∷ output old

-- The volume of an image file is rescued: that file was read, and nothing else. The new file is made of the volume that its files give. The lines
-- on them were to be printed, and nothing else. Whether they were is `ok`, and whether no line reports a loss is `is_whole`.
pub record HasRescued (name : List ℕ) (form : ImageForm) (is_whole ok : Bool) (old new : List Event) : Type 0 where
  pub was : List ℕ
  pub reads : read new ≡ look_call form.file.bytes.items was ∷ read old
  pub from : Vec ℕ
  pub found : (calls : List Event) × FindsOne form.layout form.is_plain was calls (Ok from) calls
  pub salvage : Salvage
  pub salvages : Salvages from.items (Ok salvage)
  pub whole : is_complete salvage ≡ is_whole
  pub has : IsFirst name salvage.image.items old new
  pub prints : output new ≡ (ok, rescued_text salvage) ∷ output old

-- The new file is made where the command ends well, where a line reports a loss, and where only its lines can't be printed. Else none is made.
abbrev pub EndsRescued : List ℕ → ImageForm → Result (Unit {0}) Ending → List Event → List Event → Type 0
EndsRescued name form (Ok it) old new = HasRescued name form true true old new
EndsRescued name form (Err Failure) old new = HasRescued name form false true old new ⊎ HasRescued name form false false old new
EndsRescued name form (Err Unreported) old new = HasRescued name form true false old new ⊎ HasRescued name form false false old new
EndsRescued name form (Err NoReader) old new = HasRescued name form true false old new
EndsRescued name form (Err (NotWritten it AsItWas)) old new = MakesNone old new
EndsRescued name form (Err (NotWritten it InPart)) old new = ⊥
EndsRescued name form (Err (Line it)) old new = MakesNone old new
EndsRescued name form (Err (Fault it)) old new = MakesNone old new
EndsRescued name form (Err (Busy it)) old new = MakesNone old new
EndsRescued name form (Err FullOutput) old new = ⊥
EndsRescued name form (Err Misuse) old new = ⊥
