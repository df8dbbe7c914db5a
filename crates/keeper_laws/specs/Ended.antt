-- What each ending of a change means for the files of who runs it.
use Rattle.std.specs.Prelude.{◌≡◌, ◌⊎◌, ℕ, Bool, true, false, Result, Ok, Err, List, ◌∷◌, ◌++◌}
use Rattle.hosts.specs.Event.{Event, look_call}
use Rattle.hosts.specs.Place.{about}
use Rattle.hosts.specs.Saving.{StaysAsItWas}
use Rattle.hosts.specs.Streams.{may_replace, output, read}
use Rattle.hosts.specs.declared.faults.Unwritten.TheVariants.{AsItWas, InPart}
use Rattle.outcome.specs.declared.endings.Ending.{Ending}
use Rattle.outcome.specs.declared.endings.Ending.TheVariants.{Line, Fault, Failure, Busy, NotWritten, FullOutput, Unreported, NoReader, Misuse}
use Rattle.program_tasks.specs.declared.forms.ImageForm.{ImageForm}
use Rattle.image_files.specs.Laws.{ChangesNothing}
use Rattle.image_files.specs.Reading.{Holds, looked_name}
use Rattle.image_files.specs.declared.images.Image.{Image}
use Rattle.image_files.specs.declared.reading.ImagePlace.{ImagePlace}
use Rattle.keeper_laws.specs.Changed.{IsHeldAt, ChangesNoOther}

-- no file is changed, no folder is made, and no line of a change is printed
abbrev pub DoesNothing : List Event → List Event → Type 0
DoesNothing old new = ChangesNothing old new × (output new ≡ output old)

-- one file at most is touched so
abbrev pub TouchesOne : List Event → List Event → Type 0
TouchesOne old new = (path : List ℕ) × ChangesNoOther path old new

-- the image file that is asked for is held, and then it alone is touched
pub record TouchesHeld (form : ImageForm) (old new : List Event) : Type 0 where
  pub place : ImagePlace
  pub path : List ℕ
  pub held : IsHeldAt form place path old
  pub is_held : place.is_held ≡ true
  pub alone : ChangesNoOther path old new

-- no file is touched, or that one
abbrev pub TouchesItAlone : ImageForm → List Event → List Event → Type 0
TouchesItAlone form old new = ChangesNothing old new ⊎ TouchesHeld form old new

-- An image file is read, and nothing else is done. The file that is asked for was held before, if it may be written.
pub record ReadsHeld (form : ImageForm) (image : Image) (old new : List Event) : Type 0 where
  pub begun : List Event
  pub held : Holds form.file.bytes.items old (Ok image.place) begun
  pub was : List ℕ
  pub reads : new ≡ look_call (looked_name image.place form.file.bytes.items) was ∷ begun

-- Each file is as it was, and a crash leaves what it might have left before. No line of a change is printed.
pub record AllStay (form : ImageForm) (old new : List Event) : Type 0 where
  pub files : (path : List ℕ) → StaysAsItWas (about path old) (about path new)
  pub touches : TouchesItAlone form old new
  pub prints : output new ≡ output old

-- The image file that was read, which could only be written in its place, may hold a part of the new bytes. No other file is changed, and no line
-- of a change is printed.
pub record MayHoldAPart (form : ImageForm) (old new : List Event) : Type 0 where
  pub place : ImagePlace
  pub path : List ℕ
  pub held : IsHeldAt form place path old
  pub is_held : place.is_held ≡ true
  pub was : List ℕ
  pub calls : List Event
  pub reads : read new ≡ calls ++ (look_call path was ∷ read old)
  pub in_place : may_replace new ≡ false
  pub alone : ChangesNoOther path old new
  pub prints : output new ≡ output old

-- What is to be done is done where the command ends well, and where only its line can't be printed. A refusal changes nothing. An image that
-- could not be written is as it was, or the ending says that it may hold a part. None ends by a full output, as
-- commands that only print do.
abbrev pub EndsAs : ImageForm → (Bool → List Event → List Event → Type 0) → Result (Unit {0}) Ending → List Event → List Event → Type 0
EndsAs form done (Ok it) old new = done true old new
EndsAs form done (Err Unreported) old new = done false old new
EndsAs form done (Err NoReader) old new = done false old new
EndsAs form done (Err (NotWritten it AsItWas)) old new = AllStay form old new
EndsAs form done (Err (NotWritten it InPart)) old new = MayHoldAPart form old new
EndsAs form done (Err (Line it)) old new = DoesNothing old new
EndsAs form done (Err (Fault it)) old new = DoesNothing old new
EndsAs form done (Err Failure) old new = DoesNothing old new
EndsAs form done (Err (Busy it)) old new = DoesNothing old new
EndsAs form done (Err Misuse) old new = DoesNothing old new
EndsAs form done (Err FullOutput) old new = ⊥

-- a refusal was to be printed on standard output, and nothing else, as `patch` prints its own; no file is changed
pub record SaysNo (old new : List Event) : Type 0 where
  pub files : ChangesNothing old new
  pub ok : Bool
  pub line : List ℕ
  pub prints : output new ≡ (ok, line) ∷ output old

abbrev pub RefusesAloud : Result (Unit {0}) Ending → List Event → List Event → Type 0
RefusesAloud (Ok it) old new = ⊥
RefusesAloud (Err Failure) old new = SaysNo old new
RefusesAloud (Err FullOutput) old new = SaysNo old new
RefusesAloud (Err (Line it)) old new = ⊥
RefusesAloud (Err (Fault it)) old new = ⊥
RefusesAloud (Err (Busy it)) old new = ⊥
RefusesAloud (Err (NotWritten it left)) old new = ⊥
RefusesAloud (Err Unreported) old new = ⊥
RefusesAloud (Err NoReader) old new = ⊥
RefusesAloud (Err Misuse) old new = ⊥
