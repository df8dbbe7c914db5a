-- Which file a command that changes an image touches.
use Rattle.std.proofs.Common.{◌≡◌, ◌⊎◌, ℕ, Bool, true, false, Result, Ok, Err, List, [], inl, inr}
use Rattle.hosts.specs.Event.{Event}
use Rattle.hosts.specs.declared.faults.Unwritten.TheVariants.{AsItWas, InPart}
use Rattle.outcome.specs.declared.endings.Ending.{Ending}
use Rattle.outcome.specs.declared.endings.Ending.TheVariants.{Line, Fault, Failure, Busy, NotWritten, FullOutput, Unreported, NoReader, Misuse}
use Rattle.program_tasks.specs.declared.forms.ImageForm.{ImageForm}
use Rattle.image_files.specs.Laws.{ChangesNothing}
use Rattle.image_files.specs.Saving.{IsFileWith}
use Rattle.image_files.specs.declared.images.Image.{Image}
use Rattle.keeper_laws.specs.Changed.{Becomes, GetsVolume, IsOpened}
use Rattle.keeper_laws.specs.Ended.{EndsAs, MayHoldAPart, RefusesAloud, TouchesItAlone, TouchesOne}
use Rattle.keeper_laws.specs.Made.{EndsMade, EndsRescued, GetsFile, HasRescued, IsFirst, MakesNone}

-- what is done is the volume of an image that was opened
pub gets-touches : (form : ImageForm) (image : Image) (path was bytes : List ℕ) (old new : List Event) → IsOpened form path was image old → GetsVolume form image path was bytes old new → TouchesItAlone form old new
gets-touches form image path was bytes old new opened gets = go gets.has
  where
    go : ((image.place.is_held ≡ true) × IsFileWith image bytes gets.file × Becomes path was gets.file old new) ⊎ ((bytes ≡ image.bytes.items) × (gets.file ≡ was) × ChangesNothing old new)
        → TouchesItAlone form old new
    go (inl (is_held, with, becomes)) = inr (record { place = image.place; path = path; held = opened.held; is_held = is_held; alone = becomes.alone })
    go (inr (same, is, none)) = inl none

part-touches : (form : ImageForm) (old new : List Event) → MayHoldAPart form old new → TouchesItAlone form old new
part-touches form old new part = inr (record { place = part.place; path = part.path; held = part.held; is_held = part.is_held; alone = part.alone })

abbrev pub DoneTouches : ImageForm → (Bool → List Event → List Event → Type 0) → Type 0
DoneTouches form done = (ok : Bool) (old new : List Event) → done ok old new → TouchesItAlone form old new

-- in whichever way it ends
pub ends-touches : (form : ImageForm) (done : Bool → List Event → List Event → Type 0) → DoneTouches form done → (result : Result (Unit {0}) Ending) (old new : List Event) → EndsAs form done result old new
    → TouchesItAlone form old new
ends-touches form done touches (Ok it) old new s = touches true old new s
ends-touches form done touches (Err Unreported) old new s = touches false old new s
ends-touches form done touches (Err NoReader) old new s = touches false old new s
ends-touches form done touches (Err (NotWritten it AsItWas)) old new s = s.touches
ends-touches form done touches (Err (NotWritten it InPart)) old new s = part-touches form old new s
ends-touches form done touches (Err (Line it)) old new s = inl s.0
ends-touches form done touches (Err (Fault it)) old new s = inl s.0
ends-touches form done touches (Err Failure) old new s = inl s.0
ends-touches form done touches (Err (Busy it)) old new s = inl s.0
ends-touches form done touches (Err Misuse) old new s = inl s.0
ends-touches form done touches (Err FullOutput) old new s = absurd s

aloud-touches : (form : ImageForm) (result : Result (Unit {0}) Ending) (old new : List Event) → RefusesAloud result old new → TouchesItAlone form old new
aloud-touches form (Ok it) old new p = absurd p
aloud-touches form (Err Failure) old new p = inl p.files
aloud-touches form (Err FullOutput) old new p = inl p.files
aloud-touches form (Err (Line it)) old new p = absurd p
aloud-touches form (Err (Fault it)) old new p = absurd p
aloud-touches form (Err (Busy it)) old new p = absurd p
aloud-touches form (Err (NotWritten it left)) old new p = absurd p
aloud-touches form (Err Unreported) old new p = absurd p
aloud-touches form (Err NoReader) old new p = absurd p
aloud-touches form (Err Misuse) old new p = absurd p

-- it may print a refusal of its own
pub patch-touches : (form : ImageForm) (done : Bool → List Event → List Event → Type 0) → DoneTouches form done → (result : Result (Unit {0}) Ending) (old new : List Event)
    → EndsAs form done result old new ⊎ RefusesAloud result old new → TouchesItAlone form old new
patch-touches form done touches result old new (inl s) = ends-touches form done touches result old new s
patch-touches form done touches result old new (inr p) = aloud-touches form result old new p

-- ## New files

first-touches : (name file : List ℕ) (old new : List Event) → IsFirst name file old new → TouchesOne old new
first-touches name file old new first = (first.path, first.alone)

pub file-touches : (is_new : Bool) (name file : List ℕ) (old new : List Event) → GetsFile is_new name file old new → TouchesOne old new
file-touches true name file old new first = first-touches name file old new first
file-touches false name file old new (inl first) = first-touches name file old new first
file-touches false name file old new (inr (path, becomes)) = (path, (becomes []).alone)

none-touches : (old new : List Event) → MakesNone old new → TouchesOne old new
none-touches old new none = (none.path, none.alone)

abbrev MadeTouches : (Bool → List Event → List Event → Type 0) → Type 0
MadeTouches done = (ok : Bool) (old new : List Event) → done ok old new → TouchesOne old new

pub made-touches : (done : Bool → List Event → List Event → Type 0) → MadeTouches done → (result : Result (Unit {0}) Ending) (old new : List Event) → EndsMade done result old new → TouchesOne old new
made-touches done touches (Ok it) old new s = touches true old new s
made-touches done touches (Err Unreported) old new s = touches false old new s
made-touches done touches (Err NoReader) old new s = touches false old new s
made-touches done touches (Err (NotWritten it AsItWas)) old new s = none-touches old new s
made-touches done touches (Err (NotWritten it InPart)) old new s = (s.path, s.alone)
made-touches done touches (Err (Line it)) old new s = none-touches old new s
made-touches done touches (Err (Fault it)) old new s = none-touches old new s
made-touches done touches (Err (Busy it)) old new s = none-touches old new s
made-touches done touches (Err Failure) old new s = absurd s
made-touches done touches (Err FullOutput) old new s = absurd s
made-touches done touches (Err Misuse) old new s = absurd s

has-touches : (name : List ℕ) (form : ImageForm) (is_whole ok : Bool) (old new : List Event) → HasRescued name form is_whole ok old new → TouchesOne old new
has-touches name form is_whole ok old new it = (it.has.path, it.has.alone)

pub rescue-touches : (name : List ℕ) (form : ImageForm) (result : Result (Unit {0}) Ending) (old new : List Event) → EndsRescued name form result old new → TouchesOne old new
rescue-touches name form (Ok it) old new s = has-touches name form true true old new s
rescue-touches name form (Err Failure) old new (inl s) = has-touches name form false true old new s
rescue-touches name form (Err Failure) old new (inr s) = has-touches name form false false old new s
rescue-touches name form (Err Unreported) old new (inl s) = has-touches name form true false old new s
rescue-touches name form (Err Unreported) old new (inr s) = has-touches name form false false old new s
rescue-touches name form (Err NoReader) old new s = has-touches name form true false old new s
rescue-touches name form (Err (NotWritten it AsItWas)) old new s = none-touches old new s
rescue-touches name form (Err (NotWritten it InPart)) old new s = absurd s
rescue-touches name form (Err (Line it)) old new s = none-touches old new s
rescue-touches name form (Err (Fault it)) old new s = none-touches old new s
rescue-touches name form (Err (Busy it)) old new s = none-touches old new s
rescue-touches name form (Err FullOutput) old new s = absurd s
rescue-touches name form (Err Misuse) old new s = absurd s
