-- The steps that read and print change no file.
use Rattle.std.proofs.Common.{◌≡◌, ◌∙◌, ℕ, Bool, true, false, Option, None, Some, Result, Ok, Err, List, [], ◌∷◌, ap, refl, inl, inr}
use Rattle.hosts.specs.Event.{Event, Look, TimeOf, failed_call}
use Rattle.hosts.specs.Place.{Step, about}
use Rattle.hosts.specs.Streams.{folders, changes_at}
use Rattle.hosts.specs.declared.faults.HostFault.TheVariants as host
use Rattle.outcome.specs.Hints.{image_note}
use Rattle.outcome.specs.declared.contents.Content.TheVariants as content
use Rattle.outcome.specs.declared.endings.Ending.{Ending}
use Rattle.outcome.specs.declared.endings.Ending.TheVariants.{Line, Fault, Failure, Busy, NotWritten, FullOutput, Unreported, NoReader, Misuse}
use Rattle.outcome.specs.declared.hints.ImageNote.{ImageNote}
use Rattle.archive_files.specs.declared.faults.ArchiveFault.{ArchiveFault}
use Rattle.image_kind.specs.declared.kinds.ImageKind.{ImageKind}
use Rattle.std.specs.Global.{Vec}
use Rattle.image_kind.specs.Judging.{judged_kind}
use Rattle.image_kind.specs.Keeping.{two_readings}
use Rattle.image_kind.specs.declared.judging.Judgment.{Judgment}
use Rattle.image_kind.specs.Margins.{body_of, margins_by}
use Rattle.image_kind.specs.Volumes.{script_kind, volumes_in, volumes_with}
use Rattle.image_kind.specs.declared.margins.Margins.{Margins}
use Rattle.image_kind.specs.declared.volumes.Volumes.{Volumes}
use Rattle.disk_layouts.specs.declared.layouts.Layout.{Layout}
use Rattle.image_kind.specs.Lines.{mended_lines}
use Rattle.image_kind.specs.declared.volumes.Volumes.TheVariants.{One, Both}
use Rattle.program_tasks.specs.declared.forms.ImageForm.{ImageForm}
use Rattle.image_files.specs.Answers.{Refuses}
use Rattle.image_files.specs.Dates.{DatesFile}
use Rattle.image_files.specs.Laws.{KeepsFiles}
use Rattle.image_files.specs.Judging.{Judges, JudgesBy}
use Rattle.image_files.specs.Mending.{Mends, TellsLines}
use Rattle.image_files.specs.Notes.{TellsOfImage}
use Rattle.image_files.specs.Inputs.{TakesInput}
use Rattle.image_files.specs.Reading.{IsUnread, FindsIn, FindsOne, Holds, HoldsAt, Looks, LooksAt, LooksIf, LooksImage, MakesOne, hold_calls, looked_name, reading_of, with_lock_note, JudgesForScript, JudgesLooked, JudgesOpened, IsJudged, MakesOf, Opens, OpensForScript, judgment_of, IsUnheldImage}
use Rattle.image_files.specs.Reasons.{is_untold, is_want_of_memory}
use Rattle.image_files.specs.Saving.{Prints}
use Rattle.image_files.specs.Waiting.{AreBusy, TellsBusy, Within}
use Rattle.image_files.specs.Work.{After, Then, Purely}
use Rattle.image_files.specs.declared.images.Image.{Image}
use Rattle.image_files.specs.declared.mending.ImageReading.{ImageReading}
use Rattle.image_files.specs.declared.reading.ImagePlace.{ImagePlace}
use Rattle.image_files.proofs.ReasonLemmas.{unless-keeps}
use Rattle.outcome.specs.declared.reasons.Reason.TheVariants as reason

pub same : {old new : List Event} (path : List ℕ) → new ≡ old → changes_at path new ≡ changes_at path old
same path is = ap (λ (events : List Event). changes_at path events) is

-- the part of it on the file, and that on the folders
pub of-file : {a b : List Step × List (Bool × List ℕ)} (path : List ℕ) → a ≡ b → a.0 ≡ b.0
of-file path is = ap (λ (both : List Step × List (Bool × List ℕ)). both.0) is

pub of-folders : {a b : List Step × List (Bool × List ℕ)} (path : List ℕ) → a ≡ b → a.1 ≡ b.1
of-folders path is = ap (λ (both : List Step × List (Bool × List ℕ)). both.1) is

pub of-both : (path : List ℕ) (old new : List Event) → about path new ≡ about path old → folders new ≡ folders old → changes_at path new ≡ changes_at path old
of-both path old new file made = ap (λ (steps : List Step). (steps, folders new)) file ∙ ap (λ (all : List (Bool × List ℕ)). (about path old, all)) made

pub then-keeps : {A B : Type 0} (first : List Event → Result A Ending → List Event → Type 0) (next : A → List Event → Result B Ending → List Event → Type 0)
    → KeepsFiles first → ((given : A) → KeepsFiles (next given)) → KeepsFiles (Then first next)
then-keeps first next f n old (Ok r) new (inl ends) path = absurd ends
then-keeps first next f n old (Err e) new (inl ends) path = f old (Err e) new ends path
then-keeps first next f n old result new (inr it) path = n it.given it.between result new it.after path ∙ f old (Ok it.given) it.between it.done path

pub after-keeps : {A : Type 0} (are_sound : Bool) (part : List Event → Result A Ending → List Event → Type 0) → KeepsFiles part → KeepsFiles (After are_sound part)
after-keeps are_sound part keeps old (Ok it) new p path = keeps old (Ok it) new p path
after-keeps are_sound part keeps old (Err ended) new (ending, p, is) path = keeps old (Err ending) new p path

pub purely-keeps : {A : Type 0} (gives : Result A Ending → Type 0) → KeepsFiles (Purely gives)
purely-keeps gives old result new p path = same path p.1

pub date-keeps : (is_dated : Bool) (name : List ℕ) → KeepsFiles (DatesFile is_dated name)
date-keeps false name old result new p path = same path p.1
date-keeps true name old (Ok date) new (seconds, is, p) path = same path p
date-keeps true name old (Err ending) new (fault, is, p) path = unless-keeps (is_want_of_memory fault) (reason.Fault fault) name (failed_call TimeOf name fault ∷ old) new p path

-- ## What is printed

pub prints-keeps : (bytes : List ℕ) → KeepsFiles (Prints bytes)
prints-keeps bytes old (Ok it) new p path = same path p
prints-keeps bytes old (Err (Line it)) new p path = absurd p
prints-keeps bytes old (Err (Fault it)) new p path = absurd p
prints-keeps bytes old (Err Failure) new p path = absurd p
prints-keeps bytes old (Err (Busy it)) new p path = absurd p
prints-keeps bytes old (Err (NotWritten it left)) new p path = absurd p
prints-keeps bytes old (Err FullOutput) new p path = same path p
prints-keeps bytes old (Err Unreported) new p path = absurd p
prints-keeps bytes old (Err NoReader) new p path = same path p
prints-keeps bytes old (Err Misuse) new p path = absurd p

tells-keeps : (path : List ℕ) (note : Option ImageNote) (old new : List Event) → TellsOfImage note old new → changes_at path new ≡ changes_at path old
tells-keeps path None old new p = same path p
tells-keeps path (Some note) old new p = same path p.1

pub refuses-keeps : (path : List ℕ) (why : ArchiveFault) (size : ℕ) (old : List Event) (ending : Ending) (new : List Event) → Refuses why size old ending new → changes_at path new ≡ changes_at path old
refuses-keeps path why size old ending new p = tells-keeps path (image_note size why) old new p.1

-- ## What is read

pub looks-keeps : (name shown : List ℕ) → KeepsFiles (Looks name shown)
unfolding IsUnread
looks-keeps name shown old (Ok bytes) new p path = same path p.1
looks-keeps name shown old (Err ending) new (inl (fault, is, p)) path = unless-keeps (is_want_of_memory fault) (reason.Fault fault) shown (failed_call Look name fault ∷ old) new p path
looks-keeps name shown old (Err ending) new (inr (bytes, many, inl (is, ok, p))) path = same path p
looks-keeps name shown old (Err ending) new (inr (bytes, many, inr (is, p))) path = same path p

finds-keeps : (volumes : Volumes) (body : List ℕ) → KeepsFiles (FindsIn volumes body)
finds-keeps (One layout) body old result new p path = same path p.1
finds-keeps Both body old (Ok image) new p path = absurd p
finds-keeps Both body old (Err ending) new (is, ok, p) path = same path p

-- the notes on what is mended are none
pub lines-keep : (lines : List ℕ) (old new : List Event) → TellsLines lines old new → (path : List ℕ) → changes_at path new ≡ changes_at path old
lines-keep [] old new p path = same path p
lines-keep (c ∷ lines) old new p path = same path p.1

mends-keeps : (given : Option Layout) (is_plain : Bool) (name file : List ℕ) → KeepsFiles (Mends given is_plain name file)
mends-keeps given is_plain name file old (Ok bytes) new p path = lines-keep (mended_lines name p.0) old new p.3 path
mends-keeps given is_plain name file old (Err ending) new p path = same path p.1

pub looks-if-keeps : (is_lenient : Bool) (given : Option Layout) (is_plain : Bool) (name : List ℕ) → KeepsFiles (LooksIf is_lenient given is_plain name)
looks-if-keeps true given is_plain name = then-keeps (Looks name name) (λ file. Mends given is_plain name file.items) (looks-keeps name name) (λ file. mends-keeps given is_plain name file.items)
looks-if-keeps false given is_plain name = looks-keeps name name

judges-by-keeps : (name : List ℕ) (two : Option (ImageKind × ImageKind)) → KeepsFiles (JudgesBy name two)
judges-by-keeps name None old (Ok it) new p path = same path p
judges-by-keeps name None old (Err ending) new p path = absurd p
judges-by-keeps name (Some two) old (Ok it) new p path = absurd p
judges-by-keeps name (Some two) old (Err ending) new (inl (is, ok, p)) path = same path p
judges-by-keeps name (Some two) old (Err ending) new (inr (is, p)) path = same path p

pub judges-keeps : (name : List ℕ) (given : Option Layout) (is_plain : Bool) (file : List ℕ) → KeepsFiles (Judges name given is_plain file)
judges-keeps name given is_plain file = judges-by-keeps name (two_readings given is_plain file)

pub judged-keeps : (reading : ImageReading) (name : List ℕ) (file : Vec ℕ) → KeepsFiles (JudgesLooked reading name file)
judged-keeps reading name file = then-keeps (Judges name reading.layout reading.is_plain file.items) (λ it. Purely (IsJudged file)) (judges-keeps name reading.layout reading.is_plain file.items) (λ it. purely-keeps (IsJudged file))

pub looks-image-keeps : (reading : ImageReading) (name : List ℕ) → KeepsFiles (LooksImage reading name)
looks-image-keeps reading name = then-keeps (LooksIf reading.is_lenient reading.layout reading.is_plain name) (λ file. JudgesLooked reading name file)
    (looks-if-keeps reading.is_lenient reading.layout reading.is_plain name) (λ file. judged-keeps reading name file)

pub looks-at-keeps : (form : ImageForm) → KeepsFiles (LooksAt form)
looks-at-keeps form = then-keeps (LooksImage (reading_of form) form.file.bytes.items) (λ file. FindsOne form.layout form.is_plain file.items)
    (looks-image-keeps (reading_of form) form.file.bytes.items) (λ file. finds-keeps (volumes_in form.layout form.is_plain file.items) (body_of form.layout form.is_plain file.items))

pub input-keeps : KeepsFiles TakesInput
input-keeps old (Ok bytes) new p path = same path p.1
input-keeps old (Err ending) new (inl (fault, is, p)) path = same path p
input-keeps old (Err ending) new (inr (bytes, many, inl (is, ok, p))) path = same path p
input-keeps old (Err ending) new (inr (bytes, many, inr (is, p))) path = same path p

noted-lock : (has ok : Bool) (path : List ℕ) (old : List Event) → changes_at path (with_lock_note content.Image has ok old) ≡ changes_at path old
noted-lock true ok path old = refl
noted-lock false ok path old = refl

held-at : (name path : List ℕ) (place : ImagePlace) (is_held : Bool) (old new : List Event) → HoldsAt name place is_held old new → changes_at path new ≡ changes_at path old
held-at name path place true old new (has, ok, p) = same path p ∙ noted-lock has ok path (hold_calls name place.path.bytes.items has old)
held-at name path place false old new (idle, failed, why, may) = idle.files path

pub holds-keeps : (name : List ℕ) → KeepsFiles (Holds name)
unfolding IsUnheldImage
holds-keeps name old (Ok place) new p path = held-at name path place place.is_held old new p.1
holds-keeps name old (Err ending) new (inl (fault, unheld, (between, idle, failed, why, told))) path =
    unless-keeps (is_untold content.Image fault) (reason.Fault fault) name between new told path ∙ idle.files path
holds-keeps name old (Err ending) new (inr (is, p)) path = same path p

-- ## Tries

busy-keeps : {A : Type 0} (command : List Event → Result A Ending → List Event → Type 0) → KeepsFiles command → (tries : List (List Event)) (old new : List Event) → AreBusy command tries old new
    → (path : List ℕ) → changes_at path new ≡ changes_at path old
busy-keeps command keeps [] old new is path = same path is
busy-keeps command keeps (before ∷ earlier) old new (busy, after, last, is) path =
    same path is ∙ keeps before (Err (Busy content.Image)) after last path ∙ busy-keeps command keeps earlier old before busy path

told-keeps : {A : Type 0} (name : List ℕ) (result : Result A Ending) (old new : List Event) → TellsBusy name result old new → (path : List ℕ) → changes_at path new ≡ changes_at path old
told-keeps name result old new (inl p) path = same path p.1
told-keeps name result old new (inr p) path = unless-keeps false (reason.Fault host.Busy) name old new p.1 path

pub within-keeps : {A : Type 0} (seconds : ℕ) (name : List ℕ) (command : List Event → Result A Ending → List Event → Type 0) → KeepsFiles command → KeepsFiles (Within seconds name command)
within-keeps seconds name command keeps old result new w path =
    told-keeps name result w.after new w.told path ∙ keeps w.between result w.after w.last path ∙ busy-keeps command keeps w.tries old w.between w.busy path

-- ## Images

makes-keeps : (place : ImagePlace) (judgment : Judgment) (volumes : Volumes) (margins : Margins) (file : List ℕ) → KeepsFiles (MakesOne place judgment volumes margins file)
makes-keeps place judgment (One layout) margins file old result new p path = same path p.1
makes-keeps place judgment Both margins file old (Ok image) new p path = absurd p
makes-keeps place judgment Both margins file old (Err ending) new (is, ok, p) path = same path p

makes-of-keeps : (place : ImagePlace) (form : ImageForm) (file : List ℕ) (kind : Option ImageKind) → KeepsFiles (MakesOf place form file kind)
makes-of-keeps place form file kind = makes-keeps place (judgment_of form file) (volumes_with form.layout kind) (margins_by form.layout kind) file

judges-of-keeps : (kind_in : List ℕ → Option ImageKind) (place : ImagePlace) (form : ImageForm) (file : List ℕ) → KeepsFiles (Then (Judges form.file.bytes.items form.layout form.is_plain file) (λ it. MakesOf place form file (kind_in file)))
judges-of-keeps kind_in place form file = then-keeps (Judges form.file.bytes.items form.layout form.is_plain file) (λ it. MakesOf place form file (kind_in file))
    (judges-keeps form.file.bytes.items form.layout form.is_plain file) (λ it. makes-of-keeps place form file (kind_in file))

opens-so-keeps : (form : ImageForm) (makes : ImagePlace → List ℕ → List Event → Result Image Ending → List Event → Type 0) → ((place : ImagePlace) (file : List ℕ) → KeepsFiles (makes place file))
    → KeepsFiles (Then (Holds form.file.bytes.items) (λ place. Then (Looks (looked_name place form.file.bytes.items) form.file.bytes.items) (λ file. makes place file.items)))
opens-so-keeps form makes keeps = then-keeps (Holds form.file.bytes.items) (λ place. Then (Looks (looked_name place form.file.bytes.items) form.file.bytes.items) (λ file. makes place file.items))
    (holds-keeps form.file.bytes.items)
    (λ place. then-keeps (Looks (looked_name place form.file.bytes.items) form.file.bytes.items) (λ file. makes place file.items)
    (looks-keeps (looked_name place form.file.bytes.items) form.file.bytes.items) (λ file. keeps place file.items))

pub opens-keeps : (form : ImageForm) → KeepsFiles (Opens form)
opens-keeps form = opens-so-keeps form (λ place. JudgesOpened place form) (λ place. judges-of-keeps (judged_kind form.is_plain) place form)

pub opens-for-script-keeps : (form : ImageForm) → KeepsFiles (OpensForScript form)
opens-for-script-keeps form = opens-so-keeps form (λ place. JudgesForScript place form) (λ place. judges-of-keeps (script_kind form.is_plain) place form)
