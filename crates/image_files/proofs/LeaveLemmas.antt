-- Commands that have changed no file where they are refused.
use Rattle.std.proofs.Common.{◌≡◌, ◌∙◌, ◌∷◌, ℕ, Bool, true, false, Option, None, Some, Result, Ok, Err, List, ap, inl, inr}
use Rattle.std.specs.Str.{bytes_eq}
use Rattle.hosts.specs.Event.{Event, tell_call}
use Rattle.hosts.specs.Streams.{changes_at}
use Rattle.image_kind.specs.Keeping.{keeps_kind}
use Rattle.image_kind.specs.declared.judging.Judgment.{Judgment}
use Rattle.outcome.specs.Hints.{image_note}
use Rattle.outcome.specs.declared.contents.Content.TheVariants as content
use Rattle.outcome.specs.declared.endings.Ending.{Ending}
use Rattle.outcome.specs.declared.endings.Ending.TheVariants.{Line, Fault, Failure, Busy, NotWritten, FullOutput, Unreported, NoReader, Misuse}
use Rattle.outcome.specs.declared.hints.ImageNote.{ImageNote}
use Rattle.archive_files.specs.declared.faults.ArchiveFault.{ArchiveFault}
use Rattle.program_tasks.specs.declared.forms.ImageForm.{ImageForm}
use Rattle.image_files.specs.Answers.{Answers, Refuses}
use Rattle.image_files.specs.Notes.{TellsOfImage}
use Rattle.image_files.specs.Reading.{Opens}
use Rattle.image_files.specs.Saving.{Reports, SavesIf, Stores, Writes, WritesIf}
use Rattle.image_files.specs.Work.{Then}
use Rattle.image_files.specs.declared.images.Image.{Image}
use Rattle.image_files.specs.Laws.{KeepsFiles, ChangesNothing, LeavesFiles, is_refusal}
use Rattle.image_files.proofs.KeepLemmas.{opens-keeps}

pub same : (old new : List Event) → new ≡ old → ChangesNothing old new
same old new is = λ path. ap (λ (events : List Event). changes_at path events) is

-- after a note, or after nothing
pub told : (ok : Bool) (text : List ℕ) (old new : List Event) → new ≡ tell_call ok text ∷ old → ChangesNothing old new
told ok text old new is = λ path. ap (λ (events : List Event). changes_at path events) is

pub then-leaves : {A B : Type 0} (first : List Event → Result A Ending → List Event → Type 0) (next : A → List Event → Result B Ending → List Event → Type 0)
    → KeepsFiles first → ((a : A) → LeavesFiles (next a)) → LeavesFiles (Then first next)
then-leaves first next f n old ending new (inl ends) is = f old (Err ending) new ends
then-leaves first next f n old ending new (inr it) is = λ path. n it.given it.between ending new it.after is path ∙ f old (Ok it.given) it.between it.done path

pub tells-never : (note : Option ImageNote) (old new : List Event) → TellsOfImage note old new → ChangesNothing old new
tells-never None old new p = same old new p
tells-never (Some note) old new p = told p.0 _ old new p.1

pub refuses-never : (fault : ArchiveFault) (size : ℕ) (old : List Event) (ending : Ending) (new : List Event) → Refuses fault size old ending new → ChangesNothing old new
refuses-never fault size old ending new p = tells-never (image_note size fault) old new p.1

pub answers-never : {A : Type 0} (gives : Result A ArchiveFault → Type 0) (size : ℕ) → KeepsFiles (Answers gives size)
answers-never gives size old (Ok it) new p = same old new p.1
answers-never gives size old (Err ending) new (fault, gave, p) = refuses-never fault size old ending new p

pub opens-never : (form : ImageForm) → KeepsFiles (Opens form)
opens-never form = opens-keeps form

-- ## What is saved

never : false ≡ true → ⊥
never is = cc

writes-no-refusal : (path name file : List ℕ) (old : List Event) (ending : Ending) (new : List Event) → Writes content.Image path name file old (Err ending) new → is_refusal ending ≡ true → ⊥
writes-no-refusal path name file old (Line it) new p is = p
writes-no-refusal path name file old (Fault it) new p is = p
writes-no-refusal path name file old Failure new p is = p
writes-no-refusal path name file old (Busy it) new p is = p
writes-no-refusal path name file old (NotWritten it left) new p is = never is
writes-no-refusal path name file old FullOutput new p is = never is
writes-no-refusal path name file old Unreported new p is = never is
writes-no-refusal path name file old NoReader new p is = never is
writes-no-refusal path name file old Misuse new p is = p

reports-no-refusal : (bytes : List ℕ) (old : List Event) (ending : Ending) (new : List Event) → Reports bytes old (Err ending) new → is_refusal ending ≡ true → ⊥
reports-no-refusal bytes old (Line it) new p is = p
reports-no-refusal bytes old (Fault it) new p is = p
reports-no-refusal bytes old Failure new p is = p
reports-no-refusal bytes old (Busy it) new p is = p
reports-no-refusal bytes old (NotWritten it left) new p is = never is
reports-no-refusal bytes old FullOutput new p is = never is
reports-no-refusal bytes old Unreported new p is = never is
reports-no-refusal bytes old NoReader new p is = never is
reports-no-refusal bytes old Misuse new p is = p

-- a change is refused where the file would be read as something else, and then no file is changed
writes-leave : (keeps : Bool) (judgment : Judgment) (path name file : List ℕ) (old : List Event) (ending : Ending) (new : List Event) → WritesIf keeps judgment path name file old (Err ending) new → is_refusal ending ≡ true → ChangesNothing old new
writes-leave true judgment path name file old ending new p is = absurd (writes-no-refusal path name file old ending new p is)
writes-leave false judgment path name file old ending new (ends, ok, p) is = told ok _ old new p

saves-leave : (is_same : Bool) (image : Image) (bytes : List ℕ) (old : List Event) (ending : Ending) (new : List Event) → SavesIf is_same image bytes old (Err ending) new → is_refusal ending ≡ true → ChangesNothing old new
saves-leave true image bytes old ending new (done, stays) is = absurd done
saves-leave false image bytes old ending new (inl (refused, told)) is = absurd (never (rw refused at is))
saves-leave false image bytes old ending new (inr (held, file, laid, p)) is = writes-leave (keeps_kind image.judgment file) image.judgment image.place.path.bytes.items image.place.name.bytes.items file old ending new p is

pub stores-leaves : (image : Image) (bytes lines : List ℕ) → LeavesFiles (Stores image bytes lines)
stores-leaves image bytes lines old ending new (inl p) is = saves-leave (bytes_eq image.bytes.items bytes) image bytes old ending new p is
stores-leaves image bytes lines old ending new (inr it) is = absurd (reports-no-refusal lines it.between ending new it.after is)
