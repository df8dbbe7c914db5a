-- What an exit status tells of how a command ended.
use Rattle.std.proofs.Common.{◌≡◌, ◌≢◌, ◌∙◌, ◌≤◌, ◌⊎◌, ℕ, suc, Bool, true, false, if◌then◌else◌, nat_eq, Option, None, Some, Result, Ok, Err, List, [], ◌∷◌, refl, sym, ap, subst, arith, inl, inr, true≢false}
use Rattle.std.specs.Global.{Vec}
use Rattle.byte_reader.specs.Readings.{Reading}
use Rattle.hosts.specs.Event.{Event}
use Rattle.hosts.specs.Place.{Step, about, replay}
use Rattle.hosts.specs.Saving.{IsAsItWas, StaysAsItWas}
use Rattle.hosts.specs.Streams.{output, changes_at}
use Rattle.hosts.specs.declared.faults.Unwritten.TheVariants as unwritten
use Rattle.refusals.specs.declared.faults.SessionFault.{SessionFault}
use Rattle.refusals.specs.declared.faults.SessionFault.TheVariants as session
use Rattle.outcome.specs.Notes.{text_on_file}
use Rattle.outcome.specs.Outcomes.{Writing, ending_outcome, fault_outcome, outcome_of}
use Rattle.outcome.specs.Shown.{writing_of, writing_on}
use Rattle.outcome.specs.declared.contents.Content.{Content}
use Rattle.outcome.specs.declared.contents.Content.TheVariants.{Image as Held}
use Rattle.outcome.specs.declared.endings.Ending.{Ending}
use Rattle.outcome.specs.declared.endings.Ending.TheVariants.{Line, Fault, Failure, Busy, NotWritten, FullOutput, Unreported, NoReader, Misuse}
use Rattle.outcome.specs.declared.notes.FileNote.{FileNote}
use Rattle.outcome.specs.declared.outcomes.Outcome.{Outcome}
use Rattle.outcome.specs.declared.outcomes.Stream.{Stream}
use Rattle.outcome.specs.declared.outcomes.Stream.TheVariants.{Output, Errors}
use Rattle.outcome.specs.Streams.{gives_data}
use Rattle.change_commands.specs.declared.patches.WordPatch.{WordPatch}
use Rattle.archive_files.specs.Asking.{Target}
use Rattle.program_tasks.specs.declared.forms.CopyForm.{CopyForm}
use Rattle.program_tasks.specs.declared.forms.CreateForm.{CreateForm}
use Rattle.program_tasks.specs.declared.forms.DeleteForm.{DeleteForm}
use Rattle.program_tasks.specs.declared.forms.ImageForm.{ImageForm}
use Rattle.program_tasks.specs.declared.forms.PutFilesForm.{PutFilesForm}
use Rattle.program_tasks.specs.declared.tasks.AssembleForm.{AssembleForm}
use Rattle.program_tasks.specs.declared.tasks.Task.{Task}
use Rattle.refusals.specs.declared.faults.SessionFault.TheVariants.{Memory}
use Rattle.image_files.specs.Ending.{EndsAfter, EndsInstead, EndsSo, EndsUnread, PrintsLine, PrintsOutcome, TellsLine, with_note}
use Rattle.image_files.specs.Saving.{IsDone, Prints}
use Rattle.image_files.specs.States.{TellsState, state_at_end, state_refused}
use Rattle.image_files.specs.declared.states.ChangeState.{ChangeState}
use Rattle.image_files.specs.declared.states.ImageNotes.{ImageNotes}
use Rattle.image_files.specs.Work.{Then}
use Rattle.program.specs.Asking.{AsksFirst, AsksFull, AsksSeen, IsFull}
use Rattle.image_files.specs.Waiting.{AreBusy, Within}
use Rattle.image_files.proofs.KeepLemmas.{of-file}
use Rattle.program.specs.Tasks.{DoesTask, RunsTask}
use Rattle.keeper_laws.specs.Changes.{HasDeleted, HasEmptied, HasPatched, HasRenamed, HasSqueezed}
use Rattle.keeper_laws.specs.Copied.{HasCopied}
use Rattle.keeper_laws.specs.Ended.{AllStay, DoesNothing, EndsAs}
use Rattle.keeper_laws.specs.Made.{HasCreated}
use Rattle.keeper_laws.specs.Stored.{HasStored}
use Rattle.program_laws.specs.Assembled.{HasAssembled}
use Rattle.program_laws.specs.Statuses.{LeavesImage, Means, MeansSo, failed_prints}
use Rattle.program_laws.proofs.QuietLemmas.{busy-told, ends-so, tells-state}

-- ## The status of an ending

status-on : (stream : Stream) (note line : List ℕ) (status : ℕ) → (writing_on stream note line status).status ≡ status
status-on Output note line status = refl
status-on Errors note line status = refl

status-is : (it : Outcome) (writing : Writing) → writing_of it ≡ writing → it.status ≡ writing.status
status-is it writing is = sym (status-on it.stream (text_on_file it.note) it.line.items it.status) ∙ ap (λ (w : Writing). w.status) is

fault-status : (fault : SessionFault) → (fault_outcome false fault).status ≡ 1
fault-status session.BadLine = refl
fault-status session.NoJob = refl
fault-status session.TooManyJobs = refl
fault-status (session.File fault) = refl
fault-status (session.Asm fault) = refl
fault-status (session.Tape fault) = refl
fault-status session.BadText = refl
fault-status session.Reader = refl
fault-status session.Writer = refl
fault-status session.Memory = refl
fault-status session.TooManyBreaks = refl

end-status : (ending : Ending) → (ending_outcome false ending).status ≡ 0 → ⊥
end-status (Line it) is = omega (arith, is)
end-status (Fault it) is = omega (arith, is, fault-status it)
end-status Failure is = omega (arith, is)
end-status (Busy it) is = omega (arith, is)
end-status (NotWritten it left) is = omega (arith, is)
end-status FullOutput is = omega (arith, is)
end-status Unreported is = omega (arith, is)
end-status NoReader is = omega (arith, is)
end-status Misuse is = omega (arith, is)

-- ## What is printed

prints-fail : (line : List ℕ) (old : List Event) (ending : Ending) (new : List Event) → Prints line old (Err ending) new → failed_prints (output new) ≡ suc (failed_prints (output old))
prints-fail line old FullOutput new p = ap (λ (n : List Event). failed_prints (output n)) p
prints-fail line old NoReader new p = ap (λ (n : List Event). failed_prints (output n)) p
prints-fail line old (Line it) new p = absurd p
prints-fail line old (Fault it) new p = absurd p
prints-fail line old Failure new p = absurd p
prints-fail line old (Busy it) new p = absurd p
prints-fail line old (NotWritten it left) new p = absurd p
prints-fail line old Unreported new p = absurd p
prints-fail line old Misuse new p = absurd p

line-fails : (stream : Stream) (line : List ℕ) (old : List Event) (ending : Ending) (new : List Event) → PrintsLine stream line old (Err ending) new → failed_prints (output new) ≡ suc (failed_prints (output old))
line-fails Output line old ending new p = prints-fail line old ending new p
line-fails Errors line old ending new p = absurd p.0

alike : (n m : ℕ) → n ≡ m → m ≤ n
alike n m is = omega (arith, is)

tells-grows : (line : List ℕ) (old new : List Event) → TellsLine line old new → failed_prints (output old) ≤ failed_prints (output new)
tells-grows line old new (inl (utf8, ok, is)) = alike _ _ (ap (λ (n : List Event). failed_prints (output n)) is)
tells-grows line old new (inr (not_utf8, is)) = alike _ _ (ap (λ (n : List Event). failed_prints (output n)) is)

line-grows : (stream : Stream) (line : List ℕ) (old : List Event) (result : Result (Unit {0}) Ending) (new : List Event) → PrintsLine stream line old result new → failed_prints (output old) ≤ failed_prints (output new)
line-grows Output line old (Ok it) new p = alike _ _ (ap (λ (n : List Event). failed_prints (output n)) p)
line-grows Output line old (Err ending) new p = omega (arith, prints-fail line old ending new p)
line-grows Errors line old result new p = tells-grows line old new p.1

noted : (note : Option (FileNote × Content)) (ok : Bool) (old : List Event) → failed_prints (output (with_note note ok old)) ≡ failed_prints (output old)
noted None ok old = refl
noted (Some it) ok old = refl

outcome-fails : (it : Outcome) (old : List Event) (ending : Ending) (new : List Event) → PrintsOutcome it old (Err ending) new → failed_prints (output new) ≡ suc (failed_prints (output old))
outcome-fails it old ending new (ok, p) = line-fails it.stream it.line.items (with_note it.note ok old) ending new p ∙ ap suc (noted it.note ok old)

outcome-grows : (it : Outcome) (old : List Event) (result : Result (Unit {0}) Ending) (new : List Event) → PrintsOutcome it old result new → failed_prints (output old) ≤ failed_prints (output new)
outcome-grows it old result new (ok, p) = omega (arith, line-grows it.stream it.line.items (with_note it.note ok old) result new p, noted it.note ok old)

-- a note of what the image is, and then a line
instead-grows : (state : Option ChangeState) (notes : Option ImageNotes) (ending : Ending) (old told new : List Event) (status : ℕ) → TellsState state notes old told → EndsInstead false ending told new status
    → failed_prints (output old) ≤ failed_prints (output new)
instead-grows state notes ending old told new status tells (other, is, last, prints, so) =
    omega (arith, ap failed_prints (tells-state state notes old told tells).1, outcome-grows other told last new prints)

unread-grows : (state : Option ChangeState) (notes : Option ImageNotes) (refusal : ℕ) (ending : Ending) (old new : List Event) (status : ℕ) → EndsUnread false state notes refusal ending old new status
    → failed_prints (output old) ≤ failed_prints (output new)
unread-grows state notes refusal NoReader old new status p = alike _ _ (ap (λ (n : List Event). failed_prints (output n)) p.0)
unread-grows state notes refusal (Line it) old new status (told, tells, p) = instead-grows state notes (Line it) old told new status tells p
unread-grows state notes refusal (Fault it) old new status (told, tells, p) = instead-grows state notes (Fault it) old told new status tells p
unread-grows state notes refusal Failure old new status (told, tells, p) = instead-grows state notes Failure old told new status tells p
unread-grows state notes refusal (Busy it) old new status (told, tells, p) = instead-grows state notes (Busy it) old told new status tells p
unread-grows state notes refusal (NotWritten it left) old new status (told, tells, p) = instead-grows state notes (NotWritten it left) old told new status tells p
unread-grows state notes refusal FullOutput old new status (told, tells, p) = instead-grows state notes FullOutput old told new status tells p
unread-grows state notes refusal Unreported old new status (told, tells, p) = instead-grows state notes Unreported old told new status tells p
unread-grows state notes refusal Misuse old new status (told, tells, p) = instead-grows state notes Misuse old told new status tells p

after-grows : (state : Option ChangeState) (notes : Option ImageNotes) (given : ℕ) (printed : Result (Unit {0}) Ending) (old new : List Event) (status : ℕ) → EndsAfter false state notes given printed old new status
    → failed_prints (output old) ≤ failed_prints (output new)
after-grows state notes given (Ok it) old new status p = alike _ _ (ap (λ (n : List Event). failed_prints (output n)) p.0)
after-grows state notes given (Err ending) old new status p = unread-grows state notes given ending old new status p

pub grows : (notes : Option ImageNotes) (work : Result (Unit {0}) Ending) (old new : List Event) (status : ℕ) → EndsSo false notes work old new status → failed_prints (output old) ≤ failed_prints (output new)
grows notes work old new status e = omega (
  arith,
  ap failed_prints (tells-state (state_at_end work) notes old e.told e.tells).1,
  outcome-grows e.outcome e.told e.printed e.between e.prints,
  after-grows (state_refused work) notes e.outcome.status e.printed e.between new status e.after,
)

-- ## Status 0

instead-some : (ending : Ending) (told new : List Event) (status : ℕ) → EndsInstead false ending told new status → status ≡ 0 → ⊥
instead-some ending told new status (other, is, last, prints, so) zero = end-status ending (sym (status-is other (outcome_of false (Err ending)) is) ∙ sym so ∙ zero)

unread-at : (refusal : ℕ) (is : Bool) → nat_eq refusal 0 ≡ is → (if is then 141 else refusal) ≡ 0 → ⊥
unread-at refusal true same zero = omega (arith, zero)
unread-at refusal false same zero = true≢false (subst (λ (n : ℕ). nat_eq n 0 ≡ false) zero same)

unread-some : (state : Option ChangeState) (notes : Option ImageNotes) (refusal : ℕ) (ending : Ending) (old new : List Event) (status : ℕ) → EndsUnread false state notes refusal ending old new status → status ≡ 0 → ⊥
unread-some state notes refusal NoReader old new status p zero = unread-at refusal (nat_eq refusal 0) refl (sym p.1 ∙ zero)
unread-some state notes refusal (Line it) old new status (told, tells, p) zero = instead-some (Line it) told new status p zero
unread-some state notes refusal (Fault it) old new status (told, tells, p) zero = instead-some (Fault it) told new status p zero
unread-some state notes refusal Failure old new status (told, tells, p) zero = instead-some Failure told new status p zero
unread-some state notes refusal (Busy it) old new status (told, tells, p) zero = instead-some (Busy it) told new status p zero
unread-some state notes refusal (NotWritten it left) old new status (told, tells, p) zero = instead-some (NotWritten it left) told new status p zero
unread-some state notes refusal FullOutput old new status (told, tells, p) zero = instead-some FullOutput told new status p zero
unread-some state notes refusal Unreported old new status (told, tells, p) zero = instead-some Unreported told new status p zero
unread-some state notes refusal Misuse old new status (told, tells, p) zero = instead-some Misuse told new status p zero

-- the status is that of the work's ending, or of the print that failed
status-zero : (ending : Ending) (outcome : Outcome) (state : Option ChangeState) (notes : Option ImageNotes) → writing_of outcome ≡ outcome_of false (Err ending) → (printed : Result (Unit {0}) Ending) (old new : List Event) (status : ℕ)
    → EndsAfter false state notes outcome.status printed old new status → status ≡ 0 → ⊥
status-zero ending outcome state notes is (Ok it) old new status p zero = end-status ending (sym (status-is outcome (outcome_of false (Err ending)) is) ∙ sym p.1 ∙ zero)
status-zero ending outcome state notes is (Err why) old new status p zero = unread-some state notes outcome.status why old new status p zero

pub zero-done : (notes : Option ImageNotes) (work : Result (Unit {0}) Ending) (old new : List Event) (status : ℕ) → EndsSo false notes work old new status → status ≡ 0 → IsDone work
zero-done notes (Ok it) old new status e zero = tt
zero-done notes (Err ending) old new status e zero = absurd (status-zero ending e.outcome (state_refused (Err ending)) notes e.is e.printed e.between new status e.after zero)

-- a command that ended well has another status only where a print failed
after-fails : (outcome : Outcome) (state : Option ChangeState) (notes : Option ImageNotes) → outcome.status ≡ 0 → (printed : Result (Unit {0}) Ending) (old between new : List Event) (status : ℕ) → PrintsOutcome outcome old printed between
    → EndsAfter false state notes outcome.status printed between new status → status ≢ 0 → suc (failed_prints (output old)) ≤ failed_prints (output new)
after-fails outcome state notes zero (Ok it) old between new status prints p other = absurd (other (p.1 ∙ zero))
after-fails outcome state notes zero (Err ending) old between new status prints p other =
    omega (arith, outcome-fails outcome old ending between prints, unread-grows state notes outcome.status ending between new status p)

pub done-fails : (notes : Option ImageNotes) (it : Unit {0}) (old new : List Event) (status : ℕ) → EndsSo false notes (Ok it) old new status → status ≢ 0 → suc (failed_prints (output old)) ≤ failed_prints (output new)
done-fails notes it old new status e other = omega (
  arith,
  ap failed_prints (tells-state None notes old e.told e.tells).1,
  after-fails e.outcome None notes (status-is e.outcome (outcome_of false (Ok it)) e.is) e.printed e.told e.between new status e.prints e.after other,
)

-- ## A question before

seen-nothing : (name : List ℕ) (input : Reading) (is : Bool) (old : List Event) (result : Result (Unit {0}) Ending) (new : List Event) → AsksFull name input is old result new → DoesNothing old new
seen-nothing name input false old result new p = (λ path. ap (λ (n : List Event). changes_at path n) p.1, ap output p.1)
seen-nothing name input true old (Ok it) new (is, ok, p) = (λ path. ap (λ (n : List Event). changes_at path n) p, ap output p)
seen-nothing name input true old (Err ending) new (inl (is, so, ok, p)) = (λ path. ap (λ (n : List Event). changes_at path n) p, ap output p)
seen-nothing name input true old (Err ending) new (inr p) = (λ path. ap (λ (n : List Event). changes_at path n) p.1, ap output p.1)

full-nothing : (name : List ℕ) (is : Bool) (old new : List Event) → IsFull name is old new → DoesNothing old new
full-nothing name is old new (inl (bytes, so, p)) = (λ path. ap (λ (n : List Event). changes_at path n) p, ap output p)
full-nothing name is old new (inr (fault, so, p)) = (λ path. ap (λ (n : List Event). changes_at path n) p, ap output p)

pub nothing-joined : (old mid new : List Event) → DoesNothing old mid → DoesNothing mid new → DoesNothing old new
nothing-joined old mid new first next = (λ path. next.0 path ∙ first.0 path, next.1 ∙ first.1)

asked-nothing : (name : List ℕ) (input : Reading) (is : Bool) (old : List Event) (result : Result (Unit {0}) Ending) (new : List Event) → AsksSeen name input is old result new → DoesNothing old new
asked-nothing name input false old result new p = (λ path. ap (λ (n : List Event). changes_at path n) p.1, ap output p.1)
asked-nothing name input true old (Ok it) new (inl p) = absurd p
asked-nothing name input true old (Err ending) new (inl p) = absurd p
asked-nothing name input true old result new (inr p) =
    nothing-joined old p.between new (full-nothing name p.given old p.between p.done) (seen-nothing name input p.given p.between result new p.after)

-- who is asked, and answers, has changed no file, and nothing is printed on standard output
pub asks-nothing : (is_typed : Bool) (replaced : Option (List ℕ)) (input : Reading) (old : List Event) (result : Result (Unit {0}) Ending) (new : List Event) → AsksFirst is_typed replaced input old result new → DoesNothing old new
asks-nothing false replaced input old result new p = (λ path. ap (λ (n : List Event). changes_at path n) p.1, ap output p.1)
asks-nothing true None input old result new p = (λ path. ap (λ (n : List Event). changes_at path n) p.1, ap output p.1)
asks-nothing true (Some name) input old (Ok it) new (inl p) = absurd p
asks-nothing true (Some name) input old (Err ending) new (inl p) = absurd p
asks-nothing true (Some name) input old result new (inr p) =
    nothing-joined old p.between new (λ path. ap (λ (n : List Event). changes_at path n) p.done, ap output p.done) (asked-nothing name input p.given p.between result new p.after)

-- ## The meaning of a status

-- an ending means that a command is done, and that no print failed; or that things are left so, or that a print failed
pub record Weighs (leaves : List Event → List Event → Type 0) (done : Bool → List Event → List Event → Type 0) (ends : Result (Unit {0}) Ending → List Event → List Event → Type 0) : Type 0 where
  pub well : (it : Unit {0}) (old new : List Event) → ends (Ok it) old new → done true old new × (failed_prints (output new) ≡ failed_prints (output old))
  pub ill : (ending : Ending) (old new : List Event) → ends (Err ending) old new → leaves old new ⊎ (failed_prints (output new) ≡ suc (failed_prints (output old)))

module _ (tries leaves : List Event → List Event → Type 0) (done : Bool → List Event → List Event → Type 0) (ends : Result (Unit {0}) Ending → List Event → List Event → Type 0) (weighs : Weighs leaves done ends)
    (idle : (old new : List Event) → DoesNothing old new → tries old new) (none : (old new : List Event) → DoesNothing old new → leaves old new)
  where
    zero-of : (work : Result (Unit {0}) Ending) (old new : List Event) → ends work old new → IsDone work → done true old new
    zero-of (Ok it) old new e ended = (weighs.well it old new e).0
    zero-of (Err ending) old new e ended = absurd ended

    unless-failed : (notes : Option ImageNotes) (work : Result (Unit {0}) Ending) (old mid after new : List Event) (status : ℕ) → leaves old mid ⊎ (failed_prints (output mid) ≡ suc (failed_prints (output old)))
        → output after ≡ output mid → EndsSo false notes work after new status → failed_prints (output new) ≡ failed_prints (output old) → leaves old mid
    unless-failed notes work old mid after new status (inl s) told e silent = s
    unless-failed notes work old mid after new status (inr more) told e silent = absurd (omega (arith, more, ap failed_prints told, grows notes work after new status e, silent))

    other-of : (notes : Option ImageNotes) (work : Result (Unit {0}) Ending) (old mid after new : List Event) (status : ℕ) → ends work old mid → output after ≡ output mid → EndsSo false notes work after new status → status ≢ 0
        → failed_prints (output new) ≡ failed_prints (output old) → leaves old mid
    other-of notes (Ok it) old mid after new status s told e other silent = absurd (omega (arith, (weighs.well it old mid s).1, ap failed_prints told, done-fails notes it after new status e other, silent))
    other-of notes (Err ending) old mid after new status s told e other silent = unless-failed notes (Err ending) old mid after new status (weighs.ill ending old mid s) told e silent

    -- after tries a command ended
    pub ended-means : (notes : Option ImageNotes) (work : Result (Unit {0}) Ending) (old start mid between new : List Event) (status : ℕ) → tries old start → ends work start mid → DoesNothing mid between
        → EndsSo false notes work between new status → MeansSo tries leaves done status old new
    ended-means notes work old start mid between new status waited s told e = record {
      start = start;
      waited = waited;
      mid = mid;
      after = λ path. ends-so false notes work between new status e path ∙ told.0 path;
      zero = λ zero. zero-of work start mid s (zero-done notes work between new status e zero);
      other = λ other silent. other-of notes work start mid between new status s told.1 e other silent;
    }

    -- it was refused before it began
    pub refused-means : (notes : Option ImageNotes) (ending : Ending) (old between new : List Event) (status : ℕ) → DoesNothing old between → EndsSo false notes (Err ending) between new status → MeansSo tries leaves done status old new
    refused-means notes ending old between new status nothing e = record {
      start = old;
      waited = idle old old (λ path. refl, refl);
      mid = between;
      after = ends-so false notes (Err ending) between new status e;
      zero = λ zero. absurd (zero-done notes (Err ending) between new status e zero);
      other = λ other silent. none old between nothing;
    }

    -- what each exit status means of a task, unless memory is wanted for its notes
    pub task-so : (it : Task) (is_typed : Bool) (input : Reading) → gives_data it ≡ false
        → ((notes : Option ImageNotes) (old : List Event) (work : Result (Unit {0}) Ending) (between new : List Event) (status : ℕ) → DoesTask it is_typed input old work between → EndsSo false notes work between new status
        → MeansSo tries leaves done status old new)
        → (old new : List Event) (status : ℕ) → RunsTask it is_typed input old new status → MeansSo tries leaves done status old new
    task-so it is_typed input lines means old new status (inl r) = means r.notes old r.work r.between new status r.does (subst (λ (b : Bool). EndsSo b r.notes r.work r.between new status) lines r.ends)
    task-so it is_typed input lines means old new status (inr e) = refused-means None (Fault Memory) old old new status (λ path. refl, refl) (subst (λ (b : Bool). EndsSo b None (Err (Fault Memory)) old new status) lines e)

    module _ (command : List Event → Result (Unit {0}) Ending → List Event → Type 0) (gives : (old : List Event) (result : Result (Unit {0}) Ending) (new : List Event) → command old result new → ends result old new)
        (busy : (begun : List (List Event)) (old mid new : List Event) → DoesNothing old mid → AreBusy command begun mid new → tries old new) (seconds : ℕ) (name : List ℕ)
      where
        pub within-means : (notes : Option ImageNotes) (work : Result (Unit {0}) Ending) (old begun between new : List Event) (status : ℕ) → DoesNothing old begun → Within seconds name command begun work between
            → EndsSo false notes work between new status → MeansSo tries leaves done status old new
        within-means notes work old begun between new status nothing w e =
            ended-means notes work old w.between w.after between new status (busy w.tries old begun w.between nothing w.busy) (gives w.between work w.after w.last) (busy-told name work w.after between w.told) e

        -- a person may be asked before
        pub asked-means : (is_typed : Bool) (replaced : Option (List ℕ)) (input : Reading) (notes : Option ImageNotes) (old : List Event) (work : Result (Unit {0}) Ending) (between new : List Event) (status : ℕ)
            → Then (AsksFirst is_typed replaced input) (λ it. Within seconds name command) old work between → EndsSo false notes work between new status → MeansSo tries leaves done status old new
        asked-means is_typed replaced input notes old (Ok it) between new status (inl p) e = absurd p
        asked-means is_typed replaced input notes old (Err ending) between new status (inl p) e = refused-means notes ending old between new status (asks-nothing is_typed replaced input old (Err ending) between p) e
        asked-means is_typed replaced input notes old work between new status (inr p) e =
            within-means notes work old p.between between new status (asks-nothing is_typed replaced input old (Ok p.given) p.between p.done) p.after e

-- ## A change

-- whether its line was printed is known
pub record Reports (done : Bool → List Event → List Event → Type 0) : Type 0 where
  pub well : (old new : List Event) → done true old new → failed_prints (output new) ≡ failed_prints (output old)
  pub unprinted : (old new : List Event) → done false old new → failed_prints (output new) ≡ suc (failed_prints (output old))

unchanged : (old new : List Step) → new ≡ old → StaysAsItWas old new
unchanged old new is start = subst (λ (n : List Step). IsAsItWas (replay start old) (replay start n)) (sym is) (record { seen = refl; on_disk = refl; earlier = refl })

all-stay : (form : ImageForm) (old new : List Event) → DoesNothing old new → AllStay form old new
all-stay form old new none = record { files = λ path. unchanged (about path old) (about path new) (of-file path (none.0 path)); touches = inl none.0; prints = none.1 }

pub image-stays : (form : ImageForm) (old new : List Event) → DoesNothing old new → LeavesImage form old new
image-stays form old new none = inl (all-stay form old new none)

pub change-ill : (form : ImageForm) (done : Bool → List Event → List Event → Type 0) → Reports done → (ending : Ending) (old new : List Event) → EndsAs form done (Err ending) old new
    → LeavesImage form old new ⊎ (failed_prints (output new) ≡ suc (failed_prints (output old)))
change-ill form done reports Unreported old new s = inr (reports.unprinted old new s)
change-ill form done reports NoReader old new s = inr (reports.unprinted old new s)
change-ill form done reports (NotWritten it unwritten.AsItWas) old new s = inl (inl s)
change-ill form done reports (NotWritten it unwritten.InPart) old new s = inl (inr s)
change-ill form done reports (Line it) old new s = inl (image-stays form old new s)
change-ill form done reports (Fault it) old new s = inl (image-stays form old new s)
change-ill form done reports Failure old new s = inl (image-stays form old new s)
change-ill form done reports (Busy it) old new s = inl (image-stays form old new s)
change-ill form done reports Misuse old new s = inl (image-stays form old new s)
change-ill form done reports FullOutput old new s = absurd s

change-weighs : (form : ImageForm) (done : Bool → List Event → List Event → Type 0) → Reports done → Weighs (LeavesImage form) done (EndsAs form done)
change-weighs form done reports = record { well = λ it old new s. (s, reports.well old new s); ill = change-ill form done reports }

-- each try that found the image busy did nothing
pub busy-nothing : (command : List Event → Result (Unit {0}) Ending → List Event → Type 0) → ((old new : List Event) → command old (Err (Busy Held)) new → DoesNothing old new)
    → (begun : List (List Event)) (old mid new : List Event) → DoesNothing old mid → AreBusy command begun mid new → DoesNothing old new
busy-nothing command gives [] old mid new nothing is = (λ path. ap (λ (n : List Event). changes_at path n) is ∙ nothing.0 path, ap output is ∙ nothing.1)
busy-nothing command gives (before ∷ earlier) old mid new nothing (busy, after, last, is) =
    let so = gives before after last in
    let first = busy-nothing command gives earlier old mid before nothing busy in
    (λ path. ap (λ (n : List Event). changes_at path n) is ∙ so.0 path ∙ first.0 path, ap output is ∙ so.1 ∙ first.1)

module _ (form : ImageForm) (done : Bool → List Event → List Event → Type 0) (reports : Reports done) (command : List Event → Result (Unit {0}) Ending → List Event → Type 0)
    (ends : (old : List Event) (result : Result (Unit {0}) Ending) (new : List Event) → command old result new → EndsAs form done result old new) (seconds : ℕ) (name : List ℕ) (it : Task) (is_typed : Bool) (input : Reading)
    (lines : gives_data it ≡ false)
  where
    -- what each exit status means of a task that does this command
    pub task-means : ((old : List Event) (work : Result (Unit {0}) Ending) (new : List Event) → DoesTask it is_typed input old work new → Within seconds name command old work new)
        → (old new : List Event) (status : ℕ) → RunsTask it is_typed input old new status → Means form done status old new
    task-means does = task-so DoesNothing (LeavesImage form) done (EndsAs form done) (change-weighs form done reports) (λ old new none. none) (image-stays form) it is_typed input lines
        (λ notes old work between new status p e. within-means DoesNothing (LeavesImage form) done (EndsAs form done) (change-weighs form done reports) (λ old new none. none) (image-stays form) command ends
        (busy-nothing command (λ old new p. ends old (Err (Busy Held)) new p)) seconds name notes work old old between new status (λ path. refl, refl) (does old work between p) e)

    -- of one before which a person may be asked
    pub asked-task-means : (replaced : Option (List ℕ))
        → ((old : List Event) (work : Result (Unit {0}) Ending) (new : List Event) → DoesTask it is_typed input old work new → Then (AsksFirst is_typed replaced input) (λ it. Within seconds name command) old work new)
        → (old new : List Event) (status : ℕ) → RunsTask it is_typed input old new status → Means form done status old new
    asked-task-means replaced does = task-so DoesNothing (LeavesImage form) done (EndsAs form done) (change-weighs form done reports) (λ old new none. none) (image-stays form) it is_typed input lines
        (λ notes old work between new status p e. asked-means DoesNothing (LeavesImage form) done (EndsAs form done) (change-weighs form done reports) (λ old new none. none) (image-stays form) command ends
        (busy-nothing command (λ old new p. ends old (Err (Busy Held)) new p)) seconds name is_typed replaced input notes old work between new status (does old work between p) e)

-- ## The commands

pub put-reports : (form : PutFilesForm) → Reports (HasStored form)
put-reports form = record { well = λ old new s. ap failed_prints s.prints; unprinted = λ old new s. ap failed_prints s.prints }

pub copy-reports : (form : CopyForm) → Reports (HasCopied form)
copy-reports form = record { well = λ old new s. ap failed_prints s.prints; unprinted = λ old new s. ap failed_prints s.prints }

pub squeeze-reports : (form : ImageForm) → Reports (HasSqueezed form)
squeeze-reports form = record { well = λ old new s. ap failed_prints s.prints; unprinted = λ old new s. ap failed_prints s.prints }

pub rename-reports : (wanted : Target) (other : List ℕ) (form : ImageForm) → Reports (HasRenamed wanted other form)
rename-reports wanted other form = record { well = λ old new s. ap failed_prints s.prints; unprinted = λ old new s. ap failed_prints s.prints }

pub delete-reports : (form : DeleteForm) → Reports (HasDeleted form)
delete-reports form = record { well = λ old new s. ap failed_prints s.prints; unprinted = λ old new s. ap failed_prints s.prints }

pub patch-reports : (word : WordPatch) (form : ImageForm) → Reports (HasPatched word form)
patch-reports word form = record { well = λ old new s. ap failed_prints s.prints; unprinted = λ old new s. ap failed_prints s.prints }

pub empty-reports : (form : ImageForm) → Reports (HasEmptied form)
empty-reports form = record { well = λ old new s. ap failed_prints s.prints; unprinted = λ old new s. ap failed_prints s.prints }

pub assemble-reports : (form : AssembleForm) (named : ImageForm) (name : List ℕ) → Reports (HasAssembled form named name)
assemble-reports form named name = record { well = λ old new s. ap failed_prints s.prints; unprinted = λ old new s. ap failed_prints s.prints }

pub create-reports : (gives : Result (Vec ℕ) Ending → Type 0) (form : CreateForm) (blocks : ℕ) → Reports (HasCreated gives form blocks)
create-reports gives form blocks = record { well = λ old new s. ap failed_prints s.prints; unprinted = λ old new s. ap failed_prints s.prints }
