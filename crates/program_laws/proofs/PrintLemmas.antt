-- What is printed after standard output did not take something.
use Rattle.std.proofs.Common.{◌≡◌, ◌∙◌, ◌⊎◌, ℕ, Bool, true, false, Option, None, Result, Ok, Err, List, [], ◌∷◌, ◌++◌, refl, ap, subst, inl, inr}
use Rattle.byte_reader.specs.Readings.{Reading}
use Rattle.hosts.specs.Event.{Event}
use Rattle.hosts.specs.Streams.{output}
use Rattle.hosts.specs.declared.faults.Unwritten.TheVariants as unwritten
use Rattle.outcome.specs.Outcomes.{outcome_of}
use Rattle.outcome.specs.Streams.{gives_data}
use Rattle.outcome.specs.declared.contents.Content.TheVariants.{Image as Held}
use Rattle.outcome.specs.declared.endings.Ending.{Ending}
use Rattle.outcome.specs.declared.endings.Ending.TheVariants.{Line, Fault, Failure, Busy, NotWritten, FullOutput, Unreported, NoReader, Misuse}
use Rattle.refusals.specs.declared.faults.SessionFault.TheVariants.{Memory}
use Rattle.program_tasks.specs.declared.forms.ImageForm.{ImageForm}
use Rattle.program_tasks.specs.declared.tasks.Task.{Task}
use Rattle.image_files.specs.Ending.{EndsSo}
use Rattle.image_files.specs.Waiting.{AreBusy, Within}
use Rattle.image_files.specs.Work.{Then}
use Rattle.image_files.specs.declared.states.ImageNotes.{ImageNotes}
use Rattle.keeper_laws.specs.Ended.{EndsAs, RefusesAloud}
use Rattle.keeper_laws.specs.Made.{EndsMade, EndsRescued}
use Rattle.program.specs.Asking.{AsksFirst}
use Rattle.program.specs.Tasks.{DoesTask, RunsTask}
use Rattle.program_laws.specs.Ends.{PrintsOnce, StopsPrinting}
use Rattle.program_laws.proofs.EndLemmas.{ends}
use Rattle.program_laws.proofs.QuietLemmas.{busy-told}
use Rattle.program_laws.proofs.StatusLemmas.{asks-nothing}

-- ## What the work prints

-- nothing is printed; or some lines once, and then the line of the end has no byte
abbrev pub PrintsSo : Result (Unit {0}) Ending → List Event → List Event → Type 0
PrintsSo work old new = (output new ≡ output old) ⊎ ((lines : List ℕ) × (ok : Bool) × (output new ≡ (ok, lines) ∷ output old) × ((outcome_of false work).output ≡ []))

-- what is done is reported so
abbrev pub ReportsIt : (Bool → List Event → List Event → Type 0) → Type 0
ReportsIt done = (ok : Bool) (old new : List Event) → done ok old new → (lines : List ℕ) × (output new ≡ (ok, lines) ∷ output old)

module _ (done : Bool → List Event → List Event → Type 0) (reports : ReportsIt done) where
  pub change-prints : (form : ImageForm) (work : Result (Unit {0}) Ending) (old new : List Event) → EndsAs form done work old new → PrintsSo work old new
  change-prints form (Ok it) old new s = let r = reports true old new s in inr (r.0, true, r.1, refl)
  change-prints form (Err Unreported) old new s = let r = reports false old new s in inr (r.0, false, r.1, refl)
  change-prints form (Err NoReader) old new s = let r = reports false old new s in inr (r.0, false, r.1, refl)
  change-prints form (Err (NotWritten it unwritten.AsItWas)) old new s = inl s.prints
  change-prints form (Err (NotWritten it unwritten.InPart)) old new s = inl s.prints
  change-prints form (Err (Line it)) old new s = inl s.1
  change-prints form (Err (Fault it)) old new s = inl s.1
  change-prints form (Err Failure) old new s = inl s.1
  change-prints form (Err (Busy it)) old new s = inl s.1
  change-prints form (Err Misuse) old new s = inl s.1
  change-prints form (Err FullOutput) old new s = absurd s

  pub made-prints : (work : Result (Unit {0}) Ending) (old new : List Event) → EndsMade done work old new → PrintsSo work old new
  made-prints (Ok it) old new s = let r = reports true old new s in inr (r.0, true, r.1, refl)
  made-prints (Err Unreported) old new s = let r = reports false old new s in inr (r.0, false, r.1, refl)
  made-prints (Err NoReader) old new s = let r = reports false old new s in inr (r.0, false, r.1, refl)
  made-prints (Err (NotWritten it unwritten.AsItWas)) old new s = inl s.prints
  made-prints (Err (NotWritten it unwritten.InPart)) old new s = inl s.prints
  made-prints (Err (Line it)) old new s = inl s.prints
  made-prints (Err (Fault it)) old new s = inl s.prints
  made-prints (Err (Busy it)) old new s = inl s.prints
  made-prints (Err Failure) old new s = absurd s
  made-prints (Err FullOutput) old new s = absurd s
  made-prints (Err Misuse) old new s = absurd s

  -- `patch` may print its own refusal
  pub patch-prints : (form : ImageForm) (work : Result (Unit {0}) Ending) (old new : List Event) → EndsAs form done work old new ⊎ RefusesAloud work old new → PrintsSo work old new
  patch-prints form work old new (inl s) = change-prints form work old new s
  patch-prints form (Err Failure) old new (inr s) = inr (s.line, s.ok, s.prints, refl)
  patch-prints form (Err FullOutput) old new (inr s) = inr (s.line, s.ok, s.prints, refl)
  patch-prints form (Ok it) old new (inr s) = absurd s
  patch-prints form (Err (Line it)) old new (inr s) = absurd s
  patch-prints form (Err (Fault it)) old new (inr s) = absurd s
  patch-prints form (Err (Busy it)) old new (inr s) = absurd s
  patch-prints form (Err (NotWritten it left)) old new (inr s) = absurd s
  patch-prints form (Err Unreported) old new (inr s) = absurd s
  patch-prints form (Err NoReader) old new (inr s) = absurd s
  patch-prints form (Err Misuse) old new (inr s) = absurd s

-- ## The end

stops-if : (line : List ℕ) (old mid between new : List Event) → output between ≡ output mid → (output mid ≡ output old) ⊎ ((lines : List ℕ) × (ok : Bool) × (output mid ≡ (ok, lines) ∷ output old) × (line ≡ []))
    → PrintsOnce line between new → StopsPrinting old new
stops-if line old mid between new same (inl none) (inl nothing) = ([], nothing ∙ same ∙ none, tt)
stops-if line old mid between new same (inl none) (inr (ok, is)) = ((ok, line) ∷ [], is ∙ ap (λ (o : List (Bool × List ℕ)). (ok, line) ∷ o) (same ∙ none), (inr tt, tt))
stops-if line old mid between new same (inr (lines, ok, is, empty)) (inl nothing) = ((ok, lines) ∷ [], nothing ∙ same ∙ is, (inr tt, tt))
stops-if line old mid between new same (inr (lines, ok, is, empty)) (inr (last, so)) =
    ((last, line) ∷ (ok, lines) ∷ [], so ∙ ap (λ (o : List (Bool × List ℕ)). (last, line) ∷ o) (same ∙ is), (inl empty, (inr tt, tt)))

stops-later : (old start new : List Event) → output start ≡ output old → StopsPrinting start new → StopsPrinting old new
stops-later old start new same (since, is, none) = (since, is ∙ ap (λ (o : List (Bool × List ℕ)). since ++ o) same, none)

-- after tries of which standard output got nothing, the work printed so, and then its end
work-stops : (notes : Option ImageNotes) (work : Result (Unit {0}) Ending) (old start mid between new : List Event) (status : ℕ) → output start ≡ output old → PrintsSo work start mid → output between ≡ output mid
    → EndsSo false notes work between new status → StopsPrinting old new
work-stops notes work old start mid between new status begun so told e =
    stops-later old start new begun (stops-if (outcome_of false work).output start mid between new told so (ends false notes work between new status e).1)

-- ## A command

module _ (gives : Result (Unit {0}) Ending → List Event → List Event → Type 0) (prints : (work : Result (Unit {0}) Ending) (old new : List Event) → gives work old new → PrintsSo work old new)
    (busy : (old new : List Event) → gives (Err (Busy Held)) old new → output new ≡ output old)
    (command : List Event → Result (Unit {0}) Ending → List Event → Type 0) (ended : (old : List Event) (result : Result (Unit {0}) Ending) (new : List Event) → command old result new → gives result old new)
    (seconds : ℕ) (name : List ℕ) (it : Task) (is_typed : Bool) (input : Reading) (lines : gives_data it ≡ false)
  where
    tries-silent : (tries : List (List Event)) (old new : List Event) → AreBusy command tries old new → output new ≡ output old
    tries-silent [] old new is = ap output is
    tries-silent (before ∷ earlier) old new (first, after, last, is) = ap output is ∙ busy before after (ended before (Err (Busy Held)) after last) ∙ tries-silent earlier old before first

    within-stops : (notes : Option ImageNotes) (work : Result (Unit {0}) Ending) (old begun between new : List Event) (status : ℕ) → output begun ≡ output old → Within seconds name command begun work between
        → EndsSo false notes work between new status → StopsPrinting old new
    within-stops notes work old begun between new status silent w e =
        work-stops notes work old w.between w.after between new status (tries-silent w.tries begun w.between w.busy ∙ silent) (prints work w.between w.after (ended w.between work w.after w.last)) (busy-told name work w.after between w.told).1 e

    refused-stops : (notes : Option ImageNotes) (work : Result (Unit {0}) Ending) (old between new : List Event) (status : ℕ) → output between ≡ output old → EndsSo false notes work between new status → StopsPrinting old new
    refused-stops notes work old between new status silent e = work-stops notes work old old between between new status refl (inl silent) refl e

    pub task-stops : ((old : List Event) (work : Result (Unit {0}) Ending) (new : List Event) → DoesTask it is_typed input old work new → Within seconds name command old work new)
        → (old new : List Event) (status : ℕ) → RunsTask it is_typed input old new status → StopsPrinting old new
    task-stops does old new status (inl r) = within-stops r.notes r.work old old r.between new status refl (does old r.work r.between r.does) (subst (λ (b : Bool). EndsSo b r.notes r.work r.between new status) lines r.ends)
    task-stops does old new status (inr e) = refused-stops None (Err (Fault Memory)) old old new status refl (subst (λ (b : Bool). EndsSo b None (Err (Fault Memory)) old new status) lines e)

    -- of one before which a person may be asked
    asked-stops : (replaced : Option (List ℕ)) (notes : Option ImageNotes) (old : List Event) (work : Result (Unit {0}) Ending) (between new : List Event) (status : ℕ)
        → Then (AsksFirst is_typed replaced input) (λ it. Within seconds name command) old work between → EndsSo false notes work between new status → StopsPrinting old new
    asked-stops replaced notes old (Ok it) between new status (inl p) e = absurd p
    asked-stops replaced notes old (Err ending) between new status (inl p) e = refused-stops notes (Err ending) old between new status (asks-nothing is_typed replaced input old (Err ending) between p).1 e
    asked-stops replaced notes old work between new status (inr p) e =
        within-stops notes work old p.between between new status (asks-nothing is_typed replaced input old (Ok p.given) p.between p.done).1 p.after e

    pub asked-task-stops : (replaced : Option (List ℕ))
        → ((old : List Event) (work : Result (Unit {0}) Ending) (new : List Event) → DoesTask it is_typed input old work new → Then (AsksFirst is_typed replaced input) (λ it. Within seconds name command) old work new)
        → (old new : List Event) (status : ℕ) → RunsTask it is_typed input old new status → StopsPrinting old new
    asked-task-stops replaced does old new status (inl r) =
        asked-stops replaced r.notes old r.work r.between new status (does old r.work r.between r.does) (subst (λ (b : Bool). EndsSo b r.notes r.work r.between new status) lines r.ends)
    asked-task-stops replaced does old new status (inr e) = refused-stops None (Err (Fault Memory)) old old new status refl (subst (λ (b : Bool). EndsSo b None (Err (Fault Memory)) old new status) lines e)

-- a change that found its image busy printed nothing
pub change-busy : (form : ImageForm) (done : Bool → List Event → List Event → Type 0) (old new : List Event) → EndsAs form done (Err (Busy Held)) old new → output new ≡ output old
change-busy form done old new s = s.1

pub patch-busy : (form : ImageForm) (done : Bool → List Event → List Event → Type 0) (old new : List Event) → EndsAs form done (Err (Busy Held)) old new ⊎ RefusesAloud (Err (Busy Held)) old new → output new ≡ output old
patch-busy form done old new (inl s) = s.1
patch-busy form done old new (inr s) = absurd s

pub made-busy : (done : Bool → List Event → List Event → Type 0) (old new : List Event) → EndsMade done (Err (Busy Held)) old new → output new ≡ output old
made-busy done old new s = s.prints

-- ## A rescue, which is tried once

rescue-prints : (name : List ℕ) (form : ImageForm) (work : Result (Unit {0}) Ending) (old new : List Event) → EndsRescued name form work old new → PrintsSo work old new
rescue-prints name form (Ok it) old new s = inr (_, true, s.prints, refl)
rescue-prints name form (Err Failure) old new (inl s) = inr (_, true, s.prints, refl)
rescue-prints name form (Err Failure) old new (inr s) = inr (_, false, s.prints, refl)
rescue-prints name form (Err Unreported) old new (inl s) = inr (_, false, s.prints, refl)
rescue-prints name form (Err Unreported) old new (inr s) = inr (_, false, s.prints, refl)
rescue-prints name form (Err NoReader) old new s = inr (_, false, s.prints, refl)
rescue-prints name form (Err (NotWritten it unwritten.AsItWas)) old new s = inl s.prints
rescue-prints name form (Err (NotWritten it unwritten.InPart)) old new s = absurd s
rescue-prints name form (Err (Line it)) old new s = inl s.prints
rescue-prints name form (Err (Fault it)) old new s = inl s.prints
rescue-prints name form (Err (Busy it)) old new s = inl s.prints
rescue-prints name form (Err FullOutput) old new s = absurd s
rescue-prints name form (Err Misuse) old new s = absurd s

pub rescue-stops : (name : List ℕ) (form : ImageForm) (command : List Event → Result (Unit {0}) Ending → List Event → Type 0)
    → ((old : List Event) (result : Result (Unit {0}) Ending) (new : List Event) → command old result new → EndsRescued name form result old new) → (it : Task) (is_typed : Bool) (input : Reading) → gives_data it ≡ false
    → ((old : List Event) (work : Result (Unit {0}) Ending) (new : List Event) → DoesTask it is_typed input old work new → command old work new)
    → (old new : List Event) (status : ℕ) → RunsTask it is_typed input old new status → StopsPrinting old new
rescue-stops name form command ended it is_typed input lines does old new status (inl r) =
    work-stops r.notes r.work old old r.between r.between new status refl (rescue-prints name form r.work old r.between (ended old r.work r.between (does old r.work r.between r.does))) refl
    (subst (λ (b : Bool). EndsSo b r.notes r.work r.between new status) lines r.ends)
rescue-stops name form command ended it is_typed input lines does old new status (inr e) =
    work-stops None (Err (Fault Memory)) old old old old new status refl (inl refl) refl (subst (λ (b : Bool). EndsSo b None (Err (Fault Memory)) old new status) lines e)
