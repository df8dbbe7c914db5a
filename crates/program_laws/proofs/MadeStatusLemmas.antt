-- What an exit status tells of how a patch, the making of a volume, and a rescue ended.
use Rattle.std.proofs.Common.{◌≡◌, ◌∙◌, ◌⊎◌, ℕ, suc, Bool, true, false, Option, Result, Ok, Err, List, [], ◌∷◌, refl, sym, ap, subst, inl, inr}
use Rattle.byte_reader.specs.Readings.{Reading}
use Rattle.hosts.specs.Event.{Event, pause_call}
use Rattle.hosts.specs.Streams.{output, changes_at}
use Rattle.hosts.specs.declared.faults.Unwritten.TheVariants as unwritten
use Rattle.outcome.specs.declared.contents.Content.TheVariants.{Image as Held}
use Rattle.outcome.specs.declared.endings.Ending.{Ending}
use Rattle.outcome.specs.declared.endings.Ending.TheVariants.{Line, Fault, Failure, Busy, NotWritten, FullOutput, Unreported, NoReader, Misuse}
use Rattle.outcome.specs.Streams.{gives_data}
use Rattle.program_tasks.specs.declared.forms.ImageForm.{ImageForm}
use Rattle.program_tasks.specs.declared.tasks.Task.{Task}
use Rattle.image_files.specs.Work.{Then}
use Rattle.salvage_commands.specs.Rescuing.{RescuesImage}
use Rattle.program.specs.Asking.{AsksFirst}
use Rattle.image_files.specs.Waiting.{AreBusy, Within}
use Rattle.program.specs.Tasks.{DoesTask, RunsTask}
use Rattle.keeper_laws.specs.Ended.{DoesNothing, EndsAs, RefusesAloud, SaysNo}
use Rattle.keeper_laws.specs.Made.{EndsMade, EndsRescued, HasRescued, MakesNone, MayBeInPart}
use Rattle.keeper_laws.proofs.MakeLemmas.{nothing-made}
use Rattle.program_laws.specs.Statuses.{AreVain, LeavesImage, MeansMade, MeansPatch, MeansRescued, TriesInVain, failed_prints}
use Rattle.program_laws.proofs.StatusLemmas.{Reports, Weighs, asked-means, busy-nothing, change-ill, ended-means, image-stays, task-so, within-means}

-- ## A patch

abbrev pub EndsPatch : ImageForm → (Bool → List Event → List Event → Type 0) → Result (Unit {0}) Ending → List Event → List Event → Type 0
EndsPatch form done result old new = EndsAs form done result old new ⊎ RefusesAloud result old new

abbrev LeavesPatch : ImageForm → List Event → List Event → Type 0
LeavesPatch form old new = LeavesImage form old new ⊎ SaysNo old new

-- the line of the refusal was printed, or it wasn't
aloud-at : (form : ImageForm) (old new : List Event) (p : SaysNo old new) (ok : Bool) → p.ok ≡ ok → LeavesPatch form old new ⊎ (failed_prints (output new) ≡ suc (failed_prints (output old)))
aloud-at form old new p true is = inl (inr p)
aloud-at form old new p false is = inr (ap failed_prints p.prints ∙ ap (λ (ok : Bool). failed_prints ((ok, p.line) ∷ output old)) is)

aloud-ill : (form : ImageForm) (ending : Ending) (old new : List Event) → RefusesAloud (Err ending) old new → LeavesPatch form old new ⊎ (failed_prints (output new) ≡ suc (failed_prints (output old)))
aloud-ill form Failure old new p = aloud-at form old new p p.ok refl
aloud-ill form FullOutput old new p = aloud-at form old new p p.ok refl
aloud-ill form (Line it) old new p = absurd p
aloud-ill form (Fault it) old new p = absurd p
aloud-ill form (Busy it) old new p = absurd p
aloud-ill form (NotWritten it left) old new p = absurd p
aloud-ill form Unreported old new p = absurd p
aloud-ill form NoReader old new p = absurd p
aloud-ill form Misuse old new p = absurd p

image-or-aloud : (form : ImageForm) (old new : List Event) → LeavesImage form old new ⊎ (failed_prints (output new) ≡ suc (failed_prints (output old))) → LeavesPatch form old new ⊎ (failed_prints (output new) ≡ suc (failed_prints (output old)))
image-or-aloud form old new (inl s) = inl (inl s)
image-or-aloud form old new (inr more) = inr more

module _ (form : ImageForm) (done : Bool → List Event → List Event → Type 0) (reports : Reports done) where
  patch-well : (it : Unit {0}) (old new : List Event) → EndsPatch form done (Ok it) old new → done true old new × (failed_prints (output new) ≡ failed_prints (output old))
  patch-well it old new (inl s) = (s, reports.well old new s)
  patch-well it old new (inr p) = absurd p

  patch-ill : (ending : Ending) (old new : List Event) → EndsPatch form done (Err ending) old new → LeavesPatch form old new ⊎ (failed_prints (output new) ≡ suc (failed_prints (output old)))
  patch-ill ending old new (inl s) = image-or-aloud form old new (change-ill form done reports ending old new s)
  patch-ill ending old new (inr p) = aloud-ill form ending old new p

  patch-weighs : Weighs (LeavesPatch form) done (EndsPatch form done)
  patch-weighs = record { well = patch-well; ill = patch-ill }

  patch-busy : (old new : List Event) → EndsPatch form done (Err (Busy Held)) old new → DoesNothing old new
  patch-busy old new (inl s) = s
  patch-busy old new (inr p) = absurd p

  -- what each exit status means of a task that does such a command
  pub patch-means : (command : List Event → Result (Unit {0}) Ending → List Event → Type 0) → ((old : List Event) (result : Result (Unit {0}) Ending) (new : List Event) → command old result new → EndsPatch form done result old new)
      → (seconds : ℕ) (name : List ℕ) (it : Task) (is_typed : Bool) (input : Reading) → gives_data it ≡ false
      → ((old : List Event) (work : Result (Unit {0}) Ending) (new : List Event) → DoesTask it is_typed input old work new → Within seconds name command old work new)
      → (old new : List Event) (status : ℕ) → RunsTask it is_typed input old new status → MeansPatch form done status old new
  patch-means command ends seconds name it is_typed input lines does = task-so DoesNothing (LeavesPatch form) done (EndsPatch form done) patch-weighs (λ old new none. none) (λ old new none. inl (image-stays form old new none)) it is_typed input lines
      (λ notes old work between new status p e. within-means DoesNothing (LeavesPatch form) done (EndsPatch form done) patch-weighs (λ old new none. none) (λ old new none. inl (image-stays form old new none)) command ends
      (busy-nothing command (λ old new p. patch-busy old new (ends old (Err (Busy Held)) new p))) seconds name notes work old old between new status (λ path. refl, refl) (does old work between p) e)

-- ## A new volume

abbrev LeavesNone : List Event → List Event → Type 0
LeavesNone old new = MakesNone old new ⊎ MayBeInPart old new

made-ill : (done : Bool → List Event → List Event → Type 0) → Reports done → (ending : Ending) (old new : List Event) → EndsMade done (Err ending) old new → LeavesNone old new ⊎ (failed_prints (output new) ≡ suc (failed_prints (output old)))
made-ill done reports Unreported old new s = inr (reports.unprinted old new s)
made-ill done reports NoReader old new s = inr (reports.unprinted old new s)
made-ill done reports (NotWritten it unwritten.AsItWas) old new s = inl (inl s)
made-ill done reports (NotWritten it unwritten.InPart) old new s = inl (inr s)
made-ill done reports (Line it) old new s = inl (inl s)
made-ill done reports (Fault it) old new s = inl (inl s)
made-ill done reports (Busy it) old new s = inl (inl s)
made-ill done reports Failure old new s = absurd s
made-ill done reports FullOutput old new s = absurd s
made-ill done reports Misuse old new s = absurd s

-- a try that made no file, and the time after it
after-pause : (old after : List Event) → MakesNone old after → MakesNone old (pause_call ∷ after)
after-pause old after m = record { path = m.path; there = m.there; alone = record { others = m.alone.others; beside = m.alone.beside; keeps_folders = m.alone.keeps_folders }; prints = m.prints }

vain-after : (command : List Event → Result (Unit {0}) Ending → List Event → Type 0) → ((old new : List Event) → command old (Err (Busy Held)) new → MakesNone old new)
    → (begun : List (List Event)) (old mid new : List Event) → DoesNothing old mid → AreBusy command begun mid new → AreVain begun old new
vain-after command gives [] old mid new nothing is = (λ path. ap (λ (n : List Event). changes_at path n) is ∙ nothing.0 path, ap output is ∙ nothing.1)
vain-after command gives (before ∷ earlier) old mid new nothing (busy, after, last, is) =
    (vain-after command gives earlier old mid before nothing busy, subst (λ (n : List Event). MakesNone before n) (sym is) (after-pause before after (gives before after last)))

idle-vain : (old new : List Event) → DoesNothing old new → TriesInVain old new
idle-vain old new nothing = ([], nothing)

none-left : (old new : List Event) → DoesNothing old new → LeavesNone old new
none-left old new nothing = inl (nothing-made old new nothing)

module _ (done : Bool → List Event → List Event → Type 0) (reports : Reports done) where
  made-weighs : Weighs LeavesNone done (EndsMade done)
  made-weighs = record { well = λ it old new s. (s, reports.well old new s); ill = made-ill done reports }

  -- what each exit status means of a task that makes a volume, before which a person may be asked
  pub made-means : (command : List Event → Result (Unit {0}) Ending → List Event → Type 0) → ((old : List Event) (result : Result (Unit {0}) Ending) (new : List Event) → command old result new → EndsMade done result old new)
      → (seconds : ℕ) (name : List ℕ) (it : Task) (is_typed : Bool) (input : Reading) → gives_data it ≡ false → (replaced : Option (List ℕ))
      → ((old : List Event) (work : Result (Unit {0}) Ending) (new : List Event) → DoesTask it is_typed input old work new → Then (AsksFirst is_typed replaced input) (λ it. Within seconds name command) old work new)
      → (old new : List Event) (status : ℕ) → RunsTask it is_typed input old new status → MeansMade done status old new
  made-means command ends seconds name it is_typed input lines replaced does = task-so TriesInVain LeavesNone done (EndsMade done) made-weighs idle-vain none-left it is_typed input lines
      (λ notes old work between new status p e. asked-means TriesInVain LeavesNone done (EndsMade done) made-weighs idle-vain none-left command ends
      (λ begun old mid new nothing busy. (begun, vain-after command (λ old new p. ends old (Err (Busy Held)) new p) begun old mid new nothing busy)) seconds name is_typed replaced input notes old work between new status
      (does old work between p) e)

-- ## A rescue

module _ (name : List ℕ) (form : ImageForm) where
  abbrev LeavesRescue : List Event → List Event → Type 0
  LeavesRescue old new = MakesNone old new ⊎ HasRescued name form false true old new

  rescue-ill : (ending : Ending) (old new : List Event) → EndsRescued name form (Err ending) old new → LeavesRescue old new ⊎ (failed_prints (output new) ≡ suc (failed_prints (output old)))
  rescue-ill Failure old new (inl s) = inl (inr s)
  rescue-ill Failure old new (inr s) = inr (ap failed_prints s.prints)
  rescue-ill Unreported old new (inl s) = inr (ap failed_prints s.prints)
  rescue-ill Unreported old new (inr s) = inr (ap failed_prints s.prints)
  rescue-ill NoReader old new s = inr (ap failed_prints s.prints)
  rescue-ill (NotWritten it unwritten.AsItWas) old new s = inl (inl s)
  rescue-ill (NotWritten it unwritten.InPart) old new s = absurd s
  rescue-ill (Line it) old new s = inl (inl s)
  rescue-ill (Fault it) old new s = inl (inl s)
  rescue-ill (Busy it) old new s = inl (inl s)
  rescue-ill FullOutput old new s = absurd s
  rescue-ill Misuse old new s = absurd s

  rescue-weighs : Weighs LeavesRescue (HasRescued name form true) (EndsRescued name form)
  rescue-weighs = record { well = λ it old new s. (s, ap failed_prints s.prints); ill = rescue-ill }

  -- what each exit status means of a task that rescues
  pub rescue-means : ((old : List Event) (result : Result (Unit {0}) Ending) (new : List Event) → RescuesImage name form old result new → EndsRescued name form result old new) → (it : Task) (is_typed : Bool) (input : Reading)
      → gives_data it ≡ false → ((old : List Event) (work : Result (Unit {0}) Ending) (new : List Event) → DoesTask it is_typed input old work new → RescuesImage name form old work new)
      → (old new : List Event) (status : ℕ) → RunsTask it is_typed input old new status → MeansRescued name form status old new
  rescue-means ends it is_typed input lines does = task-so DoesNothing LeavesRescue (HasRescued name form true) (EndsRescued name form) rescue-weighs (λ old new none. none) (λ old new none. inl (nothing-made old new none)) it is_typed input lines
      (λ notes old work between new status p e. ended-means DoesNothing LeavesRescue (HasRescued name form true) (EndsRescued name form) rescue-weighs (λ old new none. none) (λ old new none. inl (nothing-made old new none))
      notes work old old between between new status (λ path. refl, refl) (ends old work between (does old work between p)) (λ path. refl, refl) e)
