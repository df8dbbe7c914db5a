-- The laws of runs.
use Rattle.std.proofs.Common.{◌≡◌, ◌∙◌, ◌⊎◌, ◌++◌, ℕ, Bool, true, false, List, [], ◌∷◌, Option, None, Some, Result, Ok, Err, ap, refl, sym, subst, inl, inr, length}
use Rattle.byte_reader.specs.Readings.{Reading}
use Rattle.hosts.specs.Event.{Event}
use Rattle.disk_layouts.specs.Files.{Disk}
use Rattle.hosts.specs.Place.{Place, Leaves, Allows, Just, Remainder, Step as HostStep, about, ever}
use Rattle.hosts.specs.Saving.{IsOldOrNew}
use Rattle.hosts.specs.Streams.{may_replace, changes_at}
use Rattle.hosts.specs.declared.faults.Durability.{Durability}
use Rattle.hosts.specs.declared.faults.PrintFault.{PrintFault}
use Rattle.image_files.specs.declared.reading.ImagePlace.{ImagePlace}
use Rattle.archive_files.specs.declared.faults.ArchiveFault.{ArchiveFault}
use Rattle.outcome.specs.declared.endings.Ending.{Ending}
use Rattle.program_tasks.specs.declared.forms.ImageForm.{ImageForm}
use Rattle.program_tasks.specs.declared.tasks.RunForm.{RunForm}
use Rattle.program_tasks.specs.declared.tasks.Saving.{Saving}
use Rattle.program_tasks.specs.declared.tasks.Saving.TheVariants.{Never}
use Rattle.script8.specs.declared.entries.Entry.{Entry}
use Rattle.refusals.specs.declared.faults.SessionFault.{SessionFault}
use Rattle.script8.specs.declared.replies.Reply.{Reply}
use Rattle.system_session.specs.Session.{SessionView}
use Rattle.image_files.specs.Answers.{Answers, Refuses}
use Rattle.image_files.specs.Laws.{KeepsFiles}
use Rattle.image_files.proofs.KeepLemmas.{of-file, purely-keeps, same, then-keeps}
use Rattle.image_kind.specs.Margins.{body_by, margins_by}
use Rattle.image_kind.specs.Parts.{Parts}
use Rattle.image_kind.specs.declared.kinds.ImageKind.{ImageKind}
use Rattle.image_kind.specs.Keeping.{two_readings}
use Rattle.image_files.specs.Judging.{JudgesBy}
use Rattle.image_kind.specs.Volumes.{script_kind, volumes_with}
use Rattle.image_kind.specs.declared.volumes.Volumes.{Volumes}
use Rattle.image_kind.specs.declared.volumes.Volumes.TheVariants.{One, Both}
use Rattle.image_files.specs.Reading.{FindsIn, Looks}
use Rattle.image_files.specs.declared.images.Image.{Image}
use Rattle.script_commands.specs.Laws.{IsInPlace, IsKeptBefore, IsOneOf, PrintNothing, body_of, file_around, image_file}
use Rattle.script_commands.specs.Scripts.{IsOnlyRead, MountsSession, is_parted, OnlyReads, OpensFor, RunsScript, RunsSession}
use Rattle.script_commands.specs.Steps.{Step, Saves, Fails, Replies, Prints, Refuses as RefusesPrint, Shows, Cuts, AreDone, AreKept, AreUnsaved, GetsImage, IsBodyOf, IsFileAround, IsFileOf, changes, has_saved, has_unsynced, last_image, print_fault, save_ending}
use Rattle.script_commands.proofs.RunLemmas.{is_fault}

finds-keeps : (volumes : Volumes) (body : List ℕ) → KeepsFiles (FindsIn volumes body)
finds-keeps (One layout) body old result new p path = same path p.1
finds-keeps Both body old (Ok image) new p path = absurd p
finds-keeps Both body old (Err ending) new (is, ok, p) path = same path p

-- ## A run that saves nothing

steps-keep : (is_typed : Bool) (start : Image) (steps : List Step) (old new : List Event) (path : List ℕ) → AreDone is_typed start steps old new → AreUnsaved steps → changes_at path new ≡ changes_at path old
steps-keep is_typed start [] old new path done none = same path done
steps-keep is_typed start (Saves image durability ∷ earlier) old new path done none = absurd none
steps-keep is_typed start (Fails ending ∷ earlier) old new path done none = absurd none
steps-keep is_typed start (Replies entry answer blocks ∷ earlier) old new path (mid, done, is) none = same path is ∙ steps-keep is_typed start earlier old mid path done none
steps-keep is_typed start (Prints bytes ∷ earlier) old new path (mid, done, (going, all, is)) none = same path is ∙ steps-keep is_typed start earlier old mid path done none
steps-keep is_typed start (RefusesPrint why bytes ∷ earlier) old new path (mid, done, (going, is)) none = same path is ∙ steps-keep is_typed start earlier old mid path done none
steps-keep is_typed start (Shows form ∷ earlier) old new path (mid, done, (typed, ok, is)) none = same path is ∙ steps-keep is_typed start earlier old mid path done none
steps-keep is_typed start (Cuts ∷ earlier) old new path (mid, done, (ok, is)) none = same path is ∙ steps-keep is_typed start earlier old mid path done none

session-keeps : (form : RunForm) (is_typed : Bool) (image : Image) (session : SessionView) (input : Reading) → form.saving ≡ Never → KeepsFiles (RunsSession form is_typed image session input)
session-keeps form is_typed image session input never old result new p path = steps-keep is_typed image p.steps old new path p.done (p.never never)

judges-keeps : (name : List ℕ) (two : Option (ImageKind × ImageKind)) → KeepsFiles (JudgesBy name two)
judges-keeps name None old (Ok it) new p path = same path p
judges-keeps name None old (Err ending) new p path = absurd p
judges-keeps name (Some two) old (Ok it) new p path = absurd p
judges-keeps name (Some two) old (Err ending) new (inl (is, ok, p)) path = same path p
judges-keeps name (Some two) old (Err ending) new (inr (is, p)) path = same path p

-- what the crates below know of their steps is handed in
module _
    (looks-keeps : (name shown : List ℕ) → KeepsFiles (Looks name shown))
    (refuses-keeps : (why : ArchiveFault) (size : ℕ) (old : List Event) (ending : Ending) (new : List Event) → Refuses why size old ending new → (path : List ℕ) → changes_at path new ≡ changes_at path old)
  where
    answers-keeps : {A : Type 0} (gives : Result A ArchiveFault → Type 0) (size : ℕ) → KeepsFiles (Answers gives size)
    answers-keeps gives size old (Ok it) new p path = same path p.1
    answers-keeps gives size old (Err ending) new (why, gave, p) path = refuses-keeps why size old ending new p path

    reads-keeps : (named : ImageForm) → KeepsFiles (OnlyReads named)
    reads-keeps named = then-keeps _ _ (looks-keeps named.file.bytes.items named.file.bytes.items)
        (λ file. then-keeps _ _ (judges-keeps named.file.bytes.items (two_readings named.layout named.is_plain file.items))
        (λ it. then-keeps _ _ (finds-keeps (volumes_with named.layout (script_kind named.is_plain file.items)) (body_by (margins_by named.layout (script_kind named.is_plain file.items)) file.items)) (λ bytes. purely-keeps (IsOnlyRead bytes))))

    opens-keeps : (saving : Saving) (named : ImageForm) → saving ≡ Never → KeepsFiles (OpensFor saving named)
    opens-keeps saving named never = subst (λ (s : Saving). KeepsFiles (OpensFor s named)) (sym never) (reads-keeps named)

    pub script-keeps : (named : ImageForm) (form : RunForm) (is_typed : Bool) (input : Reading) → form.saving ≡ Never → KeepsFiles (RunsScript named form is_typed input)
    script-keeps named form is_typed input never = then-keeps _ _ (opens-keeps form.saving named never)
        (λ image. then-keeps _ _ (purely-keeps _) (λ room. then-keeps _ _ (answers-keeps (MountsSession (is_parted image) image.bytes.items) (length image.bytes.items)) (λ session. session-keeps form is_typed image session input never)))

-- ## Replies

pub kept-before : (is_typed : Bool) (start : Image) (later earlier : List Step) (entry : Option Entry) (answer : Result Reply SessionFault) (blocks : List (List ℕ)) (old new : List Event)
    → AreDone is_typed start (later ++ Replies entry answer blocks ∷ earlier) old new → AreKept start (later ++ Replies entry answer blocks ∷ earlier) → changes answer ≡ true → IsKeptBefore is_typed start earlier blocks old
kept-before is_typed start [] earlier entry answer blocks old new done kept changed = record { moment = done.0; done = done.1; saved = kept.0 changed }
kept-before is_typed start (Saves image durability ∷ later) earlier entry answer blocks old new done kept changed = kept-before is_typed start later earlier entry answer blocks old done.0 done.1 kept changed
kept-before is_typed start (Fails ending ∷ later) earlier entry answer blocks old new done kept changed = kept-before is_typed start later earlier entry answer blocks old done.0 done.1 kept changed
kept-before is_typed start (Replies e a b ∷ later) earlier entry answer blocks old new done kept changed = kept-before is_typed start later earlier entry answer blocks old done.0 done.1 kept.1 changed
kept-before is_typed start (Prints bytes ∷ later) earlier entry answer blocks old new done kept changed = kept-before is_typed start later earlier entry answer blocks old done.0 done.1 kept changed
kept-before is_typed start (RefusesPrint why bytes ∷ later) earlier entry answer blocks old new done kept changed = kept-before is_typed start later earlier entry answer blocks old done.0 done.1 kept changed
kept-before is_typed start (Shows form ∷ later) earlier entry answer blocks old new done kept changed = kept-before is_typed start later earlier entry answer blocks old done.0 done.1 kept changed
kept-before is_typed start (Cuts ∷ later) earlier entry answer blocks old new done kept changed = kept-before is_typed start later earlier entry answer blocks old done.0 done.1 kept changed

-- ## Prints

has-failed : (later earlier : List Step) (fault : PrintFault) (bytes : List ℕ) → print_fault (later ++ RefusesPrint fault bytes ∷ earlier) ≡ None → ⊥
has-failed [] earlier fault bytes none = is_fault fault none
has-failed (Saves image durability ∷ later) earlier fault bytes none = has-failed later earlier fault bytes none
has-failed (Fails ending ∷ later) earlier fault bytes none = has-failed later earlier fault bytes none
has-failed (Replies entry answer blocks ∷ later) earlier fault bytes none = has-failed later earlier fault bytes none
has-failed (Prints more ∷ later) earlier fault bytes none = has-failed later earlier fault bytes none
has-failed (RefusesPrint why more ∷ later) earlier fault bytes none = is_fault why none
has-failed (Shows form ∷ later) earlier fault bytes none = has-failed later earlier fault bytes none
has-failed (Cuts ∷ later) earlier fault bytes none = has-failed later earlier fault bytes none

pub no-more : (is_typed : Bool) (start : Image) (later earlier : List Step) (fault : PrintFault) (bytes : List ℕ) (old new : List Event)
    → AreDone is_typed start (later ++ RefusesPrint fault bytes ∷ earlier) old new → PrintNothing later
no-more is_typed start [] earlier fault bytes old new done = tt
no-more is_typed start (Saves image durability ∷ later) earlier fault bytes old new done = no-more is_typed start later earlier fault bytes old done.0 done.1
no-more is_typed start (Fails ending ∷ later) earlier fault bytes old new done = no-more is_typed start later earlier fault bytes old done.0 done.1
no-more is_typed start (Replies entry answer blocks ∷ later) earlier fault bytes old new done = no-more is_typed start later earlier fault bytes old done.0 done.1
no-more is_typed start (Prints more ∷ later) earlier fault bytes old new (mid, done, it) = absurd (has-failed later earlier fault bytes it.0)
no-more is_typed start (RefusesPrint why more ∷ later) earlier fault bytes old new (mid, done, it) = absurd (has-failed later earlier fault bytes it.0)
no-more is_typed start (Shows form ∷ later) earlier fault bytes old new done = no-more is_typed start later earlier fault bytes old done.0 done.1
no-more is_typed start (Cuts ∷ later) earlier fault bytes old new done = no-more is_typed start later earlier fault bytes old done.0 done.1

-- ## Crashes

-- the place of the image is one all the run
same-place : (is_typed : Bool) (start : Image) (steps : List Step) (old new : List Event) → AreDone is_typed start steps old new → (last_image start steps).place ≡ start.place
same-place is_typed start [] old new done = refl
same-place is_typed start (Saves image durability ∷ earlier) old new (mid, done, (none, got)) = got.place ∙ same-place is_typed start earlier old mid done
same-place is_typed start (Fails ending ∷ earlier) old new (mid, done, it) = same-place is_typed start earlier old mid done
same-place is_typed start (Replies entry answer blocks ∷ earlier) old new (mid, done, it) = same-place is_typed start earlier old mid done
same-place is_typed start (Prints bytes ∷ earlier) old new (mid, done, it) = same-place is_typed start earlier old mid done
same-place is_typed start (RefusesPrint why bytes ∷ earlier) old new (mid, done, it) = same-place is_typed start earlier old mid done
same-place is_typed start (Shows form ∷ earlier) old new (mid, done, it) = same-place is_typed start earlier old mid done
same-place is_typed start (Cuts ∷ earlier) old new (mid, done, it) = same-place is_typed start earlier old mid done

body-is : (before : Option Disk) (image body : List ℕ) (after : Option Disk) → IsBodyOf before image body after → body_of after image ≡ body
body-is None image body after (is, none) = rw none (sym is)
body-is (Some disk) image body after (laid, has, is, some) = rw some (sym is)

around-is : (before : Option Parts) (body file : List ℕ) (after : Option Parts) → IsFileAround before body file after → file_around after body ≡ file
around-is None body file after (is, none) = rw none (sym is)
around-is (Some parts) body file after (laid, has, is, some) = rw some (sym is)

file-is : (before image : Image) (file : List ℕ) → IsFileOf before image.bytes.items file image → image_file image ≡ file
file-is before image file (body, has, around) = ap (file_around image.parts) (body-is before.disk image.bytes.items body image.disk has) ∙ around-is before.parts body file image.parts around

abbrev is-there : Option Ending → Type 0
is-there None = ⊥
is-there (Some it) = Unit {0}

-- what a crash may find
abbrev pub CrashLeaves : (is_typed : Bool) (start : Image) (steps : List Step) (old : List Event) (place : Place) (found : Option (List ℕ)) → Type 0
CrashLeaves is_typed start steps old place found = Leaves (ever place (about start.place.path.bytes.items old)) found ⊎ (IsOneOf found steps ⊎ IsInPlace is_typed start steps old)

in-place-later : (is_typed : Bool) (start : Image) (step : Step) (steps : List Step) (old : List Event) → IsInPlace is_typed start steps old → IsInPlace is_typed start (step ∷ steps) old
in-place-later is_typed start step steps old p = record { later = step ∷ p.later; earlier = p.earlier; parts = ap (λ (s : List Step). step ∷ s) p.parts; moment = p.moment; done = p.done; over = p.over }

later-leaves : (is_typed : Bool) (start : Image) (step : Step) (steps : List Step) (old : List Event) (place : Place) (found : Option (List ℕ)) → (IsOneOf found steps → IsOneOf found (step ∷ steps)) → CrashLeaves is_typed start steps old place found → CrashLeaves is_typed start (step ∷ steps) old place found
later-leaves is_typed start step steps old place found one (inl left) = inl left
later-leaves is_typed start step steps old place found one (inr (inl it)) = inr (inl (one it))
later-leaves is_typed start step steps old place found one (inr (inr it)) = inr (inr (in-place-later is_typed start step steps old it))

still : (path : List ℕ) (mid new : List Event) (place : Place) (found : Option (List ℕ)) → changes_at path new ≡ changes_at path mid → Leaves (ever place (about path new)) found → Leaves (ever place (about path mid)) found
still path mid new place found is left = subst (λ (s : List HostStep). Leaves (ever place s) found) (of-file path is) left

saves-leaves : (is_typed : Bool) (start image : Image) (durability : Durability) (earlier : List Step) (old mid new : List Event) (place : Place) (found : Option (List ℕ)) → AreDone is_typed start earlier old mid → save_ending earlier ≡ None
    → GetsImage (has_saved earlier) (has_unsynced earlier) (last_image start earlier) image durability mid new
    → (Leaves (ever place (about start.place.path.bytes.items mid)) found → CrashLeaves is_typed start earlier old place found)
    → Leaves (ever place (about start.place.path.bytes.items new)) found → CrashLeaves is_typed start (Saves image durability ∷ earlier) old place found
saves-leaves is_typed start image durability earlier old mid new place found done none got again left = saves (subst (λ (p : ImagePlace). IsOldOrNew got.file (ever place (about p.path.bytes.items mid)) (ever place (about p.path.bytes.items new)) ⊎ (may_replace new ≡ false)) (same-place is_typed start earlier old mid done) (got.moments place)) where
  path : List ℕ
  path = start.place.path.bytes.items

  before : Leaves (ever place (about path mid)) found → CrashLeaves is_typed start (Saves image durability ∷ earlier) old place found
  before l = later-leaves is_typed start (Saves image durability) earlier old place found inr (again l)

  one : Allows (Just (Some got.file)) found ⊎ Leaves (ever place (about path mid)) found → CrashLeaves is_typed start (Saves image durability ∷ earlier) old place found
  one (inl is) = inr (inl (inl (is ∙ ap (λ (f : List ℕ). Some f) (sym (file-is (last_image start earlier) image got.file got.is)))))
  one (inr l) = before l

  saves : IsOldOrNew got.file (ever place (about path mid)) (ever place (about path new)) ⊎ (may_replace new ≡ false) → CrashLeaves is_typed start (Saves image durability ∷ earlier) old place found
  saves (inl (inl old-one)) = before (subst (λ (l : List Remainder). Leaves l found) old-one left)
  saves (inl (inr new-one)) = one (subst (λ (l : List Remainder). Leaves l found) new-one left)
  saves (inr over) = inr (inr (record { later = []; earlier = Saves image durability ∷ earlier; parts = refl; moment = new; done = (mid, done, (none, got)); over = over }))

pub crash-leaves : (is_typed : Bool) (start : Image) (steps : List Step) (old new : List Event) → AreDone is_typed start steps old new → save_ending steps ≡ None
    → (place : Place) (found : Option (List ℕ)) → Leaves (ever place (about start.place.path.bytes.items new)) found → CrashLeaves is_typed start steps old place found
crash-leaves is_typed start [] old new done none place found left = inl (still start.place.path.bytes.items old new place found (same start.place.path.bytes.items done) left)
crash-leaves is_typed start (Saves image durability ∷ earlier) old new (mid, done, (none', got)) none place found left =
    saves-leaves is_typed start image durability earlier old mid new place found done none' got (λ l. crash-leaves is_typed start earlier old mid done none place found l) left
crash-leaves is_typed start (Fails ending ∷ earlier) old new done none place found left = absurd (some-none ending none) where
  some-none : (it : Ending) → Some it ≡ None → ⊥
  some-none it gone = subst is-there gone tt
crash-leaves is_typed start (Replies entry answer blocks ∷ earlier) old new (mid, done, is) none place found left = later-leaves is_typed start (Replies entry answer blocks) earlier old place found (λ it. it) (crash-leaves is_typed start earlier old mid done none place found (still start.place.path.bytes.items mid new place found (same start.place.path.bytes.items is) left))
crash-leaves is_typed start (Prints bytes ∷ earlier) old new (mid, done, (going, all, is)) none place found left = later-leaves is_typed start (Prints bytes) earlier old place found (λ it. it) (crash-leaves is_typed start earlier old mid done none place found (still start.place.path.bytes.items mid new place found (same start.place.path.bytes.items is) left))
crash-leaves is_typed start (RefusesPrint why bytes ∷ earlier) old new (mid, done, (going, is)) none place found left = later-leaves is_typed start (RefusesPrint why bytes) earlier old place found (λ it. it) (crash-leaves is_typed start earlier old mid done none place found (still start.place.path.bytes.items mid new place found (same start.place.path.bytes.items is) left))
crash-leaves is_typed start (Shows form ∷ earlier) old new (mid, done, (typed, ok, is)) none place found left = later-leaves is_typed start (Shows form) earlier old place found (λ it. it) (crash-leaves is_typed start earlier old mid done none place found (still start.place.path.bytes.items mid new place found (same start.place.path.bytes.items is) left))
crash-leaves is_typed start (Cuts ∷ earlier) old new (mid, done, (ok, is)) none place found left = later-leaves is_typed start Cuts earlier old place found (λ it. it) (crash-leaves is_typed start earlier old mid done none place found (still start.place.path.bytes.items mid new place found (same start.place.path.bytes.items is) left))
