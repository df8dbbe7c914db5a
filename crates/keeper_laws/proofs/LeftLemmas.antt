-- Which files a change leaves alone, in a keeper's words.
use Rattle.std.proofs.Common.{◌≡◌, ◌∙◌, ◌⊎◌, ℕ, Bool, true, false, not, None, Ok, Err, Result, List, [], ◌∷◌, map, refl, sym, ap, subst, inl, inr, true≢false}
use Rattle.hosts.specs.Event.{Event, Call, Change, Alter, MakeBeside, OwnBeside, WriteBeside, SyncBeside, DropBeside, DateBeside, Rename, LinkNew, Claim, DropClaim, SyncFolder, WriteOver, FinishOver, Resolve, Hold, DropSeconds, Look, TakeInput, Alone, Leads, LockBeside, Free, There, MakeFolder, Print, Tell, Terminal, Seconds, Pause, Word, EndOfWords, TimeOf, Same, DropLeftovers}
use Rattle.hosts.specs.Place.{Place, Step, Just, about, replay}
use Rattle.hosts.specs.Saving.{IsClear, stays_beside, with_left}
use Rattle.hosts.specs.Streams.{folders, with_folder}
use Rattle.outcome.specs.declared.endings.Ending.{Ending}
use Rattle.outcome.specs.declared.endings.Ending.TheVariants.{Line, Fault, Failure, Busy, NotWritten, FullOutput, Unreported, NoReader, Misuse}
use Rattle.program_tasks.specs.declared.forms.ImageForm.{ImageForm}
use Rattle.image_files.specs.Laws.{ChangesNothing, is_refusal}
use Rattle.image_files.specs.Reading.{Holds, looked_name}
use Rattle.image_files.specs.declared.reading.ImagePlace.{ImagePlace}
use Rattle.image_files.proofs.KeepLemmas.{of-file, of-folders}
use Rattle.keeper_laws.specs.Changed.{ChangesNoOther}
use Rattle.keeper_laws.specs.Ended.{TouchesHeld, TouchesItAlone}
use Rattle.keeper_laws.specs.Questions.{AreUntouched, HasFailedDrop, IsRefusal, IsTouchedAlone, asked_folders, with_asked_folder}
use Rattle.keeper_laws.proofs.AloneLemmas.{alone-at}
use Rattle.keeper_laws.proofs.StoreLemmas.{held-path}

-- the names of folders
names : List (Bool × List ℕ) → List (List ℕ)
names [] = []
names (one ∷ others) = one.1 ∷ names others

folder-so : (call : Call) (e : Event) (before : List (Bool × List ℕ)) → with_asked_folder call e (names before) ≡ names (with_folder call e before)
unfolding names
folder-so (Alter change) e before = refl
folder-so Resolve e before = refl
folder-so Hold e before = refl
folder-so DropSeconds e before = refl
folder-so Look e before = refl
folder-so TakeInput e before = refl
folder-so Alone e before = refl
folder-so Leads e before = refl
folder-so LockBeside e before = refl
folder-so Free e before = refl
folder-so There e before = refl
folder-so MakeFolder e before = refl
folder-so Print e before = refl
folder-so Tell e before = refl
folder-so Terminal e before = refl
folder-so Seconds e before = refl
folder-so Pause e before = refl
folder-so Word e before = refl
folder-so EndOfWords e before = refl
folder-so TimeOf e before = refl
folder-so Same e before = refl
folder-so DropLeftovers e before = refl

folders-are : (events : List Event) → asked_folders events ≡ names (folders events)
unfolding names
folders-are [] = refl
folders-are (e ∷ earlier) = ap (λ (l : List (List ℕ)). with_asked_folder e.call e l) (folders-are earlier) ∙ folder-so e.call e (folders earlier)

same-folders : (old new : List Event) → folders new ≡ folders old → asked_folders new ≡ asked_folders old
same-folders old new is = folders-are new ∙ ap names is ∙ sym (folders-are old)

pub untouched : (old new : List Event) → ChangesNothing old new → AreUntouched old new
untouched old new same = record { files = λ path. of-file path (same path); folders = same-folders old new (of-folders [] (same [])) }

pub refusal : (ending : Ending) → IsRefusal ending → is_refusal ending ≡ true
refusal (Line it) is = refl
refusal (Fault it) is = refl
refusal Failure is = refl
refusal (Busy it) is = refl
refusal Misuse is = refl
refusal (NotWritten it left) is = absurd is
refusal FullOutput is = absurd is
refusal Unreported is = absurd is
refusal NoReader is = absurd is

-- ## Beside a path

left-so : (change : Change) (ok before : Bool) → with_left change ok before ≡ true → ((change ≡ DropBeside) × (ok ≡ false)) ⊎ (before ≡ true)
left-so MakeBeside true before is = absurd (true≢false (sym is))
left-so MakeBeside false before is = inr is
left-so DropBeside true before is = absurd (true≢false (sym is))
left-so DropBeside false before is = inl (refl, refl)
left-so OwnBeside ok before is = inr is
left-so WriteBeside ok before is = inr is
left-so SyncBeside ok before is = inr is
left-so DateBeside ok before is = inr is
left-so Rename ok before is = inr is
left-so LinkNew ok before is = inr is
left-so Claim ok before is = inr is
left-so DropClaim ok before is = inr is
left-so SyncFolder ok before is = inr is
left-so WriteOver ok before is = inr is
left-so FinishOver ok before is = inr is

either : {A B C : Type 0} → A ⊎ B → (B → C) → A ⊎ C
either (inl is) f = inl is
either (inr q) f = inr (f q)

failed-drop : (steps : List Step) → stays_beside steps ≡ true → HasFailedDrop steps
failed-drop [] is = absurd (true≢false (sym is))
failed-drop (s ∷ earlier) is = either (left-so s.change s.ok (stays_beside earlier) is) (λ q. failed-drop earlier q)

beside-so : (old new : List Step) (before p : Place) → IsClear old new before p → (p.beside ≡ Just None) ⊎ ((p.beside ≡ before.beside) ⊎ HasFailedDrop new)
beside-so old new before p (inl none) = inl none
beside-so old new before p (inr (inl left)) = inr (inr (failed-drop new left))
beside-so old new before p (inr (inr same)) = inr (inl same.0)

held-alone : (form : ImageForm) (old new : List Event) → TouchesHeld form old new → IsTouchedAlone form old new
held-alone form old new t =
    let alone : ChangesNoOther t.place.path.bytes.items old new =
    alone-at t.place.path.bytes.items t.path old new (sym (t.held.2 ∙ held-path t.place form.file.bytes.items t.is_held)) t.alone in
    record {
      place = t.place;
      begun = t.held.0;
      held = t.held.1;
      is_held = t.is_held;
      others = alone.others;
      beside = λ start. beside-so (about t.place.path.bytes.items old) (about t.place.path.bytes.items new) (replay start (about t.place.path.bytes.items old)) (replay start (about t.place.path.bytes.items new)) (alone.beside start);
      folders = same-folders old new alone.keeps_folders;
    }

pub touched-alone : (form : ImageForm) (old new : List Event) → TouchesItAlone form old new → AreUntouched old new ⊎ IsTouchedAlone form old new
touched-alone form old new (inl none) = inl (untouched old new none)
touched-alone form old new (inr t) = inr (held-alone form old new t)
