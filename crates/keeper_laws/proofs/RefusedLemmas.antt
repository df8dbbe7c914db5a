-- Commands that have changed no file where they are refused.
use Rattle.std.proofs.Common.{ℕ, Bool, true, false, Option, None, Some, Result, Ok, Err, List, inl, inr, length, map}
use Rattle.hosts.specs.Event.{Event}
use Rattle.name_spelling.specs.Patterns.{has_pattern}
use Rattle.outcome.specs.declared.endings.Ending.{Ending}
use Rattle.archive_files.specs.Asking.{Target, AtBlock, target_of}
use Rattle.archive_files.specs.declared.faults.DeleteFault.{DeleteFault}
use Rattle.archive_files.specs.declared.faults.DeleteFault.TheVariants.{Archive, Name}
use Rattle.archive_files.specs.declared.faults.RenameFault.{RenameFault}
use Rattle.archive_files.specs.declared.faults.RenameFault.TheVariants as rename
use Rattle.archive_files.specs.Squeezing.{SqueezesFiles}
use Rattle.archive_many.specs.Opened.{OpensVolume}
use Rattle.archive_many.specs.declared.wishes.Wish.{Wish}
use Rattle.archive_many.specs.declared.wishes.Wish.TheVariants as wish
use Rattle.program_tasks.specs.declared.forms.DeleteForm.{DeleteForm}
use Rattle.program_tasks.specs.declared.forms.ImageForm.{ImageForm}
use Rattle.image_files.specs.Answers.{Answers, AreLines}
use Rattle.asked_files.specs.Asking.{AreNamed}
use Rattle.change_commands.specs.Changing.{Changes, GivesName, RefusesName, Renames, Squeezes}
use Rattle.change_commands.specs.Choosing.{AreWished, Chooses, FindsAll, MeansFiles, MeansIf, RefusesWish, TellsRefused, one_of_several, word_at, words_in}
use Rattle.change_commands.specs.Deleting.{Deletes, TakesMeant, TakesOut, RefusesFile}
use Rattle.image_files.specs.Reading.{Opens}
use Rattle.image_files.specs.Saving.{Stores}
use Rattle.image_files.specs.Work.{Then, Purely}
use Rattle.image_files.specs.declared.images.Image.{Image}
use Rattle.image_files.specs.Laws.{KeepsFiles, ChangesNothing, LeavesFiles}
use Rattle.image_files.proofs.KeepLemmas.{then-keeps, purely-keeps}
use Rattle.image_files.proofs.LeaveLemmas.{same, told, then-leaves, refuses-never, answers-never, opens-never, stores-leaves}

-- ## One change of an image

-- the new image is saved, and its lines are printed
lines-leave : (image : Image) (bytes text : List ℕ) → LeavesFiles (Then (Purely (AreLines text)) (λ lines. Stores image bytes lines.items))
lines-leave image bytes text = then-leaves (Purely (AreLines text)) (λ lines. Stores image bytes lines.items) (purely-keeps (AreLines text)) (λ lines. stores-leaves image bytes lines.items)

pub changes-leave : {A : Type 0} (answers : List ℕ → List Event → Result A Ending → List Event → Type 0) (image_of lines_of : A → List ℕ) (form : ImageForm) → ((bytes : List ℕ) → KeepsFiles (answers bytes))
    → LeavesFiles (Changes answers image_of lines_of form)
changes-leave answers image_of lines_of form never =
    then-leaves (Opens form) (λ image. Then (answers image.bytes.items) (λ made. Then (Purely (AreLines (lines_of made))) (λ lines. Stores image (image_of made) lines.items)))
    (opens-never form)
    (λ image. then-leaves (answers image.bytes.items) (λ made. Then (Purely (AreLines (lines_of made))) (λ lines. Stores image (image_of made) lines.items))
    (never image.bytes.items) (λ made. lines-leave image (image_of made) (lines_of made)))

pub squeezes-leave : (form : ImageForm) → LeavesFiles (Squeezes form)
squeezes-leave form = changes-leave (λ image. Answers (SqueezesFiles image) (length image)) _ _ form (λ image. answers-never (SqueezesFiles image) (length image))

gives-name-never : (wanted : Target) (other image : List ℕ) → KeepsFiles (GivesName wanted other image)
gives-name-never wanted other image old (Ok it) new p = same old new p.1
gives-name-never wanted other image old (Err ending) new (why, renames, p) = refused why p
  where
    refused : (fault : RenameFault) → RefusesName fault (length image) old ending new → ChangesNothing old new
    refused (rename.Archive fault) r = refuses-never fault (length image) old ending new r
    refused rename.Exists r = same old new r.1

pub renames-leave : (wanted : Target) (other : List ℕ) (form : ImageForm) → LeavesFiles (Renames wanted other form)
renames-leave wanted other form = changes-leave (GivesName wanted other) _ _ form (gives-name-never wanted other)

tells-refused : (wanted : Option Target) (old new : List Event) → TellsRefused wanted old new → ChangesNothing old new
tells-refused None old new p = same old new p
tells-refused (Some wanted) old new p = told p.0 _ old new p.1

takes-out-never : (wanted : List Target) (image : List ℕ) → KeepsFiles (TakesOut wanted image)
takes-out-never wanted image old (Ok it) new p = same old new p.1
takes-out-never wanted image old (Err ending) new (inl (why, deletes, p)) = refused why p
  where
    refused : (fault : DeleteFault) → RefusesFile wanted fault (length image) old ending new → ChangesNothing old new
    refused (Archive fault) r = refuses-never fault (length image) old ending new r
    refused (Name place fault) r = tells-refused (one_of_several wanted place) old new r.1
takes-out-never wanted image old (Err ending) new (inr p) = same old new p.1

refuses-wish : (form : DeleteForm) (one : Wish) (old : List Event) (ending : Ending) (new : List Event) → RefusesWish form one old ending new → ChangesNothing old new
refuses-wish form (wish.File file) old ending new p = absurd p
refuses-wish form (wish.BadWord place) old ending new p = tells-refused (word_at form place) old new p.1
refuses-wish form (wish.NotFound place) old ending new p = tells-refused (word_at form place) old new p.1
refuses-wish form (wish.Block block) old ending new p = tells-refused (Some (AtBlock block)) old new p.1

finds-all-never : (form : DeleteForm) (wishes : List Wish) → KeepsFiles (FindsAll form wishes)
finds-all-never form wishes old (Ok files) new p = same old new p.2
finds-all-never form wishes old (Err ending) new (inl (one, first, p)) = refuses-wish form one old ending new p
finds-all-never form wishes old (Err ending) new (inr p) = same old new p.1

chooses-never : (form : DeleteForm) (image : List ℕ) → KeepsFiles (Chooses form image)
chooses-never form image =
    then-keeps (Answers (OpensVolume image) (length image)) (λ blocks. Then (Purely (AreWished form blocks)) (λ wishes. FindsAll form wishes.items)) (answers-never (OpensVolume image) (length image))
    (λ blocks. then-keeps (Purely (AreWished form blocks)) (λ wishes. FindsAll form wishes.items) (purely-keeps (AreWished form blocks)) (λ wishes. finds-all-never form wishes.items))

means-if-never : (is : Bool) (form : DeleteForm) (image : List ℕ) → KeepsFiles (MeansIf is form image)
means-if-never true form image = chooses-never form image
means-if-never false form image = purely-keeps (AreNamed form)

takes-meant-never : (form : DeleteForm) (image : List ℕ) → KeepsFiles (TakesMeant form image)
takes-meant-never form image =
    then-keeps (MeansFiles form image) (λ files. TakesOut (map target_of files.items) image) (means-if-never (has_pattern (words_in form)) form image) (λ files. takes-out-never (map target_of files.items) image)

pub deletes-leave : (form : DeleteForm) → LeavesFiles (Deletes form)
deletes-leave form = changes-leave (TakesMeant form) _ _ form.image (takes-meant-never form)
