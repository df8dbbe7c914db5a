-- The commands that change the volume in an image file and read nothing else.
use Rattle.std.proofs.Common.{◌≡◌, ◌∙◌, ◌⊎◌, ℕ, Bool, true, false, Option, None, Some, Result, Ok, List, [], ap, refl, subst, inl, inr, length, map}
use Rattle.std.specs.Global.{Vec}
use Rattle.hosts.specs.Event.{Event}
use Rattle.hosts.specs.Streams.{output}
use Rattle.name_spelling.specs.Patterns.{has_pattern}
use Rattle.archive_files.specs.Asking.{Target, AtBlock, target_of}
use Rattle.archive_files.specs.Renaming.{RenamesFile}
use Rattle.archive_files.specs.Squeezing.{SqueezesFiles}
use Rattle.archive_files.specs.declared.asking.Asked.{Asked}
use Rattle.archive_files.specs.declared.faults.ArchiveFault.{ArchiveFault}
use Rattle.archive_files.specs.declared.faults.DeleteFault.{DeleteFault}
use Rattle.archive_files.specs.declared.faults.DeleteFault.TheVariants.{Archive, Name}
use Rattle.archive_files.specs.declared.faults.RenameFault.{RenameFault}
use Rattle.archive_files.specs.declared.faults.RenameFault.TheVariants as rename
use Rattle.archive_many.specs.Opened.{OpensVolume}
use Rattle.archive_many.specs.Wishing.{by_place, first_unfound, found_files}
use Rattle.archive_many.specs.declared.wishes.Wish.{Wish}
use Rattle.archive_many.specs.declared.wishes.Wish.TheVariants as wish
use Rattle.program_reports.specs.Program.{program_line}
use Rattle.program_reports.specs.declared.programs.ProgramLine.TheVariants as line
use Rattle.outcome.specs.declared.endings.Ending.{Ending}
use Rattle.program_tasks.specs.declared.forms.DeleteForm.{DeleteForm}
use Rattle.program_tasks.specs.declared.forms.ImageForm.{ImageForm}
use Rattle.image_files.specs.Answers.{Answers, AreLines}
use Rattle.image_files.specs.Laws.{LeavesFiles, is_refusal}
use Rattle.image_files.specs.Reading.{Opens}
use Rattle.image_files.specs.Saving.{Stores}
use Rattle.image_files.specs.Work.{Follows, Then, Purely}
use Rattle.image_files.specs.declared.images.Image.{Image}
use Rattle.asked_files.specs.Asking.{AreNamed}
use Rattle.change_commands.specs.Changing.{Changes, GivesName, RefusesName, Renames, Squeezes}
use Rattle.change_commands.specs.Choosing.{AreWished, FindsAll, MeansFiles, MeansIf, RefusesWish, TellsRefused, one_of_several, word_at, words_in}
use Rattle.change_commands.specs.Deleting.{Deletes, RefusesFile, TakesMeant, TakesOut, deleted_lines}
use Rattle.keeper_laws.specs.Changes.{AreFound, AreMeant, DeletesMeant, HasChanged, HasDeleted, HasRenamed, HasSqueezed}
use Rattle.keeper_laws.specs.Ended.{EndsAs}
use Rattle.keeper_laws.proofs.OpenLemmas.{FindsSaved, FindsUnsaved, HasOpened, has-opened, still}
use Rattle.keeper_laws.proofs.RefuseLemmas.{IsRefused, OnlyRefuses, answers-refuse, answers-silent, ends-so, lines-refuse, opens-refuses, purely-silent, reaches, refused-after, refuses-refused, then-refuses}
use Rattle.keeper_laws.proofs.PrepareLemmas.{made-or-refused}
use Rattle.keeper_laws.proofs.StoreLemmas.{IsReady, by-store}

-- a step that gives this asks nothing of the host where it succeeds
abbrev GivesStill : {A : Type 0} → (A → Type 0) → (List Event → Result A Ending → List Event → Type 0) → Type 0
GivesStill {A} gives step = (old : List Event) (made : A) (new : List Event) → step old (Ok made) new → gives made × (new ≡ old)

module _ {A : Type 0} (answers : List ℕ → List Event → Result A Ending → List Event → Type 0) (gives : List ℕ → A → Type 0) (image_of lines_of : A → List ℕ) (form : ImageForm)
    (refuses : (image : List ℕ) → OnlyRefuses (answers image)) (gives_still : (image : List ℕ) → GivesStill (gives image) (answers image))
  where
    -- the new volume is made, and is to be stored
    record IsMade (old : List Event) (result : Result (Unit {0}) Ending) (new : List Event) : Type 0 where
      image : Image
      made : A
      gave : gives image.bytes.items made
      is_ready : IsReady form [] image (image_of made) (lines_of made) old result new

    ready : (old : List Event) (result : Result (Unit {0}) Ending) (new : List Event) → Changes answers image_of lines_of form old result new → IsMade old result new ⊎ IsRefused result old new
    ready old result new p = go (reaches (Opens form) (λ image. Then (answers image.bytes.items) (λ made. Then (Purely (AreLines (lines_of made))) (λ lines. Stores image (image_of made) lines.items))) (opens-refuses form) old result new p)
      where
        line : (image : Image) (one : List Event) → HasOpened form old image one → (made : A) (two : List Event) → gives image.bytes.items made × (two ≡ one)
            → Follows (Purely (AreLines (lines_of made))) (λ lines. Stores image (image_of made) lines.items) two result new ⊎ IsRefused result two new → IsMade old result new ⊎ IsRefused result old new
        line image one o made two (gave, same) (inr refused) = inr (refused-after result old two new (ap output same ∙ o.quiet.prints) refused)
        line image one o made two (gave, same) (inl l) = inl (record {
          image = image;
          made = made;
          gave = gave;
          is_ready = record {
            opened_at = one;
            start = o;
            mid = l.between;
            quiet = still one l.between (l.done.1 ∙ same);
            stores = subst (λ (x : List ℕ). Stores image (image_of made) x l.between result new) l.done.0 l.after;
          };
        })

        given : (image : Image) (one : List Event) → HasOpened form old image one
            → Follows (answers image.bytes.items) (λ made. Then (Purely (AreLines (lines_of made))) (λ lines. Stores image (image_of made) lines.items)) one result new ⊎ IsRefused result one new → IsMade old result new ⊎ IsRefused result old new
        given image one o (inr refused) = inr (refused-after result old one new o.quiet.prints refused)
        given image one o (inl a) = line image one o a.given a.between (gives_still image.bytes.items one a.given a.between a.done)
            (reaches (Purely (AreLines (lines_of a.given))) (λ lines. Stores image (image_of a.given) lines.items) (lines-refuse (lines_of a.given)) a.between result new a.after)

        go : Follows (Opens form) (λ image. Then (answers image.bytes.items) (λ made. Then (Purely (AreLines (lines_of made))) (λ lines. Stores image (image_of made) lines.items))) old result new ⊎ IsRefused result old new
            → IsMade old result new ⊎ IsRefused result old new
        go (inr refused) = inr refused
        go (inl it) = given it.given it.between (has-opened form old it.given it.between it.done)
            (reaches (answers it.given.bytes.items) (λ made. Then (Purely (AreLines (lines_of made))) (λ lines. Stores it.given (image_of made) lines.items)) (refuses it.given.bytes.items) it.between result new it.after)

    change-ends : FindsSaved → FindsUnsaved → LeavesFiles (Changes answers image_of lines_of form) → (old : List Event) (result : Result (Unit {0}) Ending) (new : List Event)
        → Changes answers image_of lines_of form old result new → EndsAs form (HasChanged gives image_of lines_of form) result old new
    change-ends saves stays leaves old result new p =
        made-or-refused form (HasChanged gives image_of lines_of form) (Changes answers image_of lines_of form) leaves old result new p (ready old result new p) (λ m.
        by-store saves stays form [] m.image (image_of m.made) (lines_of m.made) (HasChanged gives image_of lines_of form) old result new m.is_ready (λ ok has reads prints. record {
          image = m.image;
          path = m.is_ready.start.path;
          was = m.is_ready.start.was;
          opened = m.is_ready.start.opened;
          reads = reads;
          made = m.made;
          gave = m.gave;
          has = has;
          prints = prints;
        }))

-- ## The commands

answers-still : {A : Type 0} (gives : Result A ArchiveFault → Type 0) (size : ℕ) → GivesStill (λ made. gives (Ok made)) (Answers gives size)
answers-still gives size old made new p = p

pub squeeze-ends : FindsSaved → FindsUnsaved → (form : ImageForm) → LeavesFiles (Squeezes form) → (old : List Event) (result : Result (Unit {0}) Ending) (new : List Event) → Squeezes form old result new
    → EndsAs form (HasSqueezed form) result old new
squeeze-ends saves stays form leaves =
    change-ends (λ image. Answers (SqueezesFiles image) (length image)) (λ image made. SqueezesFiles image (Ok made)) (λ made. made.bytes.items) (λ made. program_line (line.Squeezed made.move_count)) form
    (λ image. answers-refuse (SqueezesFiles image) (length image)) (λ image. answers-still (SqueezesFiles image) (length image)) saves stays leaves

name-refused : (fault : RenameFault) (size : ℕ) (old : List Event) (ending : Ending) (new : List Event) → RefusesName fault size old ending new → (is_refusal ending ≡ true) × (output new ≡ output old)
name-refused (rename.Archive fault) size old ending new p = refuses-refused fault size old ending new p
name-refused rename.Exists size old ending new p = (ends-so ending _ p.0 refl, ap output p.1)

pub rename-ends : FindsSaved → FindsUnsaved → (wanted : Target) (other : List ℕ) (form : ImageForm) → LeavesFiles (Renames wanted other form) → (old : List Event) (result : Result (Unit {0}) Ending) (new : List Event)
    → Renames wanted other form old result new → EndsAs form (HasRenamed wanted other form) result old new
rename-ends saves stays wanted other form leaves =
    change-ends (GivesName wanted other) (λ image made. RenamesFile image wanted other (Ok made)) (λ made. made.bytes.items) (λ made. program_line (line.Renamed made.old_name made.new_name)) form
    (λ image old ending new p. name-refused p.0 (length image) old ending new p.2) (λ image old made new p. p) saves stays leaves

told-silent : (wanted : Option Target) (old new : List Event) → TellsRefused wanted old new → output new ≡ output old
told-silent None old new p = ap output p
told-silent (Some wanted) old new p = ap output p.1

file-refused : (wanted : List Target) (fault : DeleteFault) (size : ℕ) (old : List Event) (ending : Ending) (new : List Event) → RefusesFile wanted fault size old ending new
    → (is_refusal ending ≡ true) × (output new ≡ output old)
file-refused wanted (Archive fault) size old ending new p = refuses-refused fault size old ending new p
file-refused wanted (Name place fault) size old ending new p = (ends-so ending _ p.0 refl, told-silent (one_of_several wanted place) old new p.1)

out-refuses : (wanted : List Target) (image : List ℕ) → OnlyRefuses (TakesOut wanted image)
out-refuses wanted image old ending new (inl (why, deletes, p)) = file-refused wanted why (length image) old ending new p
out-refuses wanted image old ending new (inr p) = (ends-so ending _ p.0 refl, ap output p.1)

wish-refused : (form : DeleteForm) (one : Wish) (old : List Event) (ending : Ending) (new : List Event) → RefusesWish form one old ending new
    → (is_refusal ending ≡ true) × (output new ≡ output old)
wish-refused form (wish.File file) old ending new p = absurd p
wish-refused form (wish.BadWord place) old ending new p = (ends-so ending _ p.0 refl, told-silent (word_at form place) old new p.1)
wish-refused form (wish.NotFound place) old ending new p = (ends-so ending _ p.0 refl, told-silent (word_at form place) old new p.1)
wish-refused form (wish.Block block) old ending new p = (ends-so ending _ p.0 refl, told-silent (Some (AtBlock block)) old new p.1)

finds-refuses : (form : DeleteForm) (wishes : List Wish) → OnlyRefuses (FindsAll form wishes)
finds-refuses form wishes old ending new (inl (one, first, p)) = wish-refused form one old ending new p
finds-refuses form wishes old ending new (inr p) = (ends-so ending _ p.0 refl, ap output p.1)

wished-refuses : (form : DeleteForm) (blocks : List (List ℕ)) → OnlyRefuses (Purely (AreWished form blocks))
wished-refuses form blocks old ending new p = (ends-so ending _ p.0 refl, ap output p.1)

named-refuses : (form : DeleteForm) → OnlyRefuses (Purely (AreNamed form))
named-refuses form old ending new p = (ends-so ending _ p.0 refl, ap output p.1)

means-refuses : (is : Bool) (form : DeleteForm) (image : List ℕ) → OnlyRefuses (MeansIf is form image)
means-refuses true form image = then-refuses (Answers (OpensVolume image) (length image)) (λ blocks. Then (Purely (AreWished form blocks)) (λ wishes. FindsAll form wishes.items))
    (answers-refuse (OpensVolume image) (length image)) (answers-silent (OpensVolume image) (length image))
    (λ blocks. then-refuses (Purely (AreWished form blocks)) (λ wishes. FindsAll form wishes.items) (wished-refuses form blocks) (purely-silent (AreWished form blocks)) (λ wishes. finds-refuses form wishes.items))
means-refuses false form image = named-refuses form

-- the files that were meant are asked for without a call
means-still : (is : Bool) (form : DeleteForm) (image : List ℕ) (old : List Event) (files : Vec Asked) (new : List Event) → MeansIf is form image old (Ok files) new → new ≡ old
means-still true form image old files new (inl ends) = absurd ends
means-still true form image old files new (inr it) = wished it.after ∙ it.done.1
  where
    wished : Then (Purely (AreWished form it.given)) (λ wishes. FindsAll form wishes.items) it.between (Ok files) new → new ≡ it.between
    wished (inl ends) = absurd ends
    wished (inr w) = w.after.2 ∙ w.done.1
means-still false form image old files new p = p.1

-- and they are those that are meant
means-meant : (is : Bool) (form : DeleteForm) (image : List ℕ) (old : List Event) (files : Vec Asked) (new : List Event) → MeansIf is form image old (Ok files) new → AreMeant is form image (map target_of files.items)
means-meant true form image old files new (inl ends) = absurd ends
means-meant true form image old files new (inr it) = chosen it.after
  where
    chosen : Then (Purely (AreWished form it.given)) (λ wishes. FindsAll form wishes.items) it.between (Ok files) new → AreFound form image (map target_of files.items)
    chosen (inl ends) = absurd ends
    chosen (inr w) = record {
      blocks = it.given;
      opens = it.done.0;
      all = subst (λ (wishes : List Wish). first_unfound wishes ≡ None) w.done.0 w.after.0;
      are = w.after.1 ∙ ap (λ (wishes : List Wish). map by_place (found_files wishes)) w.done.0;
    }
means-meant false form image old files new p = p.0

meant-still : (form : DeleteForm) (image : List ℕ) → GivesStill (DeletesMeant form image) (TakesMeant form image)
meant-still form image old made new (inl ends) = absurd ends
meant-still form image old made new (inr it) = (
  (map target_of it.given.items, means-meant (has_pattern (words_in form)) form image old it.given it.between it.done, it.after.0),
  it.after.1 ∙ means-still (has_pattern (words_in form)) form image old it.given it.between it.done,
)

pub delete-ends : FindsSaved → FindsUnsaved → (form : DeleteForm) → LeavesFiles (Deletes form) → (old : List Event) (result : Result (Unit {0}) Ending) (new : List Event) → Deletes form old result new
    → EndsAs form.image (HasDeleted form) result old new
delete-ends saves stays form leaves = change-ends (TakesMeant form) (DeletesMeant form) (λ made. made.bytes.items) (λ made. deleted_lines made.names.items) form.image
    (λ image. then-refuses (MeansFiles form image) (λ files. TakesOut (map target_of files.items) image) (means-refuses (has_pattern (words_in form)) form image)
    (λ old files new p. ap output (means-still (has_pattern (words_in form)) form image old files new p)) (λ files. out-refuses (map target_of files.items) image))
    (λ image. meant-still form image) saves stays leaves
