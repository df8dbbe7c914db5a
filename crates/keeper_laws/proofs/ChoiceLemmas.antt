-- Commands on chosen files that change no file of the host, or none where they are refused.
use Rattle.std.proofs.Common.{◌≡◌, ◌++◌, ℕ, Result, Ok, Err, List, length, not, is_some}
use Rattle.hosts.specs.Event.{Event}
use Rattle.hosts.specs.Streams.{changes_at}
use Rattle.archive_files.specs.declared.faults.ArchiveFault.{ArchiveFault}
use Rattle.archive_many.specs.Opened.{OpensVolume}
use Rattle.archive_many.specs.Wishing.{first_unfound}
use Rattle.archive_many.specs.declared.wishes.Wish.{Wish}
use Rattle.outcome.specs.declared.endings.Ending.{Ending}
use Rattle.program_tasks.specs.declared.forms.ImageForm.{ImageForm}
use Rattle.program_tasks.specs.declared.forms.ListForm.{ListForm}
use Rattle.image_files.specs.Answers.{Answers, AreLines, Refuses}
use Rattle.image_files.specs.Laws.{KeepsFiles}
use Rattle.image_files.proofs.KeepLemmas.{after-keeps, purely-keeps, then-keeps}
use Rattle.image_files.proofs.LeaveLemmas.{same}
use Rattle.image_files.specs.Reading.{LooksAt, Opens}
use Rattle.image_files.specs.Saving.{Prints}
use Rattle.image_files.specs.Work.{After, Then, Purely}
use Rattle.show_commands.specs.Listing as lists
use Rattle.image_files.specs.Ending.{EndsSound}
use Rattle.show_commands.specs.Listing.{ListsSome, ListsWished, ListsWords, refusal_lines}
use Rattle.asked_files.specs.Wishing.{AreWished}

-- ## What steps keep

abbrev pub LooksKeep : Type 0
LooksKeep = (form : ImageForm) → KeepsFiles (LooksAt form)

abbrev pub OpensKeep : Type 0
OpensKeep = (form : ImageForm) → KeepsFiles (Opens form)

abbrev pub PrintsKeep : Type 0
PrintsKeep = (bytes : List ℕ) → KeepsFiles (Prints bytes)

abbrev pub RefusesKeep : Type 0
RefusesKeep = (fault : ArchiveFault) (size : ℕ) (old : List Event) (ending : Ending) (new : List Event) → Refuses fault size old ending new → (path : List ℕ) → changes_at path new ≡ changes_at path old

pub answers-keep : RefusesKeep → {A : Type 0} (gives : Result A ArchiveFault → Type 0) (size : ℕ) → KeepsFiles (Answers gives size)
answers-keep law gives size old (Ok it) new p = same old new p.1
answers-keep law gives size old (Err ending) new (fault, is, refuses) = law fault size old ending new refuses

-- ## Lists

lists-wished : PrintsKeep → RefusesKeep → (form : ListForm) (image : List ℕ) (wishes : List Wish) → KeepsFiles (ListsWished form image wishes)
lists-wished prints law form image wishes =
    then-keeps (Answers (ListsWords form image) (length image)) (λ lines. Then (Purely (AreLines (refusal_lines (lists.words_in form) wishes ++ lines.items))) (λ text. Then (After (not (is_some (first_unfound wishes))) (Prints text.items)) (λ it. Purely (EndsSound (not (is_some (first_unfound wishes)))))))
    (answers-keep law (ListsWords form image) (length image))
    (λ lines. then-keeps (Purely (AreLines (refusal_lines (lists.words_in form) wishes ++ lines.items))) (λ text. Then (After (not (is_some (first_unfound wishes))) (Prints text.items)) (λ it. Purely (EndsSound (not (is_some (first_unfound wishes))))))
    (purely-keeps (AreLines (refusal_lines (lists.words_in form) wishes ++ lines.items)))
    (λ text. then-keeps (After (not (is_some (first_unfound wishes))) (Prints text.items)) (λ it. Purely (EndsSound (not (is_some (first_unfound wishes)))))
    (after-keeps (not (is_some (first_unfound wishes))) (Prints text.items) (prints text.items)) (λ it. purely-keeps (EndsSound (not (is_some (first_unfound wishes)))))))

pub lists-keep : LooksKeep → PrintsKeep → RefusesKeep → (form : ListForm) → KeepsFiles (ListsSome form)
lists-keep looks prints law form =
    then-keeps (LooksAt form.image) (λ image. Then (Answers (OpensVolume image.items) (length image.items)) (λ blocks. Then (Purely (AreWished (lists.words_in form) blocks)) (λ wishes. ListsWished form image.items wishes.items)))
    (looks form.image)
    (λ image. then-keeps (Answers (OpensVolume image.items) (length image.items)) (λ blocks. Then (Purely (AreWished (lists.words_in form) blocks)) (λ wishes. ListsWished form image.items wishes.items))
    (answers-keep law (OpensVolume image.items) (length image.items))
    (λ blocks. then-keeps (Purely (AreWished (lists.words_in form) blocks)) (λ wishes. ListsWished form image.items wishes.items)
    (purely-keeps (AreWished (lists.words_in form) blocks)) (λ wishes. lists-wished prints law form image.items wishes.items)))
