-- The command that prints texts changes no file of the host.
use Rattle.std.proofs.Common.{◌≡◌, ◌&&◌, ◌++◌, not, ℕ, Bool, true, inl, inr, Ok, List, [], ◌∷◌, length}
use Rattle.archive_many.specs.Opened.{OpensVolume}
use Rattle.archive_many.specs.declared.opened.VolumeFile.{VolumeFile}
use Rattle.archive_many.specs.declared.wishes.Wish.{Wish}
use Rattle.archive_many.specs.declared.wishes.Wish.TheVariants as wish
use Rattle.program_tasks.specs.declared.forms.ImageForm.{ImageForm}
use Rattle.image_files.specs.Answers.{Answers, AreLines}
use Rattle.image_files.specs.Laws.{KeepsFiles}
use Rattle.image_files.specs.Reading.{LooksAt}
use Rattle.image_files.specs.Saving.{Prints}
use Rattle.image_files.specs.Work.{After, Then, Purely}
use Rattle.image_files.specs.Ending.{EndsSound}
use Rattle.get_commands.specs.Texts.{AreAsked, AreSeveral, IsHostName, RefusesWish, ShowsEach, ShowsText, ShowsTexts, ShowsWish, TakesText, TellsNone, head_of, refusal_line}
use Rattle.image_files.proofs.KeepLemmas.{after-keeps, purely-keeps, then-keeps}
use Rattle.image_files.proofs.LeaveLemmas.{same, told}
use Rattle.keeper_laws.proofs.ChoiceLemmas.{LooksKeep, PrintsKeep, RefusesKeep, answers-keep}

shows-text : PrintsKeep → (several first : Bool) (blocks : List (List ℕ)) (file : VolumeFile) → KeepsFiles (ShowsText several first blocks file)
shows-text prints several first blocks file =
    then-keeps (Purely (IsHostName file)) (λ name. Then (Purely (TakesText blocks file)) (λ text. Then (Purely (AreLines (head_of several first name.bytes.items ++ text.items))) (λ bytes. Then (Prints bytes.items) (λ it. Purely (λ result. result ≡ Ok true)))))
    (purely-keeps (IsHostName file))
    (λ name. then-keeps (Purely (TakesText blocks file)) (λ text. Then (Purely (AreLines (head_of several first name.bytes.items ++ text.items))) (λ bytes. Then (Prints bytes.items) (λ it. Purely (λ result. result ≡ Ok true))))
    (purely-keeps (TakesText blocks file))
    (λ text. then-keeps (Purely (AreLines (head_of several first name.bytes.items ++ text.items))) (λ bytes. Then (Prints bytes.items) (λ it. Purely (λ result. result ≡ Ok true)))
    (purely-keeps (AreLines (head_of several first name.bytes.items ++ text.items)))
    (λ bytes. then-keeps (Prints bytes.items) (λ it. Purely (λ result. result ≡ Ok true)) (prints bytes.items) (λ it. purely-keeps (λ result. result ≡ Ok true)))))

tells-none : (line : List ℕ) → KeepsFiles (TellsNone line)
tells-none line old result new (is, inl (utf8, ok, p)) = told ok _ old new p
tells-none line old result new (is, inr (other, p)) = same old new p

refuses-wish : (words : List (List ℕ)) (one : Wish) → KeepsFiles (RefusesWish words one)
refuses-wish words one =
    then-keeps (Purely (AreLines (refusal_line words one))) (λ line. TellsNone line.items) (purely-keeps (AreLines (refusal_line words one))) (λ line. tells-none line.items)

shows-wish : PrintsKeep → (several first : Bool) (blocks words : List (List ℕ)) (one : Wish) → KeepsFiles (ShowsWish several first blocks words one)
shows-wish prints several first blocks words (wish.File file) = shows-text prints several first blocks file
shows-wish prints several first blocks words (wish.BadWord place) = refuses-wish words (wish.BadWord place)
shows-wish prints several first blocks words (wish.NotFound place) = refuses-wish words (wish.NotFound place)
shows-wish prints several first blocks words (wish.Block block) = refuses-wish words (wish.Block block)

shows-each : PrintsKeep → (several first there : Bool) (blocks words : List (List ℕ)) (wishes : List Wish) → KeepsFiles (ShowsEach several first there blocks words wishes)
shows-each prints several first there blocks words [] = purely-keeps (λ result. result ≡ Ok there)
shows-each prints several first there blocks words (one ∷ wishes) =
    then-keeps (After there (ShowsWish several first blocks words one)) (λ is. ShowsEach several (first && not is) (there && is) blocks words wishes)
    (after-keeps there (ShowsWish several first blocks words one) (shows-wish prints several first blocks words one)) (λ is. shows-each prints several (first && not is) (there && is) blocks words wishes)

shows-wishes : PrintsKeep → (blocks words : List (List ℕ)) (wishes : List Wish)
    → KeepsFiles (Then (Purely (AreSeveral wishes)) (λ several. Then (ShowsEach several true true blocks words wishes) (λ there. Purely (EndsSound there))))
shows-wishes prints blocks words wishes =
    then-keeps (Purely (AreSeveral wishes)) (λ several. Then (ShowsEach several true true blocks words wishes) (λ there. Purely (EndsSound there)))
    (purely-keeps (AreSeveral wishes))
    (λ several. then-keeps (ShowsEach several true true blocks words wishes) (λ there. Purely (EndsSound there))
    (shows-each prints several true true blocks words wishes) (λ there. purely-keeps (EndsSound there)))

pub texts-keep : LooksKeep → PrintsKeep → RefusesKeep → (image : ImageForm) (is_all : Bool) (words : List (List ℕ)) (places : List ℕ) → KeepsFiles (ShowsTexts image is_all words places)
texts-keep looks prints law image is_all words places =
    then-keeps (LooksAt image) (λ bytes. Then (Answers (OpensVolume bytes.items) (length bytes.items)) (λ blocks. Then (Purely (AreAsked is_all words places blocks)) (λ wishes. Then (Purely (AreSeveral wishes.items)) (λ several. Then (ShowsEach several true true blocks words wishes.items) (λ there. Purely (EndsSound there))))))
    (looks image)
    (λ bytes. then-keeps (Answers (OpensVolume bytes.items) (length bytes.items)) (λ blocks. Then (Purely (AreAsked is_all words places blocks)) (λ wishes. Then (Purely (AreSeveral wishes.items)) (λ several. Then (ShowsEach several true true blocks words wishes.items) (λ there. Purely (EndsSound there)))))
    (answers-keep law (OpensVolume bytes.items) (length bytes.items))
    (λ blocks. then-keeps (Purely (AreAsked is_all words places blocks)) (λ wishes. Then (Purely (AreSeveral wishes.items)) (λ several. Then (ShowsEach several true true blocks words wishes.items) (λ there. Purely (EndsSound there))))
    (purely-keeps (AreAsked is_all words places blocks)) (λ wishes. shows-wishes prints blocks words wishes.items)))
