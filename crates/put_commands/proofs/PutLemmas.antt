-- The command that puts files has changed none where it is refused.
use Rattle.std.proofs.Common.{◌∙◌, ◌||◌, ◌++◌, ℕ, Bool, true, false, not, Option, None, Some, Ok, Err, List, [], ◌∷◌, inl, inr, length, slice_get}
use Rattle.hosts.specs.Event.{Event}
use Rattle.archive_files.specs.declared.places.TextPlace.{TextPlace}
use Rattle.archive_many.specs.declared.faults.ManyFault.{ManyFault}
use Rattle.archive_many.specs.declared.faults.ManyFault.TheVariants as many
use Rattle.archive_many.specs.declared.putting.NewFile.{NewFile}
use Rattle.outcome.specs.declared.notes.NameNote.{NameNote}
use Rattle.outcome.specs.declared.notes.NameNote.TheVariants.{PutAsFrames}
use Rattle.outcome.specs.declared.endings.Ending.{Ending}
use Rattle.program_tasks.specs.declared.forms.PutFilesForm.{PutFilesForm}
use Rattle.program_tasks.specs.declared.forms.TextsForm.{TextsForm}
use Rattle.image_files.specs.Answers.{AreLines}
use Rattle.image_files.specs.Stored.{TellsPlace, is_bad, words_of}
use Rattle.image_files.specs.Inputs.{ReadsIf}
use Rattle.image_files.specs.Reading.{Opens}
use Rattle.image_files.specs.Saving.{Stores}
use Rattle.archive_many.specs.Putting.{given_count, info_words, most_wanted}
use Rattle.image_files.specs.Information.{TakesWords}
use Rattle.image_files.specs.declared.dates.FileDay.{FileDay}
use Rattle.image_files.proofs.WordsLemmas.{files-never, words-never, year-never}
use Rattle.image_files.specs.Work.{Then, Purely}
use Rattle.image_files.specs.declared.images.Image.{Image}
use Rattle.put_commands.specs.Putting.{AreFiles, DatesNext, FindsFiles, IsNoName, JudgesInfo, JudgesPut, KeepsIf, KeepsWords, MakesFile, MakesMany, NotesDates, Puts, PutsFiles, ReadsEach, ReadsNext, ReadsWhole, RefusesLoss, RefusesMany, TakesName, TellsEmpty, TellsPath, TellsText, TellsUnread, WantsMemory, given_name, has_empty, is_input, loss_from, paths_of, stored_lines, told_paths}
use Rattle.asked_files.specs.Texts.{TakesLists, TellsFrames, is_put_noted}
use Rattle.asked_files.proofs.ListLemmas.{lists-never}
use Rattle.image_files.specs.Laws.{KeepsFiles, ChangesNothing, LeavesFiles}
use Rattle.image_files.proofs.KeepLemmas.{date-keeps, input-keeps, looks-keeps, then-keeps, purely-keeps}
use Rattle.image_files.proofs.LeaveLemmas.{same, told, then-leaves, refuses-never, opens-never, stores-leaves}

no-name : (given : Option (List ℕ)) (files : List NewFile) (path : List ℕ) (old : List Event) (ending : Ending) (new : List Event) → IsNoName given files path old ending new → ChangesNothing old new
no-name given files path old ending new (inl (names, (is, ok, other, p))) = same _ new p
no-name given files path old ending new (inr (inl (name, names, has, (is, ok, p)))) = same _ new p
no-name given files path old ending new (inr (inr p)) = same old new p.1

name-never : (given : Option (List ℕ)) (files : List NewFile) (path : List ℕ) → KeepsFiles (TakesName given files path)
name-never given files path old (Ok name) new (names, has, p) = same old new p
name-never given files path old (Err ending) new p = no-name given files path old ending new p

tells-unread : (given : Option (List ℕ)) (path : List ℕ) (why : Ending) (old : List Event) (ending : Ending) (new : List Event) → TellsUnread given path why old ending new → ChangesNothing old new
tells-unread (Some text) path why old ending new p = same old new p.1
tells-unread None path why old ending new (inl (is, ok, p)) = same _ new p
tells-unread None path why old ending new (inr p) = same old new p.1

pub reads-keep : (is : Bool) (name : List ℕ) → KeepsFiles (ReadsIf is name)
reads-keep true name old result new p = input-keeps old result new p
reads-keep false name old result new p = looks-keeps name name old result new p

whole-never : (given : Option (List ℕ)) (path : List ℕ) → KeepsFiles (ReadsWhole given path)
whole-never given path old (Ok bytes) new p = reads-keep (is_input given path) path old (Ok bytes) new p
whole-never given path old (Err ending) new (why, between, reads, p) = λ at. tells-unread given path why between ending new p at ∙ reads-keep (is_input given path) path old (Err why) between reads at

dated-never : (given : Option (List ℕ)) (is_dated : Bool) (path : List ℕ) → KeepsFiles (DatesNext given is_dated path)
dated-never given is_dated path old (Ok date) new p = date-keeps is_dated path old (Ok date) new p
dated-never given is_dated path old (Err ending) new (why, between, dates, p) = λ at. tells-unread given path why between ending new p at ∙ date-keeps is_dated path old (Err why) between dates at

tells-frames : (note : NameNote) (is : Bool) (name : List ℕ) (old new : List Event) → TellsFrames note is name old new → ChangesNothing old new
tells-frames note false name old new p = same old new p
tells-frames note true name old new (ok, p) = same _ new p

makes-file : (texts : TextsForm) (path : List ℕ) (name : ℕ) (bytes : List ℕ) (day : Option FileDay) → KeepsFiles (MakesFile texts path name bytes day)
makes-file texts path name bytes day old (Ok file) new (is, p) = tells-frames PutAsFrames (is_put_noted texts name) path old new p
makes-file texts path name bytes day old (Err ending) new (is, inl p) = same old new p
makes-file texts path name bytes day old (Err ending) new (is, inr p) = tells-frames PutAsFrames (is_put_noted texts name) path old new p

next-never : (form : PutFilesForm) (files : List NewFile) (path : List ℕ) → KeepsFiles (ReadsNext form files path)
next-never form files path =
    let given = given_name form in
    then-keeps (TakesName given files path) (λ name. Then (ReadsWhole given path) (λ bytes. Then (DatesNext given form.is_dated path) (λ day. MakesFile form.texts path name bytes.items day))) (name-never given files path)
    (λ name. then-keeps (ReadsWhole given path) (λ bytes. Then (DatesNext given form.is_dated path) (λ day. MakesFile form.texts path name bytes.items day)) (whole-never given path)
    (λ bytes. then-keeps (DatesNext given form.is_dated path) (λ day. MakesFile form.texts path name bytes.items day) (dated-never given form.is_dated path) (λ day. makes-file form.texts path name bytes.items day)))

each-never : (form : PutFilesForm) (files : List NewFile) (paths : List (List ℕ)) → KeepsFiles (ReadsEach form files paths)
each-never form files [] = purely-keeps (AreFiles files)
each-never form files (path ∷ paths) = then-keeps (ReadsNext form files path) (λ file. ReadsEach form (files ++ file ∷ []) paths) (next-never form files path) (λ file. each-never form (files ++ file ∷ []) paths)

finds-never : (image : List ℕ) → KeepsFiles (FindsFiles image)
finds-never image old (Ok files) new (blocks, opens, are, p) = same old new p
finds-never image old (Err ending) new (inl (why, opens, p)) = refuses-never why (length image) old ending new p
finds-never image old (Err ending) new (inr p) = same old new p.1

tells-empty : (path : Option (List ℕ)) (old new : List Event) → TellsEmpty path old new → ChangesNothing old new
tells-empty None old new p = same old new p
tells-empty (Some path) old new p = told p.0 _ old new p.1

loss-never : (paths : List (List ℕ)) (loss : Option ℕ) → KeepsFiles (RefusesLoss paths loss)
loss-never paths None old result new p = same old new p.1
loss-never paths (Some place) old (Ok it) new p = absurd p
loss-never paths (Some place) old (Err ending) new (inl p) = tells-empty (slice_get paths place) old new p.1
loss-never paths (Some place) old (Err ending) new (inr p) = same old new p.1

keeps-if : (is : Bool) (paths : List (List ℕ)) (files : List NewFile) (image : List ℕ) → KeepsFiles (KeepsIf is paths files image)
keeps-if true paths files image old result new p = same old new p.1
keeps-if false paths files image old result new p =
    then-keeps (FindsFiles image) (λ older. RefusesLoss paths (loss_from older.items 0 files)) (finds-never image) (λ older. loss-never paths (loss_from older.items 0 files)) old result new p

keeps-never : (form : PutFilesForm) (files : List NewFile) (image : List ℕ) → KeepsFiles (KeepsWords form files image)
keeps-never form files image old result new p = keeps-if (form.may_empty || not (has_empty files)) (paths_of form) files image old result new p

tells-path : (path : Option (List ℕ)) (old new : List Event) → TellsPath path old new → ChangesNothing old new
tells-path None old new p = same old new p
tells-path (Some path) old new p = told p.0 _ old new p.1

tells-place : (place : Option TextPlace) (old new : List Event) → TellsPlace place old new → ChangesNothing old new
tells-place None old new p = same old new p
tells-place (Some place) old new p = told p.0 _ old new p.1

tells-text : (is : Bool) (file : Option NewFile) (old new : List Event) → TellsText is file old new → ChangesNothing old new
tells-text false file old new p = same old new p
tells-text true None old new p = same old new p
tells-text true (Some file) old new (place, finds, p) = tells-place place old new p

refuses-many : (paths : List (List ℕ)) (files : List NewFile) (fault : ManyFault) (size : ℕ) (old : List Event) (ending : Ending) (new : List Event) → RefusesMany paths files fault size old ending new → ChangesNothing old new
refuses-many paths files (many.Archive fault) size old ending new p = refuses-never fault size old ending new p
refuses-many paths files (many.File place fault) size old ending new (is, between, tells, p) = λ at. tells-text (is_bad fault) (slice_get files place) between new p at ∙ tells-path (slice_get paths place) old between tells at

wants-memory : (paths : List (List ℕ)) (fault : ManyFault) (old : List Event) (ending : Ending) (new : List Event) → WantsMemory paths fault old ending new → ChangesNothing old new
wants-memory paths (many.Archive fault) old ending new p = same old new p.1
wants-memory paths (many.File place fault) old ending new (is, inl p) = same old new p
wants-memory paths (many.File place fault) old ending new (is, inr p) = tells-path (slice_get paths place) old new p

makes-never : (form : PutFilesForm) (files : List NewFile) (image : List ℕ) → KeepsFiles (MakesMany form files image)
makes-never form files image old (Ok it) new p = same old new p.1
makes-never form files image old (Err ending) new (fault, puts, inl p) = refuses-many (told_paths form) files fault (length image) old ending new p
makes-never form files image old (Err ending) new (fault, puts, inr p) = wants-memory (told_paths form) fault old ending new p

notes-dates-never : (is_dated : Bool) (form : PutFilesForm) (files : List NewFile) (image : List ℕ) → KeepsFiles (NotesDates is_dated form files image)
notes-dates-never true form files image = files-never image files
notes-dates-never false form files image = year-never image (info_words (words_of form.info)) form.year

judges-info-never : (form : PutFilesForm) (files : List NewFile) (image : List ℕ) → KeepsFiles (JudgesInfo form files image)
judges-info-never form files image = then-keeps (TakesWords (most_wanted 0 (given_count (words_of form.info)) files) image) (λ it. NotesDates form.is_dated form files image)
    (words-never (most_wanted 0 (given_count (words_of form.info)) files) image) (λ it. notes-dates-never form.is_dated form files image)

pub judges-never : (form : PutFilesForm) (files : List NewFile) (image : List ℕ) → KeepsFiles (JudgesPut form files image)
judges-never form files image = then-keeps (KeepsWords form files image) (λ it. JudgesInfo form files image) (keeps-never form files image) (λ it. judges-info-never form files image)

puts-files : (form : PutFilesForm) (image : Image) (files : List NewFile) → LeavesFiles (PutsFiles form image files)
puts-files form image files =
    then-leaves (JudgesPut form files image.bytes.items) (λ it. Then (MakesMany form files image.bytes.items) (λ made. Then (Purely (AreLines (stored_lines files made.blocks.items))) (λ lines. Stores image made.bytes.items lines.items)))
    (judges-never form files image.bytes.items)
    (λ it. then-leaves (MakesMany form files image.bytes.items) (λ made. Then (Purely (AreLines (stored_lines files made.blocks.items))) (λ lines. Stores image made.bytes.items lines.items))
    (makes-never form files image.bytes.items)
    (λ made. then-leaves (Purely (AreLines (stored_lines files made.blocks.items))) (λ lines. Stores image made.bytes.items lines.items) (purely-keeps (AreLines (stored_lines files made.blocks.items)))
    (λ lines. stores-leaves image made.bytes.items lines.items)))

pub puts-leave : (form : PutFilesForm) → LeavesFiles (Puts form)
puts-leave form =
    then-leaves (TakesLists form.texts) (λ it. Then (Opens form.image) (λ image. Then (ReadsEach form [] (paths_of form)) (λ files. PutsFiles form image files.items))) (lists-never form.texts)
    (λ it. then-leaves (Opens form.image) (λ image. Then (ReadsEach form [] (paths_of form)) (λ files. PutsFiles form image files.items)) (opens-never form.image)
    (λ image. then-leaves (ReadsEach form [] (paths_of form)) (λ files. PutsFiles form image files.items) (each-never form [] (paths_of form)) (λ files. puts-files form image files.items)))
