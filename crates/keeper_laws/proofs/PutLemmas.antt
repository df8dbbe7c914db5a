-- Files that are put.
use Rattle.std.proofs.Common.{◌≡◌, ◌∙◌, ◌||◌, ℕ, Bool, true, false, not, Option, None, Some, Result, Ok, Err, List, [], ◌∷◌, ◌++◌, ap, refl, sym, subst, inl, inr, length, slice_get, nat_eq, append_assoc}
use Rattle.std.specs.Global.{Vec}
use Rattle.hosts.specs.Event.{Event, input_call, look_call}
use Rattle.hosts.specs.Streams.{errors, output, read}
use Rattle.os8_dates.specs.Dates.{date_in, last_year}
use Rattle.os8_dates.specs.declared.dates.Date.{Date}
use Rattle.volume_image.specs.Image.{block_word}
use Rattle.archive_files.specs.declared.places.TextPlace.{TextPlace}
use Rattle.archive_files.specs.declared.faults.ArchiveFault.{ArchiveFault}
use Rattle.archive_many.specs.Opened.{OpensVolume, information_on}
use Rattle.archive_many.specs.Putting.{PutsAll, given_count, info_words, most_wanted}
use Rattle.archive_many.specs.declared.faults.ManyFault.{ManyFault}
use Rattle.archive_many.specs.declared.faults.ManyFault.TheVariants as many
use Rattle.archive_many.specs.declared.putting.ManyImage.{ManyImage}
use Rattle.archive_many.specs.declared.putting.NewFile.{NewFile}
use Rattle.outcome.specs.declared.notes.NameNote.TheVariants.{PutAsFrames}
use Rattle.outcome.specs.declared.endings.Ending.{Ending}
use Rattle.program_tasks.specs.declared.forms.PutFilesForm.{PutFilesForm}
use Rattle.program_tasks.specs.declared.forms.TextsForm.{TextsForm}
use Rattle.image_files.specs.Answers.{Answers, AreLines}
use Rattle.image_files.specs.Dates.{DatesFile}
use Rattle.image_files.specs.declared.dates.FileDay.{FileDay}
use Rattle.image_files.specs.Information.{FitsWords, TakesIf, TakesWords}
use Rattle.image_files.specs.Inputs.{ReadsIf}
use Rattle.image_files.specs.Laws.{is_refusal}
use Rattle.image_files.specs.Reading.{Opens}
use Rattle.image_files.specs.Saving.{IsDone, Stores}
use Rattle.image_files.specs.Stored.{TellsPlace, is_bad, words_of}
use Rattle.image_files.specs.Work.{Then, Purely}
use Rattle.image_files.specs.Years.{NotesFiles, NotesYear, TellsDate, TellsFiles, TellsShown, TellsUnless, is_same_year, last_for}
use Rattle.image_files.specs.declared.images.Image.{Image}
use Rattle.image_files.proofs.KeepLemmas.{date-keeps}
use Rattle.image_files.proofs.WordsLemmas.{files-never, words-never, year-never}
use Rattle.put_commands.specs.Putting.{DatesNext, FindsFiles, IsNoName, JudgesInfo, JudgesPut, KeepsIf, KeepsWords, MakesFile, MakesMany, Names, NotesDates, Puts, PutsFiles, ReadsEach, ReadsNext, ReadsWhole, RefusesLoss, RefusesMany, TakesName, TellsEmpty, TellsPath, TellsText, TellsUnread, WantsMemory, given_name, has_empty, is_input, loss_from, paths_of, stored_lines, told_paths}
use Rattle.put_commands.proofs.PutLemmas.{reads-keep}
use Rattle.asked_files.specs.Texts.{TakesLists, TellsBadList, TellsFrames, is_put_noted, lists_of, put_form}
use Rattle.keeper_laws.specs.Changed.{GetsVolume, warnings}
use Rattle.keeper_laws.specs.Ended.{DoesNothing, EndsAs}
use Rattle.keeper_laws.specs.Stored.{AreGiven, HasStored, IsDayFor, IsGiven, given_call, given_calls}
use Rattle.keeper_laws.proofs.OpenLemmas.{FindsSaved, FindsUnsaved, IsQuiet, StaysQuiet, after-note, equal, quiet-then, still}
use Rattle.keeper_laws.proofs.RefuseLemmas.{IsSilent, OnlyRefuses, answers-refuse, answers-silent, dates-refuses, ends-so, reads-refuses, then-refuses}
use Rattle.keeper_laws.proofs.PrepareLemmas.{Prepares, Rejects, noted, nothing, nothing-then, prepared-ends, prepares-store, prepares-then, quiet-on, refuses-rejected, rejected-ends, rejects-by, then-rejects}

-- the day of a file is asked for, where it is wanted
dates : (is_dated : Bool) (name : List ℕ) (old : List Event) (day : Option FileDay) (new : List Event) → DatesFile is_dated name old (Ok day) new → IsQuiet [] old new
dates false name old day new p = still old new p.1
dates true name old day new (seconds, is, p) =
    subst (λ (n : List Event). IsQuiet [] old n) (sym p) (record { files = λ path. refl; prints = refl; warns = equal (warnings (errors old)); reads = refl })

abbrev SameDay : Result (Option FileDay) Ending → Result (Option FileDay) Ending → Type 0
SameDay one two = one ≡ two

no-day : (day : Option FileDay) → SameDay (Ok day) (Ok None) → day ≡ None
no-day day is = cc

is-day : (is_dated : Bool) (name : List ℕ) (old : List Event) (day : Option FileDay) (new : List Event) → DatesFile is_dated name old (Ok day) new → IsDayFor is_dated day
is-day false name old day new p = no-day day p.0
is-day true name old day new (seconds, is, p) = (seconds, is)

-- ## Steps that are quiet where they succeed

then-quiet : {A B : Type 0} (first : List Event → Result A Ending → List Event → Type 0) (next : A → List Event → Result B Ending → List Event → Type 0)
    → StaysQuiet first → ((given : A) → StaysQuiet (next given)) → StaysQuiet (Then first next)
then-quiet first next f n old it new (inl ends) = absurd ends
then-quiet first next f n old it new (inr two) = quiet-then [] [] old two.between new (f old two.given two.between two.done) (n two.given two.between it new two.after)

purely-quiet : {A : Type 0} (gives : Result A Ending → Type 0) → StaysQuiet (Purely gives)
purely-quiet gives old it new p = still old new p.1

answers-quiet : {A : Type 0} (gives : Result A ArchiveFault → Type 0) (size : ℕ) → StaysQuiet (Answers gives size)
answers-quiet gives size old it new p = still old new p.1

-- so standard output gets nothing
silent : {A : Type 0} (step : List Event → Result A Ending → List Event → Type 0) → StaysQuiet step → IsSilent step
silent step quiet old it new p = (quiet old it new p).prints

done-refuses : OnlyRefuses (Purely IsDone)
done-refuses old ending new p = absurd p.0

-- ## Information words and dates

fits-refuses : (wanted count : ℕ) → OnlyRefuses (Purely (FitsWords wanted count))
fits-refuses wanted count old ending new p = (ends-so ending _ p.0.1 refl, ap output p.1)

takes-quiet : (none : Bool) (wanted : ℕ) (image : List ℕ) → StaysQuiet (TakesIf none wanted image)
takes-quiet true wanted image = purely-quiet IsDone
takes-quiet false wanted image = then-quiet (Answers (OpensVolume image) (length image)) (λ blocks. Purely (FitsWords wanted (information_on blocks)))
    (answers-quiet (OpensVolume image) (length image)) (λ blocks. purely-quiet (FitsWords wanted (information_on blocks)))

takes-refuses : (none : Bool) (wanted : ℕ) (image : List ℕ) → OnlyRefuses (TakesIf none wanted image)
takes-refuses true wanted image = done-refuses
takes-refuses false wanted image = then-refuses (Answers (OpensVolume image) (length image)) (λ blocks. Purely (FitsWords wanted (information_on blocks)))
    (answers-refuse (OpensVolume image) (length image)) (silent (Answers (OpensVolume image) (length image)) (answers-quiet (OpensVolume image) (length image)))
    (λ blocks. fits-refuses wanted (information_on blocks))

hint-quiet : (same : Bool) (word : ℕ) (wanted shown : Option Date) (own : ℕ) → StaysQuiet (TellsUnless same word wanted shown own)
hint-quiet true word wanted shown own old it new p = still old new p.1
hint-quiet false word wanted shown own old it new (ok, p) = after-note ok _ old new p

hint-refuses : (same : Bool) (word : ℕ) (wanted shown : Option Date) (own : ℕ) → OnlyRefuses (TellsUnless same word wanted shown own)
hint-refuses true word wanted shown own old ending new p = absurd p.0
hint-refuses false word wanted shown own old ending new p = (ends-so ending _ p.0 refl, ap output p.1)

year-quiet : (image info : List ℕ) (year : Option ℕ) → StaysQuiet (NotesYear image info year)
year-quiet image [] year = purely-quiet IsDone
year-quiet image (word ∷ words) None = purely-quiet IsDone
year-quiet image (word ∷ words) (Some year) = then-quiet (Answers (OpensVolume image) (length image)) (λ blocks. TellsShown word (last_year (block_word blocks 0 0o377)) (last_for year))
    (answers-quiet (OpensVolume image) (length image))
    (λ blocks. let own = date_in (last_for year) word in let shown = date_in (last_year (block_word blocks 0 0o377)) word in hint-quiet (is_same_year own shown) word own shown (last_for year))

year-refuses : (image info : List ℕ) (year : Option ℕ) → OnlyRefuses (NotesYear image info year)
year-refuses image [] year = done-refuses
year-refuses image (word ∷ words) None = done-refuses
year-refuses image (word ∷ words) (Some year) = then-refuses (Answers (OpensVolume image) (length image)) (λ blocks. TellsShown word (last_year (block_word blocks 0 0o377)) (last_for year))
    (answers-refuse (OpensVolume image) (length image)) (silent (Answers (OpensVolume image) (length image)) (answers-quiet (OpensVolume image) (length image)))
    (λ blocks. let own = date_in (last_for year) word in let shown = date_in (last_year (block_word blocks 0 0o377)) word in hint-refuses (is_same_year own shown) word own shown (last_for year))

-- ## The words that are lists

list-noted : (list : Option (List ℕ)) (old new : List Event) → TellsBadList list old new → DoesNothing old new
list-noted None old new p = nothing old new p
list-noted (Some list) old new (ok, p) = noted ok _ old new p

pub lists-reject : (texts : TextsForm) → Rejects (TakesLists texts)
lists-reject texts old ending new (inl (is, place, first, p)) = (ends-so ending _ is refl, list-noted (slice_get (lists_of texts) place) old new p)
lists-reject texts old ending new (inr p) = (ends-so ending _ p.0 refl, nothing old new p.1)

-- ## The files of the host

no-name : (given : Option (List ℕ)) (files : List NewFile) (path : List ℕ) (old : List Event) (ending : Ending) (new : List Event) → IsNoName given files path old ending new
    → (is_refusal ending ≡ true) × DoesNothing old new
no-name given files path old ending new (inl (names, (is, ok, other, p))) = (ends-so ending _ is refl, subst (λ (n : List Event). DoesNothing old n) (sym p) (λ at. refl, refl))
no-name given files path old ending new (inr (inl (name, names, has, (is, ok, p)))) = (ends-so ending _ is refl, noted ok _ old new p)
no-name given files path old ending new (inr (inr p)) = (ends-so ending _ p.0 refl, nothing old new p.1)

names-quiet : (given : Option (List ℕ)) (files : List NewFile) (path : List ℕ) → StaysQuiet (TakesName given files path)
names-quiet given files path old name new (names, has, p) = still old new p

unread : (given : Option (List ℕ)) (path : List ℕ) (why : Ending) (old : List Event) (ending : Ending) (new : List Event) → is_refusal why ≡ true → TellsUnread given path why old ending new
    → (is_refusal ending ≡ true) × DoesNothing old new
unread (Some text) path why old ending new refused p = (ends-so ending why p.0 refused, nothing old new p.1)
unread None path why old ending new refused (inl (is, ok, p)) = (ends-so ending why is refused, noted ok _ old new p)
unread None path why old ending new refused (inr p) = (ends-so ending _ p.0 refl, nothing old new p.1)

whole-rejects : (given : Option (List ℕ)) (path : List ℕ) → Rejects (ReadsWhole given path)
whole-rejects given path old ending new (why, between, reads, p) =
    let first = rejects-by (ReadsIf (is_input given path) path) (reads-refuses (is_input given path) path) (reads-keep (is_input given path) path) old why between reads in
    let last = unread given path why between ending new first.0 p in
    (last.0, nothing-then old between new first.1 last.1)

dates-reject : (given : Option (List ℕ)) (is_dated : Bool) (path : List ℕ) → Rejects (DatesNext given is_dated path)
dates-reject given is_dated path old ending new (why, between, dates, p) =
    let first = rejects-by (DatesFile is_dated path) (dates-refuses is_dated path) (date-keeps is_dated path) old why between dates in
    let last = unread given path why between ending new first.0 p in
    (last.0, nothing-then old between new first.1 last.1)

frames-quiet : (is : Bool) (path : List ℕ) (old new : List Event) → TellsFrames PutAsFrames is path old new → IsQuiet [] old new
frames-quiet false path old new p = still old new p
frames-quiet true path old new (ok, p) = after-note ok _ old new p

frames-noted : (is : Bool) (path : List ℕ) (old new : List Event) → TellsFrames PutAsFrames is path old new → DoesNothing old new
frames-noted is path old new p = let q = frames-quiet is path old new p in (λ at. q.files at, q.prints)

makes-reject : (texts : TextsForm) (path : List ℕ) (name : ℕ) (bytes : List ℕ) (day : Option FileDay) → Rejects (MakesFile texts path name bytes day)
makes-reject texts path name bytes day old ending new (is, inl p) = (ends-so ending _ is refl, nothing old new p)
makes-reject texts path name bytes day old ending new (is, inr p) = (ends-so ending _ is refl, frames-noted (is_put_noted texts name) path old new p)

read-quiet : (is : Bool) (path : List ℕ) (old : List Event) (bytes : Vec ℕ) (new : List Event) → ReadsIf is path old (Ok bytes) new → IsQuiet (given_call is path bytes.items ∷ []) old new
read-quiet true path old bytes new p =
    subst (λ (n : List Event). IsQuiet (input_call bytes.items ∷ []) old n) (sym p.1) (record { files = λ at. refl; prints = refl; warns = equal (warnings (errors old)); reads = refl })
read-quiet false path old bytes new p =
    subst (λ (n : List Event). IsQuiet (look_call path bytes.items ∷ []) old n) (sym p.1) (record { files = λ at. refl; prints = refl; warns = equal (warnings (errors old)); reads = refl })

module _ (form : PutFilesForm) (path : List ℕ)
  where
    abbrev given : Option (List ℕ)
    given = given_name form

    -- the call by which it is read
    abbrev call : List ℕ → Event
    call bytes = given_call (is_input given path) path bytes

    abbrev Made : ℕ → List ℕ → List Event → Result NewFile Ending → List Event → Type 0
    Made name bytes = Then (DatesNext given form.is_dated path) (λ day. MakesFile form.texts path name bytes day)

    whole-quiet : (old : List Event) (bytes : Vec ℕ) (new : List Event) → ReadsWhole given path old (Ok bytes) new → IsQuiet (call bytes.items ∷ []) old new
    whole-quiet old bytes new p = read-quiet (is_input given path) path old bytes new p

    next-rejects : (files : List NewFile) → Rejects (ReadsNext form files path)
    next-rejects files =
        then-rejects (TakesName given files path) (λ name. Then (ReadsWhole given path) (λ bytes. Made name bytes.items))
        (λ old ending new p. no-name given files path old ending new p) (quiet-on (TakesName given files path) (names-quiet given files path))
        (λ name. then-rejects (ReadsWhole given path) (λ bytes. Made name bytes.items)
        (whole-rejects given path) (λ old bytes new p. let q = whole-quiet old bytes new p in (λ at. q.files at, q.prints))
        (λ bytes. then-rejects (DatesNext given form.is_dated path) (λ day. MakesFile form.texts path name bytes.items day)
        (dates-reject given form.is_dated path) (λ old day new p. let q = dates form.is_dated path old day new p in (λ at. q.files at, q.prints)) (λ day. makes-reject form.texts path name bytes.items day)))

    -- what the file of a path is, and how it was read
    record HasNext (old : List Event) (file : NewFile) (new : List Event) : Type 0 where
      is_given : IsGiven form path file
      quiet : IsQuiet (call file.bytes.items ∷ []) old new

    has-next : (files : List NewFile) (old : List Event) (file : NewFile) (new : List Event) → ReadsNext form files path old (Ok file) new → HasNext old file new
    has-next files old file new (inl ends) = absurd ends
    has-next files old file new (inr n) = looked n.after
      where
        made : (bytes : Vec ℕ) (two three : List Event) (day : Option FileDay) → IsQuiet (call bytes.items ∷ []) old two → DatesNext given form.is_dated path two (Ok day) three
            → MakesFile form.texts path n.given bytes.items day three (Ok file) new → HasNext old file new
        made bytes two three day quiet dated (is, told) = record {
          is_given = record {
            named = subst (λ (k : ℕ). Names given path (Some k)) (sym is.0) n.done.0;
            form = is.2 ∙ ap (λ (k : ℕ). put_form form.texts k) (sym is.0);
            day = day;
            dated = is-day form.is_dated path two day three dated;
            date = is.3;
          };
          quiet = subst (λ (b : List ℕ). IsQuiet (call b ∷ []) old new) (sym is.1)
              (quiet-then (call bytes.items ∷ []) [] old two new quiet
              (quiet-then [] [] two three new (dates form.is_dated path two day three dated) (frames-quiet (is_put_noted form.texts n.given) path three new told)));
        }

        dated : (bytes : Vec ℕ) (two : List Event) → IsQuiet (call bytes.items ∷ []) old two → Made n.given bytes.items two (Ok file) new → HasNext old file new
        dated bytes two quiet (inl ends) = absurd ends
        dated bytes two quiet (inr d) = made bytes two d.between d.given quiet d.done d.after

        looked : Then (ReadsWhole given path) (λ bytes. Made n.given bytes.items) n.between (Ok file) new → HasNext old file new
        looked (inl ends) = absurd ends
        looked (inr l) = dated l.given l.between
            (quiet-then [] (call l.given.items ∷ []) old n.between l.between (names-quiet given files path old n.given n.between n.done) (whole-quiet n.between l.given l.between l.done)) l.after

each-rejects : (form : PutFilesForm) (files : List NewFile) (paths : List (List ℕ)) → Rejects (ReadsEach form files paths)
each-rejects form files [] old ending new p = absurd p.0
each-rejects form files (path ∷ paths) old ending new p =
    then-rejects (ReadsNext form files path) (λ file. ReadsEach form (files ++ file ∷ []) paths) (next-rejects form path files)
    (λ old file new p. let h = has-next form path files old file new p in (λ at. h.quiet.files at, h.quiet.prints)) (λ file. each-rejects form (files ++ file ∷ []) paths) old ending new p

-- the files of more paths
record HasRead (form : PutFilesForm) (files : List NewFile) (paths : List (List ℕ)) (all : List NewFile) (old new : List Event) : Type 0 where
  more : List NewFile
  are : all ≡ files ++ more
  given : AreGiven form paths more
  quiet : IsQuiet (given_calls (given_name form) paths more) old new

none-more : (files : List NewFile) → files ++ [] ≡ files
none-more [] = refl
none-more (file ∷ files) = ap (λ (l : List NewFile). file ∷ l) (none-more files)

has-read : (form : PutFilesForm) (files : List NewFile) (paths : List (List ℕ)) (old : List Event) (all : Vec NewFile) (new : List Event) → ReadsEach form files paths old (Ok all) new
    → HasRead form files paths all.items old new
has-read form files [] old all new p = record { more = []; are = p.0 ∙ sym (none-more files); given = tt; quiet = still old new p.1 }
has-read form files (path ∷ paths) old all new (inl ends) = absurd ends
has-read form files (path ∷ paths) old all new (inr it) =
    let one = has-next form path files old it.given it.between it.done in
    let rest = has-read form (files ++ it.given ∷ []) paths it.between all new it.after in
    record {
      more = it.given ∷ rest.more;
      are = rest.are ∙ append_assoc files (it.given ∷ []) rest.more;
      given = (one.is_given, rest.given);
      quiet = quiet-then (given_call (is_input (given_name form) path) path it.given.bytes.items ∷ []) (given_calls (given_name form) paths rest.more) old it.between new one.quiet rest.quiet;
    }

-- ## What is judged

date-quiet : (last : ℕ) (word year : Option ℕ) → StaysQuiet (TellsDate last word year)
date-quiet last None year = purely-quiet IsDone
date-quiet last (Some word) None = purely-quiet IsDone
date-quiet last (Some word) (Some year) = hint-quiet (is_same_year (date_in (last_for year) word) (date_in last word)) word (date_in (last_for year) word) (date_in last word) (last_for year)

date-refuses : (last : ℕ) (word year : Option ℕ) → OnlyRefuses (TellsDate last word year)
date-refuses last None year = done-refuses
date-refuses last (Some word) None = done-refuses
date-refuses last (Some word) (Some year) = hint-refuses (is_same_year (date_in (last_for year) word) (date_in last word)) word (date_in (last_for year) word) (date_in last word) (last_for year)

tells-quiet : (last : ℕ) (files : List NewFile) → StaysQuiet (TellsFiles last files)
tells-quiet last [] = purely-quiet IsDone
tells-quiet last (file ∷ files) = then-quiet (TellsDate last file.date file.year) (λ it. TellsFiles last files) (date-quiet last file.date file.year) (λ it. tells-quiet last files)

tells-refuse : (last : ℕ) (files : List NewFile) → OnlyRefuses (TellsFiles last files)
tells-refuse last [] = done-refuses
tells-refuse last (file ∷ files) = then-refuses (TellsDate last file.date file.year) (λ it. TellsFiles last files) (date-refuses last file.date file.year)
    (silent (TellsDate last file.date file.year) (date-quiet last file.date file.year)) (λ it. tells-refuse last files)

notes-quiet : (image : List ℕ) (files : List NewFile) → StaysQuiet (NotesFiles image files)
notes-quiet image files = then-quiet (Answers (OpensVolume image) (length image)) (λ blocks. TellsFiles (last_year (block_word blocks 0 0o377)) files)
    (answers-quiet (OpensVolume image) (length image)) (λ blocks. tells-quiet (last_year (block_word blocks 0 0o377)) files)

notes-refuse : (image : List ℕ) (files : List NewFile) → OnlyRefuses (NotesFiles image files)
notes-refuse image files = then-refuses (Answers (OpensVolume image) (length image)) (λ blocks. TellsFiles (last_year (block_word blocks 0 0o377)) files)
    (answers-refuse (OpensVolume image) (length image)) (answers-silent (OpensVolume image) (length image)) (λ blocks. tells-refuse (last_year (block_word blocks 0 0o377)) files)

dated-quiet : (is_dated : Bool) (form : PutFilesForm) (files : List NewFile) (image : List ℕ) → StaysQuiet (NotesDates is_dated form files image)
dated-quiet true form files image = notes-quiet image files
dated-quiet false form files image = year-quiet image (info_words (words_of form.info)) form.year

dated-rejects : (is_dated : Bool) (form : PutFilesForm) (files : List NewFile) (image : List ℕ) → Rejects (NotesDates is_dated form files image)
dated-rejects true form files image = rejects-by (NotesFiles image files) (notes-refuse image files) (files-never image files)
dated-rejects false form files image = rejects-by (NotesYear image (info_words (words_of form.info)) form.year) (year-refuses image (info_words (words_of form.info)) form.year) (year-never image (info_words (words_of form.info)) form.year)

words-quiet : (wanted : ℕ) (image : List ℕ) → StaysQuiet (TakesWords wanted image)
words-quiet wanted image = takes-quiet (nat_eq wanted 0) wanted image

words-reject : (wanted : ℕ) (image : List ℕ) → Rejects (TakesWords wanted image)
words-reject wanted image = rejects-by (TakesWords wanted image) (takes-refuses (nat_eq wanted 0) wanted image) (words-never wanted image)

info-quiet : (form : PutFilesForm) (files : List NewFile) (image : List ℕ) → StaysQuiet (JudgesInfo form files image)
info-quiet form files image = then-quiet (TakesWords (most_wanted 0 (given_count (words_of form.info)) files) image) (λ it. NotesDates form.is_dated form files image)
    (words-quiet (most_wanted 0 (given_count (words_of form.info)) files) image) (λ it. dated-quiet form.is_dated form files image)

info-rejects : (form : PutFilesForm) (files : List NewFile) (image : List ℕ) → Rejects (JudgesInfo form files image)
info-rejects form files image = then-rejects (TakesWords (most_wanted 0 (given_count (words_of form.info)) files) image) (λ it. NotesDates form.is_dated form files image)
    (words-reject (most_wanted 0 (given_count (words_of form.info)) files) image)
    (quiet-on (TakesWords (most_wanted 0 (given_count (words_of form.info)) files) image) (words-quiet (most_wanted 0 (given_count (words_of form.info)) files) image))
    (λ it. dated-rejects form.is_dated form files image)

finds-quiet : (image : List ℕ) → StaysQuiet (FindsFiles image)
finds-quiet image old files new (blocks, opens, are, p) = still old new p

finds-reject : (image : List ℕ) → Rejects (FindsFiles image)
finds-reject image old ending new (inl (why, opens, p)) = refuses-rejected why (length image) old ending new p
finds-reject image old ending new (inr p) = (ends-so ending _ p.0 refl, nothing old new p.1)

empty-noted : (path : Option (List ℕ)) (old new : List Event) → TellsEmpty path old new → DoesNothing old new
empty-noted None old new p = nothing old new p
empty-noted (Some path) old new (ok, p) = noted ok _ old new p

loss-quiet : (paths : List (List ℕ)) (loss : Option ℕ) → StaysQuiet (RefusesLoss paths loss)
loss-quiet paths None old it new p = still old new p.1
loss-quiet paths (Some place) old it new p = absurd p

loss-rejects : (paths : List (List ℕ)) (loss : Option ℕ) → Rejects (RefusesLoss paths loss)
loss-rejects paths None old ending new p = absurd p.0
loss-rejects paths (Some place) old ending new (inl p) = (ends-so ending _ p.0 refl, empty-noted (slice_get paths place) old new p.1)
loss-rejects paths (Some place) old ending new (inr p) = (ends-so ending _ p.0 refl, nothing old new p.1)

keeps-quiet : (is : Bool) (paths : List (List ℕ)) (files : List NewFile) (image : List ℕ) → StaysQuiet (KeepsIf is paths files image)
keeps-quiet true paths files image old it new p = still old new p.1
keeps-quiet false paths files image old it new p = then-quiet (FindsFiles image) (λ older. RefusesLoss paths (loss_from older.items 0 files)) (finds-quiet image)
    (λ older. loss-quiet paths (loss_from older.items 0 files)) old it new p

keeps-reject : (is : Bool) (paths : List (List ℕ)) (files : List NewFile) (image : List ℕ) → Rejects (KeepsIf is paths files image)
keeps-reject true paths files image old ending new p = absurd p.0
keeps-reject false paths files image old ending new p = then-rejects (FindsFiles image) (λ older. RefusesLoss paths (loss_from older.items 0 files)) (finds-reject image) (quiet-on (FindsFiles image) (finds-quiet image))
    (λ older. loss-rejects paths (loss_from older.items 0 files)) old ending new p

judges-quiet : (form : PutFilesForm) (files : List NewFile) (image : List ℕ) → StaysQuiet (JudgesPut form files image)
judges-quiet form files image = then-quiet (KeepsWords form files image) (λ it. JudgesInfo form files image)
    (keeps-quiet (form.may_empty || not (has_empty files)) (paths_of form) files image) (λ it. info-quiet form files image)

judges-reject : (form : PutFilesForm) (files : List NewFile) (image : List ℕ) → Rejects (JudgesPut form files image)
judges-reject form files image = then-rejects (KeepsWords form files image) (λ it. JudgesInfo form files image)
    (keeps-reject (form.may_empty || not (has_empty files)) (paths_of form) files image)
    (quiet-on (KeepsWords form files image) (keeps-quiet (form.may_empty || not (has_empty files)) (paths_of form) files image)) (λ it. info-rejects form files image)

-- ## The new volume

path-noted : (path : Option (List ℕ)) (old new : List Event) → TellsPath path old new → DoesNothing old new
path-noted None old new p = nothing old new p
path-noted (Some path) old new (ok, p) = noted ok _ old new p

place-noted : (place : Option TextPlace) (old new : List Event) → TellsPlace place old new → DoesNothing old new
place-noted None old new p = nothing old new p
place-noted (Some place) old new (ok, p) = noted ok _ old new p

text-noted : (is : Bool) (file : Option NewFile) (old new : List Event) → TellsText is file old new → DoesNothing old new
text-noted false file old new p = nothing old new p
text-noted true None old new p = nothing old new p
text-noted true (Some file) old new (place, finds, p) = place-noted place old new p

many-rejected : (paths : List (List ℕ)) (files : List NewFile) (fault : ManyFault) (size : ℕ) (old : List Event) (ending : Ending) (new : List Event) → RefusesMany paths files fault size old ending new
    → (is_refusal ending ≡ true) × DoesNothing old new
many-rejected paths files (many.Archive fault) size old ending new p = refuses-rejected fault size old ending new p
many-rejected paths files (many.File place fault) size old ending new (is, between, tells, p) =
    (ends-so ending _ is refl, nothing-then old between new (path-noted (slice_get paths place) old between tells) (text-noted (is_bad fault) (slice_get files place) between new p))

memory-rejected : (paths : List (List ℕ)) (fault : ManyFault) (old : List Event) (ending : Ending) (new : List Event) → WantsMemory paths fault old ending new → (is_refusal ending ≡ true) × DoesNothing old new
memory-rejected paths (many.Archive fault) old ending new p = (ends-so ending _ p.0 refl, nothing old new p.1)
memory-rejected paths (many.File place fault) old ending new (is, inl p) = (ends-so ending _ is refl, nothing old new p)
memory-rejected paths (many.File place fault) old ending new (is, inr p) = (ends-so ending _ is refl, path-noted (slice_get paths place) old new p)

many-rejects : (form : PutFilesForm) (files : List NewFile) (image : List ℕ) → Rejects (MakesMany form files image)
many-rejects form files image old ending new (why, puts, inl p) = many-rejected (told_paths form) files why (length image) old ending new p
many-rejects form files image old ending new (why, puts, inr p) = memory-rejected (told_paths form) why old ending new p

-- ## The steps before the save

-- the files that were read, and the volume with them
pub record PutsReady (form : PutFilesForm) (image : Image) (calls : List Event) (bytes lines : List ℕ) : Type 0 where
  pub files : List NewFile
  pub given : AreGiven form (paths_of form) files
  pub calls_are : calls ≡ given_calls (given_name form) (paths_of form) files
  pub stored : ManyImage
  pub puts : PutsAll image.bytes.items files (words_of form.info) (Ok stored)
  pub bytes_are : bytes ≡ stored.bytes.items
  pub lines_are : lines ≡ stored_lines files stored.blocks.items

-- they are put
puts-prepare : (form : PutFilesForm) (image : Image) (files : Vec NewFile) → AreGiven form (paths_of form) files.items
    → Prepares image (λ calls bytes lines. PutsReady form image (calls ++ given_calls (given_name form) (paths_of form) files.items) bytes lines) (PutsFiles form image files.items)
puts-prepare form image files given =
    prepares-then image (λ calls bytes lines. PutsReady form image (calls ++ given_calls (given_name form) (paths_of form) files.items) bytes lines)
    (JudgesPut form files.items image.bytes.items) (λ it. Then (MakesMany form files.items image.bytes.items) (λ made. Then (Purely (AreLines (stored_lines files.items made.blocks.items))) (λ lines. Stores image made.bytes.items lines.items)))
    (λ it. []) (λ it. Unit {0}) (judges-reject form files.items image.bytes.items) (λ old it new p. (tt, judges-quiet form files.items image.bytes.items old it new p))
    (λ it is. prepares-then image (λ calls bytes lines. PutsReady form image ((calls ++ []) ++ given_calls (given_name form) (paths_of form) files.items) bytes lines)
    (MakesMany form files.items image.bytes.items) (λ made. Then (Purely (AreLines (stored_lines files.items made.blocks.items))) (λ lines. Stores image made.bytes.items lines.items))
    (λ made. []) (λ made. PutsAll image.bytes.items files.items (words_of form.info) (Ok made)) (many-rejects form files.items image.bytes.items) (λ old made new p. (p.0, still old new p.1))
    (λ made puts. prepares-store image (λ calls bytes lines. PutsReady form image (((calls ++ []) ++ []) ++ given_calls (given_name form) (paths_of form) files.items) bytes lines)
    made.bytes.items (stored_lines files.items made.blocks.items)
    (record { files = files.items; given = given; calls_are = refl; stored = made; puts = puts; bytes_are = refl; lines_are = refl })))

read-each : (form : PutFilesForm) (old : List Event) (files : Vec NewFile) (new : List Event) → ReadsEach form [] (paths_of form) old (Ok files) new
    → AreGiven form (paths_of form) files.items × IsQuiet (given_calls (given_name form) (paths_of form) files.items) old new
read-each form old files new p =
    let h = has-read form [] (paths_of form) old files new p in (
      subst (λ (l : List NewFile). AreGiven form (paths_of form) l) (sym h.are) h.given,
      subst (λ (l : List NewFile). IsQuiet (given_calls (given_name form) (paths_of form) l) old new) (sym h.are) h.quiet,
    )

pub rest-prepares : (form : PutFilesForm) (image : Image) → Prepares image (PutsReady form image) (Then (ReadsEach form [] (paths_of form)) (λ files. PutsFiles form image files.items))
rest-prepares form image = prepares-then image (PutsReady form image) (ReadsEach form [] (paths_of form)) (λ files. PutsFiles form image files.items)
    (λ files. given_calls (given_name form) (paths_of form) files.items) (λ files. AreGiven form (paths_of form) files.items) (each-rejects form [] (paths_of form))
    (λ old files new p. read-each form old files new p) (λ files given. puts-prepare form image files given)

-- what each ending of a put means
pub put-ends : FindsSaved → FindsUnsaved → (form : PutFilesForm) (old : List Event) (result : Result (Unit {0}) Ending) (new : List Event) → Puts form old result new → EndsAs form.image (HasStored form) result old new
put-ends saves stays form old (Ok it) new (inl ends) = absurd ends
put-ends saves stays form old (Err ending) new (inl ends) = rejected-ends form.image (HasStored form) old ending new (lists-reject form.texts old ending new ends)
put-ends saves stays form old result new (inr it) =
    prepared-ends saves stays form.image (λ image. Then (ReadsEach form [] (paths_of form)) (λ files. PutsFiles form image files.items)) (PutsReady form) (HasStored form)
    (rest-prepares form) old result new (λ ok image path was opened calls bytes lines p has reads prints. record {
      image = image;
      path = path;
      was = was;
      opened = opened;
      files = p.files;
      given = p.given;
      reads = subst (λ (c : List Event). read new ≡ c ++ (look_call path was ∷ read old)) p.calls_are reads;
      stored = p.stored;
      puts = p.puts;
      has = subst (λ (b : List ℕ). GetsVolume form.image image path was b old new) p.bytes_are has;
      prints = subst (λ (l : List ℕ). output new ≡ (ok, l) ∷ output old) p.lines_are prints;
    })
    (subst (λ (n : List Event). Then (Opens form.image) (λ image. Then (ReadsEach form [] (paths_of form)) (λ files. PutsFiles form image files.items)) n result new) it.done.1 it.after)
