-- The command that gets several files changes no path of which the host didn't say that it isn't the image.
use Rattle.std.proofs.Common.{◌≡◌, ◌∙◌, ◌⊎◌, ◌++◌, ◌∷◌, ◌&&◌, ◌+◌, ℕ, Bool, true, false, codes, decimal, Option, None, Some, Result, Ok, Err, List, [], ap, inl, inr, length, refl, slice_get, subst, sym}
use Rattle.std.specs.Str.{bytes_eq}
use Rattle.hosts.specs.Event.{Event, failed_same, same_call}
use Rattle.hosts.specs.Place.{about}
use Rattle.hosts.specs.Streams.{changes_at, read}
use Rattle.hosts.specs.declared.faults.HostFault.{HostFault}
use Rattle.os8_dir.specs.declared.file_faults.FileFault.{FileFault}
use Rattle.os8_dir.specs.declared.file_faults.FileFault.TheVariants.{BadName, NotFound}
use Rattle.refusals.specs.Faults.{fault_line}
use Rattle.refusals.specs.declared.faults.SessionFault.TheVariants.{File}
use Rattle.archive_many.specs.Opened.{OpensVolume}
use Rattle.archive_many.specs.declared.opened.VolumeFile.{VolumeFile}
use Rattle.archive_many.specs.declared.wishes.Wish.{Wish}
use Rattle.archive_many.specs.declared.wishes.Wish.TheVariants as wish
use Rattle.program_reports.specs.Program.{program_line}
use Rattle.program_reports.specs.declared.programs.ProgramLine.{ProgramLine}
use Rattle.program_reports.specs.declared.programs.ProgramLine.TheVariants as line
use Rattle.outcome.specs.declared.endings.Ending.{Ending}
use Rattle.outcome.specs.declared.endings.Ending.TheVariants.{Line, Fault, Failure, Busy, NotWritten, FullOutput, NoReader, Misuse, Unreported}
use Rattle.program_tasks.specs.declared.forms.GetManyForm.{GetManyForm}
use Rattle.host_progress.specs.Progressing.{BeginsProgress, EndsProgress, TellsDone, TellsProgress, WithProgress}
use Rattle.image_files.specs.Answers.{Answers, AreLines, named_lines}
use Rattle.image_files.specs.Ending.{EndsSound}
use Rattle.image_files.specs.Laws.{KeepsFiles}
use Rattle.image_files.specs.Places.{IsSaidApart, TellsPair}
use Rattle.image_files.specs.Reading.{LooksAt}
use Rattle.outcome.specs.declared.reasons.Reason.{Reason}
use Rattle.image_files.specs.Reasons.{TellsReason, TellsUnless, is_want_of_memory, reason_of_first}
use Rattle.image_files.specs.Saving.{IsDone, Prints}
use Rattle.image_files.specs.Work.{After, Then, Purely}
use Rattle.image_files.proofs.KeepLemmas.{looks-at-keeps, of-file}
use Rattle.image_files.proofs.LeaveLemmas.{answers-never}
use Rattle.get_commands.specs.GettingMany.{AreFilesOn, GetsMany, GivesAsked, GivesEach, GivesFile, GivesNoted, GivesWish, HasLaid, IsHostName, IsPath, LaysAndTells, LaysApart, LaysFile, MakesFolder, NotesGot, PrintsAnswer, RefusesOver, RefusesWord, TakesFile, TellsGot, TellsLaid, TellsUnlaid, count_after, line_of_laid, time_of_file}
use Rattle.get_commands.specs.Laws.{KeepsImage}
use Rattle.asked_files.specs.Texts.{TakesLists, get_form, is_got_noted}
use Rattle.get_commands.specs.Wishing.{AreWishes, words_of}
use Rattle.get_commands.proofs.GettingMany.{folder-files, same-path}
use Rattle.asked_files.proofs.ListLemmas.{lists-never}

-- what a step may have done to files, and to what was said
record Asked (image : List ℕ) (old new : List Event) : Type 0 where
  asks : (path : List ℕ) → (about path new ≡ about path old) ⊎ IsSaidApart path image (read new)
  grows : (path : List ℕ) → IsSaidApart path image (read old) → IsSaidApart path image (read new)

abbrev Asking : {A : Type 0} → List ℕ → (List Event → Result A Ending → List Event → Type 0) → Type 0
Asking {A} image step = (old : List Event) (result : Result A Ending) (new : List Event) → step old result new → Asked image old new

join : (image path : List ℕ) (old between new : List Event) → (about path between ≡ about path old) ⊎ IsSaidApart path image (read between) → (about path new ≡ about path between) ⊎ IsSaidApart path image (read new)
    → (IsSaidApart path image (read between) → IsSaidApart path image (read new)) → (about path new ≡ about path old) ⊎ IsSaidApart path image (read new)
join image path old between new p (inr said) grows = inr said
join image path old between new (inl before) (inl is) grows = inl (is ∙ before)
join image path old between new (inr said) (inl is) grows = inr (grows said)

both : (image : List ℕ) (old between new : List Event) → Asked image old between → Asked image between new → Asked image old new
both image old between new p q = record { asks = λ path. join image path old between new (p.asks path) (q.asks path) (q.grows path); grows = λ path said. q.grows path (p.grows path said) }

-- no file was changed, and nothing was read or asked
record Quiet (old new : List Event) : Type 0 where
  files : (path : List ℕ) → about path new ≡ about path old
  reads : read new ≡ read old

abbrev Quietly : {A : Type 0} → (List Event → Result A Ending → List Event → Type 0) → Type 0
Quietly {A} step = (old : List Event) (result : Result A Ending) (new : List Event) → step old result new → Quiet old new

quiet-asked : (image : List ℕ) (old new : List Event) → Quiet old new → Asked image old new
quiet-asked image old new q = record { asks = λ path. inl (q.files path); grows = λ path said. subst (λ events. IsSaidApart path image events) (sym q.reads) said }

quiet : {middle new : List Event} (old : List Event) → new ≡ middle → Quiet old middle → Quiet old new
quiet old is q = record { files = λ path. ap (λ (events : List Event). about path events) is ∙ q.files path; reads = ap (λ (events : List Event). read events) is ∙ q.reads }

nothing : (old : List Event) → Quiet old old
nothing old = record { files = λ path. refl; reads = refl }

then-quiet : {A B : Type 0} (first : List Event → Result A Ending → List Event → Type 0) (next : A → List Event → Result B Ending → List Event → Type 0) → Quietly first → ((given : A) → Quietly (next given)) → Quietly (Then first next)
then-quiet first next f n old (Ok r) new (inl ends) = absurd ends
then-quiet first next f n old (Err e) new (inl ends) = f old (Err e) new ends
then-quiet first next f n old result new (inr it) = record {
  files = λ path. (n it.given it.between result new it.after).files path ∙ (f old (Ok it.given) it.between it.done).files path;
  reads = (n it.given it.between result new it.after).reads ∙ (f old (Ok it.given) it.between it.done).reads;
}

purely-quiet : {A : Type 0} (gives : Result A Ending → Type 0) → Quietly (Purely gives)
purely-quiet gives old result new p = quiet old p.1 (nothing old)

part-quiet : {A : Type 0} (are_there : Bool) (part : List Event → Result A Ending → List Event → Type 0) → Quietly part → Quietly (After are_there part)
part-quiet are_there part q old (Ok it) new p = q old (Ok it) new p
part-quiet are_there part q old (Err ended) new (ending, p, is) = q old (Err ending) new p

then-asking : {A B : Type 0} (image : List ℕ) (first : List Event → Result A Ending → List Event → Type 0) (next : A → List Event → Result B Ending → List Event → Type 0)
    → Asking image first → ((given : A) → Asking image (next given)) → Asking image (Then first next)
then-asking image first next f n old (Ok r) new (inl ends) = absurd ends
then-asking image first next f n old (Err e) new (inl ends) = f old (Err e) new ends
then-asking image first next f n old result new (inr it) = both image old it.between new (f old (Ok it.given) it.between it.done) (n it.given it.between result new it.after)

part-asking : {A : Type 0} (image : List ℕ) (are_there : Bool) (part : List Event → Result A Ending → List Event → Type 0) → Asking image part → Asking image (After are_there part)
part-asking image are_there part asks old (Ok it) new p = asks old (Ok it) new p
part-asking image are_there part asks old (Err ended) new (ending, p, is) = asks old (Err ending) new p

quiet-asking : {A : Type 0} (image : List ℕ) (step : List Event → Result A Ending → List Event → Type 0) → Quietly step → Asking image step
quiet-asking image step q old result new p = quiet-asked image old new (q old result new p)

purely-asking : {A : Type 0} (image : List ℕ) (gives : Result A Ending → Type 0) → Asking image (Purely gives)
purely-asking image gives = quiet-asking image (Purely gives) (purely-quiet gives)

-- ## What is printed

printed : (old : List Event) (event : Event) → ((path : List ℕ) → about path (event ∷ old) ≡ about path old) → read (event ∷ old) ≡ read old → Quiet old (event ∷ old)
printed old event files reads = record { files = files; reads = reads }

prints-quiet : (bytes : List ℕ) → Quietly (Prints bytes)
prints-quiet bytes old (Ok it) new p = quiet old p (printed old _ (λ path. refl) refl)
prints-quiet bytes old (Err (Line it)) new p = absurd p
prints-quiet bytes old (Err (Fault it)) new p = absurd p
prints-quiet bytes old (Err Failure) new p = absurd p
prints-quiet bytes old (Err (Busy it)) new p = absurd p
prints-quiet bytes old (Err (NotWritten it left)) new p = absurd p
prints-quiet bytes old (Err FullOutput) new p = quiet old p (printed old _ (λ path. refl) refl)
prints-quiet bytes old (Err NoReader) new p = quiet old p (printed old _ (λ path. refl) refl)
prints-quiet bytes old (Err Misuse) new p = absurd p
prints-quiet bytes old (Err Unreported) new p = absurd p

answer-quiet : (is_there : Bool) (text : List ℕ) → Quietly (PrintsAnswer is_there text)
answer-quiet is_there text =
    then-quiet (Purely (AreLines text)) (λ lines. Then (After is_there (Prints lines.items)) (λ it. Purely (λ (result : Result Bool Ending). result ≡ Ok is_there))) (purely-quiet (AreLines text))
    (λ lines. then-quiet (After is_there (Prints lines.items)) (λ it. Purely (λ (result : Result Bool Ending). result ≡ Ok is_there)) (part-quiet is_there (Prints lines.items) (prints-quiet lines.items)) (λ it. purely-quiet (λ (result : Result Bool Ending). result ≡ Ok is_there)))

pair-quiet : (output input : List ℕ) → Quietly (TellsPair output input)
pair-quiet output input old (Ok it) new (ok, p) = quiet old p (printed old _ (λ path. refl) refl)
pair-quiet output input old (Err ending) new p = quiet old p.1 (nothing old)

over-quiet : (name path image : List ℕ) → Quietly (RefusesOver name path image)
over-quiet name path image = then-quiet (TellsPair path image) (λ it. PrintsAnswer false (named_lines name (program_line line.OneFile))) (pair-quiet path image) (λ it. answer-quiet false (named_lines name (program_line line.OneFile)))

reason-quiet : (why : Reason) (name : List ℕ) (old new : List Event) → TellsReason why name old new → Quiet old new
reason-quiet why name old new (text, ok, says, p) = quiet old p (printed old _ (λ path. refl) refl)

unless-quiet : (is : Bool) (why : Reason) (name : List ℕ) (old new : List Event) → TellsUnless is why name old new → Quiet old new
unless-quiet true why name old new p = quiet old p (nothing old)
unless-quiet false why name old new p = reason-quiet why name old new p

after-quiet : (old between new : List Event) → Quiet old between → Quiet between new → Quiet old new
after-quiet old between new p q = record { files = λ path. q.files path ∙ p.files path; reads = q.reads ∙ p.reads }

unlaid-quiet : (said : Option ProgramLine) (fault : HostFault) (name path : List ℕ) → Quietly (TellsUnlaid said fault name path)
unlaid-quiet None fault name path old result new p = quiet old p.1 (nothing old)
unlaid-quiet (Some said) fault name path old result new (between, told, prints) =
    after-quiet old between new (unless-quiet (is_want_of_memory fault) (reason_of_first fault) path old between told) (answer-quiet false (named_lines name (program_line said)) between result new prints)

laid-quiet : (file : VolumeFile) (name path : List ℕ) (done : Result (Unit {0}) HostFault) → Quietly (TellsLaid file name path done)
laid-quiet file name path (Ok it) = answer-quiet true (program_line (line.Got file.name file.blocks))
laid-quiet file name path (Err fault) = unlaid-quiet (line_of_laid fault) fault name path

got-quiet : (name : List ℕ) → Quietly (TellsGot name)
got-quiet name old (Ok it) new (ok, p) = quiet old p (printed old _ (λ path. refl) refl)
got-quiet name old (Err ending) new p = quiet old p.1 (nothing old)

noted-quiet : (is : Bool) (file : VolumeFile) → Quietly (NotesGot is file)
noted-quiet false file = purely-quiet IsDone
noted-quiet true file = then-quiet (Purely (IsHostName file)) (λ name. TellsGot name.bytes.items) (purely-quiet (IsHostName file)) (λ name. got-quiet name.bytes.items)

-- ## A file that is laid

laid-asks : (image path bytes : List ℕ) (seconds : Option ℕ) (is_forced : Bool) (done : Result (Unit {0}) HostFault) (old new : List Event) → HasLaid path bytes seconds is_forced done (same_call path image false ∷ old) new
    → (is : Bool) (other : List ℕ) → bytes_eq path other ≡ is → (about other new ≡ about other old) ⊎ IsSaidApart other image (read new)
laid-asks image path bytes seconds is_forced done old new laid true other is =
    inr (subst (λ p. IsSaidApart p image (read new)) (same-path path other is) (subst (λ events. IsSaidApart path image events) (sym laid.only.reads) (inl refl)))
laid-asks image path bytes seconds is_forced done old new laid false other is = inl (laid.only.others other is)

laid-asked : (image path bytes : List ℕ) (seconds : Option ℕ) (is_forced : Bool) (done : Result (Unit {0}) HostFault) (old new : List Event) → HasLaid path bytes seconds is_forced done (same_call path image false ∷ old) new → Asked image old new
laid-asked image path bytes seconds is_forced done old new laid = record {
  asks = λ other. laid-asks image path bytes seconds is_forced done old new laid (bytes_eq path other) other refl;
  grows = λ other q. subst (λ events. IsSaidApart other image events) (sym laid.only.reads) (inr q);
}

lays-asked : (image path bytes : List ℕ) (seconds : Option ℕ) (is_forced : Bool) (done : Result (Unit {0}) HostFault) (old new : List Event) → LaysFile path bytes seconds is_forced (same_call path image false ∷ old) done new → Asked image old new
lays-asked image path bytes seconds is_forced (Ok it) old new p = laid-asked image path bytes seconds is_forced (Ok it) old new p
lays-asked image path bytes seconds is_forced (Err fault) old new p = laid-asked image path bytes seconds is_forced (Err fault) old new p.0

questioned : (image : List ℕ) (old : List Event) (event : Event) → ((path : List ℕ) → about path (event ∷ old) ≡ about path old) → read (event ∷ old) ≡ event ∷ read old → Asked image old (event ∷ old)
questioned image old event files reads = record { asks = λ path. inl (files path); grows = λ path q. subst (λ events. IsSaidApart path image events) (sym reads) (inr q) }

lays-by : (form : GetManyForm) (file : VolumeFile) (name path bytes : List ℕ) (seconds : Option ℕ) (old : List Event) (result : Result Bool Ending) (new : List Event)
    → LaysAndTells form file name path bytes seconds (same_call path form.image.file.bytes.items false ∷ old) result new ⊎ (RefusesOver name path form.image.file.bytes.items (same_call path form.image.file.bytes.items true ∷ old) result new ⊎ ((fault : HostFault) × TellsLaid file name path (Err fault) (failed_same path form.image.file.bytes.items fault ∷ old) result new)) → Asked form.image.file.bytes.items old new
lays-by form file name path bytes seconds old result new (inl p) =
    both form.image.file.bytes.items old p.between new (lays-asked form.image.file.bytes.items path bytes seconds form.is_forced p.done old p.between p.lays)
    (quiet-asked form.image.file.bytes.items p.between new (laid-quiet file name path p.done p.between result new p.tells))
lays-by form file name path bytes seconds old result new (inr (inl p)) =
    both form.image.file.bytes.items old (same_call path form.image.file.bytes.items true ∷ old) new
    (questioned form.image.file.bytes.items old (same_call path form.image.file.bytes.items true) (λ other. refl) refl)
    (quiet-asked form.image.file.bytes.items (same_call path form.image.file.bytes.items true ∷ old) new (over-quiet name path form.image.file.bytes.items (same_call path form.image.file.bytes.items true ∷ old) result new p))
lays-by form file name path bytes seconds old result new (inr (inr (fault, p))) =
    both form.image.file.bytes.items old (failed_same path form.image.file.bytes.items fault ∷ old) new
    (questioned form.image.file.bytes.items old (failed_same path form.image.file.bytes.items fault) (λ other. refl) refl)
    (quiet-asked form.image.file.bytes.items (failed_same path form.image.file.bytes.items fault ∷ old) new (laid-quiet file name path (Err fault) (failed_same path form.image.file.bytes.items fault ∷ old) result new p))

lays-apart : (form : GetManyForm) (file : VolumeFile) (name path bytes : List ℕ) (seconds : Option ℕ) → Asking form.image.file.bytes.items (LaysApart form file name path bytes seconds)
lays-apart form file name path bytes seconds old result new p = lays-by form file name path bytes seconds old result new p.way

-- ## What is asked for

gives-file : (form : GetManyForm) (blocks : List (List ℕ)) (file : VolumeFile) → Asking form.image.file.bytes.items (GivesFile form blocks file)
gives-file form blocks file =
    then-asking form.image.file.bytes.items (Purely (TakesFile blocks file (get_form form file))) (λ bytes. Then (Purely (IsHostName file)) (λ name. Then (Purely (IsPath form.folder.bytes.items name.bytes.items)) (λ path. LaysApart form file name.bytes.items path.bytes.items bytes.items (time_of_file form.year blocks file))))
    (purely-asking form.image.file.bytes.items (TakesFile blocks file (get_form form file)))
    (λ bytes. then-asking form.image.file.bytes.items (Purely (IsHostName file)) (λ name. Then (Purely (IsPath form.folder.bytes.items name.bytes.items)) (λ path. LaysApart form file name.bytes.items path.bytes.items bytes.items (time_of_file form.year blocks file)))
    (purely-asking form.image.file.bytes.items (IsHostName file))
    (λ name. then-asking form.image.file.bytes.items (Purely (IsPath form.folder.bytes.items name.bytes.items)) (λ path. LaysApart form file name.bytes.items path.bytes.items bytes.items (time_of_file form.year blocks file))
    (purely-asking form.image.file.bytes.items (IsPath form.folder.bytes.items name.bytes.items))
    (λ path. lays-apart form file name.bytes.items path.bytes.items bytes.items (time_of_file form.year blocks file))))

gives-noted : (form : GetManyForm) (blocks : List (List ℕ)) (file : VolumeFile) → Asking form.image.file.bytes.items (GivesNoted form blocks file)
gives-noted form blocks file =
    then-asking form.image.file.bytes.items (NotesGot (is_got_noted form file) file) (λ it. GivesFile form blocks file)
    (quiet-asking form.image.file.bytes.items (NotesGot (is_got_noted form file) file) (noted-quiet (is_got_noted form file) file)) (λ it. gives-file form blocks file)

word-quiet : (word : Option (List ℕ)) (why : FileFault) → Quietly (RefusesWord word why)
word-quiet None why = purely-quiet (λ (result : Result Bool Ending). result ≡ Ok false)
word-quiet (Some word) why = answer-quiet false (named_lines word (fault_line (File why)))

done-quiet : (is_told : Bool) (done all : ℕ) (old new : List Event) → TellsDone is_told done all old new → Quiet old new
done-quiet false done all old new p = quiet old p (nothing old)
done-quiet true done all old new (passed, inl p) = quiet old p (printed old _ (λ path. refl) refl)
done-quiet true done all old new (passed, inr p) = quiet old p.2 (record { files = λ path. refl; reads = refl })

progress-quiet : (is_told : Bool) (done all : ℕ) → Quietly (TellsProgress is_told done all)
progress-quiet is_told done all old result new p = done-quiet is_told done all old new p.1

gives-wish : (form : GetManyForm) (blocks : List (List ℕ)) (is_told : Bool) (all done : ℕ) (one : Wish) → Asking form.image.file.bytes.items (GivesWish form blocks is_told all done one)
gives-wish form blocks is_told all done (wish.File file) =
    then-asking form.image.file.bytes.items (TellsProgress is_told (done + 1) all) (λ it. GivesNoted form blocks file) (quiet-asking form.image.file.bytes.items (TellsProgress is_told (done + 1) all) (progress-quiet is_told (done + 1) all)) (λ it. gives-noted form blocks file)
gives-wish form blocks is_told all done (wish.BadWord place) = quiet-asking form.image.file.bytes.items (RefusesWord (slice_get (words_of form) place) BadName) (word-quiet (slice_get (words_of form) place) BadName)
gives-wish form blocks is_told all done (wish.NotFound place) = quiet-asking form.image.file.bytes.items (RefusesWord (slice_get (words_of form) place) NotFound) (word-quiet (slice_get (words_of form) place) NotFound)
gives-wish form blocks is_told all done (wish.Block block) =
    quiet-asking form.image.file.bytes.items (PrintsAnswer false (named_lines (codes "--at " ++ decimal block) (fault_line (File NotFound)))) (answer-quiet false (named_lines (codes "--at " ++ decimal block) (fault_line (File NotFound))))

gives-each : (form : GetManyForm) (blocks : List (List ℕ)) (is_told : Bool) (all done : ℕ) (are_there : Bool) (wishes : List Wish) → Asking form.image.file.bytes.items (GivesEach form blocks is_told all done are_there wishes)
gives-each form blocks is_told all done are_there [] = purely-asking form.image.file.bytes.items (λ (result : Result Bool Ending). result ≡ Ok are_there)
gives-each form blocks is_told all done are_there (one ∷ wishes) =
    then-asking form.image.file.bytes.items (After are_there (GivesWish form blocks is_told all done one)) (λ is_there. GivesEach form blocks is_told all (count_after one done) (are_there && is_there) wishes)
    (part-asking form.image.file.bytes.items are_there (GivesWish form blocks is_told all done one) (gives-wish form blocks is_told all done one))
    (λ is_there. gives-each form blocks is_told all (count_after one done) (are_there && is_there) wishes)

-- ## The command

ends-quiet : (is_told : Bool) (old new : List Event) → EndsProgress is_told old new → Quiet old new
ends-quiet false old new p = quiet old p (nothing old)
ends-quiet true old new p = quiet old p.1 (printed old _ (λ path. refl) refl)

begins-quiet : (is_told : Bool) (old new : List Event) → BeginsProgress is_told old new → Quiet old new
begins-quiet true old new p = quiet old p.1 (record { files = λ path. refl; reads = refl })
begins-quiet false old new (inl p) = quiet old p (printed old _ (λ path. refl) refl)
begins-quiet false old new (inr p) = quiet old p (record { files = λ path. refl; reads = refl })

with-progress : {A : Type 0} (image : List ℕ) (work : Bool → List Event → Result A Ending → List Event → Type 0) → ((is_told : Bool) → Asking image (work is_told)) → Asking image (WithProgress work)
with-progress image work n old result new p =
    both image old p.done new
    (both image old p.begun p.done (quiet-asked image old p.begun (begins-quiet p.is_told old p.begun p.begins)) (n p.is_told p.begun result p.done p.works))
    (quiet-asked image p.done new (ends-quiet p.is_told p.done new p.ends))

abbrev Each : GetManyForm → List (List ℕ) → ℕ → List Wish → List Event → Result (Unit {0}) Ending → List Event → Type 0
Each form blocks all wishes = Then (WithProgress (λ is_told. GivesEach form blocks is_told all 0 true wishes)) (λ are_there. Purely (EndsSound are_there))

each-asking : (form : GetManyForm) (blocks : List (List ℕ)) (all : ℕ) (wishes : List Wish) → Asking form.image.file.bytes.items (Each form blocks all wishes)
each-asking form blocks all wishes =
    then-asking form.image.file.bytes.items (WithProgress (λ is_told. GivesEach form blocks is_told all 0 true wishes)) (λ are_there. Purely (EndsSound are_there))
    (with-progress form.image.file.bytes.items (λ is_told. GivesEach form blocks is_told all 0 true wishes) (λ is_told. gives-each form blocks is_told all 0 true wishes))
    (λ are_there. purely-asking form.image.file.bytes.items (EndsSound are_there))

-- a step that changes nothing comes before
shift : (image path : List ℕ) (old between new : List Event) → about path between ≡ about path old → (about path new ≡ about path between) ⊎ IsSaidApart path image (read new) → (about path new ≡ about path old) ⊎ IsSaidApart path image (read new)
shift image path old between new start (inl is) = inl (is ∙ start)
shift image path old between new start (inr said) = inr said

then-kept : {A B : Type 0} (image : List ℕ) (first : List Event → Result A Ending → List Event → Type 0) (next : A → List Event → Result B Ending → List Event → Type 0)
    → KeepsFiles first → ((given : A) → KeepsImage image (next given)) → KeepsImage image (Then first next)
then-kept image first next f n old (Ok r) new (inl ends) path = absurd ends
then-kept image first next f n old (Err e) new (inl ends) path = inl (of-file path (f old (Err e) new ends path))
then-kept image first next f n old result new (inr it) path = shift image path old it.between new (of-file path (f old (Ok it.given) it.between it.done path)) (n it.given it.between result new it.after path)

-- a folder is made first
folder-kept : {B : Type 0} (image folder : List ℕ) (next : List Event → Result B Ending → List Event → Type 0) → KeepsImage image next → KeepsImage image (Then (MakesFolder folder) (λ it. next))
folder-kept image folder next n old (Ok r) new (inl ends) path = absurd ends
folder-kept image folder next n old (Err e) new (inl ends) path = inl (folder-files folder old (Err e) new ends path)
folder-kept image folder next n old result new (inr it) path = shift image path old it.between new (folder-files folder old (Ok it.given) it.between it.done path) (n it.between result new it.after path)

purely-never : {A : Type 0} (gives : Result A Ending → Type 0) → KeepsFiles (Purely gives)
purely-never gives old result new p path = ap (λ (events : List Event). changes_at path events) p.1

asked-kept : {A : Type 0} (image : List ℕ) (step : List Event → Result A Ending → List Event → Type 0) → Asking image step → KeepsImage image step
asked-kept image step a old result new p path = (a old result new p).asks path

gives-asked : (form : GetManyForm) (blocks : List (List ℕ)) → KeepsImage form.image.file.bytes.items (GivesAsked form blocks)
gives-asked form blocks =
    then-kept form.image.file.bytes.items (Purely (AreFilesOn blocks)) (λ files. Then (Purely (AreWishes form files.items)) (λ wishes. Then (MakesFolder form.folder.bytes.items) (λ it. Each form blocks (length files.items) wishes.items)))
    (purely-never (AreFilesOn blocks))
    (λ files. then-kept form.image.file.bytes.items (Purely (AreWishes form files.items)) (λ wishes. Then (MakesFolder form.folder.bytes.items) (λ it. Each form blocks (length files.items) wishes.items))
    (purely-never (AreWishes form files.items))
    (λ wishes. folder-kept form.image.file.bytes.items form.folder.bytes.items (Each form blocks (length files.items) wishes.items)
    (asked-kept form.image.file.bytes.items (Each form blocks (length files.items) wishes.items) (each-asking form blocks (length files.items) wishes.items))))

pub image-kept : (form : GetManyForm) → KeepsImage form.image.file.bytes.items (GetsMany form)
image-kept form =
    then-kept form.image.file.bytes.items (TakesLists form.texts) (λ it. Then (LooksAt form.image) (λ image. Then (Answers (OpensVolume image.items) (length image.items)) (GivesAsked form))) (lists-never form.texts)
    (λ it. then-kept form.image.file.bytes.items (LooksAt form.image) (λ image. Then (Answers (OpensVolume image.items) (length image.items)) (GivesAsked form)) (looks-at-keeps form.image)
    (λ image. then-kept form.image.file.bytes.items (Answers (OpensVolume image.items) (length image.items)) (GivesAsked form) (answers-never (OpensVolume image.items) (length image.items)) (gives-asked form)))
