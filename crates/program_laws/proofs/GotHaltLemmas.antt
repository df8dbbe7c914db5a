-- `get` of several files prints nothing after a print that failed.
use Rattle.std.proofs.Common.{◌≡◌, ◌∙◌, ◌⊎◌, ◌&&◌, ◌+◌, ℕ, Bool, true, false, codes, decimal, Option, None, Some, Result, Ok, Err, List, [], ◌∷◌, ◌++◌, refl, sym, ap, subst, inl, inr, length, slice_get}
use Rattle.hosts.specs.Event.{Event, MakeFolder, failed_call, failed_same, same_call}
use Rattle.hosts.specs.Streams.{output}
use Rattle.hosts.specs.declared.faults.HostFault.{HostFault}
use Rattle.os8_dir.specs.declared.file_faults.FileFault.{FileFault}
use Rattle.os8_dir.specs.declared.file_faults.FileFault.TheVariants.{BadName, NotFound}
use Rattle.refusals.specs.Faults.{fault_line}
use Rattle.refusals.specs.declared.faults.SessionFault.TheVariants.{File}
use Rattle.archive_many.specs.Opened.{OpensVolume}
use Rattle.archive_many.specs.declared.opened.VolumeFile.{VolumeFile}
use Rattle.archive_many.specs.declared.wishes.Wish.{Wish}
use Rattle.archive_many.specs.declared.wishes.Wish.TheVariants as wish
use Rattle.program_reports.specs.Program.{program_line}
use Rattle.program_reports.specs.declared.programs.ProgramLine.{ProgramLine}
use Rattle.program_reports.specs.declared.programs.ProgramLine.TheVariants as line
use Rattle.outcome.specs.Outcomes.{outcome_of}
use Rattle.outcome.specs.declared.endings.Ending.{Ending}
use Rattle.outcome.specs.declared.endings.Ending.TheVariants.{Line, Fault, Failure, Busy, NotWritten, FullOutput, Unreported, NoReader, Misuse}
use Rattle.outcome.specs.declared.reasons.Reason.TheVariants as reason
use Rattle.program_tasks.specs.declared.forms.GetManyForm.{GetManyForm}
use Rattle.program_tasks.specs.declared.forms.TextsForm.{TextsForm}
use Rattle.image_files.specs.Answers.{Answers, AreLines, named_lines}
use Rattle.image_files.specs.Ending.{EndsSound}
use Rattle.image_files.specs.Places.{TellsPair}
use Rattle.image_files.specs.Reading.{LooksAt}
use Rattle.image_files.specs.Reasons.{is_want_of_memory, reason_of_first}
use Rattle.image_files.specs.Saving.{Prints}
use Rattle.image_files.specs.Work.{After, Then, Purely, ending_after}
use Rattle.image_files.proofs.ReasonLemmas.{unless-output}
use Rattle.asked_files.specs.Texts.{TakesLists, TellsBadList, get_form, is_got_noted, lists_of}
use Rattle.host_progress.specs.Progressing.{BeginsProgress, EndsProgress, TellsDone, TellsProgress, WithProgress}
use Rattle.get_commands.specs.GettingMany.{AreFilesOn, GetsMany, GivesAsked, GivesEach, GivesFile, GivesNoted, GivesWish, IsHostName, IsPath, LaysApart, LaysAndTells, LaysFile, MakesFolder, NotesGot, PrintsAnswer, RefusesOver, RefusesWord, TakesFile, TellsGot, TellsLaid, TellsUnlaid, count_after, line_of_laid, time_of_file}
use Rattle.get_commands.specs.Wishing.{AreWishes, words_of}
use Rattle.program_laws.proofs.HaltLemmas.{Halts, StopsBy, answers-halt, at-halts, prints-halt, purely-halts, silent, stops-then, then-halts}

-- ## A part, after others

still-empty : (are_sound : Bool) (ending : Ending) → ((is_data : Bool) → (outcome_of is_data (Err ending)).output ≡ []) → (is_data : Bool) → (outcome_of is_data (Err (ending_after are_sound ending))).output ≡ []
still-empty true NoReader empty is_data = refl
still-empty false NoReader empty is_data = refl
still-empty are_sound (Line it) empty is_data = empty is_data
still-empty are_sound (Fault it) empty is_data = empty is_data
still-empty are_sound Failure empty is_data = empty is_data
still-empty are_sound (Busy it) empty is_data = empty is_data
still-empty are_sound (NotWritten it left) empty is_data = empty is_data
still-empty are_sound FullOutput empty is_data = empty is_data
still-empty are_sound Unreported empty is_data = empty is_data
still-empty are_sound Misuse empty is_data = empty is_data

after-halts : {A : Type 0} (are_sound : Bool) (part : List Event → Result A Ending → List Event → Type 0) → Halts part → Halts (After are_sound part)
after-halts are_sound part f old (Ok it) new p = f old (Ok it) new p
after-halts {A} are_sound part f old (Err ended) new (ending, p, is) = subst (λ (e : Ending). StopsBy {A = A} (Err e) old new) (sym is) (ends-so (f old (Err ending) new p))
  where
    ends-so : StopsBy {A = A} (Err ending) old new → StopsBy {A = A} (Err (ending_after are_sound ending)) old new
    ends-so (inl takes) = inl takes
    ends-so (inr (since, prints, lost, empty)) = inr (since, prints, lost, still-empty are_sound ending empty)

-- what was asked or told before a step
before-halts : {A : Type 0} (result : Result A Ending) (old mid new : List Event) → output mid ≡ output old → StopsBy result mid new → StopsBy result old new
before-halts result old mid new is next = stops-then result old mid new ([], is, tt) next

answer-halts : (is_there : Bool) (text : List ℕ) → Halts (PrintsAnswer is_there text)
answer-halts is_there text =
    then-halts (Purely (AreLines text)) (λ lines. Then (After is_there (Prints lines.items)) (λ it. Purely (λ (result : Result Bool Ending). result ≡ Ok is_there))) (purely-halts (AreLines text))
    (λ lines. then-halts (After is_there (Prints lines.items)) (λ it. Purely (λ (result : Result Bool Ending). result ≡ Ok is_there)) (after-halts is_there (Prints lines.items) (prints-halt lines.items))
    (λ it. purely-halts (λ (result : Result Bool Ending). result ≡ Ok is_there)))

-- ## A file

unlaid-halts : (said : Option ProgramLine) (fault : HostFault) (name path : List ℕ) → Halts (TellsUnlaid said fault name path)
unlaid-halts None fault name path old result new p = silent result old new (ap output p.1)
unlaid-halts (Some said) fault name path old result new (between, told, p) =
    before-halts result old between new (unless-output (is_want_of_memory fault) (reason_of_first fault) path old between told) (answer-halts false (named_lines name (program_line said)) between result new p)

laid-halts : (file : VolumeFile) (name path : List ℕ) (done : Result (Unit {0}) HostFault) → Halts (TellsLaid file name path done)
laid-halts file name path (Ok it) = answer-halts true (program_line (line.Got file.name file.blocks))
laid-halts file name path (Err fault) = unlaid-halts (line_of_laid fault) fault name path

lays-silent : (path bytes : List ℕ) (seconds : Option ℕ) (is_forced : Bool) (done : Result (Unit {0}) HostFault) (old new : List Event) → LaysFile path bytes seconds is_forced old done new → output new ≡ output old
lays-silent path bytes seconds is_forced (Ok it) old new p = p.only.prints
lays-silent path bytes seconds is_forced (Err fault) old new p = p.0.only.prints

lays-halt : (form : GetManyForm) (file : VolumeFile) (name path bytes : List ℕ) (seconds : Option ℕ) → Halts (LaysAndTells form file name path bytes seconds)
lays-halt form file name path bytes seconds old result new p =
    before-halts result old p.between new (lays-silent path bytes seconds form.is_forced p.done old p.between p.lays) (laid-halts file name path p.done p.between result new p.tells)

pair-halts : (place input : List ℕ) → Halts (TellsPair place input)
pair-halts place input old (Ok it) new (ok, p) = ([], ap output p, tt)
pair-halts place input old (Err ending) new p = inl ([], ap output p.1, tt)

over-halts : (name path image : List ℕ) → Halts (RefusesOver name path image)
over-halts name path image =
    then-halts (TellsPair path image) (λ it. PrintsAnswer false (named_lines name (program_line line.OneFile))) (pair-halts path image) (λ it. answer-halts false (named_lines name (program_line line.OneFile)))

apart-halts : (form : GetManyForm) (file : VolumeFile) (name path bytes : List ℕ) (seconds : Option ℕ) → Halts (LaysApart form file name path bytes seconds)
apart-halts form file name path bytes seconds old result new p = by p.way
  where
    image : List ℕ
    image = form.image.file.bytes.items

    by : LaysAndTells form file name path bytes seconds (same_call path image false ∷ old) result new
        ⊎ (RefusesOver name path image (same_call path image true ∷ old) result new ⊎ ((fault : HostFault) × TellsLaid file name path (Err fault) (failed_same path image fault ∷ old) result new)) → StopsBy result old new
    by (inl q) = before-halts result old (same_call path image false ∷ old) new refl (lays-halt form file name path bytes seconds (same_call path image false ∷ old) result new q)
    by (inr (inl q)) = before-halts result old (same_call path image true ∷ old) new refl (over-halts name path image (same_call path image true ∷ old) result new q)
    by (inr (inr (fault, q))) = before-halts result old (failed_same path image fault ∷ old) new refl (laid-halts file name path (Err fault) (failed_same path image fault ∷ old) result new q)

file-halts : (form : GetManyForm) (blocks : List (List ℕ)) (file : VolumeFile) → Halts (GivesFile form blocks file)
file-halts form blocks file =
    then-halts (Purely (TakesFile blocks file (get_form form file))) (λ bytes. Then (Purely (IsHostName file)) (λ name.
    Then (Purely (IsPath form.folder.bytes.items name.bytes.items)) (λ path. LaysApart form file name.bytes.items path.bytes.items bytes.items (time_of_file form.year blocks file))))
    (purely-halts (TakesFile blocks file (get_form form file)))
    (λ bytes. then-halts (Purely (IsHostName file)) (λ name. Then (Purely (IsPath form.folder.bytes.items name.bytes.items)) (λ path. LaysApart form file name.bytes.items path.bytes.items bytes.items (time_of_file form.year blocks file)))
    (purely-halts (IsHostName file))
    (λ name. then-halts (Purely (IsPath form.folder.bytes.items name.bytes.items)) (λ path. LaysApart form file name.bytes.items path.bytes.items bytes.items (time_of_file form.year blocks file))
    (purely-halts (IsPath form.folder.bytes.items name.bytes.items)) (λ path. apart-halts form file name.bytes.items path.bytes.items bytes.items (time_of_file form.year blocks file))))

got-halts : (name : List ℕ) → Halts (TellsGot name)
got-halts name old (Ok it) new (ok, p) = ([], ap output p, tt)
got-halts name old (Err ending) new p = inl ([], ap output p.1, tt)

notes-halt : (is : Bool) (file : VolumeFile) → Halts (NotesGot is file)
notes-halt false file old result new p = silent result old new (ap output p.1)
notes-halt true file old result new p = then-halts (Purely (IsHostName file)) (λ name. TellsGot name.bytes.items) (purely-halts (IsHostName file)) (λ name. got-halts name.bytes.items) old result new p

noted-halts : (form : GetManyForm) (blocks : List (List ℕ)) (file : VolumeFile) → Halts (GivesNoted form blocks file)
noted-halts form blocks file = then-halts (NotesGot (is_got_noted form file) file) (λ it. GivesFile form blocks file) (notes-halt (is_got_noted form file) file) (λ it. file-halts form blocks file)

-- ## What is asked for

done-silent : (is_told : Bool) (done all : ℕ) (old new : List Event) → TellsDone is_told done all old new → output new ≡ output old
done-silent false done all old new p = ap output p
done-silent true done all old new (passed, inl p) = ap output p
done-silent true done all old new (passed, inr (ok, late, p)) = ap output p

word-halts : (word : Option (List ℕ)) (why : FileFault) → Halts (RefusesWord word why)
word-halts None why old result new p = silent result old new (ap output p.1)
word-halts (Some word) why old result new p = answer-halts false (named_lines word (fault_line (File why))) old result new p

wish-halts : (form : GetManyForm) (blocks : List (List ℕ)) (is_told : Bool) (all done : ℕ) (one : Wish) → Halts (GivesWish form blocks is_told all done one)
wish-halts form blocks is_told all done (wish.File file) = then-halts (TellsProgress is_told (done + 1) all) (λ it. GivesNoted form blocks file)
    (λ old result new p. silent result old new (done-silent is_told (done + 1) all old new p.1)) (λ it. noted-halts form blocks file)
wish-halts form blocks is_told all done (wish.BadWord place) = word-halts (slice_get (words_of form) place) BadName
wish-halts form blocks is_told all done (wish.NotFound place) = word-halts (slice_get (words_of form) place) NotFound
wish-halts form blocks is_told all done (wish.Block block) = answer-halts false (named_lines (codes "--at " ++ decimal block) (fault_line (File NotFound)))

each-halts : (form : GetManyForm) (blocks : List (List ℕ)) (is_told : Bool) (all done : ℕ) (are_there : Bool) (wishes : List Wish) → Halts (GivesEach form blocks is_told all done are_there wishes)
each-halts form blocks is_told all done are_there [] = purely-halts (λ (result : Result Bool Ending). result ≡ Ok are_there)
each-halts form blocks is_told all done are_there (one ∷ wishes) =
    then-halts (After are_there (GivesWish form blocks is_told all done one)) (λ is_there. GivesEach form blocks is_told all (count_after one done) (are_there && is_there) wishes)
    (after-halts are_there (GivesWish form blocks is_told all done one) (wish-halts form blocks is_told all done one))
    (λ is_there. each-halts form blocks is_told all (count_after one done) (are_there && is_there) wishes)

-- ## The command

begins-silent : (is_told : Bool) (old new : List Event) → BeginsProgress is_told old new → output new ≡ output old
begins-silent true old new (passed, p) = ap output p
begins-silent false old new (inl p) = ap output p
begins-silent false old new (inr p) = ap output p

ends-silent : (is_told : Bool) (old new : List Event) → EndsProgress is_told old new → output new ≡ output old
ends-silent false old new p = ap output p
ends-silent true old new (ok, p) = ap output p

-- what follows prints nothing
later-halts : {A : Type 0} (result : Result A Ending) (old mid new : List Event) → StopsBy result old mid → output new ≡ output mid → StopsBy result old new
later-halts (Ok it) old mid new (since, is, taken) same = (since, same ∙ is, taken)
later-halts (Err ending) old mid new (inl (since, is, taken)) same = inl (since, same ∙ is, taken)
later-halts (Err ending) old mid new (inr (since, is, lost, none)) same = inr (since, same ∙ is, lost, none)

progress-halts : {A : Type 0} (work : Bool → List Event → Result A Ending → List Event → Type 0) → ((is_told : Bool) → Halts (work is_told)) → Halts (WithProgress work)
progress-halts work f old result new p =
    before-halts result old p.begun new (begins-silent p.is_told old p.begun p.begins) (later-halts result p.begun p.done new (f p.is_told p.begun result p.done p.works) (ends-silent p.is_told p.done new p.ends))

folder-halts : (folder : List ℕ) → Halts (MakesFolder folder)
folder-halts folder old (Ok it) new p = ([], ap output p, tt)
folder-halts folder old (Err ending) new (fault, is, p) = inl ([], unless-output (is_want_of_memory fault) (reason.Fault fault) folder (failed_call MakeFolder folder fault ∷ old) new p, tt)

asked-halts : (form : GetManyForm) (blocks : List (List ℕ)) → Halts (GivesAsked form blocks)
asked-halts form blocks =
    then-halts (Purely (AreFilesOn blocks)) (λ files. Then (Purely (AreWishes form files.items)) (λ wishes. Then (MakesFolder form.folder.bytes.items) (λ it.
    Then (WithProgress (λ is_told. GivesEach form blocks is_told (length files.items) 0 true wishes.items)) (λ are_there. Purely (EndsSound are_there))))) (purely-halts (AreFilesOn blocks))
    (λ files. then-halts (Purely (AreWishes form files.items)) (λ wishes. Then (MakesFolder form.folder.bytes.items) (λ it.
    Then (WithProgress (λ is_told. GivesEach form blocks is_told (length files.items) 0 true wishes.items)) (λ are_there. Purely (EndsSound are_there)))) (purely-halts (AreWishes form files.items))
    (λ wishes. then-halts (MakesFolder form.folder.bytes.items) (λ it.
    Then (WithProgress (λ is_told. GivesEach form blocks is_told (length files.items) 0 true wishes.items)) (λ are_there. Purely (EndsSound are_there))) (folder-halts form.folder.bytes.items)
    (λ it. then-halts (WithProgress (λ is_told. GivesEach form blocks is_told (length files.items) 0 true wishes.items)) (λ are_there. Purely (EndsSound are_there))
    (progress-halts (λ is_told. GivesEach form blocks is_told (length files.items) 0 true wishes.items) (λ is_told. each-halts form blocks is_told (length files.items) 0 true wishes.items))
    (λ are_there. purely-halts (EndsSound are_there)))))

list-silent : (word : Option (List ℕ)) (old new : List Event) → TellsBadList word old new → output new ≡ output old
list-silent None old new p = ap output p
list-silent (Some word) old new (ok, p) = ap output p

lists-halt : (texts : TextsForm) → Halts (TakesLists texts)
lists-halt texts old (Ok it) new p = ([], ap output p.1, tt)
lists-halt texts old (Err ending) new (inl (is, place, bad, tells)) = inl ([], list-silent (slice_get (lists_of texts) place) old new tells, tt)
lists-halt texts old (Err ending) new (inr p) = inl ([], ap output p.1, tt)

pub many-halts : (form : GetManyForm) → Halts (GetsMany form)
many-halts form = then-halts (TakesLists form.texts) (λ it. Then (LooksAt form.image) (λ image. Then (Answers (OpensVolume image.items) (length image.items)) (GivesAsked form))) (lists-halt form.texts)
    (λ it. then-halts (LooksAt form.image) (λ image. Then (Answers (OpensVolume image.items) (length image.items)) (GivesAsked form)) (at-halts form.image)
    (λ image. then-halts (Answers (OpensVolume image.items) (length image.items)) (GivesAsked form) (answers-halt (OpensVolume image.items) (length image.items)) (asked-halts form)))
