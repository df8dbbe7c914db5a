-- The command that gets several files changes the paths of its folder alone, and replaces none unless that is asked for.
use Rattle.std.proofs.Common.{◌≡◌, ◌∙◌, ◌⊎◌, ◌++◌, ◌∷◌, ◌&&◌, ◌+◌, ℕ, Bool, true, false, codes, decimal, Option, None, Some, Result, Ok, Err, List, [], ap, inl, inr, length, refl, slice_get, subst}
use Rattle.std.specs.Str.{bytes_eq}
use Rattle.std.proofs.lemmas.Slice.Eq.{bytes_eq-Decides}
use Rattle.hosts.specs.Event.{Event, MakeFolder, failed_call, failed_same, same_call}
use Rattle.hosts.specs.Place.{about}
use Rattle.hosts.specs.Saving.{replacements}
use Rattle.hosts.specs.Streams.{changes_at, folders}
use Rattle.hosts.specs.declared.faults.HostFault.{HostFault}
use Rattle.os8_dir.specs.declared.file_faults.FileFault.{FileFault}
use Rattle.os8_dir.specs.declared.file_faults.FileFault.TheVariants.{BadName, NotFound}
use Rattle.refusals.specs.Faults.{fault_line}
use Rattle.refusals.specs.declared.faults.SessionFault.TheVariants.{File}
use Rattle.archive_many.specs.Opened.{OpensVolume}
use Rattle.archive_many.specs.declared.opened.VolumeFile.{VolumeFile}
use Rattle.program_reports.specs.Program.{program_line}
use Rattle.program_reports.specs.declared.programs.ProgramLine.{ProgramLine}
use Rattle.program_reports.specs.declared.programs.ProgramLine.TheVariants as line
use Rattle.outcome.specs.declared.endings.Ending.{Ending}
use Rattle.program_tasks.specs.declared.forms.GetManyForm.{GetManyForm}
use Rattle.image_files.specs.Answers.{Answers, AreLines, named_lines}
use Rattle.image_files.specs.Reasons.{is_want_of_memory, reason_of_first}
use Rattle.image_files.proofs.ReasonLemmas.{unless-keeps}
use Rattle.outcome.specs.declared.reasons.Reason.TheVariants as reason
use Rattle.image_files.specs.Places.{TellsPair}
use Rattle.image_files.specs.Reading.{LooksAt}
use Rattle.image_files.specs.Saving.{IsDone, Prints}
use Rattle.image_files.specs.Work.{After, Then, Purely}
use Rattle.get_commands.specs.GettingMany.{AreFilesOn, GetsMany, GivesAsked, GivesEach, GivesFile, GivesWish, HasLaid, IsPath, LaysAndTells, LaysFile, MakesFolder, PrintsAnswer, RefusesWord, ReplacesIf, TakesFile, IsHostName, TellsLaid, TellsUnlaid, count_after, line_of_laid, time_of_file, LaysApart, RefusesOver, GivesNoted, NotesGot, TellsGot}
use Rattle.image_files.specs.Laws.{MakesAtMost, MakesFolderAlone, NeverReplaces}
use Rattle.get_commands.specs.Laws.{ChangesIn, IsIn}
use Rattle.host_progress.specs.Progressing.{TellsProgress, WithProgress}
use Rattle.image_files.specs.Ending.{EndsSound}
use Rattle.asked_files.specs.Texts.{TakesLists, get_form, is_got_noted}
use Rattle.get_commands.specs.Wishing.{AreWishes, words_of}
use Rattle.archive_many.specs.declared.wishes.Wish.{Wish}
use Rattle.archive_many.specs.declared.wishes.Wish.TheVariants as wish
use Rattle.asked_files.proofs.ListLemmas.{lists-never}
use Rattle.image_files.specs.Laws.{KeepsFiles, ChangesNothing}
use Rattle.image_files.proofs.KeepLemmas.{of-file, of-folders, after-keeps as after-never, then-keeps as then-never, purely-keeps as purely-never, prints-keeps, looks-at-keeps}
use Rattle.image_files.proofs.LeaveLemmas.{same, answers-never}
use Rattle.host_progress.proofs.KeepLemmas.{begins-never, ends-never, progress-never}

-- what a command may have done to files that gets some to a folder
record Stays (form : GetManyForm) (old new : List Event) : Type 0 where
  others : (path : List ℕ) → (IsIn form.folder.bytes.items path → ⊥) → about path new ≡ about path old
  replaced : form.is_forced ≡ false → (path : List ℕ) → replacements (about path new) ≡ replacements (about path old)
  makes : folders new ≡ folders old

abbrev Keeps : {A : Type 0} → GetManyForm → (List Event → Result A Ending → List Event → Type 0) → Type 0
Keeps {A} form command = (old : List Event) (result : Result A Ending) (new : List Event) → command old result new → Stays form old new

still : (form : GetManyForm) (old new : List Event) → ChangesNothing old new → Stays form old new
still form old new p = record { others = λ path out. of-file path (p path); replaced = λ is path. ap replacements (of-file path (p path)); makes = of-folders [] (p []) }

both : (form : GetManyForm) (old between new : List Event) → Stays form old between → Stays form between new → Stays form old new
both form old between new p q = record { others = λ path out. q.others path out ∙ p.others path out; replaced = λ is path. q.replaced is path ∙ p.replaced is path; makes = q.makes ∙ p.makes }

keeps-never : {A : Type 0} (form : GetManyForm) (command : List Event → Result A Ending → List Event → Type 0) → KeepsFiles command → Keeps form command
keeps-never form command n old result new p = still form old new (n old result new p)

then-keeps : {A B : Type 0} (form : GetManyForm) (first : List Event → Result A Ending → List Event → Type 0) (next : A → List Event → Result B Ending → List Event → Type 0)
    → Keeps form first → ((a : A) → Keeps form (next a)) → Keeps form (Then first next)
then-keeps form first next f n old (Ok r) new (inl ends) = absurd ends
then-keeps form first next f n old (Err e) new (inl ends) = f old (Err e) new ends
then-keeps form first next f n old result new (inr it) = both form old it.between new (f old (Ok it.given) it.between it.done) (n it.given it.between result new it.after)

purely-keeps : {A : Type 0} (form : GetManyForm) (gives : Result A Ending → Type 0) → Keeps form (Purely gives)
purely-keeps form gives = keeps-never form (Purely gives) (purely-never gives)

after-keeps : {A : Type 0} (form : GetManyForm) (are_there : Bool) (part : List Event → Result A Ending → List Event → Type 0) → Keeps form part → Keeps form (After are_there part)
after-keeps form are_there part keeps old (Ok it) new p = keeps old (Ok it) new p
after-keeps form are_there part keeps old (Err ended) new (ending, p, is) = keeps old (Err ending) new p

-- ## A file that is laid

pub same-path : (path other : List ℕ) → bytes_eq path other ≡ true → path ≡ other
same-path path other is = (bytes_eq-Decides path other).0 is

laid-others : (form : GetManyForm) (path bytes : List ℕ) (seconds : Option ℕ) (done : Result (Unit {0}) HostFault) (old new : List Event) → IsIn form.folder.bytes.items path → HasLaid path bytes seconds form.is_forced done old new
    → (is : Bool) (other : List ℕ) → bytes_eq path other ≡ is → (IsIn form.folder.bytes.items other → ⊥) → about other new ≡ about other old
laid-others form path bytes seconds done old new inside laid true other is out = absurd (out (subst (λ p. IsIn form.folder.bytes.items p) (same-path path other is) inside))
laid-others form path bytes seconds done old new inside laid false other is out = laid.only.others other is

unforced : (is_forced : Bool) (path : List ℕ) (old new : List Event) → is_forced ≡ false → ReplacesIf is_forced path old new → replacements (about path new) ≡ replacements (about path old)
unforced true path old new is p = absurd cc
unforced false path old new is p = p

laid-replaced : (form : GetManyForm) (path bytes : List ℕ) (seconds : Option ℕ) (done : Result (Unit {0}) HostFault) (old new : List Event) → HasLaid path bytes seconds form.is_forced done old new → form.is_forced ≡ false
    → (is : Bool) (other : List ℕ) → bytes_eq path other ≡ is → replacements (about other new) ≡ replacements (about other old)
laid-replaced form path bytes seconds done old new laid unforced-is true other is = subst (λ p. replacements (about p new) ≡ replacements (about p old)) (same-path path other is) (unforced form.is_forced path old new unforced-is laid.replaces)
laid-replaced form path bytes seconds done old new laid unforced-is false other is = ap replacements (laid.only.others other is)

laid-stays : (form : GetManyForm) (path bytes : List ℕ) (seconds : Option ℕ) (done : Result (Unit {0}) HostFault) (old new : List Event) → IsIn form.folder.bytes.items path → HasLaid path bytes seconds form.is_forced done old new → Stays form old new
laid-stays form path bytes seconds done old new inside laid = record {
  others = λ other out. laid-others form path bytes seconds done old new inside laid (bytes_eq path other) other refl out;
  replaced = λ is other. laid-replaced form path bytes seconds done old new laid is (bytes_eq path other) other refl;
  makes = laid.only.keeps_folders;
}

lays-stays : (form : GetManyForm) (path bytes : List ℕ) (seconds : Option ℕ) (done : Result (Unit {0}) HostFault) (old new : List Event) → IsIn form.folder.bytes.items path → LaysFile path bytes seconds form.is_forced old done new → Stays form old new
lays-stays form path bytes seconds (Ok it) old new inside p = laid-stays form path bytes seconds (Ok it) old new inside p
lays-stays form path bytes seconds (Err fault) old new inside p = laid-stays form path bytes seconds (Err fault) old new inside p.0

pub prints-answer-never : (is_there : Bool) (text : List ℕ) → KeepsFiles (PrintsAnswer is_there text)
prints-answer-never is_there text =
    then-never (Purely (AreLines text)) (λ lines. Then (After is_there (Prints lines.items)) (λ it. Purely (λ (result : Result Bool Ending). result ≡ Ok is_there))) (purely-never (AreLines text))
    (λ lines. then-never (After is_there (Prints lines.items)) (λ it. Purely (λ (result : Result Bool Ending). result ≡ Ok is_there)) (after-never is_there (Prints lines.items) (prints-keeps lines.items)) (λ it. purely-never (λ (result : Result Bool Ending). result ≡ Ok is_there)))

tells-unlaid-never : (said : Option ProgramLine) (fault : HostFault) (name path : List ℕ) → KeepsFiles (TellsUnlaid said fault name path)
tells-unlaid-never None fault name path old result new p = same old new p.1
tells-unlaid-never (Some said) fault name path old result new (between, told, prints) = λ other.
    prints-answer-never false (named_lines name (program_line said)) between result new prints other
    ∙ unless-keeps (is_want_of_memory fault) (reason_of_first fault) path old between told other

pub tells-laid-never : (file : VolumeFile) (name path : List ℕ) (done : Result (Unit {0}) HostFault) → KeepsFiles (TellsLaid file name path done)
tells-laid-never file name path (Ok it) = prints-answer-never true (program_line (line.Got file.name file.blocks))
tells-laid-never file name path (Err fault) = tells-unlaid-never (line_of_laid fault) fault name path

lays-and-tells : (form : GetManyForm) (file : VolumeFile) (name path bytes : List ℕ) (seconds : Option ℕ) → IsIn form.folder.bytes.items path → Keeps form (LaysAndTells form file name path bytes seconds)
lays-and-tells form file name path bytes seconds inside old result new p =
    both form old p.between new (lays-stays form path bytes seconds p.done old p.between inside p.lays) (still form p.between new (tells-laid-never file name path p.done p.between result new p.tells))

pub pair-never : (output input : List ℕ) → KeepsFiles (TellsPair output input)
pair-never output input old (Ok it) new (ok, p) path = ap (λ (events : List Event). changes_at path events) p
pair-never output input old (Err ending) new p path = ap (λ (events : List Event). changes_at path events) p.1

pub over-never : (name path image : List ℕ) → KeepsFiles (RefusesOver name path image)
over-never name path image =
    then-never (TellsPair path image) (λ it. PrintsAnswer false (named_lines name (program_line line.OneFile))) (pair-never path image) (λ it. prints-answer-never false (named_lines name (program_line line.OneFile)))

lays-by : (form : GetManyForm) (file : VolumeFile) (name path bytes : List ℕ) (seconds : Option ℕ) → IsIn form.folder.bytes.items path → (old : List Event) (result : Result Bool Ending) (new : List Event)
    → LaysAndTells form file name path bytes seconds (same_call path form.image.file.bytes.items false ∷ old) result new ⊎ (RefusesOver name path form.image.file.bytes.items (same_call path form.image.file.bytes.items true ∷ old) result new ⊎ ((fault : HostFault) × TellsLaid file name path (Err fault) (failed_same path form.image.file.bytes.items fault ∷ old) result new)) → Stays form old new
lays-by form file name path bytes seconds inside old result new (inl p) =
    both form old (same_call path form.image.file.bytes.items false ∷ old) new (still form old (same_call path form.image.file.bytes.items false ∷ old) (λ other. refl))
    (lays-and-tells form file name path bytes seconds inside (same_call path form.image.file.bytes.items false ∷ old) result new p)
lays-by form file name path bytes seconds inside old result new (inr (inl p)) =
    both form old (same_call path form.image.file.bytes.items true ∷ old) new (still form old (same_call path form.image.file.bytes.items true ∷ old) (λ other. refl))
    (still form (same_call path form.image.file.bytes.items true ∷ old) new (over-never name path form.image.file.bytes.items (same_call path form.image.file.bytes.items true ∷ old) result new p))
lays-by form file name path bytes seconds inside old result new (inr (inr (fault, p))) =
    both form old (failed_same path form.image.file.bytes.items fault ∷ old) new (still form old (failed_same path form.image.file.bytes.items fault ∷ old) (λ other. refl))
    (still form (failed_same path form.image.file.bytes.items fault ∷ old) new (tells-laid-never file name path (Err fault) (failed_same path form.image.file.bytes.items fault ∷ old) result new p))

lays-apart : (form : GetManyForm) (file : VolumeFile) (name path bytes : List ℕ) (seconds : Option ℕ) → IsIn form.folder.bytes.items path → Keeps form (LaysApart form file name path bytes seconds)
lays-apart form file name path bytes seconds inside old result new p = lays-by form file name path bytes seconds inside old result new p.way

-- ## What is asked for

gives-at : (form : GetManyForm) (file : VolumeFile) (name bytes : List ℕ) (seconds : Option ℕ) → Keeps form (Then (Purely (IsPath form.folder.bytes.items name)) (λ path. LaysApart form file name path.bytes.items bytes seconds))
gives-at form file name bytes seconds old (Ok r) new (inl ends) = absurd ends
gives-at form file name bytes seconds old (Err e) new (inl ends) = still form old new (same old new ends.1)
gives-at form file name bytes seconds old result new (inr it) =
    both form old it.between new (still form old it.between (same old it.between it.done.1))
    (lays-apart form file name it.given.bytes.items bytes seconds (name, it.done.0) it.between result new it.after)

gives-file : (form : GetManyForm) (blocks : List (List ℕ)) (file : VolumeFile) → Keeps form (GivesFile form blocks file)
gives-file form blocks file =
    then-keeps form (Purely (TakesFile blocks file (get_form form file))) (λ bytes. Then (Purely (IsHostName file)) (λ name. Then (Purely (IsPath form.folder.bytes.items name.bytes.items)) (λ path. LaysApart form file name.bytes.items path.bytes.items bytes.items (time_of_file form.year blocks file))))
    (purely-keeps form (TakesFile blocks file (get_form form file)))
    (λ bytes. then-keeps form (Purely (IsHostName file)) (λ name. Then (Purely (IsPath form.folder.bytes.items name.bytes.items)) (λ path. LaysApart form file name.bytes.items path.bytes.items bytes.items (time_of_file form.year blocks file))) (purely-keeps form (IsHostName file))
    (λ name. gives-at form file name.bytes.items bytes.items (time_of_file form.year blocks file)))

tells-got : (name : List ℕ) → KeepsFiles (TellsGot name)
tells-got name old (Ok it) new (ok, p) = same _ new p
tells-got name old (Err ending) new (is, p) = same old new p

notes-got : (is : Bool) (file : VolumeFile) → KeepsFiles (NotesGot is file)
notes-got false file = purely-never IsDone
notes-got true file = then-never (Purely (IsHostName file)) (λ name. TellsGot name.bytes.items) (purely-never (IsHostName file)) (λ name. tells-got name.bytes.items)

gives-noted : (form : GetManyForm) (blocks : List (List ℕ)) (file : VolumeFile) → Keeps form (GivesNoted form blocks file)
gives-noted form blocks file =
    then-keeps form (NotesGot (is_got_noted form file) file) (λ it. GivesFile form blocks file) (keeps-never form (NotesGot (is_got_noted form file) file) (notes-got (is_got_noted form file) file)) (λ it. gives-file form blocks file)

pub refuses-never : (word : Option (List ℕ)) (why : FileFault) → KeepsFiles (RefusesWord word why)
refuses-never None why = purely-never (λ (result : Result Bool Ending). result ≡ Ok false)
refuses-never (Some word) why = prints-answer-never false (named_lines word (fault_line (File why)))

gives-wish : (form : GetManyForm) (blocks : List (List ℕ)) (is_told : Bool) (all done : ℕ) (one : Wish) → Keeps form (GivesWish form blocks is_told all done one)
gives-wish form blocks is_told all done (wish.File file) =
    then-keeps form (TellsProgress is_told (done + 1) all) (λ it. GivesNoted form blocks file) (keeps-never form (TellsProgress is_told (done + 1) all) (progress-never is_told (done + 1) all)) (λ it. gives-noted form blocks file)
gives-wish form blocks is_told all done (wish.BadWord place) = keeps-never form (RefusesWord (slice_get (words_of form) place) BadName) (refuses-never (slice_get (words_of form) place) BadName)
gives-wish form blocks is_told all done (wish.NotFound place) = keeps-never form (RefusesWord (slice_get (words_of form) place) NotFound) (refuses-never (slice_get (words_of form) place) NotFound)
gives-wish form blocks is_told all done (wish.Block block) =
    keeps-never form (PrintsAnswer false (named_lines (codes "--at " ++ decimal block) (fault_line (File NotFound)))) (prints-answer-never false (named_lines (codes "--at " ++ decimal block) (fault_line (File NotFound))))

gives-each : (form : GetManyForm) (blocks : List (List ℕ)) (is_told : Bool) (all done : ℕ) (are_there : Bool) (wishes : List Wish) → Keeps form (GivesEach form blocks is_told all done are_there wishes)
gives-each form blocks is_told all done are_there [] = purely-keeps form (λ (result : Result Bool Ending). result ≡ Ok are_there)
gives-each form blocks is_told all done are_there (one ∷ wishes) =
    then-keeps form (After are_there (GivesWish form blocks is_told all done one)) (λ is_there. GivesEach form blocks is_told all (count_after one done) (are_there && is_there) wishes)
    (after-keeps form are_there (GivesWish form blocks is_told all done one) (gives-wish form blocks is_told all done one))
    (λ is_there. gives-each form blocks is_told all (count_after one done) (are_there && is_there) wishes)

-- ## The command

pub folder-files : (folder : List ℕ) (old : List Event) (result : Result (Unit {0}) Ending) (new : List Event) → MakesFolder folder old result new → (path : List ℕ) → about path new ≡ about path old
folder-files folder old (Ok it) new p path = ap (λ (events : List Event). about path events) p
folder-files folder old (Err ending) new (fault, is, p) path = of-file path (unless-keeps (is_want_of_memory fault) (reason.Fault fault) folder (failed_call MakeFolder folder fault ∷ old) new p path)

folder-made : (folder : List ℕ) (old : List Event) (result : Result (Unit {0}) Ending) (new : List Event) → MakesFolder folder old result new → MakesAtMost folder old new
folder-made folder old (Ok it) new p = inr (true, ap (λ (events : List Event). folders events) p)
folder-made folder old (Err ending) new (fault, is, p) = inr (false, of-folders [] (unless-keeps (is_want_of_memory fault) (reason.Fault fault) folder (failed_call MakeFolder folder fault ∷ old) new p []))

-- the same of a command that makes its folder, and no other
record Makes (form : GetManyForm) (old new : List Event) : Type 0 where
  others : (path : List ℕ) → (IsIn form.folder.bytes.items path → ⊥) → about path new ≡ about path old
  replaced : form.is_forced ≡ false → (path : List ℕ) → replacements (about path new) ≡ replacements (about path old)
  one : MakesAtMost form.folder.bytes.items old new

abbrev Making : {A : Type 0} → GetManyForm → (List Event → Result A Ending → List Event → Type 0) → Type 0
Making {A} form command = (old : List Event) (result : Result A Ending) (new : List Event) → command old result new → Makes form old new

one-before : (folder : List ℕ) (old between new : List Event) → folders between ≡ folders old → MakesAtMost folder between new → MakesAtMost folder old new
one-before folder old between new none (inl is) = inl (is ∙ none)
one-before folder old between new none (inr (ok, is)) = inr (ok, is ∙ ap (λ (all : List (Bool × List ℕ)). (ok, folder) ∷ all) none)

one-after : (folder : List ℕ) (old between new : List Event) → MakesAtMost folder old between → folders new ≡ folders between → MakesAtMost folder old new
one-after folder old between new (inl is) none = inl (none ∙ is)
one-after folder old between new (inr (ok, is)) none = inr (ok, none ∙ is)

begun : (form : GetManyForm) (old between new : List Event) → Stays form old between → Makes form between new → Makes form old new
begun form old between new p q = record { others = λ path out. q.others path out ∙ p.others path out; replaced = λ is path. q.replaced is path ∙ p.replaced is path; one = one-before form.folder.bytes.items old between new p.makes q.one }

ended : (form : GetManyForm) (old new : List Event) → Stays form old new → Makes form old new
ended form old new p = record { others = p.others; replaced = p.replaced; one = inl p.makes }

-- a step that makes no folder, and then one that may make it
then-making : {A B : Type 0} (form : GetManyForm) (first : List Event → Result A Ending → List Event → Type 0) (next : A → List Event → Result B Ending → List Event → Type 0)
    → Keeps form first → ((a : A) → Making form (next a)) → Making form (Then first next)
then-making form first next f n old (Ok r) new (inl ends) = absurd ends
then-making form first next f n old (Err e) new (inl ends) = ended form old new (f old (Err e) new ends)
then-making form first next f n old result new (inr it) = begun form old it.between new (f old (Ok it.given) it.between it.done) (n it.given it.between result new it.after)

makes-folder : (form : GetManyForm) (old : List Event) (result : Result (Unit {0}) Ending) (new : List Event) → MakesFolder form.folder.bytes.items old result new → Makes form old new
makes-folder form old result new p = record {
  others = λ path out. folder-files form.folder.bytes.items old result new p path;
  replaced = λ is path. ap replacements (folder-files form.folder.bytes.items old result new p path);
  one = folder-made form.folder.bytes.items old result new p;
}

-- the folder is made, and then a step makes none
folder-then : {B : Type 0} (form : GetManyForm) (next : List Event → Result B Ending → List Event → Type 0) → Keeps form next → Making form (Then (MakesFolder form.folder.bytes.items) (λ it. next))
folder-then form next n old (Ok r) new (inl ends) = absurd ends
folder-then form next n old (Err e) new (inl ends) = let m = makes-folder form old (Err e) new ends in record { others = m.others; replaced = m.replaced; one = m.one }
folder-then form next n old result new (inr it) =
    let m = makes-folder form old (Ok it.given) it.between it.done in
    let k = n it.between result new it.after in
    record { others = λ path out. k.others path out ∙ m.others path out; replaced = λ is path. k.replaced is path ∙ m.replaced is path; one = one-after form.folder.bytes.items old it.between new m.one k.makes }

with-progress : {A : Type 0} (form : GetManyForm) (work : Bool → List Event → Result A Ending → List Event → Type 0) → ((is_told : Bool) → Keeps form (work is_told)) → Keeps form (WithProgress work)
with-progress form work n old result new p =
    both form old p.done new
    (both form old p.begun p.done (still form old p.begun (begins-never p.is_told old p.begun p.begins)) (n p.is_told p.begun result p.done p.works))
    (still form p.done new (ends-never p.is_told p.done new p.ends))

gives-asked : (form : GetManyForm) (blocks : List (List ℕ)) → Making form (GivesAsked form blocks)
gives-asked form blocks =
    then-making form (Purely (AreFilesOn blocks)) (λ files. Then (Purely (AreWishes form files.items)) (λ wishes. Then (MakesFolder form.folder.bytes.items) (λ it. Then (WithProgress (λ is_told. GivesEach form blocks is_told (length files.items) 0 true wishes.items)) (λ are_there. Purely (EndsSound are_there)))))
    (purely-keeps form (AreFilesOn blocks))
    (λ files. then-making form (Purely (AreWishes form files.items)) (λ wishes. Then (MakesFolder form.folder.bytes.items) (λ it. Then (WithProgress (λ is_told. GivesEach form blocks is_told (length files.items) 0 true wishes.items)) (λ are_there. Purely (EndsSound are_there))))
    (purely-keeps form (AreWishes form files.items))
    (λ wishes. folder-then form (Then (WithProgress (λ is_told. GivesEach form blocks is_told (length files.items) 0 true wishes.items)) (λ are_there. Purely (EndsSound are_there)))
    (then-keeps form (WithProgress (λ is_told. GivesEach form blocks is_told (length files.items) 0 true wishes.items)) (λ are_there. Purely (EndsSound are_there))
    (with-progress form (λ is_told. GivesEach form blocks is_told (length files.items) 0 true wishes.items) (λ is_told. gives-each form blocks is_told (length files.items) 0 true wishes.items))
    (λ are_there. purely-keeps form (EndsSound are_there)))))

gets-many : (form : GetManyForm) → Making form (GetsMany form)
gets-many form =
    then-making form (TakesLists form.texts) (λ it. Then (LooksAt form.image) (λ image. Then (Answers (OpensVolume image.items) (length image.items)) (GivesAsked form))) (keeps-never form (TakesLists form.texts) (lists-never form.texts))
    (λ it. then-making form (LooksAt form.image) (λ image. Then (Answers (OpensVolume image.items) (length image.items)) (GivesAsked form)) (keeps-never form (LooksAt form.image) (looks-at-keeps form.image))
    (λ image. then-making form (Answers (OpensVolume image.items) (length image.items)) (GivesAsked form) (keeps-never form (Answers (OpensVolume image.items) (length image.items)) (answers-never (OpensVolume image.items) (length image.items))) (gives-asked form)))

pub folder-alone : (form : GetManyForm) → ChangesIn form.folder.bytes.items (GetsMany form)
folder-alone form old result new p = (gets-many form old result new p).others

pub none-replaced : (form : GetManyForm) → form.is_forced ≡ false → NeverReplaces (GetsMany form)
none-replaced form is old result new p = (gets-many form old result new p).replaced is

pub one-folder : (form : GetManyForm) → MakesFolderAlone form.folder.bytes.items (GetsMany form)
one-folder form old result new p = (gets-many form old result new p).one
