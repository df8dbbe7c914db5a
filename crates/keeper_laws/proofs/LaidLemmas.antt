-- Files that are laid in a folder, one after another.
use Rattle.std.proofs.Common.{◌≡◌, ◌∙◌, ◌⊎◌, ◌&&◌, ◌+◌, ℕ, Bool, true, false, codes, decimal, Option, None, Some, Result, Ok, Err, List, [], ◌∷◌, ◌++◌, ap, refl, sym, subst, inl, inr, length, slice_get, true≢false}
use Rattle.std.specs.Global.{Vec}
use Rattle.std.specs.Str.{bytes_eq}
use Rattle.hosts.specs.Event.{Event, failed_same, folder_call, same_call}
use Rattle.hosts.specs.Place.{Place, Just, about, replay}
use Rattle.hosts.specs.declared.faults.HostFault.{HostFault}
use Rattle.os8_dir.specs.declared.file_faults.FileFault.{FileFault}
use Rattle.os8_dir.specs.declared.file_faults.FileFault.TheVariants.{BadName, NotFound}
use Rattle.refusals.specs.Faults.{fault_line}
use Rattle.refusals.specs.declared.faults.SessionFault.TheVariants.{File}
use Rattle.archive_many.specs.HostNames.{NamesHost}
use Rattle.archive_many.specs.Opened.{OpensVolume, files_on}
use Rattle.archive_many.specs.Wishing.{wishes_of}
use Rattle.archive_many.specs.declared.opened.VolumeFile.{VolumeFile}
use Rattle.archive_many.specs.declared.wishes.Wish.{Wish}
use Rattle.archive_many.specs.declared.wishes.Wish.TheVariants as wish
use Rattle.volume_salvage.specs.Scanning.{Scans, piece_line, piece_name}
use Rattle.volume_salvage.specs.declared.pieces.Piece.{Piece}
use Rattle.volume_salvage.specs.declared.scans.Scan.{Scan}
use Rattle.program_reports.specs.Program.{program_line}
use Rattle.program_reports.specs.declared.programs.ProgramLine.{ProgramLine}
use Rattle.program_reports.specs.declared.programs.ProgramLine.TheVariants as line
use Rattle.outcome.specs.declared.endings.Ending.{Ending}
use Rattle.program_tasks.specs.declared.forms.GetManyForm.{GetManyForm}
use Rattle.program_tasks.specs.declared.forms.ImageForm.{ImageForm}
use Rattle.image_files.specs.Answers.{Answers, AreLines, named_lines}
use Rattle.image_files.specs.Ending.{EndsSound}
use Rattle.image_files.specs.Laws.{ChangesNothing}
use Rattle.image_files.specs.Reading.{LooksAt}
use Rattle.image_files.specs.Saving.{Prints}
use Rattle.image_files.specs.Work.{After, Then, Purely}
use Rattle.image_files.proofs.KeepLemmas.{looks-at-keeps, of-file}
use Rattle.asked_files.specs.Texts.{is_got_noted}
use Rattle.host_progress.specs.Progressing.{WithProgress}
use Rattle.host_progress.proofs.KeepLemmas.{begins-never, ends-never, progress-never}
use Rattle.get_commands.specs.GettingMany.{GetsMany, GivesAsked, GivesEach, GivesFile, GivesNoted, GivesWish, IsHostName, IsPath, LaysApart, LaysAndTells, LaysFile, MakesFolder, NotesGot, PrintsAnswer, RefusesOver, RefusesWord, TellsGot, TellsLaid, TellsUnlaid, count_after, line_of_laid, path_in, time_of_file}
use Rattle.get_commands.specs.Wishing.{AreWishes, words_of}
use Rattle.get_commands.proofs.GettingMany.{tells-laid-never}
use Rattle.salvage_commands.specs.ScanningBlocks.{IsPath as IsPiecePath, LaysFirst, WritesAll, WritesEach, WritesPiece, WritesPieces}
use Rattle.keeper_laws.specs.Laid.{AreFilesFor, AreFilesOf, AreWritten, HasFolder, HasGotten, HasWrittenOut, IsFileFor, IsFileOf, IsPathOfNone}
use Rattle.keeper_laws.specs.Seen.{IsSeen}

-- ## One file

-- each file is as it was; a folder may be made
abbrev SameFiles : List Event → List Event → Type 0
SameFiles old new = (path : List ℕ) → about path new ≡ about path old

files-of : (old new : List Event) → ChangesNothing old new → SameFiles old new
files-of old new same path = of-file path (same path)

-- a file is at its path, and no other path is changed
record IsLaid (path bytes : List ℕ) (old new : List Event) : Type 0 where
  now : (start : Place) → IsSeen start path new bytes
  others : (other : List ℕ) → bytes_eq path other ≡ false → about other new ≡ about other old

laid-between : (path bytes : List ℕ) (old begun done new : List Event) → SameFiles old begun → IsLaid path bytes begun done → SameFiles done new → IsLaid path bytes old new
laid-between path bytes old begun done new before l after = record {
  now = λ start. subst (λ s. (replay start s).seen ≡ Just (Some bytes)) (sym (after path)) (l.now start);
  others = λ other apart. after other ∙ l.others other apart ∙ before other;
}

-- ## Several

split-none : (before after : List (List ℕ × List ℕ)) (file : List ℕ × List ℕ) → [] ≡ before ++ file ∷ after → ⊥
split-none [] after file is = cc
split-none (one ∷ before) after file is = cc

heads : (one other : List ℕ × List ℕ) (ones others : List (List ℕ × List ℕ)) → one ∷ ones ≡ other ∷ others → one ≡ other
heads one other ones others is = cc

tails : (one other : List ℕ × List ℕ) (ones others : List (List ℕ × List ℕ)) → one ∷ ones ≡ other ∷ others → ones ≡ others
tails one other ones others is = cc

written-none : (old new : List Event) → SameFiles old new → AreWritten [] old new
written-none old new same = record { each = λ before after path bytes is none start. absurd (split-none before after (path, bytes) is); others = λ path none. same path }

module _ (file : List ℕ × List ℕ) (files : List (List ℕ × List ℕ)) (old mid new : List Event) (l : IsLaid file.0 file.1 old mid) (w : AreWritten files mid new) where
  each-is : (before after : List (List ℕ × List ℕ)) (path bytes : List ℕ) → file ∷ files ≡ before ++ (path, bytes) ∷ after → IsPathOfNone path after → (start : Place) → IsSeen start path new bytes
  each-is [] after path bytes is none start =
      let same : file ≡ (path, bytes) = heads file (path, bytes) files after is in
      let rest : files ≡ after = tails file (path, bytes) files after is in
      let stays : about path new ≡ about path mid = w.others path (subst (λ (fs : List (List ℕ × List ℕ)). IsPathOfNone path fs) (sym rest) none) in
      subst (λ s. (replay start s).seen ≡ Just (Some bytes)) (sym stays) (subst (λ (f : List ℕ × List ℕ). IsSeen start f.0 mid f.1) same (l.now start))
  each-is (one ∷ before) after path bytes is none start = w.each before after path bytes (tails file one files (before ++ (path, bytes) ∷ after) is) none start

  written-more : AreWritten (file ∷ files) old new
  written-more = record { each = each-is; others = λ path none. w.others path none.1 ∙ l.others path none.0 }

written-after : (files : List (List ℕ × List ℕ)) (old mid new : List Event) → SameFiles old mid → AreWritten files mid new → AreWritten files old new
written-after files old mid new same w = record { each = w.each; others = λ path none. w.others path none ∙ same path }

written-before : (files : List (List ℕ × List ℕ)) (old mid new : List Event) → AreWritten files old mid → SameFiles mid new → AreWritten files old new
written-before files old mid new w same = record {
  each = λ before after path bytes is none start. subst (λ s. (replay start s).seen ≡ Just (Some bytes)) (sym (same path)) (w.each before after path bytes is none start);
  others = λ path none. same path ∙ w.others path none;
}

still : (old new : List Event) → new ≡ old → SameFiles old new
still old new is path = ap (λ (events : List Event). about path events) is

-- ## A file that is got

abbrev answered : Bool → Result Bool Ending
answered is = Ok is

same-answer : (one other : Bool) → answered one ≡ answered other → one ≡ other
same-answer one other is = cc

given-lost : (is : Bool) (ending : Ending) → answered is ≡ Err ending → ⊥
given-lost is ending so = cc

answer-is : (is_there : Bool) (text : List ℕ) (old : List Event) (is : Bool) (new : List Event) → PrintsAnswer is_there text old (Ok is) new → is ≡ is_there
answer-is is_there text old is new (inl ends) = absurd ends
answer-is is_there text old is new (inr l) = last l.after
  where
    last : Then (After is_there (Prints l.given.items)) (λ it. Purely (λ (result : Result Bool Ending). result ≡ Ok is_there)) l.between (Ok is) new → is ≡ is_there
    last (inl ends) = absurd ends
    last (inr m) = same-answer is is_there m.after.0

no-answer : (text : List ℕ) (old new : List Event) → PrintsAnswer false text old (Ok true) new → ⊥
no-answer text old new p = true≢false (answer-is false text old true new p)

unlaid : (said : Option ProgramLine) (fault : HostFault) (name path : List ℕ) (old new : List Event) → TellsUnlaid said fault name path old (Ok true) new → ⊥
unlaid None fault name path old new p = given-lost true _ p.0
unlaid (Some said) fault name path old new (between, told, p) = no-answer (named_lines name (program_line said)) between new p

not-over : (name path image : List ℕ) (old new : List Event) → RefusesOver name path image old (Ok true) new → ⊥
not-over name path image old new (inl ends) = ends
not-over name path image old new (inr l) = no-answer (named_lines name (program_line line.OneFile)) l.between new l.after

laid-told : (form : GetManyForm) (file : VolumeFile) (name path bytes : List ℕ) (seconds : Option ℕ) (done : Result (Unit {0}) HostFault) (old between new : List Event) → LaysFile path bytes seconds form.is_forced old done between
    → TellsLaid file name path done between (Ok true) new → IsLaid path bytes old new
laid-told form file name path bytes seconds (Ok it) old between new lays tells =
    laid-between path bytes old old between new (λ other. refl) (record { now = lays.lays; others = lays.only.others }) (files-of between new (tells-laid-never file name path (Ok it) between (Ok true) new tells))
laid-told form file name path bytes seconds (Err fault) old between new lays tells = absurd (unlaid (line_of_laid fault) fault name path between new tells)

laid-apart : (form : GetManyForm) (file : VolumeFile) (name path bytes : List ℕ) (seconds : Option ℕ) (old new : List Event) → LaysApart form file name path bytes seconds old (Ok true) new → IsLaid path bytes old new
laid-apart form file name path bytes seconds old new p = by p.way
  where
    image : List ℕ
    image = form.image.file.bytes.items

    by : LaysAndTells form file name path bytes seconds (same_call path image false ∷ old) (Ok true) new
        ⊎ (RefusesOver name path image (same_call path image true ∷ old) (Ok true) new ⊎ ((fault : HostFault) × TellsLaid file name path (Err fault) (failed_same path image fault ∷ old) (Ok true) new)) → IsLaid path bytes old new
    by (inl l) = laid-between path bytes old (same_call path image false ∷ old) new new (λ other. refl)
        (laid-told form file name path bytes seconds l.done (same_call path image false ∷ old) l.between new l.lays l.tells) (λ other. refl)
    by (inr (inl over)) = absurd (not-over name path image (same_call path image true ∷ old) new over)
    by (inr (inr (fault, tells))) = absurd (unlaid (line_of_laid fault) fault name path (failed_same path image fault ∷ old) new tells)

-- the file of the host for what is asked for
record IsGivenFor (form : GetManyForm) (blocks : List (List ℕ)) (one : Wish) (old new : List Event) : Type 0 where
  host : List ℕ × List ℕ
  is : IsFileFor form blocks one host
  laid : IsLaid host.0 host.1 old new

given-file : (form : GetManyForm) (blocks : List (List ℕ)) (file : VolumeFile) (old new : List Event) → GivesFile form blocks file old (Ok true) new → IsGivenFor form blocks (wish.File file) old new
given-file form blocks file old new (inl ends) = absurd ends
given-file form blocks file old new (inr b) = named b.after
  where
    at-path : (name path : List ℕ) (two three : List Event) → NamesHost file name → path ≡ path_in form.folder.bytes.items name → three ≡ old
        → LaysApart form file name path b.given.items (time_of_file form.year blocks file) three (Ok true) new → IsGivenFor form blocks (wish.File file) old new
    at-path name path two three names is same p = record {
      host = (path, b.given.items);
      is = (name, names, is, b.given, b.done.0, refl);
      laid = laid-between path b.given.items old three new new (still old three same) (laid-apart form file name path b.given.items (time_of_file form.year blocks file) three new p) (λ other. refl);
    }

    named : Then (Purely (IsHostName file)) (λ name. Then (Purely (IsPath form.folder.bytes.items name.bytes.items))
        (λ path. LaysApart form file name.bytes.items path.bytes.items b.given.items (time_of_file form.year blocks file))) b.between (Ok true) new → IsGivenFor form blocks (wish.File file) old new
    named (inl ends) = absurd ends
    named (inr n) = pathed n.after
      where
        pathed : Then (Purely (IsPath form.folder.bytes.items n.given.bytes.items)) (λ path. LaysApart form file n.given.bytes.items path.bytes.items b.given.items (time_of_file form.year blocks file)) n.between (Ok true) new
            → IsGivenFor form blocks (wish.File file) old new
        pathed (inl ends) = absurd ends
        pathed (inr p) = at-path n.given.bytes.items p.given.bytes.items n.between p.between n.done.0 p.done.0 (p.done.1 ∙ n.done.1 ∙ b.done.1) p.after

notes-still : (is : Bool) (file : VolumeFile) (old : List Event) (it : Unit {0}) (new : List Event) → NotesGot is file old (Ok it) new → SameFiles old new
notes-still false file old it new p = still old new p.1
notes-still true file old it new (inl ends) = absurd ends
notes-still true file old it new (inr n) = told n.after
  where
    told : TellsGot n.given.bytes.items n.between (Ok it) new → SameFiles old new
    told (ok, is) path = ap (λ (events : List Event). about path events) is ∙ still old n.between n.done.1 path

given-noted : (form : GetManyForm) (blocks : List (List ℕ)) (file : VolumeFile) (old new : List Event) → GivesNoted form blocks file old (Ok true) new → IsGivenFor form blocks (wish.File file) old new
given-noted form blocks file old new (inl ends) = absurd ends
given-noted form blocks file old new (inr n) =
    let g = given-file form blocks file n.between new n.after in
    record { host = g.host; is = g.is; laid = laid-between g.host.0 g.host.1 old n.between new new (notes-still (is_got_noted form file) file old n.given n.between n.done) g.laid (λ other. refl) }

refused-word : (word : Option (List ℕ)) (why : FileFault) (old new : List Event) → RefusesWord word why old (Ok true) new → ⊥
refused-word None why old new p = true≢false (same-answer true false p.0)
refused-word (Some word) why old new p = no-answer (named_lines word (fault_line (File why))) old new p

given-wish : (form : GetManyForm) (blocks : List (List ℕ)) (is_told : Bool) (all done : ℕ) (one : Wish) (old new : List Event) → GivesWish form blocks is_told all done one old (Ok true) new → IsGivenFor form blocks one old new
given-wish form blocks is_told all done (wish.File file) old new (inl ends) = absurd ends
given-wish form blocks is_told all done (wish.File file) old new (inr t) =
    let g = given-noted form blocks file t.between new t.after in
    record { host = g.host; is = g.is; laid = laid-between g.host.0 g.host.1 old t.between new new (files-of old t.between (progress-never is_told (done + 1) all old (Ok t.given) t.between t.done)) g.laid (λ other. refl) }
given-wish form blocks is_told all done (wish.BadWord place) old new p = absurd (refused-word (slice_get (words_of form) place) BadName old new p)
given-wish form blocks is_told all done (wish.NotFound place) old new p = absurd (refused-word (slice_get (words_of form) place) NotFound old new p)
given-wish form blocks is_told all done (wish.Block block) old new p = absurd (no-answer (named_lines (codes "--at " ++ decimal block) (fault_line (File NotFound))) old new p)

-- ## All files that are got

both-true : (one other : Bool) → (one && other) ≡ true → (one ≡ true) × (other ≡ true)
both-true true other is = (refl, is)
both-true false other is = absurd (true≢false (sym is))

all-there : (form : GetManyForm) (blocks : List (List ℕ)) (is_told : Bool) (all done : ℕ) (are_there : Bool) (wishes : List Wish) (old new : List Event) → GivesEach form blocks is_told all done are_there wishes old (Ok true) new
    → are_there ≡ true
all-there form blocks is_told all done are_there [] old new p = sym (same-answer true are_there p.0)
all-there form blocks is_told all done are_there (one ∷ wishes) old new (inl ends) = absurd ends
all-there form blocks is_told all done are_there (one ∷ wishes) old new (inr it) =
    (both-true are_there it.given (all-there form blocks is_told all (count_after one done) (are_there && it.given) wishes it.between new it.after)).0

record AreGivenFor (form : GetManyForm) (blocks : List (List ℕ)) (wishes : List Wish) (old new : List Event) : Type 0 where
  hosts : List (List ℕ × List ℕ)
  are : AreFilesFor form blocks wishes hosts
  written : AreWritten hosts old new

given-each : (form : GetManyForm) (blocks : List (List ℕ)) (is_told : Bool) (all done : ℕ) (are_there : Bool) (wishes : List Wish) (old new : List Event) → GivesEach form blocks is_told all done are_there wishes old (Ok true) new
    → AreGivenFor form blocks wishes old new
given-each form blocks is_told all done are_there [] old new p = record { hosts = []; are = tt; written = written-none old new (still old new p.1) }
given-each form blocks is_told all done are_there (one ∷ wishes) old new (inl ends) = absurd ends
given-each form blocks is_told all done are_there (one ∷ wishes) old new (inr it) =
    let there : it.given ≡ true = (both-true are_there it.given (all-there form blocks is_told all (count_after one done) (are_there && it.given) wishes it.between new it.after)).1 in
    let g = given-wish form blocks is_told all done one old it.between (subst (λ (b : Bool). GivesWish form blocks is_told all done one old (Ok b) it.between) there it.done) in
    let rest = given-each form blocks is_told all (count_after one done) (are_there && it.given) wishes it.between new it.after in
    record { hosts = g.host ∷ rest.hosts; are = (g.is, rest.are); written = written-more g.host rest.hosts old it.between new g.laid rest.written }

sound : (are_there : Bool) (it : Unit {0}) → EndsSound are_there (Ok it) → are_there ≡ true
sound true it p = refl
sound false it p = absurd p

-- the folder, and the files in it
record IsAskedFor (form : GetManyForm) (blocks : List (List ℕ)) (old new : List Event) : Type 0 where
  begun : List Event
  folder : HasFolder form.folder.bytes.items old begun
  given : AreGivenFor form blocks (wishes_of (files_on blocks) form.is_all (words_of form) form.places.items) old new

given-asked : (form : GetManyForm) (blocks : List (List ℕ)) (old : List Event) (it : Unit {0}) (new : List Event) → GivesAsked form blocks old (Ok it) new → IsAskedFor form blocks old new
given-asked form blocks old it new (inl ends) = absurd ends
given-asked form blocks old it new (inr f) = wished f.after
  where
    made : (wishes : List Wish) (two : List Event) → two ≡ old → wishes ≡ wishes_of (files_on blocks) form.is_all (words_of form) form.places.items
        → Then (MakesFolder form.folder.bytes.items) (λ other. Then (WithProgress (λ is_told. GivesEach form blocks is_told (length f.given.items) 0 true wishes)) (λ are_there. Purely (EndsSound are_there))) two (Ok it) new
        → IsAskedFor form blocks old new
    made wishes two same are (inl ends) = absurd ends
    made wishes two same are (inr m) = all m.after
      where
        all : Then (WithProgress (λ is_told. GivesEach form blocks is_told (length f.given.items) 0 true wishes)) (λ are_there. Purely (EndsSound are_there)) m.between (Ok it) new → IsAskedFor form blocks old new
        all (inl ends) = absurd ends
        all (inr w) =
            let p = w.done in
            let there : w.given ≡ true = sound w.given it w.after.0 in
            let g = given-each form blocks p.is_told (length f.given.items) 0 true wishes p.begun p.done
            (subst (λ (b : Bool). GivesEach form blocks p.is_told (length f.given.items) 0 true wishes p.begun (Ok b) p.done) there p.works) in
            let begins : SameFiles old p.begun = λ path. of-file path (begins-never p.is_told m.between p.begun p.begins path) ∙ ap (λ (events : List Event). about path events) (m.done ∙ ap (λ (events : List Event). folder_call form.folder.bytes.items ∷ events) same) in
            let ended : SameFiles p.done new = λ path. still w.between new w.after.1 path ∙ of-file path (ends-never p.is_told p.done w.between p.ends path) in
            record {
              begun = m.between;
              folder = m.done ∙ ap (λ (events : List Event). folder_call form.folder.bytes.items ∷ events) same;
              given = record {
                hosts = g.hosts;
                are = subst (λ (ws : List Wish). AreFilesFor form blocks ws g.hosts) are g.are;
                written = written-before g.hosts old p.done new (written-after g.hosts old p.begun p.done begins g.written) ended;
              };
            }

    wished : Then (Purely (AreWishes form f.given.items)) (λ wishes. Then (MakesFolder form.folder.bytes.items) (λ other. Then (WithProgress (λ is_told. GivesEach form blocks is_told (length f.given.items) 0 true wishes.items))
        (λ are_there. Purely (EndsSound are_there)))) f.between (Ok it) new → IsAskedFor form blocks old new
    wished (inl ends) = absurd ends
    wished (inr w) = made w.given.items w.between (w.done.1 ∙ f.done.1) (w.done.0 ∙ ap (λ (files : List VolumeFile). wishes_of files form.is_all (words_of form) form.places.items) f.done.0) w.after

pub gotten : (form : GetManyForm) (old : List Event) (it : Unit {0}) (new : List Event) → GetsMany form old (Ok it) new → HasGotten form old new
gotten form old it new (inl ends) = absurd ends
gotten form old it new (inr t) = seen t.after
  where
    opened : (image : Vec ℕ) (read : List Event) → LooksAt form.image old (Ok image) read → Then (Answers (OpensVolume image.items) (length image.items)) (GivesAsked form) read (Ok it) new → HasGotten form old new
    opened image read looked (inl ends) = absurd ends
    opened image read looked (inr o) =
        let a = given-asked form o.given read it new (subst (λ (n : List Event). GivesAsked form o.given n (Ok it) new) o.done.1 o.after) in
        record {
          image = image;
          read = read;
          looked = looked;
          blocks = o.given;
          opened = o.done.0;
          begun = a.begun;
          folder = a.folder;
          hosts = a.given.hosts;
          are = a.given.are;
          written = written-after a.given.hosts old read new (λ path. of-file path (looks-at-keeps form.image old (Ok image) read looked path)) a.given.written;
        }

    seen : Then (LooksAt form.image) (λ image. Then (Answers (OpensVolume image.items) (length image.items)) (GivesAsked form)) t.between (Ok it) new → HasGotten form old new
    seen (inl ends) = absurd ends
    seen (inr l) = opened l.given l.between (subst (λ (n : List Event). LooksAt form.image n (Ok l.given) l.between) t.done.1 l.done) l.after

-- ## Pieces

record IsPieceLaid (folder image : List ℕ) (piece : Piece) (old new : List Event) : Type 0 where
  host : List ℕ × List ℕ
  is : IsFileOf folder image piece host
  laid : IsLaid host.0 host.1 old new

module _ (folder image : List ℕ) (scan : Scan) where
  piece-laid : (piece : Piece) (old : List Event) (it : Unit {0}) (new : List Event) → WritesPiece folder image scan piece old (Ok it) new → IsPieceLaid folder image piece old new
  piece-laid piece old it new (inl ends) = absurd ends
  piece-laid piece old it new (inr b) = pathed b.after
    where
      printed : (path lines : List ℕ) (two : List Event) → path ≡ folder ++ codes "/" ++ piece_name piece → two ≡ old → Then (LaysFirst path b.given.items) (λ other. Prints lines) two (Ok it) new → IsPieceLaid folder image piece old new
      printed path lines two is same (inl ends) = absurd ends
      printed path lines two is same (inr l) = record {
        host = (path, b.given.items);
        is = (is, b.given, b.done.0, refl);
        laid = laid-between path b.given.items old two l.between new (still old two same) (record { now = l.done.lays; others = l.done.only.others }) (λ other. ap (λ (events : List Event). about other events) l.after);
      }

      lined : (path : List ℕ) (two : List Event) → path ≡ folder ++ codes "/" ++ piece_name piece → two ≡ old
          → Then (Purely (AreLines (piece_line scan.frames.items piece))) (λ shown. Then (LaysFirst path b.given.items) (λ other. Prints shown.items)) two (Ok it) new → IsPieceLaid folder image piece old new
      lined path two is same (inl ends) = absurd ends
      lined path two is same (inr n) = printed path n.given.items n.between is (n.done.1 ∙ same) n.after

      pathed : Then (Purely (IsPiecePath folder piece)) (λ path. Then (Purely (AreLines (piece_line scan.frames.items piece))) (λ shown. Then (LaysFirst path.bytes.items b.given.items) (λ other. Prints shown.items))) b.between (Ok it) new
          → IsPieceLaid folder image piece old new
      pathed (inl ends) = absurd ends
      pathed (inr p) = lined p.given.bytes.items p.between p.done.0 (p.done.1 ∙ b.done.1) p.after

  record ArePiecesLaid (pieces : List Piece) (old new : List Event) : Type 0 where
    hosts : List (List ℕ × List ℕ)
    are : AreFilesOf folder image pieces hosts
    written : AreWritten hosts old new

  pieces-laid : (pieces : List Piece) (old : List Event) (it : Unit {0}) (new : List Event) → WritesEach folder image scan pieces old (Ok it) new → ArePiecesLaid pieces old new
  pieces-laid [] old it new p = record { hosts = []; are = tt; written = written-none old new (still old new p.1) }
  pieces-laid (piece ∷ pieces) old it new (inl ends) = absurd ends
  pieces-laid (piece ∷ pieces) old it new (inr l) =
      let one = piece-laid piece old l.given l.between l.done in
      let rest = pieces-laid pieces l.between it new l.after in
      record { hosts = one.host ∷ rest.hosts; are = (one.is, rest.are); written = written-more one.host rest.hosts old l.between new one.laid rest.written }

pub written-out : (folder : List ℕ) (form : ImageForm) (old : List Event) (it : Unit {0}) (new : List Event) → WritesPieces folder form old (Ok it) new → HasWrittenOut folder form old new
written-out folder form old it new (inl ends) = absurd ends
written-out folder form old it new (inr l) = scanned l.after
  where
    all : (scan : Scan) (two : List Event) → Scans l.given.items (Ok scan) → two ≡ l.between → WritesAll folder l.given.items scan two (Ok it) new → HasWrittenOut folder form old new
    all scan two is same (inl ends) = absurd ends
    all scan two is same (inr m) =
        let p = pieces-laid folder l.given.items scan scan.pieces.items m.between it new m.after in
        let made : m.between ≡ folder_call folder ∷ l.between = m.done ∙ ap (λ (events : List Event). folder_call folder ∷ events) same in
        record {
          image = l.given;
          read = l.between;
          looked = l.done;
          scan = scan;
          scanned = is;
          begun = m.between;
          made = made;
          hosts = p.hosts;
          are = p.are;
          written = written-after p.hosts old m.between new (λ path. ap (λ (events : List Event). about path events) made ∙ of-file path (looks-at-keeps form old (Ok l.given) l.between l.done path)) p.written;
        }

    scanned : Then (Answers (Scans l.given.items) (length l.given.items)) (λ scan. WritesAll folder l.given.items scan) l.between (Ok it) new → HasWrittenOut folder form old new
    scanned (inl ends) = absurd ends
    scanned (inr s) = all s.given s.between s.done.0 s.done.1 s.after
