-- A file with a new volume that is made, or that gets one.
use Rattle.std.proofs.Common.{◌≡◌, ◌∙◌, ◌≤◌, ◌⊎◌, ℕ, suc, Bool, true, false, Option, Some, Result, Ok, Err, List, [], ◌∷◌, ap, refl, sym, subst, arith, inl, inr, true≢false}
use Rattle.std.specs.Global.{Vec}
use Rattle.hosts.specs.Event.{Event, print_call}
use Rattle.hosts.specs.Faults.{class_of}
use Rattle.hosts.specs.Place.{Place, Step, Just, Leaves, may_leave, about, replay, ever}
use Rattle.hosts.specs.Saving.{AnyMomentOf, IsAsItWas, IsUnmade, Makes, replacements}
use Rattle.hosts.specs.Streams.{asked_name, errors, has_links, output, path_of_name, changes_at}
use Rattle.hosts.specs.declared.faults.Durability.{Durability}
use Rattle.hosts.specs.declared.faults.Durability.TheVariants.{Certain, Unknown}
use Rattle.hosts.specs.declared.faults.FaultClass.{FaultClass}
use Rattle.hosts.specs.declared.faults.FaultClass.TheVariants as class
use Rattle.hosts.specs.declared.faults.HostFault.{HostFault}
use Rattle.hosts.specs.declared.faults.Unwritten.TheVariants.{AsItWas, InPart}
use Rattle.outcome.specs.Contents.{content_name}
use Rattle.outcome.specs.Notes.{file_text}
use Rattle.outcome.specs.declared.contents.Content.TheVariants as content
use Rattle.outcome.specs.declared.notes.FileNote.TheVariants.{NoLock}
use Rattle.outcome.specs.declared.endings.Ending.{Ending}
use Rattle.outcome.specs.declared.endings.Ending.TheVariants.{Line, Fault, Failure, Busy, NotWritten, FullOutput, Unreported, NoReader, Misuse}
use Rattle.outcome.specs.declared.reasons.Reason.{Reason}
use Rattle.outcome.specs.declared.reasons.Reason.TheVariants as reason
use Rattle.program_reports.specs.Program.{program_line}
use Rattle.program_reports.specs.declared.programs.ProgramLine.TheVariants as line
use Rattle.program_tasks.specs.declared.forms.CreateForm.{CreateForm}
use Rattle.image_files.specs.Making.{HasMade, HasNotMade, MakesFile, MakesFirst, ending_of_file, file_ending, first_ending}
use Rattle.image_files.specs.Reading.{IsIdle, hold_calls, with_lock_note}
use Rattle.image_files.specs.Reasons.{TellsUnless, is_untold, is_want_of_memory, reason_of_first}
use Rattle.image_files.specs.Saving.{HasSaved, IsSyncTold, Reports, Writes}
use Rattle.image_files.specs.Work.{Then}
use Rattle.image_files.proofs.ReasonLemmas.{reason-keeps, unless-keeps, unless-output}
use Rattle.image_files.proofs.KeepLemmas.{of-file}
use Rattle.change_commands.specs.Creating.{CreatesFile, IsBlankDisk, IsBlankImage, IsBlankTapeFile, MakesIf, MakesVolume}
use Rattle.change_commands.specs.declared.creating.TheConstants.{TAPE_BLOCKS, DISK_BLOCKS}
use Rattle.keeper_laws.specs.Changed.{ChangesNoOther, is_warning, warnings}
use Rattle.keeper_laws.proofs.AloneLemmas.{alone-after, alone-before, alone-none, alone-only}
use Rattle.keeper_laws.specs.Ended.{DoesNothing}
use Rattle.keeper_laws.specs.Made.{EndsMade, GetsFile, HasCreated, IsFirst, MakesNone, MayBeInPart}
use Rattle.keeper_laws.proofs.OpenLemmas.{IsQuiet, equal, more-warnings, still}
use Rattle.keeper_laws.proofs.StoreLemmas.{BecomesIf, becomes, becomes-saved, moment-leaves, only-left, told-place}

-- ## The first file of a name

-- the same where standard error got no more warnings
pub record IsFirstIf (name file : List ℕ) (old new : List Event) : Type 0 where
  pub path : List ℕ
  pub asked : (asked_name new ≡ name) × (path ≡ path_of_name new)
  pub now : (start : Place) → (replay start (about path new)).seen ≡ Just (Some file)
  pub after : warnings (errors new) ≤ warnings (errors old) → (start : Place) (found : Option (List ℕ)) → Leaves (may_leave (replay start (about path new))) found → found ≡ Some file
  pub moments : has_links new ≡ true → (start : Place) (found : Option (List ℕ)) → Leaves (ever start (about path new)) found → (found ≡ Some file) ⊎ Leaves (ever start (about path old)) found
  pub first : replacements (about path new) ≡ replacements (about path old)
  pub alone : ChangesNoOther path old new

made-now : (durability : Durability) (file : List ℕ) (old new : List Step) → Makes (Ok durability) file old new → (start : Place) → (replay start new).seen ≡ Just (Some file)
made-now Certain file old new made start = (made start).seen
made-now Unknown file old new made start = made start

made-sure : (durability : Durability) (before told : List (Bool × List ℕ)) → IsSyncTold content.Image durability before told → warnings told ≤ warnings before → durability ≡ Certain
made-sure Certain before told sync few = refl
made-sure Unknown before told (ok, sync) few =
    let more : warnings told ≡ suc (warnings before) = ap warnings sync in
    absurd (omega (arith, more, few))

made-left : (durability : Durability) (file : List ℕ) (old new : List Step) → Makes (Ok durability) file old new → durability ≡ Certain
    → (start : Place) (found : Option (List ℕ)) → Leaves (may_leave (replay start new)) found → found ≡ Some file
made-left durability file old new made is start found leaves =
    let saved = subst (λ (d : Durability). Makes (Ok d) file old new) is made start in
    only-left file found (subst (λ e. Leaves (Just (Some file) ∷ e) found) saved.earlier (subst (λ d. Leaves (d ∷ (replay start new).earlier) found) saved.on_disk leaves))

first-made : (name file : List ℕ) (old new : List Event) → HasMade content.Image name file old new → IsFirstIf name file old new
first-made name file old new m = record {
  path = path_of_name new;
  asked = (m.asked, refl);
  now = made-now m.durability file (about (path_of_name new) old) (about (path_of_name new) new) m.made;
  after = λ few. made-left m.durability file (about (path_of_name new) old) (about (path_of_name new) new) m.made (made-sure m.durability (errors old) (errors new) m.sync few);
  moments = λ has. moment-leaves file (about (path_of_name new) old) (about (path_of_name new) new) (subst (λ b. AnyMomentOf b file (about (path_of_name new) old) (about (path_of_name new) new)) has m.moments);
  first = m.first;
  alone = alone-only (path_of_name new) old new m.only;
}

-- its line is printed after that
first-printed : (name file : List ℕ) (ok : Bool) (number : ℕ) (lines : List ℕ) (old mid new : List Event) → new ≡ print_call ok number lines ∷ mid → IsFirstIf name file old mid → IsFirstIf name file old new
first-printed name file ok number lines old mid new is f = subst (λ (n : List Event). IsFirstIf name file old n) (sym is) (record {
  path = f.path;
  asked = f.asked;
  now = f.now;
  after = f.after;
  moments = f.moments;
  first = f.first;
  alone = alone-before f.path old mid (print_call ok number lines ∷ mid) (λ path. refl) f.alone;
})

few-before : (calls old mid new : List Event) → IsQuiet calls old mid → warnings (errors new) ≤ warnings (errors old) → warnings (errors new) ≤ warnings (errors mid)
few-before calls old mid new quiet few = omega (arith, few, quiet.warns)

first-after : (name file : List ℕ) (calls old mid new : List Event) → IsQuiet calls old mid → IsFirstIf name file mid new → IsFirstIf name file old new
first-after name file calls old mid new quiet f = record {
  path = f.path;
  asked = f.asked;
  now = f.now;
  after = λ few. f.after (few-before calls old mid new quiet few);
  moments = λ has start found leaves. subst (λ (s : List Step). (found ≡ Some file) ⊎ Leaves (ever start s) found) (of-file f.path (quiet.files f.path)) (f.moments has start found leaves);
  first = f.first ∙ ap (λ (s : List Step). replacements s) (of-file f.path (quiet.files f.path));
  alone = alone-after f.path old mid new quiet.files f.alone;
}

none-more : (old new : List Event) → warnings (errors new) ≡ warnings (errors old) → warnings (errors new) ≤ warnings (errors old)
none-more old new silent = subst (λ (n : ℕ). warnings (errors new) ≤ n) silent (equal (warnings (errors new)))

first-is : (name file : List ℕ) (old new : List Event) → IsFirstIf name file old new → IsFirst name file old new
first-is name file old new f = record { path = f.path; asked = f.asked; now = f.now; after = λ silent. f.after (none-more old new silent); moments = f.moments; first = f.first; alone = f.alone }

-- ## A file that gets the bytes

abbrev pub GetsIf : Bool → List ℕ → List ℕ → List Event → List Event → Type 0
GetsIf true name file old new = IsFirstIf name file old new
GetsIf false name file old new = IsFirstIf name file old new ⊎ ((path : List ℕ) × ((was : List ℕ) → BecomesIf path was file old new))

-- so it does after quiet steps
pub gets-file : (is_new : Bool) (name file : List ℕ) (calls old mid new : List Event) → IsQuiet calls old mid → GetsIf is_new name file mid new → GetsFile is_new name file old new
gets-file true name file calls old mid new quiet f = first-is name file old new (first-after name file calls old mid new quiet f)
gets-file false name file calls old mid new quiet (inl f) = inl (first-is name file old new (first-after name file calls old mid new quiet f))
gets-file false name file calls old mid new quiet (inr (path, b)) = inr (path, λ was. becomes path path was file calls old mid new quiet refl (b was))

-- ## No file

none-made : (name file : List ℕ) (fault : HostFault) (is : Bool) (why : Reason) (old between new : List Event) → HasNotMade name file fault old between → TellsUnless is why name between new → MakesNone old new
none-made name file fault is why old between new unmade told = record {
  path = path_of_name between;
  there = λ start. subst (λ (s : List Step). IsUnmade s (replay start (about (path_of_name between) old)) (replay start s)) (sym (of-file (path_of_name between) (unless-keeps is why name between new told (path_of_name between)))) (unmade.unmade start);
  alone = alone-before (path_of_name between) old between new (unless-keeps is why name between new told) (alone-only (path_of_name between) old between unmade.only);
  prints = unless-output is why name between new told ∙ unmade.only.prints;
}

pub none-after : (old mid new : List Event) → DoesNothing old mid → MakesNone mid new → MakesNone old new
none-after old mid new none m = record {
  path = m.path;
  there = λ start. subst (λ (s : List Step). IsUnmade (about m.path new) (replay start s) (replay start (about m.path new))) (of-file m.path (none.0 m.path)) (m.there start);
  alone = alone-after m.path old mid new none.0 m.alone;
  prints = m.prints ∙ none.1;
}

pub nothing-made : (old new : List Event) → DoesNothing old new → MakesNone old new
nothing-made old new none = record {
  path = [];
  there = λ start. subst (λ (s : List Step). IsUnmade s (replay start (about [] old)) (replay start s)) (sym (of-file [] (none.0 []))) (inl (record { seen = refl; on_disk = refl; earlier = refl }));
  alone = alone-none [] old new none.0;
  prints = none.1;
}

-- ## The endings before the line is printed

-- the first file of a name is never written in part
abbrev pub PartIf : Bool → List Event → List Event → Type 0
PartIf true old new = ⊥
PartIf false old new = MayBeInPart old new

-- what the making of a file comes to
abbrev pub EndsMake : Bool → List ℕ → List ℕ → Result (Unit {0}) Ending → List Event → List Event → Type 0
EndsMake is_new name file (Ok it) old new = ((ok : Bool) (number : ℕ) (lines : List ℕ) (last : List Event) → last ≡ print_call ok number lines ∷ new → GetsIf is_new name file old last) × (output new ≡ output old)
EndsMake is_new name file (Err (NotWritten it AsItWas)) old new = MakesNone old new
EndsMake is_new name file (Err (NotWritten it InPart)) old new = PartIf is_new old new
EndsMake is_new name file (Err (Line it)) old new = MakesNone old new
EndsMake is_new name file (Err (Fault it)) old new = MakesNone old new
EndsMake is_new name file (Err (Busy it)) old new = MakesNone old new
EndsMake is_new name file (Err Failure) old new = ⊥
EndsMake is_new name file (Err FullOutput) old new = ⊥
EndsMake is_new name file (Err Unreported) old new = ⊥
EndsMake is_new name file (Err NoReader) old new = ⊥
EndsMake is_new name file (Err Misuse) old new = ⊥

by-file-class : (is_new : Bool) (name file : List ℕ) (fault : FaultClass) (ending : Ending) (old new : List Event) → ending ≡ file_ending content.Image fault → MakesNone old new → EndsMake is_new name file (Err ending) old new
by-file-class is_new name file class.Busy ending old new is none = subst (λ (e : Ending). EndsMake is_new name file (Err e) old new) (sym is) none
by-file-class is_new name file class.Memory ending old new is none = subst (λ (e : Ending). EndsMake is_new name file (Err e) old new) (sym is) none
by-file-class is_new name file class.Other ending old new is none = subst (λ (e : Ending). EndsMake is_new name file (Err e) old new) (sym is) none

by-first-class : (is_new : Bool) (name file : List ℕ) (fault : FaultClass) (ending : Ending) (old new : List Event) → ending ≡ first_ending fault → MakesNone old new → EndsMake is_new name file (Err ending) old new
by-first-class is_new name file class.Busy ending old new is none = subst (λ (e : Ending). EndsMake is_new name file (Err e) old new) (sym is) none
by-first-class is_new name file class.Memory ending old new is none = subst (λ (e : Ending). EndsMake is_new name file (Err e) old new) (sym is) none
by-first-class is_new name file class.Other ending old new is none = subst (λ (e : Ending). EndsMake is_new name file (Err e) old new) (sym is) none

idle-quiet : (old new : List Event) → IsIdle old new → IsQuiet [] old new
idle-quiet old new idle = record {
  files = idle.files;
  prints = idle.prints;
  warns = subst (λ (e : List (Bool × List ℕ)). warnings (errors old) ≤ warnings e) (sym idle.tells) (equal (warnings (errors old)));
  reads = idle.reads;
}

pub first-ends : (name file : List ℕ) (old : List Event) (result : Result (Unit {0}) Ending) (new : List Event) → MakesFirst name file old result new → EndsMake true name file result old new
first-ends name file old (Ok it) new p = (λ ok number lines last is. first-printed name file ok number lines old new last is (first-made name file old new p), p.only.prints)
first-ends name file old (Err ending) new (fault, between, is, unmade, told) =
    by-first-class true name file (class_of fault) ending old new is (none-made name file fault (is_want_of_memory fault) (reason_of_first fault) old between new unmade told)

-- a file that is there is held
held-quiet : (name path : List ℕ) (has_lock ok : Bool) (old : List Event) → IsQuiet [] old (with_lock_note content.Image has_lock ok (hold_calls name path has_lock old))
held-quiet name path true ok old = record { files = λ it. refl; prints = refl; warns = equal (warnings (errors old)); reads = refl }
held-quiet name path false ok old = record { files = λ it. refl; prints = refl; warns = more-warnings (is_warning (file_text NoLock (content_name content.Image))) (warnings (errors old)); reads = refl }

over-saved : (path file : List ℕ) (old mid new : List Event) → IsQuiet [] old mid → HasSaved content.Image path file mid new → (ok : Bool) (number : ℕ) (lines : List ℕ) (last : List Event) → last ≡ print_call ok number lines ∷ new
    → (was : List ℕ) → BecomesIf path was file old last
over-saved path file old mid new quiet saved ok number lines last is was =
    let b = becomes-saved path was file mid new saved in
    subst (λ (n : List Event). BecomesIf path was file old n) (sym is) (record {
      now = λ start had. b.now start (subst (λ (s : List Step). (replay start s).seen ≡ Just (Some was)) (sym (of-file path (quiet.files path))) had);
      after = λ few. b.after (few-before [] old mid new quiet few);
      moments = λ few start found leaves. subst (λ (s : List Step). (found ≡ Some file) ⊎ Leaves (ever start s) found) (of-file path (quiet.files path)) (b.moments (few-before [] old mid new quiet few) start found leaves);
      alone = alone-after path old mid (print_call ok number lines ∷ new) quiet.files (alone-before path mid new (print_call ok number lines ∷ new) (λ p. refl) b.alone);
    })

over-ends : (path name file : List ℕ) (old mid : List Event) (result : Result (Unit {0}) Ending) (new : List Event) → IsQuiet [] old mid → Writes content.Image path name file mid result new → EndsMake false name file result old new
over-ends path name file old mid (Ok it) new quiet p = (λ ok number lines last is. inr (path, over-saved path file old mid new quiet p ok number lines last is), p.only.prints ∙ quiet.prints)
over-ends path name file old mid (Err (NotWritten it AsItWas)) new quiet (is, fault, between, u, told) = record {
  path = path;
  there = λ start. subst (λ (s : List Step). IsUnmade s (replay start (about path old)) (replay start s)) (sym (of-file path (reason-keeps (reason.Fault fault) name between new told path)))
      (inl (subst (λ (s : List Step). IsAsItWas (replay start s) (replay start (about path between))) (of-file path (quiet.files path)) (u.same start)));
  alone = alone-after path old mid new quiet.files (alone-before path mid between new (reason-keeps (reason.Fault fault) name between new told) (alone-only path mid between u.only));
  prints = unless-output false (reason.Fault fault) name between new told ∙ u.only.prints ∙ quiet.prints;
}
over-ends path name file old mid (Err (NotWritten it InPart)) new quiet (is, fault, between, u, told) = record {
  path = path;
  in_place = told-place (reason.Fault fault) name between new told ∙ u.in_place;
  alone = alone-after path old mid new quiet.files (alone-before path mid between new (reason-keeps (reason.Fault fault) name between new told) (alone-only path mid between u.only));
  prints = unless-output false (reason.Fault fault) name between new told ∙ u.only.prints ∙ quiet.prints;
}
over-ends path name file old mid (Err (Line it)) new quiet p = absurd p
over-ends path name file old mid (Err (Fault it)) new quiet p = absurd p
over-ends path name file old mid (Err Failure) new quiet p = absurd p
over-ends path name file old mid (Err (Busy it)) new quiet p = absurd p
over-ends path name file old mid (Err FullOutput) new quiet p = absurd p
over-ends path name file old mid (Err Unreported) new quiet p = absurd p
over-ends path name file old mid (Err NoReader) new quiet p = absurd p
over-ends path name file old mid (Err Misuse) new quiet p = absurd p

abbrev IsEnded : Result (Unit {0}) Ending → Ending → Type 0
IsEnded result ending = result ≡ Err ending

not-ended : (it : Unit {0}) (ending : Ending) → IsEnded (Ok it) ending → ⊥
not-ended it ending is = cc

ended-so : (one other : Ending) → IsEnded (Err one) other → one ≡ other
ended-so one other is = cc

file-ends : (name file : List ℕ) (old : List Event) (result : Result (Unit {0}) Ending) (new : List Event) → MakesFile content.Image name file old result new → EndsMake false name file result old new
file-ends name file old result new (inl (path, has_lock, ok, p)) = over-ends path name file old (with_lock_note content.Image has_lock ok (hold_calls name path has_lock old)) result new (held-quiet name path has_lock ok old) p
file-ends name file old (Ok it) new (inr (inl (mid, idle, failed, why, p))) =
    (λ ok number lines last is. inl (first-printed name file ok number lines old new last is (first-after name file [] old mid new (idle-quiet old mid idle) (first-made name file mid new p))), p.only.prints ∙ idle.prints)
file-ends name file old (Err ending) new (inr (inl (mid, idle, failed, why, (fault, between, is, unmade, told)))) =
    by-file-class false name file (class_of fault) ending old new is
    (none-after old mid new (λ path. idle.files path, idle.prints) (none-made name file fault (is_untold content.Image fault) (reason.Fault fault) mid between new unmade told))
file-ends name file old (Ok it) new (inr (inr (fault, mid, (some, is), idle, failed, why, told))) = absurd (not-ended it (ending_of_file content.Image fault) is)
file-ends name file old (Err ending) new (inr (inr (fault, mid, (some, is), idle, failed, why, told))) =
    by-file-class false name file (class_of fault) ending old new (ended-so ending (ending_of_file content.Image fault) is)
    (nothing-made old new (λ path. unless-keeps (is_untold content.Image fault) (reason.Fault fault) name mid new told path ∙ idle.files path, unless-output (is_untold content.Image fault) (reason.Fault fault) name mid new told ∙ idle.prints))

make-ends : (is_new : Bool) (name file : List ℕ) (old : List Event) (result : Result (Unit {0}) Ending) (new : List Event) → MakesIf is_new name file old result new → EndsMake is_new name file result old new
make-ends true name file old result new p = first-ends name file old result new p
make-ends false name file old result new p = file-ends name file old result new p

-- ## A new volume

-- a command is refused by a line, by a fault, or since another program works on its file
abbrev pub is_line : Ending → Bool
is_line (Line it) = true
is_line (Fault it) = true
is_line Failure = false
is_line (Busy it) = true
is_line (NotWritten it left) = false
is_line FullOutput = false
is_line Unreported = false
is_line NoReader = false
is_line Misuse = false

by-line : (done : Bool → List Event → List Event → Type 0) (ending : Ending) (old new : List Event) → is_line ending ≡ true → MakesNone old new → EndsMade done (Err ending) old new
by-line done (Line it) old new is none = none
by-line done (Fault it) old new is none = none
by-line done Failure old new is none = absurd (true≢false (sym is))
by-line done (Busy it) old new is none = none
by-line done (NotWritten it left) old new is none = absurd (true≢false (sym is))
by-line done FullOutput old new is none = absurd (true≢false (sym is))
by-line done Unreported old new is none = absurd (true≢false (sym is))
by-line done NoReader old new is none = absurd (true≢false (sym is))
by-line done Misuse old new is none = absurd (true≢false (sym is))

part-after : (is_new : Bool) (old mid new : List Event) → DoesNothing old mid → PartIf is_new mid new → MayBeInPart old new
part-after true old mid new none p = absurd p
part-after false old mid new none p = record { path = p.path; in_place = p.in_place; alone = alone-after p.path old mid new none.0 p.alone; prints = p.prints ∙ none.1 }

-- a file that is not made ends the command
unmade-ends : (done : Bool → List Event → List Event → Type 0) (is_new : Bool) (name file : List ℕ) (ending : Ending) (old mid new : List Event) → DoesNothing old mid → EndsMake is_new name file (Err ending) mid new → EndsMade done (Err ending) old new
unmade-ends done is_new name file (NotWritten it AsItWas) old mid new none p = none-after old mid new none p
unmade-ends done is_new name file (NotWritten it InPart) old mid new none p = part-after is_new old mid new none p
unmade-ends done is_new name file (Line it) old mid new none p = none-after old mid new none p
unmade-ends done is_new name file (Fault it) old mid new none p = none-after old mid new none p
unmade-ends done is_new name file (Busy it) old mid new none p = none-after old mid new none p
unmade-ends done is_new name file Failure old mid new none p = absurd p
unmade-ends done is_new name file FullOutput old mid new none p = absurd p
unmade-ends done is_new name file Unreported old mid new none p = absurd p
unmade-ends done is_new name file NoReader old mid new none p = absurd p
unmade-ends done is_new name file Misuse old mid new none p = absurd p

module _ (gives : Result (Vec ℕ) Ending → Type 0) (gives_line : (ending : Ending) → gives (Err ending) → is_line ending ≡ true) (form : CreateForm) (blocks : ℕ)
  where
    abbrev Done : Bool → List Event → List Event → Type 0
    Done = HasCreated gives form blocks

    reported : (file : Vec ℕ) → gives (Ok file) → (old mid : List Event) → EndsMake form.is_new form.file.bytes.items file.items (Ok tt) old mid
        → (result : Result (Unit {0}) Ending) (new : List Event) → Reports (program_line (line.Created blocks)) mid result new → EndsMade Done result old new
    reported file gave old mid made (Ok it) new p = record { file = file; gave = gave; has = gets-file form.is_new form.file.bytes.items file.items [] old old new (still old old refl) (made.0 true 0 (program_line (line.Created blocks)) new p); prints = ap output p ∙ ap (λ (o : List (Bool × List ℕ)). (true, program_line (line.Created blocks)) ∷ o) made.1 }
    reported file gave old mid made (Err Unreported) new p = record { file = file; gave = gave; has = gets-file form.is_new form.file.bytes.items file.items [] old old new (still old old refl) (made.0 false 0 (program_line (line.Created blocks)) new p); prints = ap output p ∙ ap (λ (o : List (Bool × List ℕ)). (false, program_line (line.Created blocks)) ∷ o) made.1 }
    reported file gave old mid made (Err NoReader) new p = record { file = file; gave = gave; has = gets-file form.is_new form.file.bytes.items file.items [] old old new (still old old refl) (made.0 false 1 (program_line (line.Created blocks)) new p); prints = ap output p ∙ ap (λ (o : List (Bool × List ℕ)). (false, program_line (line.Created blocks)) ∷ o) made.1 }
    reported file gave old mid made (Err (NotWritten it left)) new p = absurd p
    reported file gave old mid made (Err (Line it)) new p = absurd p
    reported file gave old mid made (Err (Fault it)) new p = absurd p
    reported file gave old mid made (Err Failure) new p = absurd p
    reported file gave old mid made (Err (Busy it)) new p = absurd p
    reported file gave old mid made (Err FullOutput) new p = absurd p
    reported file gave old mid made (Err Misuse) new p = absurd p

    -- the file, once its line is there
    file-made : (file : Vec ℕ) → gives (Ok file) → (old : List Event) (result : Result (Unit {0}) Ending) (new : List Event)
        → Then (MakesIf form.is_new form.file.bytes.items file.items) (λ it. Reports (program_line (line.Created blocks))) old result new → EndsMade Done result old new
    file-made file gave old (Ok it) new (inl ends) = absurd ends
    file-made file gave old (Err ending) new (inl ends) = unmade-ends Done form.is_new form.file.bytes.items file.items ending old old new (λ path. refl, refl) (make-ends form.is_new form.file.bytes.items file.items old (Err ending) new ends)
    file-made file gave old result new (inr it) = reported file gave old it.between (make-ends form.is_new form.file.bytes.items file.items old (Ok it.given) it.between it.done) result new it.after

    lines-made : (file : Vec ℕ) → gives (Ok file) → (old : List Event) (result : Result (Unit {0}) Ending) (new : List Event) → MakesVolume form file.items blocks old result new → EndsMade Done result old new
    lines-made file gave old (Ok it) new (inl ends) = absurd ends
    lines-made file gave old (Err ending) new (inl ends) = by-line Done ending old new (ap is_line ends.0) (nothing-made old new (λ path. ap (λ (n : List Event). changes_at path n) ends.1, ap output ends.1))
    lines-made file gave old result new (inr it) = file-made file gave old result new
        (subst (λ (n : List Event). Then (MakesIf form.is_new form.file.bytes.items file.items) (λ it. Reports (program_line (line.Created blocks))) n result new) it.done.1
        (subst (λ (l : List ℕ). Then (MakesIf form.is_new form.file.bytes.items file.items) (λ it. Reports l) it.between result new) it.done.0 it.after))

    -- what each ending of the making of a volume means
    pub create-ends : (old : List Event) (result : Result (Unit {0}) Ending) (new : List Event) → CreatesFile gives form blocks old result new → EndsMade Done result old new
    create-ends old (Ok it) new (inl ends) = absurd ends
    create-ends old (Err ending) new (inl ends) = by-line Done ending old new (gives_line ending ends.0) (nothing-made old new (λ path. ap (λ (n : List Event). changes_at path n) ends.1, ap output ends.1))
    create-ends old result new (inr it) = lines-made it.given it.done.0 old result new (subst (λ (n : List Event). MakesVolume form it.given.items blocks n result new) it.done.1 it.after)

-- ## The three forms

pub blank-line : (blocks : ℕ) (ending : Ending) → IsBlankImage blocks (Err ending) → is_line ending ≡ true
blank-line blocks ending (fault, is, creates) = ap is_line is

pub tape-line : (ending : Ending) → IsBlankTapeFile (Err ending) → is_line ending ≡ true
tape-line ending (inl p) = blank-line TAPE_BLOCKS ending p
tape-line ending (inr (image, fault, is, makes)) = ap is_line is

pub disk-line : (ending : Ending) → IsBlankDisk (Err ending) → is_line ending ≡ true
disk-line ending (inl p) = blank-line DISK_BLOCKS ending p
disk-line ending (inr is) = ap is_line is
