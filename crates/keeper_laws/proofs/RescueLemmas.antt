-- A new volume that is made of what a damaged one still shows.
use Rattle.std.proofs.Common.{◌≡◌, ◌∙◌, ℕ, Bool, true, false, Option, None, Some, Result, Ok, Err, List, [], ◌∷◌, ap, refl, sym, subst, inl, inr, length, true≢false}
use Rattle.std.specs.Global.{Vec}
use Rattle.hosts.specs.Event.{Event, Look, failed_call, look_call, print_call}
use Rattle.hosts.specs.Faults.{class_of}
use Rattle.hosts.specs.Streams.{errors, output, read, changes_at}
use Rattle.hosts.specs.declared.faults.FaultClass.{FaultClass}
use Rattle.hosts.specs.declared.faults.FaultClass.TheVariants as class
use Rattle.hosts.specs.declared.faults.Unwritten.TheVariants.{AsItWas, InPart}
use Rattle.disk_layouts.specs.declared.layouts.Layout.{Layout}
use Rattle.image_kind.specs.declared.kinds.ImageKind.{ImageKind}
use Rattle.image_kind.specs.Keeping.{two_readings}
use Rattle.image_kind.specs.Margins.{body_of, margins_in}
use Rattle.image_kind.specs.Volumes.{volumes_in}
use Rattle.image_kind.specs.declared.margins.Margins.{Margins}
use Rattle.image_kind.specs.declared.volumes.Volumes.{Volumes}
use Rattle.image_kind.specs.declared.volumes.Volumes.TheVariants.{One, Both}
use Rattle.archive_files.specs.declared.faults.ArchiveFault.{ArchiveFault}
use Rattle.archive_files.specs.declared.faults.ArchiveFault.TheVariants as archive
use Rattle.outcome.specs.Endings.{ending_of_archive}
use Rattle.outcome.specs.declared.endings.Ending.{Ending}
use Rattle.outcome.specs.declared.endings.Ending.TheVariants.{Line, Fault, Failure, Busy, NotWritten, FullOutput, Unreported, NoReader, Misuse}
use Rattle.outcome.specs.declared.reasons.Reason.TheVariants as reason
use Rattle.program_tasks.specs.declared.forms.ImageForm.{ImageForm}
use Rattle.volume_salvage.specs.Salvaging.{Salvages, is_complete, rescued_text}
use Rattle.volume_salvage.specs.declared.salvages.Salvage.{Salvage}
use Rattle.image_files.specs.Answers.{Answers, AreLines}
use Rattle.image_files.specs.Judging.{Judges, JudgesBy}
use Rattle.image_files.specs.Making.{MakesFirst}
use Rattle.image_files.specs.Reading.{FindsIn, FindsOne, IsNoVolume, IsUnread, Looks, ending_of_image, image_ending}
use Rattle.image_files.specs.Reasons.{is_want_of_memory}
use Rattle.image_files.specs.Work.{Then, Purely}
use Rattle.image_files.proofs.ReasonLemmas.{unless-keeps, unless-output}
use Rattle.salvage_commands.specs.Rescuing.{Finishes, RescuesFile, RescuesImage, RescuesVolume, TellsMargins, has_margins, with_margin_note}
use Rattle.keeper_laws.specs.Changed.{warnings}
use Rattle.keeper_laws.specs.Ended.{DoesNothing}
use Rattle.keeper_laws.specs.Made.{EndsRescued, HasRescued, MakesNone}
use Rattle.keeper_laws.proofs.OpenLemmas.{IsQuiet, after-note, equal, quiet-then, still}
use Rattle.keeper_laws.proofs.PrepareLemmas.{nothing, nothing-then, noted, refuses-rejected}
use Rattle.keeper_laws.proofs.MakeLemmas.{EndsMake, first-ends, gets-file, is_line, none-after, nothing-made}

-- ## Refusals

-- a step ends the command by a line, a fault, or since another program works on its file; it has changed nothing
abbrev RefusesSo : {A : Type 0} → (List Event → Result A Ending → List Event → Type 0) → Type 0
RefusesSo step = (old : List Event) (ending : Ending) (new : List Event) → step old (Err ending) new → (is_line ending ≡ true) × DoesNothing old new

line-so : (ending other : Ending) → ending ≡ other → is_line other ≡ true → is_line ending ≡ true
line-so ending other is so = ap is_line is ∙ so

looked-line : (fault : FaultClass) → is_line (image_ending fault) ≡ true
looked-line class.Busy = refl
looked-line class.Memory = refl
looked-line class.Other = refl

looks-so : (name : List ℕ) → RefusesSo (Looks name name)
unfolding IsUnread
looks-so name old ending new (inl (fault, is, p)) = (
  line-so ending (ending_of_image fault) is (looked-line (class_of fault)),
  (λ path. unless-keeps (is_want_of_memory fault) (reason.Fault fault) name (failed_call Look name fault ∷ old) new p path, unless-output (is_want_of_memory fault) (reason.Fault fault) name (failed_call Look name fault ∷ old) new p),
)
looks-so name old ending new (inr (bytes, many, inl (is, ok, p))) = (line-so ending _ is refl, (λ path. ap (λ (n : List Event). changes_at path n) p, ap output p))
looks-so name old ending new (inr (bytes, many, inr (is, p))) = (line-so ending _ is refl, (λ path. ap (λ (n : List Event). changes_at path n) p, ap output p))

judges-so : (name : List ℕ) (two : Option (ImageKind × ImageKind)) → RefusesSo (JudgesBy name two)
judges-so name None old ending new p = absurd p
judges-so name (Some two) old ending new (inl (is, ok, p)) = (line-so ending _ is refl, noted ok _ old new p)
judges-so name (Some two) old ending new (inr (is, p)) = (line-so ending _ is refl, nothing old new p)

volume-line : (layout : Option Layout) (file : List ℕ) (ending : Ending) → IsNoVolume layout file ending → is_line ending ≡ true
volume-line None file ending is = absurd is
volume-line (Some layout) file (Line it) is = refl
volume-line (Some layout) file (Fault it) is = refl
volume-line (Some layout) file Failure is = absurd is
volume-line (Some layout) file (Busy it) is = refl
volume-line (Some layout) file (NotWritten it left) is = absurd is
volume-line (Some layout) file FullOutput is = absurd is
volume-line (Some layout) file Unreported is = absurd is
volume-line (Some layout) file NoReader is = absurd is
volume-line (Some layout) file Misuse is = absurd is

finds-so : (volumes : Volumes) (body : List ℕ) → RefusesSo (FindsIn volumes body)
finds-so (One layout) body old ending new p = (volume-line layout body ending p.0, nothing old new p.1)
finds-so Both body old ending new (is, ok, p) = (line-so ending _ is refl, noted ok _ old new p)

archive-line : (fault : ArchiveFault) → is_line (ending_of_archive fault) ≡ true
archive-line (archive.Image fault) = refl
archive-line (archive.Directory fault) = refl
archive-line (archive.Refused fault) = refl

salvages-so : (image : List ℕ) → RefusesSo (Answers (Salvages image) (length image))
salvages-so image old ending new (fault, is, p) = (line-so ending (ending_of_archive fault) p.0 (archive-line fault), (refuses-rejected fault (length image) old ending new p).1)

lines-so : (text : List ℕ) → RefusesSo (Purely (AreLines text))
lines-so text old ending new p = (line-so ending _ p.0 refl, nothing old new p.1)

module _ (name : List ℕ) (form : ImageForm)
  where
    abbrev Ended : Result (Unit {0}) Ending → List Event → List Event → Type 0
    Ended = EndsRescued name form

    by-line : (ending : Ending) (old new : List Event) → is_line ending ≡ true → MakesNone old new → Ended (Err ending) old new
    by-line (Line it) old new is none = none
    by-line (Fault it) old new is none = none
    by-line (Busy it) old new is none = none
    by-line Failure old new is none = absurd (true≢false (sym is))
    by-line (NotWritten it left) old new is none = absurd (true≢false (sym is))
    by-line FullOutput old new is none = absurd (true≢false (sym is))
    by-line Unreported old new is none = absurd (true≢false (sym is))
    by-line NoReader old new is none = absurd (true≢false (sym is))
    by-line Misuse old new is none = absurd (true≢false (sym is))

    refused : {A : Type 0} (step : List Event → Result A Ending → List Event → Type 0) → RefusesSo step → (old mid : List Event) (ending : Ending) (new : List Event) → DoesNothing old mid → step mid (Err ending) new → Ended (Err ending) old new
    refused step so old mid ending new none p = let r = so mid ending new p in by-line ending old new r.0 (nothing-made old new (nothing-then old mid new none r.1))

    -- the volume of a file that was read
    record IsFound (was from : List ℕ) (old mid : List Event) : Type 0 where
      bytes : Vec ℕ
      are : from ≡ bytes.items
      at : List Event
      found : FindsOne form.layout form.is_plain was at (Ok bytes) at
      quiet : IsQuiet (look_call form.file.bytes.items was ∷ []) old mid

    -- ## The new file

    unmade : (file : List ℕ) (ending : Ending) (old mid new : List Event) → DoesNothing old mid → EndsMake true name file (Err ending) mid new → Ended (Err ending) old new
    unmade file (NotWritten it AsItWas) old mid new none p = none-after old mid new none p
    unmade file (NotWritten it InPart) old mid new none p = absurd p
    unmade file (Line it) old mid new none p = none-after old mid new none p
    unmade file (Fault it) old mid new none p = none-after old mid new none p
    unmade file (Busy it) old mid new none p = none-after old mid new none p
    unmade file Failure old mid new none p = absurd p
    unmade file FullOutput old mid new none p = absurd p
    unmade file Unreported old mid new none p = absurd p
    unmade file NoReader old mid new none p = absurd p
    unmade file Misuse old mid new none p = absurd p

    -- the lines are printed of a file that was made
    module _ (was from : List ℕ) (old mid : List Event) (f : IsFound was from old mid) (salvage : Salvage) (salvages : Salvages from (Ok salvage)) (last : List Event)
        (made : EndsMake true name salvage.image.items (Ok tt) mid last) (reads : read last ≡ read mid)
      where
        whole : (is_whole ok : Bool) (number : ℕ) (new : List Event) → is_complete salvage ≡ is_whole → new ≡ print_call ok number (rescued_text salvage) ∷ last → HasRescued name form is_whole ok old new
        whole is_whole ok number new is p = record {
          was = was;
          reads = ap read p ∙ reads ∙ f.quiet.reads;
          from = f.bytes;
          found = (f.at, f.found);
          salvage = salvage;
          salvages = subst (λ (b : List ℕ). Salvages b (Ok salvage)) f.are salvages;
          whole = is;
          has = gets-file true name salvage.image.items (look_call form.file.bytes.items was ∷ []) old mid new f.quiet (made.0 ok number (rescued_text salvage) new p);
          prints = ap output p ∙ ap (λ (o : List (Bool × List ℕ)). (ok, rescued_text salvage) ∷ o) (made.1 ∙ f.quiet.prints);
        }

        finished : (is : Bool) → is_complete salvage ≡ is → (result : Result (Unit {0}) Ending) (new : List Event) → Finishes is (rescued_text salvage) last result new → Ended result old new
        finished true is (Ok it) new p = whole true true 0 new is p
        finished false is (Ok it) new p = absurd p
        finished true is (Err Unreported) new p = inl (whole true false 0 new is p)
        finished true is (Err NoReader) new p = whole true false 1 new is p
        finished true is (Err (NotWritten it left)) new p = absurd p
        finished true is (Err (Line it)) new p = absurd p
        finished true is (Err (Fault it)) new p = absurd p
        finished true is (Err Failure) new p = absurd p
        finished true is (Err (Busy it)) new p = absurd p
        finished true is (Err FullOutput) new p = absurd p
        finished true is (Err Misuse) new p = absurd p
        finished false is (Err Failure) new (inl p) = inl (whole false true 0 new is p)
        finished false is (Err Failure) new (inr p) = inr (whole false false 1 new is p)
        finished false is (Err Unreported) new p = inr (whole false false 0 new is p)
        finished false is (Err NoReader) new p = absurd p
        finished false is (Err (NotWritten it left)) new p = absurd p
        finished false is (Err (Line it)) new p = absurd p
        finished false is (Err (Fault it)) new p = absurd p
        finished false is (Err (Busy it)) new p = absurd p
        finished false is (Err FullOutput) new p = absurd p
        finished false is (Err Misuse) new p = absurd p

    none : (was from : List ℕ) (old mid : List Event) → IsFound was from old mid → DoesNothing old mid
    none was from old mid f = (λ path. f.quiet.files path, f.quiet.prints)

    first-made : (was from : List ℕ) (old mid : List Event) → IsFound was from old mid → (salvage : Salvage) → Salvages from (Ok salvage) → (lines : Vec ℕ) → lines.items ≡ rescued_text salvage → (result : Result (Unit {0}) Ending) (new : List Event)
        → Then (MakesFirst name salvage.image.items) (λ it. Finishes (is_complete salvage) lines.items) mid result new → Ended result old new
    first-made was from old mid f salvage salvages lines are (Ok it) new (inl ends) = absurd ends
    first-made was from old mid f salvage salvages lines are (Err ending) new (inl ends) = unmade salvage.image.items ending old mid new (none was from old mid f) (first-ends name salvage.image.items mid (Err ending) new ends)
    first-made was from old mid f salvage salvages lines are result new (inr it) =
        finished was from old mid f salvage salvages it.between (first-ends name salvage.image.items mid (Ok it.given) it.between it.done) it.done.only.reads (is_complete salvage) refl result new
        (subst (λ (l : List ℕ). Finishes (is_complete salvage) l it.between result new) are it.after)

    lined : (was from : List ℕ) (old mid : List Event) → IsFound was from old mid → (salvage : Salvage) → Salvages from (Ok salvage) → (result : Result (Unit {0}) Ending) (new : List Event)
        → Then (Purely (AreLines (rescued_text salvage))) (λ lines. Then (MakesFirst name salvage.image.items) (λ it. Finishes (is_complete salvage) lines.items)) mid result new → Ended result old new
    lined was from old mid f salvage salvages (Ok it) new (inl ends) = absurd ends
    lined was from old mid f salvage salvages (Err ending) new (inl ends) = refused (Purely (AreLines (rescued_text salvage))) (lines-so (rescued_text salvage)) old mid ending new (none was from old mid f) ends
    lined was from old mid f salvage salvages result new (inr it) = first-made was from old mid f salvage salvages it.given it.done.0 result new
        (subst (λ (n : List Event). Then (MakesFirst name salvage.image.items) (λ other. Finishes (is_complete salvage) it.given.items) n result new) it.done.1 it.after)

    salvaged : (was from : List ℕ) (old mid : List Event) → IsFound was from old mid → (result : Result (Unit {0}) Ending) (new : List Event) → RescuesVolume name from mid result new → Ended result old new
    salvaged was from old mid f (Ok it) new (inl ends) = absurd ends
    salvaged was from old mid f (Err ending) new (inl ends) = refused (Answers (Salvages from) (length from)) (salvages-so from) old mid ending new (none was from old mid f) ends
    salvaged was from old mid f result new (inr it) = lined was from old mid f it.given it.done.0 result new
        (subst (λ (n : List Event). Then (Purely (AreLines (rescued_text it.given))) (λ lines. Then (MakesFirst name it.given.image.items) (λ other. Finishes (is_complete it.given) lines.items)) n result new) it.done.1 it.after)

    -- ## The volume that is damaged

    margins-quiet : (is ok : Bool) (old new : List Event) → new ≡ with_margin_note is ok old → IsQuiet [] old new
    margins-quiet true ok old new p = after-note ok _ old new p
    margins-quiet false ok old new p = still old new p

    noted-margins : (was : List ℕ) (from : Vec ℕ) (margins : Margins) (old mid : List Event) → IsFound was from.items old mid → (result : Result (Unit {0}) Ending) (new : List Event)
        → Then (TellsMargins margins) (λ it. RescuesVolume name from.items) mid result new → Ended result old new
    noted-margins was from margins old mid f (Ok it) new (inl ends) = absurd ends
    noted-margins was from margins old mid f (Err ending) new (inl ends) = absurd ends.0
    noted-margins was from margins old mid f result new (inr it) = salvaged was from.items old it.between (record {
      bytes = f.bytes;
      are = f.are;
      at = f.at;
      found = f.found;
      quiet = quiet-then (look_call form.file.bytes.items was ∷ []) [] old mid it.between f.quiet (margins-quiet (has_margins margins) it.done.1 mid it.between it.done.2);
    }) result new it.after

    found-still : (volumes : Volumes) (body : List ℕ) (old : List Event) (found : Vec ℕ) (new : List Event) → FindsIn volumes body old (Ok found) new → new ≡ old
    found-still (One layout) body old found new p = p.1
    found-still Both body old found new p = absurd p

    found-one : (was : List ℕ) (old mid : List Event) → IsQuiet (look_call form.file.bytes.items was ∷ []) old mid → (result : Result (Unit {0}) Ending) (new : List Event)
        → Then (FindsOne form.layout form.is_plain was) (λ image. Then (TellsMargins (margins_in form.layout form.is_plain was)) (λ it. RescuesVolume name image.items)) mid result new → Ended result old new
    found-one was old mid quiet (Ok it) new (inl ends) = absurd ends
    found-one was old mid quiet (Err ending) new (inl ends) =
        refused (FindsOne form.layout form.is_plain was) (finds-so (volumes_in form.layout form.is_plain was) (body_of form.layout form.is_plain was)) old mid ending new (λ path. quiet.files path, quiet.prints) ends
    found-one was old mid quiet result new (inr it) =
        let same = found-still (volumes_in form.layout form.is_plain was) (body_of form.layout form.is_plain was) mid it.given it.between it.done in
        noted-margins was it.given (margins_in form.layout form.is_plain was) old mid (record {
          bytes = it.given;
          are = refl;
          at = mid;
          found = subst (λ (n : List Event). FindsOne form.layout form.is_plain was mid (Ok it.given) n) same it.done;
          quiet = quiet;
        }) result new (subst (λ (n : List Event). Then (TellsMargins (margins_in form.layout form.is_plain was)) (λ other. RescuesVolume name it.given.items) n result new) same it.after)

    judged-still : (two : Option (ImageKind × ImageKind)) (old : List Event) (it : Unit {0}) (new : List Event) → JudgesBy form.file.bytes.items two old (Ok it) new → new ≡ old
    judged-still None old it new p = p
    judged-still (Some two) old it new p = absurd p

    looked : (was : List ℕ) (old mid : List Event) → IsQuiet (look_call form.file.bytes.items was ∷ []) old mid → (result : Result (Unit {0}) Ending) (new : List Event) → RescuesFile name form was mid result new → Ended result old new
    looked was old mid quiet (Ok it) new (inl ends) = absurd ends
    looked was old mid quiet (Err ending) new (inl ends) =
        refused (Judges form.file.bytes.items form.layout form.is_plain was) (judges-so form.file.bytes.items (two_readings form.layout form.is_plain was)) old mid ending new (λ path. quiet.files path, quiet.prints) ends
    looked was old mid quiet result new (inr it) = found-one was old mid quiet result new
        (subst (λ (n : List Event). Then (FindsOne form.layout form.is_plain was) (λ image. Then (TellsMargins (margins_in form.layout form.is_plain was)) (λ other. RescuesVolume name image.items)) n result new)
        (judged-still (two_readings form.layout form.is_plain was) mid it.given it.between it.done) it.after)

    -- what each ending of a rescue means
    pub rescue-ends : (old : List Event) (result : Result (Unit {0}) Ending) (new : List Event) → RescuesImage name form old result new → Ended result old new
    rescue-ends old (Ok it) new (inl ends) = absurd ends
    rescue-ends old (Err ending) new (inl ends) = refused (Looks form.file.bytes.items form.file.bytes.items) (looks-so form.file.bytes.items) old old ending new (λ path. refl, refl) ends
    rescue-ends old result new (inr it) = looked it.given.items old it.between
        (subst (λ (n : List Event). IsQuiet (look_call form.file.bytes.items it.given.items ∷ []) old n) (sym it.done.1) (record { files = λ path. refl; prints = refl; warns = equal (warnings (errors old)); reads = refl })) result new it.after
