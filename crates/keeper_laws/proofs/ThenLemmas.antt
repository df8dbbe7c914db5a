-- What is got of an image file in one history with the change before.
use Rattle.std.proofs.Common.{◌≡◌, ◌∙◌, ◌⊎◌, ℕ, true, Option, None, Some, Result, Ok, Err, List, [], ◌∷◌, ◌++◌, append_assoc, sym, ap, subst, inl, inr, length}
use Rattle.std.specs.Global.{Vec}
use Rattle.hosts.specs.Event.{Event}
use Rattle.hosts.specs.Place.{Place, Step, Just, about, replay}
use Rattle.image_kind.specs.Keeping.{two_readings}
use Rattle.image_kind.specs.Margins.{body_of}
use Rattle.image_kind.specs.Volumes.{volumes_in}
use Rattle.image_kind.specs.declared.kinds.ImageKind.{ImageKind}
use Rattle.image_kind.specs.declared.volumes.Volumes.{Volumes}
use Rattle.image_kind.specs.declared.volumes.Volumes.TheVariants.{One, Both}
use Rattle.archive_files.specs.declared.faults.ArchiveFault.{ArchiveFault}
use Rattle.outcome.specs.Hints.{image_note}
use Rattle.outcome.specs.declared.endings.Ending.{Ending}
use Rattle.outcome.specs.declared.endings.Ending.TheVariants.{Line, Fault, Failure, Busy, NotWritten, FullOutput, Unreported, NoReader, Misuse}
use Rattle.outcome.specs.declared.hints.ImageNote.{ImageNote}
use Rattle.program_tasks.specs.declared.forms.ImageForm.{ImageForm}
use Rattle.image_files.specs.Again.{LooksIn}
use Rattle.image_files.specs.Answers.{Answers}
use Rattle.image_files.specs.Judging.{Judges, JudgesBy}
use Rattle.image_files.specs.Notes.{TellsOfImage}
use Rattle.image_files.specs.Reading.{FindsIn, FindsOne}
use Rattle.image_files.specs.Laws.{ChangesNothing}
use Rattle.image_files.specs.Saving.{IsFileWith, Prints}
use Rattle.image_files.specs.Work.{Then}
use Rattle.image_files.specs.declared.images.Image.{Image}
use Rattle.image_files.proofs.KeepLemmas.{of-file}
use Rattle.keeper_laws.specs.Changed.{Becomes, GetsVolume}
use Rattle.keeper_laws.specs.GettingBack.{LooksAndShows, PrintsOrLacks, ShowsIn}
use Rattle.keeper_laws.specs.Seen.{GivesWhatIsSeen, IsSeen, LooksAndPrints}

-- ## Calls that come after others

-- the newest calls come after these
abbrev Extends : List Event → List Event → Type 0
Extends old new = (more : List Event) × (new ≡ more ++ old)

abbrev AllExtend : {A : Type 0} → (List Event → Result A Ending → List Event → Type 0) → Type 0
AllExtend {A} step = (old : List Event) (result : Result A Ending) (new : List Event) → step old result new → Extends old new

extends-then : (old mid new : List Event) → Extends old mid → Extends mid new → Extends old new
extends-then old mid new (first, is) (next, so) = (next ++ first, so ∙ ap (λ (l : List Event). next ++ l) is ∙ sym (append_assoc next first old))

then-extends : {A B : Type 0} (first : List Event → Result A Ending → List Event → Type 0) (next : A → List Event → Result B Ending → List Event → Type 0)
    → AllExtend first → ((it : A) → AllExtend (next it)) → AllExtend (Then first next)
then-extends first next one two old (Ok it) new (inl ends) = absurd ends
then-extends first next one two old (Err ending) new (inl ends) = one old (Err ending) new ends
then-extends first next one two old result new (inr it) = extends-then old it.between new (one old (Ok it.given) it.between it.done) (two it.given it.between result new it.after)

none : (old new : List Event) → new ≡ old → Extends old new
none old new is = ([], is)

one-more : (e : Event) (old new : List Event) → new ≡ e ∷ old → Extends old new
one-more e old new is = (e ∷ [], is)

judges-extend : (name : List ℕ) (two : Option (ImageKind × ImageKind)) → AllExtend (JudgesBy name two)
judges-extend name None old (Ok it) new p = none old new p
judges-extend name None old (Err ending) new p = absurd p
judges-extend name (Some two) old (Ok it) new p = absurd p
judges-extend name (Some two) old (Err ending) new (inl (is, ok, p)) = one-more _ old new p
judges-extend name (Some two) old (Err ending) new (inr (is, p)) = none old new p

finds-extend : (volumes : Volumes) (body : List ℕ) → AllExtend (FindsIn volumes body)
finds-extend (One layout) body old result new p = none old new p.1
finds-extend Both body old (Ok image) new p = absurd p
finds-extend Both body old (Err ending) new (is, ok, p) = one-more _ old new p

told-extend : (note : Option ImageNote) (old new : List Event) → TellsOfImage note old new → Extends old new
told-extend None old new p = none old new p
told-extend (Some note) old new (ok, p) = one-more _ old new p

answers-extend : {A : Type 0} (gives : Result A ArchiveFault → Type 0) (size : ℕ) → AllExtend (Answers gives size)
answers-extend gives size old (Ok it) new p = none old new p.1
answers-extend gives size old (Err ending) new (fault, given, p) = told-extend (image_note size fault) old new p.1

prints-extend : (bytes : List ℕ) → AllExtend (Prints bytes)
prints-extend bytes old (Ok it) new p = one-more _ old new p
prints-extend bytes old (Err FullOutput) new p = one-more _ old new p
prints-extend bytes old (Err NoReader) new p = one-more _ old new p
prints-extend bytes old (Err (Line it)) new p = absurd p
prints-extend bytes old (Err (Fault it)) new p = absurd p
prints-extend bytes old (Err Failure) new p = absurd p
prints-extend bytes old (Err (Busy it)) new p = absurd p
prints-extend bytes old (Err (NotWritten it left)) new p = absurd p
prints-extend bytes old (Err Unreported) new p = absurd p
prints-extend bytes old (Err Misuse) new p = absurd p

shows-extend : (gives : List ℕ → Result (Vec ℕ) ArchiveFault → Type 0) (form : ImageForm) (file : List ℕ) → AllExtend (ShowsIn gives form file)
shows-extend gives form file =
    then-extends (LooksIn form file) (λ image. Then (Answers (gives image.items) (length image.items)) (λ bytes. Prints bytes.items))
    (then-extends (Judges form.file.bytes.items form.layout form.is_plain file) (λ it. FindsOne form.layout form.is_plain file)
    (judges-extend form.file.bytes.items (two_readings form.layout form.is_plain file))
    (λ it. finds-extend (volumes_in form.layout form.is_plain file) (body_of form.layout form.is_plain file)))
    (λ image. then-extends (Answers (gives image.items) (length image.items)) (λ bytes. Prints bytes.items) (answers-extend (gives image.items) (length image.items)) (λ bytes. prints-extend bytes.items))

-- ## What a change left is what is read

-- what is seen after a change of the image file
pub seen-after : (start : Place) (form : ImageForm) (image : Image) (path was bytes : List ℕ) (old mid between : List Event) (has : GetsVolume form image path was bytes old mid) → IsSeen start path old was
    → about path between ≡ about path mid → IsSeen start path between has.file
seen-after start form image path was bytes old mid between has seen stays = either has.has where
  here : IsSeen start path mid has.file → IsSeen start path between has.file
  here is = subst (λ (steps : List Step). (replay start steps).seen ≡ Just (Some has.file)) (sym stays) is

  either : ((image.place.is_held ≡ true) × IsFileWith image bytes has.file × Becomes path was has.file old mid) ⊎ ((bytes ≡ image.bytes.items) × (has.file ≡ was) × ChangesNothing old mid) → IsSeen start path between has.file
  either (inl (held, is, becomes)) = here (becomes.now start seen)
  either (inr (same, is, stayed)) = here (subst (λ (steps : List Step). (replay start steps).seen ≡ Just (Some has.file)) (sym (of-file path (stayed path))) (seen ∙ ap (λ (file : List ℕ). Just (Some file)) (sym is)))

same-file : (one other : List ℕ) → Just (Some one) ≡ Just (Some other) → one ≡ other
same-file one other is = cc

pub looks-and-prints : (gives : List ℕ → Result (Vec ℕ) ArchiveFault → Type 0) (start : Place) (form again : ImageForm) (path file bytes : List ℕ) (old : List Event) (result : Result (Unit {0}) Ending) (new : List Event)
    → IsSeen start path old file → GivesWhatIsSeen start again.file.bytes.items path new
    → ((between : List Event) → ShowsIn gives again file between result new → PrintsOrLacks bytes between result new)
    → LooksAndShows gives again old result new → LooksAndPrints again bytes old result new
looks-and-prints gives start form again path file bytes old result new seen believed prints (inl ends) = inl ends
looks-and-prints gives start form again path file bytes old result new seen believed prints (inr it) =
    let ext = shows-extend gives again it.given.items it.between result new it.after in
    let same : it.given.items ≡ file =
    same-file it.given.items file (sym (believed ext.0 old it.given.items (ext.1 ∙ ap (λ (l : List Event). ext.0 ++ l) it.done.1) it.done.0) ∙ seen) in
    inr (record { given = it.given; between = it.between; done = it.done; after = prints it.between (subst (λ (f : List ℕ). ShowsIn gives again f it.between result new) same it.after) })
