-- Steps that end a command by a refusal alone.
use Rattle.std.proofs.Common.{◌≡◌, ◌∙◌, ◌⊎◌, ℕ, Bool, true, false, Option, None, Some, Result, Ok, Err, List, ◌∷◌, ap, refl, sym, subst, inl, inr}
use Rattle.hosts.specs.Event.{Event, Look, TimeOf, failed_call}
use Rattle.hosts.specs.Streams.{output}
use Rattle.hosts.specs.Faults.{class_of}
use Rattle.hosts.specs.declared.faults.FaultClass.{FaultClass}
use Rattle.hosts.specs.declared.faults.FaultClass.TheVariants as class
use Rattle.hosts.specs.declared.faults.HostFault.{HostFault}
use Rattle.hosts.specs.declared.faults.HostFault.TheVariants as host
use Rattle.disk_layouts.specs.declared.layouts.Layout.{Layout}
use Rattle.image_kind.specs.declared.kinds.ImageKind.{ImageKind}
use Rattle.image_kind.specs.Keeping.{two_readings}
use Rattle.image_kind.specs.Margins.{body_by, margins_in}
use Rattle.image_kind.specs.Volumes.{volumes_in}
use Rattle.image_kind.specs.declared.judging.Judgment.{Judgment}
use Rattle.image_kind.specs.declared.margins.Margins.{Margins}
use Rattle.image_kind.specs.declared.volumes.Volumes.{Volumes}
use Rattle.image_kind.specs.declared.volumes.Volumes.TheVariants.{One, Both}
use Rattle.image_kind.specs.Judging.{judged_kind}
use Rattle.archive_files.specs.declared.faults.ArchiveFault.{ArchiveFault}
use Rattle.archive_files.specs.declared.faults.ArchiveFault.TheVariants as archive
use Rattle.outcome.specs.Endings.{ending_of_archive}
use Rattle.outcome.specs.Hints.{image_note}
use Rattle.outcome.specs.declared.contents.Content.TheVariants as content
use Rattle.outcome.specs.declared.hints.ImageNote.{ImageNote}
use Rattle.outcome.specs.declared.reasons.Reason.TheVariants as reason
use Rattle.outcome.specs.declared.endings.Ending.{Ending}
use Rattle.outcome.specs.declared.endings.Ending.TheVariants.{Line, Fault, Failure, Busy, NotWritten, FullOutput, Unreported, NoReader, Misuse}
use Rattle.program_tasks.specs.declared.forms.ImageForm.{ImageForm}
use Rattle.image_files.specs.Answers.{Answers, AreLines, Refuses}
use Rattle.image_files.specs.Dates.{DatesFile}
use Rattle.image_files.specs.declared.dates.FileDay.{FileDay}
use Rattle.image_files.specs.Inputs.{ReadsIf, ending_of_input, input_ending}
use Rattle.image_files.specs.Judging.{Judges, JudgesBy}
use Rattle.image_files.specs.Laws.{is_refusal}
use Rattle.image_files.specs.Reading.{Holds, IsNoVolume, IsUnheld, IsUnheldImage, IsUnread, JudgesOpened, Looks, MakesOf, MakesOne, Opens, ending_of_image, image_ending, judgment_of, looked_name}
use Rattle.image_files.specs.Notes.{TellsOfImage}
use Rattle.image_files.specs.Reasons.{is_untold, is_want_of_memory}
use Rattle.image_files.specs.Work.{Follows, Then, Purely}
use Rattle.image_files.specs.declared.reading.ImagePlace.{ImagePlace}
use Rattle.image_files.proofs.ReasonLemmas.{unless-output}
use Rattle.keeper_laws.proofs.OpenLemmas.{held}

-- a step ends its command by a refusal alone, of which standard output gets nothing yet
abbrev pub OnlyRefuses : {A : Type 0} → (List Event → Result A Ending → List Event → Type 0) → Type 0
OnlyRefuses step = (old : List Event) (ending : Ending) (new : List Event) → step old (Err ending) new → (is_refusal ending ≡ true) × (output new ≡ output old)

-- where a step succeeds standard output gets nothing
abbrev pub IsSilent : {A : Type 0} → (List Event → Result A Ending → List Event → Type 0) → Type 0
IsSilent {A} step = (old : List Event) (it : A) (new : List Event) → step old (Ok it) new → output new ≡ output old

-- a command is refused so
abbrev pub IsRefused : {A : Type 0} → Result A Ending → List Event → List Event → Type 0
IsRefused (Ok it) old new = ⊥
IsRefused (Err ending) old new = (is_refusal ending ≡ true) × (output new ≡ output old)

-- it was after steps of which standard output got nothing
pub refused-after : {A : Type 0} (result : Result A Ending) (old mid new : List Event) → output mid ≡ output old → IsRefused result mid new → IsRefused result old new
refused-after (Ok it) old mid new silent refused = refused
refused-after (Err ending) old mid new silent refused = (refused.0, refused.1 ∙ silent)

-- the next step is reached, or the command is refused
pub reaches : {A B : Type 0} (first : List Event → Result A Ending → List Event → Type 0) (next : A → List Event → Result B Ending → List Event → Type 0) → OnlyRefuses first
    → (old : List Event) (result : Result B Ending) (new : List Event) → Then first next old result new → Follows first next old result new ⊎ IsRefused result old new
reaches first next refuses old (Ok it) new (inl ends) = absurd ends
reaches first next refuses old (Err ending) new (inl ends) = inr (refuses old ending new ends)
reaches first next refuses old result new (inr it) = inl it

pub then-refuses : {A B : Type 0} (first : List Event → Result A Ending → List Event → Type 0) (next : A → List Event → Result B Ending → List Event → Type 0) → OnlyRefuses first → IsSilent first
    → ((a : A) → OnlyRefuses (next a)) → OnlyRefuses (Then first next)
then-refuses first next f silent n old ending new (inl ends) = f old ending new ends
then-refuses first next f silent n old ending new (inr it) =
    let refused = n it.given it.between ending new it.after in
    (refused.0, refused.1 ∙ silent old it.given it.between it.done)

pub ends-so : (ending other : Ending) → ending ≡ other → is_refusal other ≡ true → is_refusal ending ≡ true
ends-so ending other is refused = subst (λ (e : Ending). is_refusal e ≡ true) (sym is) refused

-- ## Files that are not read

image-refused : (fault : FaultClass) → is_refusal (image_ending fault) ≡ true
image-refused class.Busy = refl
image-refused class.Memory = refl
image-refused class.Other = refl

input-refused : (fault : FaultClass) → is_refusal (input_ending fault) ≡ true
input-refused class.Busy = refl
input-refused class.Memory = refl
input-refused class.Other = refl

unheld-refused : (fault : HostFault) (ending : Ending) → IsUnheld fault ending → is_refusal ending ≡ true
unheld-refused host.Denied ending is = absurd is
unheld-refused host.ReadOnly ending is = absurd is
unheld-refused host.Busy ending is = ends-so ending _ is refl
unheld-refused host.Memory ending is = ends-so ending _ is refl
unheld-refused host.Absent ending is = ends-so ending _ is refl
unheld-refused host.Folder ending is = ends-so ending _ is refl
unheld-refused host.NoFolder ending is = ends-so ending _ is refl
unheld-refused host.Full ending is = ends-so ending _ is refl
unheld-refused host.Links ending is = ends-so ending _ is refl
unheld-refused host.Large ending is = ends-so ending _ is refl
unheld-refused host.Changed ending is = ends-so ending _ is refl
unheld-refused host.Pipe ending is = ends-so ending _ is refl
unheld-refused host.Owner ending is = ends-so ending _ is refl
unheld-refused host.Failed ending is = ends-so ending _ is refl

holds-refuses : (name : List ℕ) → OnlyRefuses (Holds name)
unfolding IsUnheldImage
holds-refuses name old ending new (inl (fault, unheld, (between, idle, failed, why, told))) =
    (unheld-refused fault ending unheld, unless-output (is_untold content.Image fault) (reason.Fault fault) name between new told ∙ idle.prints)
holds-refuses name old ending new (inr (is, p)) = (ends-so ending _ is refl, ap output p)

pub looks-refuses : (name shown : List ℕ) → OnlyRefuses (Looks name shown)
unfolding IsUnread
looks-refuses name shown old ending new (inl (fault, is, p)) =
    (ends-so ending (ending_of_image fault) is (image-refused (class_of fault)), unless-output (is_want_of_memory fault) (reason.Fault fault) shown (failed_call Look name fault ∷ old) new p)
looks-refuses name shown old ending new (inr (bytes, many, inl (is, ok, p))) = (ends-so ending _ is refl, ap output p)
looks-refuses name shown old ending new (inr (bytes, many, inr (is, p))) = (ends-so ending _ is refl, ap output p)

pub judges-by : (name : List ℕ) (two : Option (ImageKind × ImageKind)) → OnlyRefuses (JudgesBy name two)
judges-by name None old ending new p = absurd p
judges-by name (Some two) old ending new (inl (is, ok, p)) = (ends-so ending _ is refl, ap output p)
judges-by name (Some two) old ending new (inr (is, p)) = (ends-so ending _ is refl, ap output p)

pub no-volume : (layout : Option Layout) (file : List ℕ) (ending : Ending) → IsNoVolume layout file ending → is_refusal ending ≡ true
no-volume None file ending is = absurd is
no-volume (Some layout) file (Line it) is = refl
no-volume (Some layout) file (Fault it) is = refl
no-volume (Some layout) file Failure is = refl
no-volume (Some layout) file (Busy it) is = refl
no-volume (Some layout) file (NotWritten it left) is = absurd is
no-volume (Some layout) file FullOutput is = absurd is
no-volume (Some layout) file Unreported is = absurd is
no-volume (Some layout) file NoReader is = absurd is
no-volume (Some layout) file Misuse is = refl

makes-refuses : (place : ImagePlace) (judgment : Judgment) (volumes : Volumes) (margins : Margins) (file : List ℕ) → OnlyRefuses (MakesOne place judgment volumes margins file)
makes-refuses place judgment (One layout) margins file old ending new (inl none, stays) = (no-volume layout (body_by margins file) ending none, ap output stays)
makes-refuses place judgment (One layout) margins file old ending new (inr (unlike, is), stays) = (ends-so ending _ is refl, ap output stays)
makes-refuses place judgment Both margins file old ending new (is, ok, p) = (ends-so ending _ is refl, ap output p)

pub judges-silent : (name : List ℕ) (two : Option (ImageKind × ImageKind)) → IsSilent (JudgesBy name two)
judges-silent name None old it new p = ap output p
judges-silent name (Some two) old it new p = absurd p

judged-refuses : (place : ImagePlace) (form : ImageForm) (file : List ℕ) → OnlyRefuses (JudgesOpened place form file)
judged-refuses place form file = then-refuses (Judges form.file.bytes.items form.layout form.is_plain file) (λ it. MakesOf place form file (judged_kind form.is_plain file))
    (judges-by form.file.bytes.items (two_readings form.layout form.is_plain file)) (judges-silent form.file.bytes.items (two_readings form.layout form.is_plain file))
    (λ it. makes-refuses place (judgment_of form file) (volumes_in form.layout form.is_plain file) (margins_in form.layout form.is_plain file) file)

pub opens-refuses : (form : ImageForm) → OnlyRefuses (Opens form)
opens-refuses form = then-refuses (Holds form.file.bytes.items) (λ place. Then (Looks (looked_name place form.file.bytes.items) form.file.bytes.items) (λ file. JudgesOpened place form file.items))
    (holds-refuses form.file.bytes.items) (λ old place new p. (held form.file.bytes.items place place.is_held old new p.1).prints)
    (λ place. then-refuses (Looks (looked_name place form.file.bytes.items) form.file.bytes.items) (λ file. JudgesOpened place form file.items)
    (looks-refuses (looked_name place form.file.bytes.items) form.file.bytes.items) (λ old file new p. ap output p.1) (λ file. judged-refuses place form file.items))

pub reads-refuses : (is : Bool) (name : List ℕ) → OnlyRefuses (ReadsIf is name)
reads-refuses true name old ending new (inl (fault, is, p)) = (ends-so ending (ending_of_input fault) is (input-refused (class_of fault)), ap output p)
reads-refuses true name old ending new (inr (bytes, many, inl (is, ok, p))) = (ends-so ending _ is refl, ap output p)
reads-refuses true name old ending new (inr (bytes, many, inr (is, p))) = (ends-so ending _ is refl, ap output p)
reads-refuses false name old ending new p = looks-refuses name name old ending new p

undated : (ending : Ending) (day : Option FileDay) → Err ending ≡ Ok day → ⊥
undated ending day is = cc

pub dates-refuses : (is_dated : Bool) (name : List ℕ) → OnlyRefuses (DatesFile is_dated name)
dates-refuses false name old ending new p = absurd (undated ending None p.0)
dates-refuses true name old ending new (fault, is, p) =
    (ends-so ending (ending_of_image fault) is (image-refused (class_of fault)), unless-output (is_want_of_memory fault) (reason.Fault fault) name (failed_call TimeOf name fault ∷ old) new p)

-- ## What an image gives

pub archive-refused : (fault : ArchiveFault) → is_refusal (ending_of_archive fault) ≡ true
archive-refused (archive.Image fault) = refl
archive-refused (archive.Directory fault) = refl
archive-refused (archive.Refused fault) = refl

note-silent : (note : Option ImageNote) (old new : List Event) → TellsOfImage note old new → output new ≡ output old
note-silent None old new p = ap output p
note-silent (Some note) old new p = ap output p.1

pub refuses-refused : (fault : ArchiveFault) (size : ℕ) (old : List Event) (ending : Ending) (new : List Event) → Refuses fault size old ending new → (is_refusal ending ≡ true) × (output new ≡ output old)
refuses-refused fault size old ending new p = (ends-so ending (ending_of_archive fault) p.0 (archive-refused fault), note-silent (image_note size fault) old new p.1)

pub answers-refuse : {A : Type 0} (gives : Result A ArchiveFault → Type 0) (size : ℕ) → OnlyRefuses (Answers gives size)
answers-refuse gives size old ending new (why, gave, p) = refuses-refused why size old ending new p

pub answers-silent : {A : Type 0} (gives : Result A ArchiveFault → Type 0) (size : ℕ) → IsSilent (Answers gives size)
answers-silent gives size old it new p = ap output p.1

pub purely-silent : {A : Type 0} (gives : Result A Ending → Type 0) → IsSilent (Purely gives)
purely-silent gives old it new p = ap output p.1

pub lines-refuse : (text : List ℕ) → OnlyRefuses (Purely (AreLines text))
lines-refuse text old ending new p = (ends-so ending _ p.0 refl, ap output p.1)
