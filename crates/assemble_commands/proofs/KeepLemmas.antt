-- What the command leaves as it was. What is known of the steps of image_files is handed in.
use Rattle.std.proofs.Common.{◌≡◌, ◌∙◌, ℕ, Bool, true, false, ◌++◌, Option, None, Some, Result, Ok, Err, List, [], ◌∷◌, ap, refl, sym, inl, inr, length, map}
use Rattle.std.specs.Borrow.{Bor}
use Rattle.std.specs.Global.{Vec, Global}
use Rattle.std.specs.Prelude.{String, is_some}
use Rattle.std.specs.Str.{bytes_eq}
use Rattle.hosts.specs.Event.{Event, failed_same, tell_call}
use Rattle.hosts.specs.Faults.{class_of}
use Rattle.hosts.specs.Streams.{changes_at}
use Rattle.hosts.specs.declared.faults.FaultClass.{FaultClass}
use Rattle.hosts.specs.declared.faults.FaultClass.TheVariants as class
use Rattle.hosts.specs.declared.faults.HostFault.{HostFault}
use Rattle.archive_files.specs.Asking.{Target, target_of}
use Rattle.archive_files.specs.declared.faults.ArchiveFault.{ArchiveFault}
use Rattle.archive_files.specs.declared.faults.ArchiveFault.TheVariants as archive
use Rattle.archive_files.specs.declared.putting.NewImage.{NewImage}
use Rattle.refusals.specs.declared.faults.SessionFault.TheVariants.{Memory}
use Rattle.outcome.specs.Endings.{ending_of_archive}
use Rattle.outcome.specs.declared.contents.Content.{Content}
use Rattle.outcome.specs.declared.contents.Content.TheVariants.{Image as ForImage, Tape, Listing}
use Rattle.outcome.specs.declared.endings.Ending.{Ending}
use Rattle.outcome.specs.declared.endings.Ending.TheVariants.{Line, Fault, Failure, Busy, NotWritten, FullOutput, Unreported, NoReader, Misuse}
use Rattle.outcome.specs.Notes.{name_text}
use Rattle.outcome.specs.declared.notes.NameNote.{NameNote}
use Rattle.outcome.specs.declared.notes.NameNote.TheVariants.{NoSource}
use Rattle.host_sources.specs.declared.faults.SourceFault as pal3_fault
use Rattle.host_sources.specs.declared.faults.SourceFault.TheVariants as pal3_is
use Rattle.pal8_places.specs.declared.options.Options.{Options}
use Rattle.pal8_tape.specs.declared.faults.SourceFault as pal8_fault
use Rattle.pal8_tape.specs.declared.faults.SourceFault.TheVariants as pal8_is
use Rattle.pal8_listing.specs.NotesTexts.{notes_text}
use Rattle.program_tasks.specs.declared.forms.ImageForm.{ImageForm}
use Rattle.program_tasks.specs.declared.tasks.AssembleForm.{AssembleForm}
use Rattle.image_files.specs.Reasons.{TellsUnheld, is_untold}
use Rattle.image_files.proofs.ReasonLemmas.{unless-keeps}
use Rattle.outcome.specs.declared.reasons.Reason.TheVariants as reason
use Rattle.image_files.specs.Answers.{AreLines, Refuses}
use Rattle.image_files.specs.Ending.{TellsLine}
use Rattle.image_files.specs.Laws.{KeepsFiles}
use Rattle.image_files.proofs.KeepLemmas.{purely-keeps, same, then-keeps}
use Rattle.image_files.specs.Making.{IsUnheldFile, MakesBy, MakesFile, ending_of_file, file_ending}
use Rattle.image_files.specs.Inputs.{TakesInput}
use Rattle.image_files.specs.Stored.{stored_line}
use Rattle.image_files.specs.Places.{IsApart}
use Rattle.image_kind.specs.Keeping.{keeps_kind}
use Rattle.image_kind.specs.declared.judging.Judgment.{Judgment}
use Rattle.image_files.specs.Reading.{Looks, LooksAt, Opens, hold_calls, with_lock_note}
use Rattle.image_files.specs.Saving.{IsDone, Prints, SavesIf, Stores, Writes, Reports, WritesIf as SavesKept}
use Rattle.image_files.specs.Work.{Then, Purely}
use Rattle.image_files.specs.declared.images.Image.{Image}
use Rattle.assemble_commands.specs.Assembling.{Assembles, AssemblesAll, AssemblesFrom, AssemblesTo, IsMade, IsTapeOf, ListsTape, Makes, MakesIf, MakesNoted, MakesPal3, MakesPal8, NotesIf, PrintsFaults, RefusesPal8, RefusesSources, TellsAny, options_of}
use Rattle.assemble_commands.specs.Clashes.{IsRefused, RefusesClash, clash_of}
use Rattle.assemble_commands.specs.Faults.{faults_text, pal8_faults_text}
use Rattle.assemble_commands.specs.Laws.{is_refusal}
use Rattle.assemble_commands.specs.Outputs.{PutsTape, WritesIf, WritesListing, WritesTape}
use Rattle.assemble_commands.specs.Places.{AreApart, IsApartFromInputs, IsApartFromListing, KeepsInputs, KeepsListing, KeepsTape, input_place, output_place, tape_of}
use Rattle.assemble_commands.specs.Sources.{AreLent, AreTexts, GetsText, IsAsked, IsText, NamesIf, ReadsBytes, ReadsEach, ReadsFile, ReadsIf, ReadsMember, ReadsSource, RefusesSource, is_standard, is_unread, source_text}
use Rattle.assemble_commands.specs.declared.assembling.Assembled.{Assembled}

-- ## Words that clash

clash-refused : (clash : Option (NameNote × List ℕ)) (old : List Event) (ending : Ending) (new : List Event) → IsRefused clash old ending new → (path : List ℕ) → changes_at path new ≡ changes_at path old
clash-refused None old ending new p path = absurd p
clash-refused (Some clash) old ending new (inl (is, ok, p)) path = same path p
clash-refused (Some clash) old ending new (inr p) path = same path p.1

pub clash-keeps : (form : AssembleForm) → KeepsFiles (RefusesClash form)
clash-keeps form old (Ok it) new p path = same path p.1
clash-keeps form old (Err ending) new p path = clash-refused (clash_of form) old ending new p path

-- ## What sources come to

line-keeps : (line : List ℕ) (old new : List Event) → TellsLine line old new → (path : List ℕ) → changes_at path new ≡ changes_at path old
line-keeps line old new (inl (is, ok, p)) path = same path p
line-keeps line old new (inr p) path = same path p.1

faults-keep : (text : List ℕ) (old : List Event) (ending : Ending) (new : List Event) → PrintsFaults text old ending new → (path : List ℕ) → changes_at path new ≡ changes_at path old
faults-keep text old ending new (inl p) path = line-keeps text old new p.1 path
faults-keep text old ending new (inr p) path = same path p.1

sources-refused : (sources names : List (Bor (List ℕ))) (fault : pal3_fault.SourceFault) (old : List Event) (ending : Ending) (new : List Event) → RefusesSources sources names fault old ending new → (path : List ℕ) → changes_at path new ≡ changes_at path old
sources-refused sources names (pal3_is.At fault) old ending new p path = faults-keep (faults_text sources names fault) old ending new p path
sources-refused sources names pal3_is.Memory old ending new p path = same path p.1

pal8-refused : (options : Options) (sources names : List (Bor (List ℕ))) (fault : pal8_fault.SourceFault) (old : List Event) (ending : Ending) (new : List Event) → RefusesPal8 options sources names fault old ending new → (path : List ℕ) → changes_at path new ≡ changes_at path old
pal8-refused options sources names (pal8_is.At fault) old ending new p path = faults-keep (pal8_faults_text options sources names fault) old ending new p path
pal8-refused options sources names pal8_is.Memory old ending new p path = same path p.1

pal3-keeps : (is_listed is_cross : Bool) (sources names : List (Bor (List ℕ))) → KeepsFiles (MakesPal3 is_listed is_cross sources names)
pal3-keeps is_listed is_cross sources names old (Ok made) new (assembled, listed, p) path = same path p
pal3-keeps is_listed is_cross sources names old (Err ending) new (fault, told, p) path = sources-refused sources names fault old ending new p path

pal8-keeps : (is_listed is_cross : Bool) (options : Options) (sources names : List (Bor (List ℕ))) → KeepsFiles (MakesPal8 is_listed is_cross options sources names)
pal8-keeps is_listed is_cross options sources names old (Ok made) new (assembled, listed, p) path = same path p
pal8-keeps is_listed is_cross options sources names old (Err ending) new (fault, told, p) path = pal8-refused options sources names fault old ending new p path

any-keeps : (lines : List ℕ) (old new : List Event) → TellsAny lines old new → (path : List ℕ) → changes_at path new ≡ changes_at path old
any-keeps [] old new p path = same path p
any-keeps (b ∷ lines) old new p path = line-keeps (b ∷ lines) old new p path

notes-keep : (is : Bool) (options : Options) (sources names : List (Bor (List ℕ))) → KeepsFiles (NotesIf is options sources names)
notes-keep true options sources names old (Ok it) new p path = any-keeps (notes_text options sources names) old new p path
notes-keep true options sources names old (Err ending) new p path = same path p.1
notes-keep false options sources names old result new p path = same path p.1

noted-keeps : (form : AssembleForm) (sources names : List (Bor (List ℕ))) → KeepsFiles (MakesNoted form sources names)
noted-keeps form sources names =
    then-keeps (MakesPal8 (is_some form.list) form.is_cross (options_of form) sources names)
    (λ made. Then (NotesIf form.has_notes (options_of form) sources names) (λ it. Purely (IsMade made)))
    (pal8-keeps (is_some form.list) form.is_cross (options_of form) sources names)
    (λ made. then-keeps (NotesIf form.has_notes (options_of form) sources names) (λ it. Purely (IsMade made))
    (notes-keep form.has_notes (options_of form) sources names) (λ it. purely-keeps (IsMade made)))

makes-if : (is : Bool) (form : AssembleForm) (sources names : List (Bor (List ℕ))) → KeepsFiles (MakesIf is form sources names)
makes-if true form sources names old result new p path = noted-keeps form sources names old result new p path
makes-if false form sources names old result new p path = pal3-keeps (is_some form.list) form.is_cross sources names old result new p path

pub makes-keeps : (form : AssembleForm) (texts : List (List ℕ)) → KeepsFiles (Makes form texts)
makes-keeps form texts = then-keeps (Purely (AreLent texts)) (λ sources. Then (Purely (AreLent (map (λ name. name.bytes.items) form.sources.items))) (λ names. MakesIf form.is_pal8 form sources.items names.items))
    (purely-keeps (AreLent texts)) (λ sources. then-keeps (Purely (AreLent (map (λ name. name.bytes.items) form.sources.items))) (λ names. MakesIf form.is_pal8 form sources.items names.items)
    (purely-keeps (AreLent (map (λ name. name.bytes.items) form.sources.items))) (λ names. makes-if form.is_pal8 form sources.items names.items))

-- ## Endings that no step has which writes

never : false ≡ true → ⊥
never is = cc

-- a step ends in no refusal
abbrev Never : {A : Type 0} → (List Event → Result A Ending → List Event → Type 0) → Type 0
Never step = (old : List Event) (ending : Ending) (new : List Event) → step old (Err ending) new → is_refusal ending ≡ true → ⊥

prints-never : (bytes : List ℕ) → Never (Prints bytes)
prints-never bytes old (Line it) new p is = p
prints-never bytes old (Fault it) new p is = p
prints-never bytes old Failure new p is = p
prints-never bytes old (Busy it) new p is = p
prints-never bytes old (NotWritten it left) new p is = p
prints-never bytes old FullOutput new p is = never is
prints-never bytes old Unreported new p is = p
prints-never bytes old NoReader new p is = never is
prints-never bytes old Misuse new p is = p

reports-never : (bytes : List ℕ) → Never (Reports bytes)
reports-never bytes old (Line it) new p is = p
reports-never bytes old (Fault it) new p is = p
reports-never bytes old Failure new p is = p
reports-never bytes old (Busy it) new p is = p
reports-never bytes old (NotWritten it left) new p is = p
reports-never bytes old FullOutput new p is = p
reports-never bytes old Unreported new p is = never is
reports-never bytes old NoReader new p is = never is
reports-never bytes old Misuse new p is = p

writes-never : (content : Content) (path name file : List ℕ) → Never (Writes content path name file)
writes-never content path name file old (Line it) new p is = p
writes-never content path name file old (Fault it) new p is = p
writes-never content path name file old Failure new p is = p
writes-never content path name file old (Busy it) new p is = p
writes-never content path name file old (NotWritten it left) new p is = never is
writes-never content path name file old FullOutput new p is = p
writes-never content path name file old Unreported new p is = p
writes-never content path name file old NoReader new p is = p
writes-never content path name file old Misuse new p is = p

class-ending : (content : Content) (of : FaultClass) → is_refusal (file_ending content of) ≡ false
class-ending content class.Busy = refl
class-ending content class.Memory = refl
class-ending content class.Other = refl

file-ending : (content : Content) (fault : HostFault) → is_refusal (ending_of_file content fault) ≡ false
file-ending content fault = class-ending content (class_of fault)

archive-ending : (fault : ArchiveFault) → is_refusal (ending_of_archive fault) ≡ false
archive-ending (archive.Image fault) = refl
archive-ending (archive.Directory fault) = refl
archive-ending (archive.Refused fault) = refl

other-ending : (ending other : Ending) → ending ≡ other → is_refusal other ≡ false → is_refusal ending ≡ true → ⊥
other-ending ending other is none some = never (sym none ∙ ap is_refusal (sym is) ∙ some)

abbrev refused : Ending → Result (Unit {0}) Ending
refused ending = Err ending

same-ending : (ending other : Ending) → refused ending ≡ refused other → ending ≡ other
same-ending ending other is = cc

unheld-never : (content : Content) (fault : HostFault) (ending : Ending) → IsUnheldFile content fault (Err ending) → is_refusal ending ≡ true → ⊥
unheld-never content fault ending (other, p) is = other-ending ending (ending_of_file content fault) (same-ending ending (ending_of_file content fault) p) (file-ending content fault) is

by-never : (content : Content) (name file : List ℕ) → Never (MakesBy content (ending_of_file content) (TellsUnheld content) name file)
by-never content name file old ending new (fault, between, ends, unmade, told) is = other-ending ending (ending_of_file content fault) ends (file-ending content fault) is

file-never : (content : Content) (name file : List ℕ) → Never (MakesFile content name file)
file-never content name file old ending new (inl (path, has, ok, p)) is = writes-never content path name file (with_lock_note content has ok (hold_calls name path has old)) ending new p is
file-never content name file old ending new (inr (inl (between, idle, failed, absent, p))) is = by-never content name file between ending new p is
file-never content name file old ending new (inr (inr (fault, between, unheld, idle, failed, why, told))) is = unheld-never content fault ending unheld is

writes-if : (is : Bool) (content : Content) (name bytes : List ℕ) → Never (WritesIf is content name bytes)
writes-if true content name bytes old ending new p is = prints-never bytes old ending new p is
writes-if false content name bytes old ending new p is = file-never content name bytes old ending new p is

listing-never : (list : Option (String Global)) (listing : Option (Vec ℕ)) → Never (WritesListing list listing)
listing-never None listing old ending new p is = p.0
listing-never (Some name) None old ending new p is = p.0
listing-never (Some name) (Some listing) old ending new p is = writes-if (is_standard name.bytes.items) Listing name.bytes.items listing.items old ending new p is

tape-never : (output : Option (String Global)) (tape : List ℕ) → Never (WritesTape output tape)
tape-never None tape old ending new p is = prints-never tape old ending new p is
tape-never (Some name) tape old ending new p is = writes-if (is_standard name.bytes.items) Tape name.bytes.items tape old ending new p is

listed-never : (form : AssembleForm) (made : Assembled) → Never (Then (WritesListing form.list made.listing) (λ it. Purely (IsTapeOf made)))
listed-never form made old ending new (inl p) is = listing-never form.list made.listing old ending new p is
listed-never form made old ending new (inr it) is = it.after.0

writes-if-never : (keeps : Bool) (judgment : Judgment) (path name file : List ℕ) → Never (SavesKept keeps judgment path name file)
writes-if-never true judgment path name file old ending new p is = writes-never ForImage path name file old ending new p is
writes-if-never false judgment path name file old ending new (ends, ok, p) is = never (rw ends at is)

saves-never : (is_same : Bool) (image : Image) (bytes : List ℕ) → Never (SavesIf is_same image bytes)
saves-never true image bytes old ending new (done, stays) is = done
saves-never false image bytes old ending new (inl (refused, told)) is = never (rw refused at is)
saves-never false image bytes old ending new (inr (held, file, laid, p)) is = writes-if-never (keeps_kind image.judgment file) image.judgment image.place.path.bytes.items image.place.name.bytes.items file old ending new p is

stores-never : (image : Image) (bytes lines : List ℕ) → Never (Stores image bytes lines)
stores-never image bytes lines old ending new (inl p) is = saves-never (bytes_eq image.bytes.items bytes) image bytes old ending new p is
stores-never image bytes lines old ending new (inr it) is = reports-never lines it.between ending new it.after is

line-never : (made : NewImage) (image : Image) → Never (Then (Purely (AreLines (stored_line made))) (λ line. Stores image made.bytes.items line.items))
line-never made image old ending new (inl p) is = other-ending ending (Fault Memory) p.0 refl is
line-never made image old ending new (inr it) is = stores-never image made.bytes.items it.given.items it.between ending new it.after is

puts-never : (name tape : List ℕ) (image : Image) → Never (PutsTape name tape image)
puts-never name tape image old ending new (inl (fault, puts, refused)) is = other-ending ending (ending_of_archive fault) refused.0 (archive-ending fault) is
puts-never name tape image old ending new (inr it) is = line-never it.given image it.between ending new it.after is

-- ## What is written where nothing is named

given : {A : Type 0} {it : A} → Some it ≡ None → ⊥
given is = cc

listing-keeps : (list : Option (String Global)) → list ≡ None → (listing : Option (Vec ℕ)) → KeepsFiles (WritesListing list listing)
listing-keeps None is listing old result new p path = same path p.1
listing-keeps (Some name) is listing old result new p path = absurd (given is)

-- ## What is asked of the host before anything is written

apart-keeps : (content : Content) (output input : List ℕ) → KeepsFiles (IsApart content output input)
apart-keeps content output input old (Ok it) new p path = same path p
apart-keeps content output input old (Err ending) new (inl (inl (is, ok, p))) path = same path p
apart-keeps content output input old (Err ending) new (inl (inr p)) path = same path p.1
apart-keeps content output input old (Err ending) new (inr (fault, is, p)) path = unless-keeps (is_untold content fault) (reason.Fault fault) output (failed_same output input fault ∷ old) new p path

each-apart : (content : Content) (output : List ℕ) (inputs : List (List ℕ)) → KeepsFiles (AreApart content output inputs)
each-apart content output [] = purely-keeps IsDone
each-apart content output (input ∷ inputs) = then-keeps (IsApart content output (input_place input)) (λ it. AreApart content output inputs) (apart-keeps content output (input_place input)) (λ it. each-apart content output inputs)

inputs-apart : (content : Content) (output : List ℕ) (form : AssembleForm) (from : Option ImageForm) → KeepsFiles (IsApartFromInputs content output form from)
inputs-apart content output form None old result new p path = each-apart content output (map (λ name. name.bytes.items) form.sources.items) old result new p path
inputs-apart content output form (Some image) old result new p path = apart-keeps content output image.file.bytes.items old result new p path

listing-apart : (form : AssembleForm) (list : Option (String Global)) → KeepsFiles (KeepsListing form list)
listing-apart form None old result new p path = same path p.1
listing-apart form (Some name) old result new p path = inputs-apart Listing (output_place name.bytes.items) form form.from old result new p path

from-listing : (tape : List ℕ) (list : Option (String Global)) → KeepsFiles (IsApartFromListing tape list)
from-listing tape None old result new p path = same path p.1
from-listing tape (Some name) old result new p path = apart-keeps Tape tape (output_place name.bytes.items) old result new p path

tape-apart : (form : AssembleForm) (tape : Option (List ℕ)) → KeepsFiles (KeepsTape form tape)
tape-apart form None old result new p path = same path p.1
tape-apart form (Some tape) old result new p path =
    then-keeps (IsApartFromInputs Tape tape form form.from) (λ it. IsApartFromListing tape form.list) (inputs-apart Tape tape form form.from) (λ it. from-listing tape form.list) old result new p path

pub inputs-keep : (form : AssembleForm) → KeepsFiles (KeepsInputs form)
inputs-keep form = then-keeps (KeepsListing form form.list) (λ it. KeepsTape form (tape_of form.onto form.output)) (listing-apart form form.list) (λ it. tape-apart form (tape_of form.onto form.output))

kept-refused : (form : AssembleForm) (made : Assembled) (old : List Event) (ending : Ending) (new : List Event) → Then (KeepsInputs form) (λ it. Then (WritesListing form.list made.listing) (λ it. Purely (IsTapeOf made))) old (Err ending) new
    → is_refusal ending ≡ true → (path : List ℕ) → changes_at path new ≡ changes_at path old
kept-refused form made old ending new (inl p) is path = inputs-keep form old (Err ending) new p path
kept-refused form made old ending new (inr it) is path = absurd (listed-never form made it.between ending new it.after is)

made-refused : (form : AssembleForm) (texts : List (Vec ℕ)) (old : List Event) (ending : Ending) (new : List Event) → Then (Makes form (map (λ text. text.items) texts)) (λ made. Then (KeepsInputs form) (λ it. Then (WritesListing form.list made.listing) (λ it. Purely (IsTapeOf made)))) old (Err ending) new
    → is_refusal ending ≡ true → (path : List ℕ) → changes_at path new ≡ changes_at path old
made-refused form texts old ending new (inl p) is path = makes-keeps form (map (λ text. text.items) texts) old (Err ending) new p path
made-refused form texts old ending new (inr it) is path = kept-refused form it.given it.between ending new it.after is path ∙ makes-keeps form (map (λ text. text.items) texts) old (Ok it.given) it.between it.done path

module _
    (looks : (name shown : List ℕ) → KeepsFiles (Looks name shown))
    (looks-at : (form : ImageForm) → KeepsFiles (LooksAt form))
    (opens : (form : ImageForm) → KeepsFiles (Opens form))
    (input : KeepsFiles TakesInput)
    (prints : (bytes : List ℕ) → KeepsFiles (Prints bytes))
    (refuses : (fault : ArchiveFault) (size : ℕ) (old : List Event) (ending : Ending) (new : List Event) → Refuses fault size old ending new → (path : List ℕ) → changes_at path new ≡ changes_at path old)
  where
    -- ## What is read

    named : (is : Bool) (name : List ℕ) (why : Ending) (old : List Event) (ending : Ending) (new : List Event) → NamesIf is name why old ending new → (path : List ℕ) → changes_at path new ≡ changes_at path old
    named false name why old ending new p path = same path p.1
    named true name why old ending new (inl (is, ok, p)) path = same path p
    named true name why old ending new (inr p) path = same path p.1

    file-keeps : (name : List ℕ) → KeepsFiles (ReadsFile name)
    file-keeps name old (Ok bytes) new p path = looks name name old (Ok bytes) new p path
    file-keeps name old (Err ending) new (why, between, p, q) path = named (is_unread why) name why between ending new q path ∙ looks name name old (Err why) between p path

    reads-if : (is : Bool) (name : List ℕ) → KeepsFiles (ReadsIf is name)
    reads-if true name old result new p path = input old result new p path
    reads-if false name old result new p path = file-keeps name old result new p path

    source-refused : (name : List ℕ) (fault : ArchiveFault) (size : ℕ) (old : List Event) (ending : Ending) (new : List Event) → RefusesSource name fault size old ending new → (path : List ℕ) → changes_at path new ≡ changes_at path old
    source-refused name fault size old ending new (inl (ok, p)) path = refuses fault size (tell_call ok (name_text NoSource name) ∷ old) ending new p path
    source-refused name fault size old ending new (inr p) path = same path p.1

    text-keeps : (image name : List ℕ) (wanted : Target) → KeepsFiles (GetsText image name wanted)
    text-keeps image name wanted old (Ok text) new p path = same path p.1
    text-keeps image name wanted old (Err ending) new (fault, gets, p) path = source-refused name fault (length image) old ending new p path

    member-keeps : (image name : List ℕ) → KeepsFiles (ReadsMember image name)
    member-keeps image name = then-keeps (Purely (IsAsked name)) (λ asked. GetsText image name (target_of asked)) (purely-keeps (IsAsked name)) (λ asked. text-keeps image name (target_of asked))

    bytes-keep : (volume : Option (List ℕ)) (name : List ℕ) → KeepsFiles (ReadsBytes volume name)
    bytes-keep None name old result new p path = reads-if (is_standard name) name old result new p path
    bytes-keep (Some image) name old result new p path = member-keeps image name old result new p path

    source-keeps : (volume : Option (List ℕ)) (name : List ℕ) → KeepsFiles (ReadsSource volume name)
    source-keeps volume name = then-keeps (ReadsBytes volume name) (λ bytes. Purely (IsText (source_text volume bytes.items))) (bytes-keep volume name) (λ bytes. purely-keeps (IsText (source_text volume bytes.items)))

    pub each-keeps : (volume : Option (List ℕ)) (names : List (List ℕ)) (texts : List (Vec ℕ)) → KeepsFiles (ReadsEach volume texts names)
    each-keeps volume [] texts = purely-keeps (AreTexts texts)
    each-keeps volume (name ∷ names) texts = then-keeps (ReadsSource volume name) (λ text. ReadsEach volume (texts ++ text ∷ []) names) (source-keeps volume name) (λ text. each-keeps volume names (texts ++ text ∷ []))

    -- ## Where nothing is named

    tape-keeps : (output : Option (String Global)) → output ≡ None → (tape : List ℕ) → KeepsFiles (WritesTape output tape)
    tape-keeps None is tape old result new p path = prints tape old result new p path
    tape-keeps (Some name) is tape old result new p path = absurd (given is)

    lists-keeps : (volume : Option (List ℕ)) (form : AssembleForm) → form.list ≡ None → KeepsFiles (ListsTape volume form)
    lists-keeps volume form is = then-keeps (ReadsEach volume [] (map (λ name. name.bytes.items) form.sources.items)) (λ texts. Then (Makes form (map (λ text. text.items) texts.items)) (λ made. Then (KeepsInputs form) (λ it. Then (WritesListing form.list made.listing) (λ it. Purely (IsTapeOf made)))))
        (each-keeps volume (map (λ name. name.bytes.items) form.sources.items) [])
        (λ texts. then-keeps (Makes form (map (λ text. text.items) texts.items)) (λ made. Then (KeepsInputs form) (λ it. Then (WritesListing form.list made.listing) (λ it. Purely (IsTapeOf made))))
        (makes-keeps form (map (λ text. text.items) texts.items))
        (λ made. then-keeps (KeepsInputs form) (λ it. Then (WritesListing form.list made.listing) (λ it. Purely (IsTapeOf made))) (inputs-keep form)
        (λ it. then-keeps (WritesListing form.list made.listing) (λ it. Purely (IsTapeOf made)) (listing-keeps form.list is made.listing) (λ it. purely-keeps (IsTapeOf made)))))

    to-keeps : (volume : Option (List ℕ)) (form : AssembleForm) → form.output ≡ None → form.list ≡ None → KeepsFiles (AssemblesTo volume form)
    to-keeps volume form unnamed is = then-keeps (ListsTape volume form) (λ tape. WritesTape form.output tape.items) (lists-keeps volume form is) (λ tape. tape-keeps form.output unnamed tape.items)

    from-keeps : (form : AssembleForm) (image : ImageForm) (onto : Option (String Global)) → onto ≡ None → form.output ≡ None → form.list ≡ None → KeepsFiles (AssemblesFrom form image onto)
    from-keeps form image None none unnamed is old result new p path =
        then-keeps (LooksAt image) (λ bytes. AssemblesTo (Some bytes.items) form) (looks-at image) (λ bytes. to-keeps (Some bytes.items) form unnamed is) old result new p path
    from-keeps form image (Some name) none unnamed is old result new p path = absurd (given none)

    all-keeps : (form : AssembleForm) (from : Option ImageForm) → form.onto ≡ None → form.output ≡ None → form.list ≡ None → KeepsFiles (AssemblesAll form from)
    all-keeps form None none unnamed is old result new p path = to-keeps None form unnamed is old result new p path
    all-keeps form (Some image) none unnamed is old result new p path = from-keeps form image form.onto none unnamed is old result new p path

    pub assembles-keeps : (form : AssembleForm) → form.onto ≡ None → form.output ≡ None → form.list ≡ None → KeepsFiles (Assembles form)
    assembles-keeps form none unnamed is = then-keeps (RefusesClash form) (λ it. AssemblesAll form form.from) (clash-keeps form) (λ it. all-keeps form form.from none unnamed is)

    -- ## Where the command is refused

    lists-refused : (volume : Option (List ℕ)) (form : AssembleForm) (old : List Event) (ending : Ending) (new : List Event) → ListsTape volume form old (Err ending) new → is_refusal ending ≡ true → (path : List ℕ) → changes_at path new ≡ changes_at path old
    lists-refused volume form old ending new (inl p) is path = each-keeps volume (map (λ name. name.bytes.items) form.sources.items) [] old (Err ending) new p path
    lists-refused volume form old ending new (inr it) is path = made-refused form it.given.items it.between ending new it.after is path ∙ each-keeps volume (map (λ name. name.bytes.items) form.sources.items) [] old (Ok it.given) it.between it.done path

    to-refused : (volume : Option (List ℕ)) (form : AssembleForm) (old : List Event) (ending : Ending) (new : List Event) → AssemblesTo volume form old (Err ending) new → is_refusal ending ≡ true → (path : List ℕ) → changes_at path new ≡ changes_at path old
    to-refused volume form old ending new (inl p) is path = lists-refused volume form old ending new p is path
    to-refused volume form old ending new (inr it) is path = absurd (tape-never form.output it.given.items it.between ending new it.after is)

    onto-refused : (form : AssembleForm) (held : Image) (name : List ℕ) (old : List Event) (ending : Ending) (new : List Event) → Then (ListsTape (Some held.bytes.items) form) (λ tape. PutsTape name tape.items held) old (Err ending) new → is_refusal ending ≡ true → (path : List ℕ) → changes_at path new ≡ changes_at path old
    onto-refused form held name old ending new (inl p) is path = lists-refused (Some held.bytes.items) form old ending new p is path
    onto-refused form held name old ending new (inr it) is path = absurd (puts-never name it.given.items held it.between ending new it.after is)

    from-refused : (form : AssembleForm) (image : ImageForm) (onto : Option (String Global)) (old : List Event) (ending : Ending) (new : List Event) → AssemblesFrom form image onto old (Err ending) new → is_refusal ending ≡ true → (path : List ℕ) → changes_at path new ≡ changes_at path old
    from-refused form image None old ending new (inl p) is path = looks-at image old (Err ending) new p path
    from-refused form image None old ending new (inr it) is path = to-refused (Some it.given.items) form it.between ending new it.after is path ∙ looks-at image old (Ok it.given) it.between it.done path
    from-refused form image (Some name) old ending new (inl p) is path = opens image old (Err ending) new p path
    from-refused form image (Some name) old ending new (inr it) is path = onto-refused form it.given name.bytes.items it.between ending new it.after is path ∙ opens image old (Ok it.given) it.between it.done path

    all-refused : (form : AssembleForm) (from : Option ImageForm) (old : List Event) (ending : Ending) (new : List Event) → AssemblesAll form from old (Err ending) new → is_refusal ending ≡ true → (path : List ℕ) → changes_at path new ≡ changes_at path old
    all-refused form None old ending new p is path = to-refused None form old ending new p is path
    all-refused form (Some image) old ending new p is path = from-refused form image form.onto old ending new p is path

    pub assembles-refused : (form : AssembleForm) (old : List Event) (ending : Ending) (new : List Event) → is_refusal ending ≡ true → Assembles form old (Err ending) new → (path : List ℕ) → changes_at path new ≡ changes_at path old
    assembles-refused form old ending new is (inl p) path = clash-keeps form old (Err ending) new p path
    assembles-refused form old ending new is (inr it) path = all-refused form form.from it.between ending new it.after is path ∙ clash-keeps form old (Ok it.given) it.between it.done path
