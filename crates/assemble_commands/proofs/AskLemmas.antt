-- No file is changed before the host has said that no output is an input. What is known of the steps of image_files is handed in.
use Rattle.std.proofs.Common.{◌≡◌, ◌∙◌, ◌⊎◌, ℕ, Bool, true, false, Option, None, Some, Result, Ok, Err, List, [], ◌∷◌, ap, refl, sym, subst, inl, inr, length, map}
use Rattle.std.specs.Global.{Vec, Global}
use Rattle.std.specs.Prelude.{String}
use Rattle.std.specs.Str.{bytes_eq}
use Rattle.hosts.specs.Event.{Event, same_call}
use Rattle.hosts.specs.Streams.{read, changes_at}
use Rattle.archive_files.specs.declared.forms.PutForm.TheVariants.{Frames}
use Rattle.archive_files.specs.Putting.{PutsFile}
use Rattle.archive_files.specs.declared.faults.ArchiveFault.{ArchiveFault}
use Rattle.archive_files.specs.declared.putting.NewImage.{NewImage}
use Rattle.outcome.specs.declared.contents.Content.{Content}
use Rattle.outcome.specs.declared.contents.Content.TheVariants.{Image as ForImage, Tape, Listing}
use Rattle.outcome.specs.declared.endings.Ending.{Ending}
use Rattle.outcome.specs.declared.endings.Ending.TheVariants.{Line, Fault, Failure, Busy, NotWritten, FullOutput, Unreported, NoReader, Misuse}
use Rattle.outcome.specs.Hints.{image_note}
use Rattle.outcome.specs.declared.hints.ImageNote.{ImageNote}
use Rattle.hosts.specs.declared.faults.Unwritten.TheVariants.{AsItWas, InPart}
use Rattle.program_tasks.specs.declared.forms.ImageForm.{ImageForm}
use Rattle.program_tasks.specs.declared.tasks.AssembleForm.{AssembleForm}
use Rattle.image_files.specs.Answers.{Answers, AreLines, Refuses}
use Rattle.image_files.specs.Inputs.{TakesInput}
use Rattle.image_files.specs.Laws.{KeepsFiles}
use Rattle.image_files.specs.Making.{MakesBy, MakesFile, ending_of_file}
use Rattle.image_files.specs.Notes.{TellsOfImage}
use Rattle.image_files.specs.Places.{IsApart, IsSaidApart}
use Rattle.image_files.specs.Reading.{Looks, LooksAt, Opens, hold_calls, with_lock_note}
use Rattle.image_files.specs.Reasons.{TellsReason, TellsUnheld, TellsUnless, is_untold}
use Rattle.image_files.specs.Saving.{Prints, Reports, SavesIf, Stores, TellsCannot, Writes, WritesIf as SavesKept}
use Rattle.image_kind.specs.Keeping.{keeps_kind}
use Rattle.image_kind.specs.declared.judging.Judgment.{Judgment}
use Rattle.outcome.specs.declared.reasons.Reason.{Reason}
use Rattle.outcome.specs.declared.reasons.Reason.TheVariants as reason
use Rattle.image_files.specs.Stored.{stored_line}
use Rattle.image_files.specs.Work.{Then, Purely}
use Rattle.image_files.specs.declared.images.Image.{Image}
use Rattle.assemble_commands.specs.Assembling.{Assembles, AssemblesAll, AssemblesFrom, AssemblesTo, IsTapeOf, ListsTape, Makes}
use Rattle.assemble_commands.specs.Clashes.{RefusesClash}
use Rattle.assemble_commands.specs.Laws.{AreOutputsApart, AreSaidApart, AreTwo, KeepsOrAsks, KeepsRead, KeepsReadIf, listing_of}
use Rattle.assemble_commands.specs.Outputs.{PutsTape, WritesIf, WritesListing, WritesTape}
use Rattle.assemble_commands.specs.Places.{AreApart, IsApartFromInputs, IsApartFromListing, KeepsInputs, KeepsListing, KeepsTape, input_place, output_place, tape_of}
use Rattle.assemble_commands.specs.Sources.{ReadsEach, is_standard}
use Rattle.assemble_commands.specs.declared.assembling.Assembled.{Assembled}
use Rattle.assemble_commands.proofs.KeepLemmas.{clash-keeps, each-keeps, inputs-keep, makes-keeps}

-- ## What writes reads nothing, and asks nothing

abbrev Writing : {A : Type 0} → (List Event → Result A Ending → List Event → Type 0) → Type 0
Writing {A} step = (old : List Event) (result : Result A Ending) (new : List Event) → step old result new → read new ≡ read old

still : {old new : List Event} → new ≡ old → read new ≡ read old
still is = ap (λ (events : List Event). read events) is

then-writes : {A B : Type 0} (first : List Event → Result A Ending → List Event → Type 0) (next : A → List Event → Result B Ending → List Event → Type 0) → Writing first → ((given : A) → Writing (next given)) → Writing (Then first next)
then-writes first next f n old (Ok r) new (inl ends) = absurd ends
then-writes first next f n old (Err e) new (inl ends) = f old (Err e) new ends
then-writes first next f n old result new (inr it) = n it.given it.between result new it.after ∙ f old (Ok it.given) it.between it.done

purely-writes : {A : Type 0} (gives : Result A Ending → Type 0) → Writing (Purely gives)
purely-writes gives old result new p = still p.1

prints-writes : (bytes : List ℕ) → Writing (Prints bytes)
prints-writes bytes old (Ok it) new p = still p
prints-writes bytes old (Err (Line it)) new p = absurd p
prints-writes bytes old (Err (Fault it)) new p = absurd p
prints-writes bytes old (Err Failure) new p = absurd p
prints-writes bytes old (Err (Busy it)) new p = absurd p
prints-writes bytes old (Err (NotWritten it left)) new p = absurd p
prints-writes bytes old (Err FullOutput) new p = still p
prints-writes bytes old (Err NoReader) new p = still p
prints-writes bytes old (Err Unreported) new p = absurd p
prints-writes bytes old (Err Misuse) new p = absurd p

reports-writes : (lines : List ℕ) → Writing (Reports lines)
reports-writes lines old (Ok it) new p = still p
reports-writes lines old (Err (Line it)) new p = absurd p
reports-writes lines old (Err (Fault it)) new p = absurd p
reports-writes lines old (Err Failure) new p = absurd p
reports-writes lines old (Err (Busy it)) new p = absurd p
reports-writes lines old (Err (NotWritten it left)) new p = absurd p
reports-writes lines old (Err FullOutput) new p = absurd p
reports-writes lines old (Err Unreported) new p = still p
reports-writes lines old (Err NoReader) new p = still p
reports-writes lines old (Err Misuse) new p = absurd p

reason-writes : (why : Reason) (name : List ℕ) (old new : List Event) → TellsReason why name old new → read new ≡ read old
reason-writes why name old new (text, ok, says, p) = still p

unless-writes : (is : Bool) (why : Reason) (name : List ℕ) (old new : List Event) → TellsUnless is why name old new → read new ≡ read old
unless-writes true why name old new p = still p
unless-writes false why name old new p = reason-writes why name old new p

writes-writes : (content : Content) (path name file : List ℕ) → Writing (Writes content path name file)
writes-writes content path name file old (Ok it) new p = p.only.reads
writes-writes content path name file old (Err (Line it)) new p = absurd p
writes-writes content path name file old (Err (Fault it)) new p = absurd p
writes-writes content path name file old (Err Failure) new p = absurd p
writes-writes content path name file old (Err (Busy it)) new p = absurd p
writes-writes content path name file old (Err (NotWritten it AsItWas)) new (is, fault, between, unsaved, tells) = reason-writes (reason.Fault fault) name between new tells ∙ unsaved.only.reads
writes-writes content path name file old (Err (NotWritten it InPart)) new (is, fault, between, in_part, tells) = reason-writes (reason.Fault fault) name between new tells ∙ in_part.only.reads
writes-writes content path name file old (Err FullOutput) new p = absurd p
writes-writes content path name file old (Err Unreported) new p = absurd p
writes-writes content path name file old (Err NoReader) new p = absurd p
writes-writes content path name file old (Err Misuse) new p = absurd p

by-writes : (content : Content) (name file : List ℕ) → Writing (MakesBy content (ending_of_file content) (TellsUnheld content) name file)
by-writes content name file old (Ok it) new p = p.only.reads
by-writes content name file old (Err ending) new (fault, between, ends, unmade, tells) = unless-writes (is_untold content fault) (reason.Fault fault) name between new tells ∙ unmade.only.reads

held : (content : Content) (has ok : Bool) (name path : List ℕ) (old : List Event) → read (with_lock_note content has ok (hold_calls name path has old)) ≡ read old
held content true ok name path old = refl
held content false ok name path old = refl

file-writes : (content : Content) (name file : List ℕ) → Writing (MakesFile content name file)
file-writes content name file old result new (inl (path, has, ok, p)) = writes-writes content path name file (with_lock_note content has ok (hold_calls name path has old)) result new p ∙ held content has ok name path old
file-writes content name file old result new (inr (inl (between, idle, failed, absent, p))) = by-writes content name file between result new p ∙ idle.reads
file-writes content name file old result new (inr (inr (fault, between, unheld, idle, failed, why, tells))) = unless-writes (is_untold content fault) (reason.Fault fault) name between new tells ∙ idle.reads

if-writes : (is : Bool) (content : Content) (name bytes : List ℕ) → Writing (WritesIf is content name bytes)
if-writes true content name bytes old result new p = prints-writes bytes old result new p
if-writes false content name bytes old result new p = file-writes content name bytes old result new p

listing-writes : (list : Option (String Global)) (listing : Option (Vec ℕ)) → Writing (WritesListing list listing)
listing-writes None listing old result new p = still p.1
listing-writes (Some name) None old result new p = still p.1
listing-writes (Some name) (Some listing) old result new p = if-writes (is_standard name.bytes.items) Listing name.bytes.items listing.items old result new p

tape-writes : (output : Option (String Global)) (tape : List ℕ) → Writing (WritesTape output tape)
tape-writes None tape old result new p = prints-writes tape old result new p
tape-writes (Some name) tape old result new p = if-writes (is_standard name.bytes.items) Tape name.bytes.items tape old result new p

cannot-writes : (image : Image) (bytes : List ℕ) (old new : List Event) → TellsCannot image bytes old new → read new ≡ read old
cannot-writes image bytes old new (inl (held, tells)) = reason-writes (reason.Fault image.place.why) image.place.name.bytes.items old new tells
cannot-writes image bytes old new (inr (cannot, tells)) = reason-writes reason.NoRoom image.place.name.bytes.items old new tells

kept-writes : (keeps : Bool) (judgment : Judgment) (path name file : List ℕ) → Writing (SavesKept keeps judgment path name file)
kept-writes true judgment path name file old result new p = writes-writes ForImage path name file old result new p
kept-writes false judgment path name file old (Ok it) new p = absurd p
kept-writes false judgment path name file old (Err ending) new (ends, ok, p) = still p

saves-writes : (is_same : Bool) (image : Image) (bytes : List ℕ) → Writing (SavesIf is_same image bytes)
saves-writes true image bytes old result new (done, stays) = still stays
saves-writes false image bytes old result new (inl (refused, cannot)) = cannot-writes image bytes old new cannot
saves-writes false image bytes old result new (inr (is_held, file, laid, p)) =
    kept-writes (keeps_kind image.judgment file) image.judgment image.place.path.bytes.items image.place.name.bytes.items file old result new p

stores-write : (image : Image) (bytes lines : List ℕ) → Writing (Stores image bytes lines)
stores-write image bytes lines = then-writes (SavesIf (bytes_eq image.bytes.items bytes) image bytes) (λ it. Reports lines) (saves-writes (bytes_eq image.bytes.items bytes) image bytes) (λ it. reports-writes lines)

of-image : (note : Option ImageNote) (old new : List Event) → TellsOfImage note old new → read new ≡ read old
of-image None old new p = still p
of-image (Some note) old new (ok, p) = still p

answers-write : {A : Type 0} (gives : Result A ArchiveFault → Type 0) (size : ℕ) → Writing (Answers gives size)
answers-write gives size old (Ok it) new p = still p.1
answers-write gives size old (Err ending) new (fault, gave, p) = of-image (image_note size fault) old new p.1

puts-write : (name tape : List ℕ) (image : Image) → Writing (PutsTape name tape image)
puts-write name tape image =
    then-writes (Answers (PutsFile image.bytes.items name Frames tape None) (length image.bytes.items)) (λ made. Then (Purely (AreLines (stored_line made))) (λ line. Stores image made.bytes.items line.items))
    (answers-write (PutsFile image.bytes.items name Frames tape None) (length image.bytes.items))
    (λ made. then-writes (Purely (AreLines (stored_line made))) (λ line. Stores image made.bytes.items line.items) (purely-writes (AreLines (stored_line made))) (λ line. stores-write image made.bytes.items line.items))

-- ## What was said stays said

abbrev Grows : List Event → List Event → Type 0
Grows old new = (output input : List ℕ) → IsSaidApart output input (read old) → IsSaidApart output input (read new)

said : (output input : List ℕ) (old new : List Event) → new ≡ same_call output input false ∷ old → IsSaidApart output input (read new)
said output input old new is = subst (λ (events : List Event). IsSaidApart output input (read events)) (sym is) (inl refl)

same-grows : (old new : List Event) → new ≡ old → Grows old new
same-grows old new is one other p = subst (λ (events : List Event). IsSaidApart one other (read events)) (sym is) p

apart-grows : (content : Content) (output input : List ℕ) (old new : List Event) → IsApart content output input old (Ok tt) new → Grows old new
apart-grows content output input old new is one other p = subst (λ (events : List Event). IsSaidApart one other (read events)) (sym is) (inr p)

each-grows : (content : Content) (output : List ℕ) (inputs : List (List ℕ)) (old new : List Event) → AreApart content output inputs old (Ok tt) new → Grows old new
each-grows content output [] old new p = same-grows old new p.1
each-grows content output (input ∷ inputs) old new (inl ends) = absurd ends
each-grows content output (input ∷ inputs) old new (inr it) =
    λ one other q. each-grows content output inputs it.between new it.after one other (apart-grows content output (input_place input) old it.between it.done one other q)

inputs-grow : (content : Content) (output : List ℕ) (form : AssembleForm) (from : Option ImageForm) (old new : List Event) → IsApartFromInputs content output form from old (Ok tt) new → Grows old new
inputs-grow content output form None old new p = each-grows content output (map (λ name. name.bytes.items) form.sources.items) old new p
inputs-grow content output form (Some image) old new p = apart-grows content output image.file.bytes.items old new p

from-listing-grows : (tape : List ℕ) (list : Option (String Global)) (old new : List Event) → IsApartFromListing tape list old (Ok tt) new → Grows old new
from-listing-grows tape None old new p = same-grows old new p.1
from-listing-grows tape (Some name) old new p = apart-grows Tape tape (output_place name.bytes.items) old new p

tape-grows : (form : AssembleForm) (tape : Option (List ℕ)) (old new : List Event) → KeepsTape form tape old (Ok tt) new → Grows old new
tape-grows form None old new p = same-grows old new p.1
tape-grows form (Some tape) old new (inl ends) = absurd ends
tape-grows form (Some tape) old new (inr it) =
    λ one other q. from-listing-grows tape form.list it.between new it.after one other (inputs-grow Tape tape form form.from old it.between it.done one other q)

-- ## What is said

all-grow : (output : List ℕ) (inputs : List (List ℕ)) (old new : List Event) → Grows old new → AreSaidApart output inputs (read old) → AreSaidApart output inputs (read new)
all-grow output [] old new grows p = tt
all-grow output (input ∷ inputs) old new grows (p, q) = (grows output (input_place input) p, all-grow output inputs old new grows q)

read-grows : (form : AssembleForm) (from : Option ImageForm) (output : List ℕ) (old new : List Event) → Grows old new → KeepsRead form from output (read old) → KeepsRead form from output (read new)
read-grows form None output old new grows p = all-grow output (map (λ name. name.bytes.items) form.sources.items) old new grows p
read-grows form (Some image) output old new grows p = grows output image.file.bytes.items p

read-if-grows : (form : AssembleForm) (output : Option (List ℕ)) (old new : List Event) → Grows old new → KeepsReadIf form output (read old) → KeepsReadIf form output (read new)
read-if-grows form None old new grows p = tt
read-if-grows form (Some output) old new grows p = read-grows form form.from output old new grows p

each-said : (content : Content) (output : List ℕ) (inputs : List (List ℕ)) (old new : List Event) → AreApart content output inputs old (Ok tt) new → AreSaidApart output inputs (read new)
each-said content output [] old new p = tt
each-said content output (input ∷ inputs) old new (inl ends) = absurd ends
each-said content output (input ∷ inputs) old new (inr it) =
    (each-grows content output inputs it.between new it.after output (input_place input) (said output (input_place input) old it.between it.done), each-said content output inputs it.between new it.after)

inputs-said : (content : Content) (output : List ℕ) (form : AssembleForm) (from : Option ImageForm) (old new : List Event) → IsApartFromInputs content output form from old (Ok tt) new → KeepsRead form from output (read new)
inputs-said content output form None old new p = each-said content output (map (λ name. name.bytes.items) form.sources.items) old new p
inputs-said content output form (Some image) old new p = said output image.file.bytes.items old new p

listing-said : (form : AssembleForm) (list : Option (String Global)) (old new : List Event) → KeepsListing form list old (Ok tt) new → KeepsReadIf form (listing_of list) (read new)
listing-said form None old new p = tt
listing-said form (Some name) old new p = inputs-said Listing (output_place name.bytes.items) form form.from old new p

two-said : (tape : List ℕ) (list : Option (String Global)) (old new : List Event) → IsApartFromListing tape list old (Ok tt) new → AreTwo (Some tape) (listing_of list) (read new)
two-said tape None old new p = tt
two-said tape (Some name) old new p = said tape (output_place name.bytes.items) old new p

tape-said : (form : AssembleForm) (tape : Option (List ℕ)) (old new : List Event) → KeepsTape form tape old (Ok tt) new → KeepsReadIf form tape (read new) × AreTwo tape (listing_of form.list) (read new)
tape-said form None old new p = (tt, tt)
tape-said form (Some tape) old new (inl ends) = absurd ends
tape-said form (Some tape) old new (inr it) =
    (read-grows form form.from tape it.between new (from-listing-grows tape form.list it.between new it.after) (inputs-said Tape tape form form.from old it.between it.done), two-said tape form.list it.between new it.after)

inputs-kept : (form : AssembleForm) (old new : List Event) → KeepsInputs form old (Ok tt) new → AreOutputsApart form (read new)
inputs-kept form old new (inl ends) = absurd ends
inputs-kept form old new (inr it) = record {
  listing = read-if-grows form (listing_of form.list) it.between new (tape-grows form (tape_of form.onto form.output) it.between new it.after) (listing-said form form.list old it.between it.done);
  tape = (tape-said form (tape_of form.onto form.output) it.between new it.after).0;
  two = (tape-said form (tape_of form.onto form.output) it.between new it.after).1;
}

-- ## The steps of the command

-- where a step goes on the host has said so
abbrev Asks : {A : Type 0} → AssembleForm → (List Event → Result A Ending → List Event → Type 0) → Type 0
Asks {A} form step = (old : List Event) (given : A) (new : List Event) → step old (Ok given) new → AreOutputsApart form (read new)

later : (form : AssembleForm) (old new : List Event) → read new ≡ read old → AreOutputsApart form (read old) → AreOutputsApart form (read new)
later form old new is p = subst (λ events. AreOutputsApart form events) (sym is) p

shift : (form : AssembleForm) (path : List ℕ) (old between new : List Event) → changes_at path between ≡ changes_at path old → (changes_at path new ≡ changes_at path between) ⊎ AreOutputsApart form (read new) → (changes_at path new ≡ changes_at path old) ⊎ AreOutputsApart form (read new)
shift form path old between new start (inl is) = inl (is ∙ start)
shift form path old between new start (inr apart) = inr apart

-- a step that changes nothing, and then one before which the host is asked
then-asked : {A B : Type 0} (form : AssembleForm) (first : List Event → Result A Ending → List Event → Type 0) (next : A → List Event → Result B Ending → List Event → Type 0)
    → KeepsFiles first → ((given : A) → KeepsOrAsks form (next given)) → KeepsOrAsks form (Then first next)
then-asked form first next f n old (Ok r) new (inl ends) path = absurd ends
then-asked form first next f n old (Err e) new (inl ends) path = inl (f old (Err e) new ends path)
then-asked form first next f n old result new (inr it) path = shift form path old it.between new (f old (Ok it.given) it.between it.done path) (n it.given it.between result new it.after path)

then-asks : {A B : Type 0} (form : AssembleForm) (first : List Event → Result A Ending → List Event → Type 0) (next : A → List Event → Result B Ending → List Event → Type 0)
    → ((given : A) → Asks form (next given)) → Asks form (Then first next)
then-asks form first next n old given new (inl ends) = absurd ends
then-asks form first next n old given new (inr it) = n it.given it.between given new it.after

-- a step that asks, and then one that writes
first-asked : {A B : Type 0} (form : AssembleForm) (first : List Event → Result A Ending → List Event → Type 0) (next : A → List Event → Result B Ending → List Event → Type 0)
    → Asks form first → KeepsOrAsks form first → ((given : A) → Writing (next given)) → KeepsOrAsks form (Then first next)
first-asked form first next a f w old (Ok r) new (inl ends) path = absurd ends
first-asked form first next a f w old (Err e) new (inl ends) path = f old (Err e) new ends path
first-asked form first next a f w old result new (inr it) path = inr (later form it.between new (w it.given it.between result new it.after) (a old it.given it.between it.done))

-- ## The command

abbrev Lists : AssembleForm → Assembled → List Event → Result (Vec ℕ) Ending → List Event → Type 0
Lists form made = Then (WritesListing form.list made.listing) (λ it. Purely (IsTapeOf made))

lists-write : (form : AssembleForm) (made : Assembled) → Writing (Lists form made)
lists-write form made = then-writes (WritesListing form.list made.listing) (λ it. Purely (IsTapeOf made)) (listing-writes form.list made.listing) (λ it. purely-writes (IsTapeOf made))

asked-keeps : (form : AssembleForm) → KeepsOrAsks form (KeepsInputs form)
asked-keeps form old result new p path = inl (inputs-keep form old result new p path)

asked-asks : (form : AssembleForm) → Asks form (KeepsInputs form)
asked-asks form old given new p = inputs-kept form old new p

made-asked : (form : AssembleForm) (made : Assembled) → KeepsOrAsks form (Then (KeepsInputs form) (λ it. Lists form made))
made-asked form made = first-asked form (KeepsInputs form) (λ it. Lists form made) (asked-asks form) (asked-keeps form) (λ it. lists-write form made)

made-asks : (form : AssembleForm) (made : Assembled) → Asks form (Then (KeepsInputs form) (λ it. Lists form made))
made-asks form made old given new (inl ends) = absurd ends
made-asks form made old given new (inr it) = later form it.between new (lists-write form made it.between (Ok given) new it.after) (inputs-kept form old it.between it.done)

abbrev texts_of : List (Vec ℕ) → List (List ℕ)
texts_of texts = map (λ text. text.items) texts

abbrev names_of : AssembleForm → List (List ℕ)
names_of form = map (λ name. name.bytes.items) form.sources.items

lists-ask : (volume : Option (List ℕ)) (form : AssembleForm) → Asks form (ListsTape volume form)
lists-ask volume form =
    then-asks form (ReadsEach volume [] (names_of form)) (λ texts. Then (Makes form (texts_of texts.items)) (λ made. Then (KeepsInputs form) (λ it. Lists form made)))
    (λ texts. then-asks form (Makes form (texts_of texts.items)) (λ made. Then (KeepsInputs form) (λ it. Lists form made)) (λ made. made-asks form made))

module _
    (looks : (name shown : List ℕ) → KeepsFiles (Looks name shown))
    (looks-at : (form : ImageForm) → KeepsFiles (LooksAt form))
    (opens : (form : ImageForm) → KeepsFiles (Opens form))
    (input : KeepsFiles TakesInput)
    (prints : (bytes : List ℕ) → KeepsFiles (Prints bytes))
    (refuses : (fault : ArchiveFault) (size : ℕ) (old : List Event) (ending : Ending) (new : List Event) → Refuses fault size old ending new → (path : List ℕ) → changes_at path new ≡ changes_at path old)
  where
    lists-asked : (volume : Option (List ℕ)) (form : AssembleForm) → KeepsOrAsks form (ListsTape volume form)
    lists-asked volume form =
        then-asked form (ReadsEach volume [] (names_of form)) (λ texts. Then (Makes form (texts_of texts.items)) (λ made. Then (KeepsInputs form) (λ it. Lists form made)))
        (each-keeps looks looks-at opens input prints refuses volume (names_of form) [])
        (λ texts. then-asked form (Makes form (texts_of texts.items)) (λ made. Then (KeepsInputs form) (λ it. Lists form made)) (makes-keeps form (texts_of texts.items)) (λ made. made-asked form made))

    to-asked : (volume : Option (List ℕ)) (form : AssembleForm) → KeepsOrAsks form (AssemblesTo volume form)
    to-asked volume form = first-asked form (ListsTape volume form) (λ tape. WritesTape form.output tape.items) (lists-ask volume form) (lists-asked volume form) (λ tape. tape-writes form.output tape.items)

    onto-asked : (form : AssembleForm) (held : Image) (name : List ℕ) → KeepsOrAsks form (Then (ListsTape (Some held.bytes.items) form) (λ tape. PutsTape name tape.items held))
    onto-asked form held name = first-asked form (ListsTape (Some held.bytes.items) form) (λ tape. PutsTape name tape.items held) (lists-ask (Some held.bytes.items) form) (lists-asked (Some held.bytes.items) form) (λ tape. puts-write name tape.items held)

    from-asked : (form : AssembleForm) (image : ImageForm) (onto : Option (String Global)) → KeepsOrAsks form (AssemblesFrom form image onto)
    from-asked form image None old result new p path =
        then-asked form (LooksAt image) (λ bytes. AssemblesTo (Some bytes.items) form) (looks-at image) (λ bytes. to-asked (Some bytes.items) form) old result new p path
    from-asked form image (Some name) old result new p path =
        then-asked form (Opens image) (λ held. Then (ListsTape (Some held.bytes.items) form) (λ tape. PutsTape name.bytes.items tape.items held)) (opens image)
        (λ held. onto-asked form held name.bytes.items) old result new p path

    all-asked : (form : AssembleForm) (from : Option ImageForm) → KeepsOrAsks form (AssemblesAll form from)
    all-asked form None old result new p path = to-asked None form old result new p path
    all-asked form (Some image) old result new p path = from-asked form image form.onto old result new p path

    pub assembles-asked : (form : AssembleForm) → KeepsOrAsks form (Assembles form)
    assembles-asked form = then-asked form (RefusesClash form) (λ it. AssemblesAll form form.from) (clash-keeps form) (λ it. all-asked form form.from)
