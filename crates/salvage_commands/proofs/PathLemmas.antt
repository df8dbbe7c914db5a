-- The command that writes pieces to files changes their paths alone.
use Rattle.std.proofs.Common.{◌≡◌, ◌≢◌, ◌∙◌, ◌∷◌, ◌++◌, ℕ, Bool, true, false, codes, Option, None, Some, Result, Ok, Err, List, [], ap, inl, inr, length, refl, sym}
use Rattle.std.specs.Global.{Vec}
use Rattle.std.specs.Str.{bytes_eq}
use Rattle.std.proofs.lemmas.Slice.Eq.{bytes_eq-Decides}
use Rattle.hosts.specs.Event.{Event, Look, MakeFolder, failed_call}
use Rattle.hosts.specs.Place.{about}
use Rattle.hosts.specs.Streams.{changes_at}
use Rattle.image_kind.specs.declared.kinds.ImageKind.{ImageKind}
use Rattle.image_kind.specs.Keeping.{two_readings}
use Rattle.image_kind.specs.Margins.{body_of}
use Rattle.image_kind.specs.Volumes.{volumes_in}
use Rattle.image_kind.specs.declared.volumes.Volumes.{Volumes}
use Rattle.image_kind.specs.declared.volumes.Volumes.TheVariants.{One, Both}
use Rattle.outcome.specs.Hints.{image_note}
use Rattle.outcome.specs.declared.endings.Ending.{Ending}
use Rattle.outcome.specs.declared.endings.Ending.TheVariants.{Line, Fault, Failure, Busy, NotWritten, FullOutput, Unreported, NoReader, Misuse}
use Rattle.outcome.specs.declared.hints.ImageNote.{ImageNote}
use Rattle.archive_files.specs.declared.faults.ArchiveFault.{ArchiveFault}
use Rattle.archive_many.specs.declared.faults.BlocksFault.{BlocksFault}
use Rattle.archive_many.specs.declared.faults.BlocksFault.TheVariants.{Archive, NoBlocks}
use Rattle.program_tasks.specs.declared.forms.ImageForm.{ImageForm}
use Rattle.image_files.specs.Answers.{Answers, AreLines, Refuses}
use Rattle.image_files.specs.Notes.{TellsOfImage}
use Rattle.disk_layouts.specs.declared.layouts.Layout.{Layout}
use Rattle.image_kind.specs.Lines.{mended_lines}
use Rattle.image_files.specs.Judging.{Judges, JudgesBy}
use Rattle.image_files.specs.Mending.{Mends, TellsLines}
use Rattle.image_files.specs.Reasons.{is_want_of_memory, reason_of_first}
use Rattle.image_files.proofs.KeepLemmas.{of-both, of-file}
use Rattle.image_files.proofs.ReasonLemmas.{unless-keeps}
use Rattle.outcome.specs.declared.reasons.Reason.TheVariants as reason
use Rattle.image_files.specs.Reading.{IsUnread, FindsIn, FindsOne, Looks, LooksAt, LooksIf, LooksImage, reading_of, IsJudged, JudgesLooked}
use Rattle.image_files.specs.Saving.{Prints}
use Rattle.image_files.specs.Answers.{RefusesBlocks}
use Rattle.image_files.specs.Work.{Then, Purely}
use Rattle.image_files.specs.declared.mending.ImageReading.{ImageReading}
use Rattle.volume_salvage.specs.Scanning.{Scans, piece_line, piece_name}
use Rattle.volume_salvage.specs.declared.pieces.Piece.{Piece}
use Rattle.volume_salvage.specs.declared.scans.Scan.{Scan}
use Rattle.salvage_commands.specs.Laws.{ChangesPiecesAlone, IsOfNone}
use Rattle.salvage_commands.specs.ScanningBlocks.{GivesPiece, IsPath, LaysFirst, MakesFolder, WritesAll, WritesEach, WritesPiece}

-- a step leaves a path as it was, and makes no folder
abbrev pub Stays : {A : Type 0} → List ℕ → (List Event → Result A Ending → List Event → Type 0) → Type 0
Stays {A} path step = (old : List Event) (result : Result A Ending) (new : List Event) → step old result new → changes_at path new ≡ changes_at path old

same : {old new : List Event} (path : List ℕ) → new ≡ old → changes_at path new ≡ changes_at path old
same path is = ap (λ (events : List Event). changes_at path events) is

pub then-stays : {A B : Type 0} (path : List ℕ) (first : List Event → Result A Ending → List Event → Type 0) (next : A → List Event → Result B Ending → List Event → Type 0)
    → Stays path first → ((a : A) (old between : List Event) → first old (Ok a) between → (result : Result B Ending) (new : List Event) → next a between result new → changes_at path new ≡ changes_at path between)
    → Stays path (Then first next)
then-stays path first next f n old (Ok r) new (inl ends) = absurd ends
then-stays path first next f n old (Err e) new (inl ends) = f old (Err e) new ends
then-stays path first next f n old result new (inr it) = n it.given old it.between it.done result new it.after ∙ f old (Ok it.given) it.between it.done

pub purely-stays : {A : Type 0} (path : List ℕ) (gives : Result A Ending → Type 0) → Stays path (Purely gives)
purely-stays path gives old result new p = same path p.1

-- ## What is printed

pub prints-stays : (path bytes : List ℕ) → Stays path (Prints bytes)
prints-stays path bytes old (Ok it) new p = same path p
prints-stays path bytes old (Err (Line it)) new p = absurd p
prints-stays path bytes old (Err (Fault it)) new p = absurd p
prints-stays path bytes old (Err Failure) new p = absurd p
prints-stays path bytes old (Err (Busy it)) new p = absurd p
prints-stays path bytes old (Err (NotWritten it left)) new p = absurd p
prints-stays path bytes old (Err FullOutput) new p = same path p
prints-stays path bytes old (Err Unreported) new p = absurd p
prints-stays path bytes old (Err NoReader) new p = same path p
prints-stays path bytes old (Err Misuse) new p = absurd p

tells-stays : (path : List ℕ) (note : Option ImageNote) (old new : List Event) → TellsOfImage note old new → changes_at path new ≡ changes_at path old
tells-stays path None old new p = same path p
tells-stays path (Some note) old new p = same path p.1

refuses-stays : (path : List ℕ) (why : ArchiveFault) (size : ℕ) (old : List Event) (ending : Ending) (new : List Event) → Refuses why size old ending new → changes_at path new ≡ changes_at path old
refuses-stays path why size old ending new p = tells-stays path (image_note size why) old new p.1

pub answers-stays : {A : Type 0} (path : List ℕ) (gives : Result A ArchiveFault → Type 0) (size : ℕ) → Stays path (Answers gives size)
answers-stays path gives size old (Ok it) new p = same path p.1
answers-stays path gives size old (Err ending) new (why, gave, p) = refuses-stays path why size old ending new p

-- ## What is read

pub looks-stays : (path name shown : List ℕ) → Stays path (Looks name shown)
unfolding IsUnread
looks-stays path name shown old (Ok bytes) new p = same path p.1
looks-stays path name shown old (Err ending) new (inl (fault, is, p)) = unless-keeps (is_want_of_memory fault) (reason.Fault fault) shown (failed_call Look name fault ∷ old) new p path
looks-stays path name shown old (Err ending) new (inr (bytes, many, inl (is, ok, p))) = same path p
looks-stays path name shown old (Err ending) new (inr (bytes, many, inr (is, p))) = same path p

pub finds-stays : (path : List ℕ) (volumes : Volumes) (body : List ℕ) → Stays path (FindsIn volumes body)
finds-stays path (One layout) body old result new p = same path p.1
finds-stays path Both body old (Ok image) new p = absurd p
finds-stays path Both body old (Err ending) new (is, ok, p) = same path p

lines-stay : (path lines : List ℕ) (old new : List Event) → TellsLines lines old new → changes_at path new ≡ changes_at path old
lines-stay path [] old new p = same path p
lines-stay path (c ∷ lines) old new p = same path p.1

mends-stays : (path : List ℕ) (given : Option Layout) (is_plain : Bool) (name file : List ℕ) → Stays path (Mends given is_plain name file)
mends-stays path given is_plain name file old (Ok bytes) new p = lines-stay path (mended_lines name p.0) old new p.3
mends-stays path given is_plain name file old (Err ending) new p = same path p.1

looks-if-stays : (path : List ℕ) (is_lenient : Bool) (given : Option Layout) (is_plain : Bool) (name : List ℕ) → Stays path (LooksIf is_lenient given is_plain name)
looks-if-stays path true given is_plain name = then-stays path (Looks name name) (λ file. Mends given is_plain name file.items)
    (looks-stays path name name) (λ file old between done. mends-stays path given is_plain name file.items between)
looks-if-stays path false given is_plain name = looks-stays path name name

pub judges-by-stays : (path name : List ℕ) (two : Option (ImageKind × ImageKind)) → Stays path (JudgesBy name two)
judges-by-stays path name None old (Ok it) new p = same path p
judges-by-stays path name None old (Err ending) new p = absurd p
judges-by-stays path name (Some two) old (Ok it) new p = absurd p
judges-by-stays path name (Some two) old (Err ending) new (inl (is, ok, p)) = same path p
judges-by-stays path name (Some two) old (Err ending) new (inr (is, p)) = same path p

judged-stays : (path : List ℕ) (reading : ImageReading) (name : List ℕ) (file : Vec ℕ) → Stays path (JudgesLooked reading name file)
judged-stays path reading name file = then-stays path (Judges name reading.layout reading.is_plain file.items) (λ it. Purely (IsJudged file))
    (judges-by-stays path name (two_readings reading.layout reading.is_plain file.items)) (λ it old between done new result p. same path p.1)

looks-image-stays : (path : List ℕ) (reading : ImageReading) (name : List ℕ) → Stays path (LooksImage reading name)
looks-image-stays path reading name = then-stays path (LooksIf reading.is_lenient reading.layout reading.is_plain name) (λ file. JudgesLooked reading name file)
    (looks-if-stays path reading.is_lenient reading.layout reading.is_plain name) (λ file old between done. judged-stays path reading name file between)

pub looks-at-stays : (path : List ℕ) (form : ImageForm) → Stays path (LooksAt form)
looks-at-stays path form = then-stays path (LooksImage (reading_of form) form.file.bytes.items) (λ file. FindsOne form.layout form.is_plain file.items)
    (looks-image-stays path (reading_of form) form.file.bytes.items) (λ file old between done. finds-stays path (volumes_in form.layout form.is_plain file.items) (body_of form.layout form.is_plain file.items) between)

pub gives-stays : (path image : List ℕ) (piece : Piece) → Stays path (GivesPiece image piece)
gives-stays path image piece old (Ok bytes) new p = same path p.1
gives-stays path image piece old (Err ending) new (why, gets, p) = refused why p
  where
    refused : (why : BlocksFault) → RefusesBlocks why (length image) old ending new → changes_at path new ≡ changes_at path old
    refused (Archive why) r = refuses-stays path why (length image) old ending new r
    refused (NoBlocks has) r = same path r.1

-- ## What is written

apart : (laid path : List ℕ) (is : Bool) → bytes_eq laid path ≡ is → path ≢ laid → bytes_eq laid path ≡ false
apart laid path true is other = absurd (other (sym ((bytes_eq-Decides laid path).0 is)))
apart laid path false is other = is

lays-stays : (path laid bytes : List ℕ) → path ≢ laid → Stays path (LaysFirst laid bytes)
lays-stays path laid bytes other old (Ok it) new p = of-both path old new (p.only.others path (apart laid path (bytes_eq laid path) refl other)) p.only.keeps_folders
lays-stays path laid bytes other old (Err ending) new (why, between, is, laid_by, cause, number, told) =
    unless-keeps (is_want_of_memory why) (reason_of_first why) laid between new told path ∙ of-both path old between (laid_by.only.others path (apart laid path (bytes_eq laid path) refl other)) laid_by.only.keeps_folders

piece-stays : (path folder image : List ℕ) (scan : Scan) (piece : Piece) → path ≢ folder ++ codes "/" ++ piece_name piece → Stays path (WritesPiece folder image scan piece)
piece-stays path folder image scan piece other =
    then-stays path (GivesPiece image piece)
    (λ bytes. Then (Purely (IsPath folder piece)) (λ name. Then (Purely (AreLines (piece_line scan.frames.items piece))) (λ shown. Then (LaysFirst name.bytes.items bytes.items) (λ it. Prints shown.items))))
    (gives-stays path image piece)
    (λ bytes old between done.
    then-stays path (Purely (IsPath folder piece)) (λ name. Then (Purely (AreLines (piece_line scan.frames.items piece))) (λ shown. Then (LaysFirst name.bytes.items bytes.items) (λ it. Prints shown.items)))
    (purely-stays path (IsPath folder piece))
    (λ name from to found.
    then-stays path (Purely (AreLines (piece_line scan.frames.items piece))) (λ shown. Then (LaysFirst name.bytes.items bytes.items) (λ it. Prints shown.items))
    (purely-stays path (AreLines (piece_line scan.frames.items piece)))
    (λ shown first second lines.
    then-stays path (LaysFirst name.bytes.items bytes.items) (λ it. Prints shown.items) (lays-stays path name.bytes.items bytes.items (λ is. other (is ∙ found.0)))
    (λ it before after laid. prints-stays path shown.items after) second) to) between)

each-stays : (path folder image : List ℕ) (scan : Scan) (pieces : List Piece) → IsOfNone folder path pieces → Stays path (WritesEach folder image scan pieces)
each-stays path folder image scan [] none = purely-stays path (λ (result : Result (Unit {0}) Ending). result ≡ Ok tt)
each-stays path folder image scan (piece ∷ pieces) none =
    then-stays path (WritesPiece folder image scan piece) (λ it. WritesEach folder image scan pieces) (piece-stays path folder image scan piece none.0)
    (λ it old between done. each-stays path folder image scan pieces none.1 between)

-- ## The command, which makes a folder

pub folder-stays : (path folder : List ℕ) (old : List Event) (result : Result (Unit {0}) Ending) (new : List Event) → MakesFolder folder old result new → about path new ≡ about path old
folder-stays path folder old (Ok it) new p = ap (λ (events : List Event). about path events) p
folder-stays path folder old (Err ending) new (fault, is, p) = of-file path (unless-keeps (is_want_of_memory fault) (reason_of_first fault) folder (failed_call MakeFolder folder fault ∷ old) new p path)

all-stays : (path folder image : List ℕ) (scan : Scan) → IsOfNone folder path scan.pieces.items → (old : List Event) (result : Result (Unit {0}) Ending) (new : List Event) → WritesAll folder image scan old result new → about path new ≡ about path old
all-stays path folder image scan none old (Ok it) new (inl ends) = absurd ends
all-stays path folder image scan none old (Err ending) new (inl ends) = folder-stays path folder old (Err ending) new ends
all-stays path folder image scan none old result new (inr it) =
    of-file path (each-stays path folder image scan scan.pieces.items none it.between result new it.after) ∙ folder-stays path folder old (Ok it.given) it.between it.done

scanned-stays : (path folder image : List ℕ) → ((scan : Scan) → Scans image (Ok scan) → IsOfNone folder path scan.pieces.items)
    → (old : List Event) (result : Result (Unit {0}) Ending) (new : List Event) → Then (Answers (Scans image) (length image)) (λ scan. WritesAll folder image scan) old result new → about path new ≡ about path old
scanned-stays path folder image none old (Ok it) new (inl ends) = absurd ends
scanned-stays path folder image none old (Err ending) new (inl ends) = of-file path (answers-stays path (Scans image) (length image) old (Err ending) new ends)
scanned-stays path folder image none old result new (inr it) =
    all-stays path folder image it.given (none it.given it.done.0) it.between result new it.after ∙ of-file path (answers-stays path (Scans image) (length image) old (Ok it.given) it.between it.done)

pub pieces-alone : ChangesPiecesAlone
pieces-alone folder form old (Ok it) new (inl ends) path none = absurd ends
pieces-alone folder form old (Err ending) new (inl ends) path none = of-file path (looks-at-stays path form old (Err ending) new ends)
pieces-alone folder form old result new (inr looked) path none =
    scanned-stays path folder looked.given.items (λ scan is. none looked.given looked.between scan looked.done is) looked.between result new looked.after
    ∙ of-file path (looks-at-stays path form old (Ok looked.given) looked.between looked.done)
