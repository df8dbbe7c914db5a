-- Commands that print nothing after a print that failed.
use Rattle.std.proofs.Common.{◌≡◌, ◌∙◌, ◌⊎◌, ℕ, Bool, true, false, Option, None, Some, String, Result, Ok, Err, List, [], ◌∷◌, ◌++◌, refl, sym, ap, inl, inr, length, append_assoc}
use Rattle.std.specs.Global.{Global}
use Rattle.byte_reader.specs.Readings.{Reading}
use Rattle.hosts.specs.Event.{Event, MakeFolder, failed_call}
use Rattle.hosts.specs.Streams.{output}
use Rattle.host_output.specs.Printing.{AreTaken, AreTakenButLast}
use Rattle.archive_files.specs.Asking.{Target}
use Rattle.archive_files.specs.Getting.{Gets}
use Rattle.archive_files.specs.declared.faults.ArchiveFault.{ArchiveFault}
use Rattle.archive_files.specs.declared.forms.GetForm.{GetForm}
use Rattle.archive_many.specs.declared.faults.BlocksFault.{BlocksFault}
use Rattle.archive_many.specs.declared.faults.BlocksFault.TheVariants.{Archive, NoBlocks}
use Rattle.volume_salvage.specs.Scanning.{Scans, piece_line, scan_text}
use Rattle.volume_salvage.specs.declared.pieces.Piece.{Piece}
use Rattle.volume_salvage.specs.declared.scans.Scan.{Scan}
use Rattle.outcome.specs.Outcomes.{outcome_of}
use Rattle.outcome.specs.Streams.{gives_data}
use Rattle.outcome.specs.declared.endings.Ending.{Ending}
use Rattle.outcome.specs.declared.endings.Ending.TheVariants.{Line, Fault, Failure, Busy, NotWritten, FullOutput, Unreported, NoReader, Misuse}
use Rattle.refusals.specs.declared.faults.SessionFault.TheVariants.{Memory}
use Rattle.program_tasks.specs.declared.forms.ImageForm.{ImageForm}
use Rattle.program_tasks.specs.declared.tasks.Task.{Task}
use Rattle.image_files.specs.Answers.{Answers, AreLines, RefusesBlocks}
use Rattle.image_files.specs.Ending.{EndsSo}
use Rattle.image_files.specs.Reading.{LooksAt}
use Rattle.image_files.specs.Reasons.{is_want_of_memory, reason_of_first}
use Rattle.image_files.specs.Saving.{Prints}
use Rattle.image_files.specs.Work.{Then, Purely}
use Rattle.image_files.specs.declared.states.ImageNotes.{ImageNotes}
use Rattle.image_files.proofs.ReasonLemmas.{unless-output}
use Rattle.get_commands.specs.Showing.{Shows}
use Rattle.salvage_commands.specs.ScanningBlocks.{GivesPiece, IsPath, LaysFirst, MakesFolder, ShowsPieces, WritesAll, WritesEach, WritesPiece, WritesPieces}
use Rattle.show_commands.specs.Dumping.{Dumps, IsDump, form_of}
use Rattle.keeper_laws.proofs.RefuseLemmas.{answers-refuse, refuses-refused}
use Rattle.program.specs.Tasks.{DoesTask, RunsTask, ScansBlocks}
use Rattle.program_laws.specs.Ends.{NoneFollows, PrintsOnce, StopsPrinting}
use Rattle.program_laws.proofs.EndLemmas.{ends}
use Rattle.program_laws.proofs.SourceLemmas.{at-vain}

-- ## Prints

-- standard output took what was printed
abbrev pub Takes : List Event → List Event → Type 0
Takes old new = (since : List (Bool × List ℕ)) × (output new ≡ since ++ output old) × AreTaken since

-- it may not have taken the newest, and then the line of the end has no byte
abbrev pub Loses : Ending → List Event → List Event → Type 0
Loses ending old new = (since : List (Bool × List ℕ)) × (output new ≡ since ++ output old) × AreTakenButLast since × ((is_data : Bool) → (outcome_of is_data (Err ending)).output ≡ [])

abbrev pub StopsBy : {A : Type 0} → Result A Ending → List Event → List Event → Type 0
StopsBy (Ok it) old new = Takes old new
StopsBy (Err ending) old new = Takes old new ⊎ Loses ending old new

abbrev pub Halts : {A : Type 0} → (List Event → Result A Ending → List Event → Type 0) → Type 0
Halts {A} step = (old : List Event) (result : Result A Ending) (new : List Event) → step old result new → StopsBy result old new

-- ## One step after another

taken-both : (later earlier : List (Bool × List ℕ)) → AreTaken later → AreTaken earlier → AreTaken (later ++ earlier)
taken-both [] earlier first next = next
taken-both ((ok, bytes) ∷ later) earlier first next = (first.0, taken-both later earlier first.1 next)

but-last : (prints : List (Bool × List ℕ)) → AreTaken prints → AreTakenButLast prints
but-last [] taken = tt
but-last ((ok, bytes) ∷ earlier) taken = taken.1

last-both : (later earlier : List (Bool × List ℕ)) → AreTakenButLast later → AreTaken earlier → AreTakenButLast (later ++ earlier)
last-both [] earlier first next = but-last earlier next
last-both ((ok, bytes) ∷ later) earlier first next = taken-both later earlier first next

joined : (later earlier : List (Bool × List ℕ)) (old mid new : List Event) → output new ≡ later ++ output mid → output mid ≡ earlier ++ output old → output new ≡ (later ++ earlier) ++ output old
joined later earlier old mid new last first = last ∙ ap (λ (o : List (Bool × List ℕ)). later ++ o) first ∙ sym (append_assoc later earlier (output old))

takes-then : (old mid new : List Event) → Takes old mid → Takes mid new → Takes old new
takes-then old mid new (earlier, first, taken) (later, last, more) = (later ++ earlier, joined later earlier old mid new last first, taken-both later earlier more taken)

loses-then : (ending : Ending) (old mid new : List Event) → Takes old mid → Loses ending mid new → Loses ending old new
loses-then ending old mid new (earlier, first, taken) (later, last, lost, none) = (later ++ earlier, joined later earlier old mid new last first, last-both later earlier lost taken, none)

pub stops-then : {A : Type 0} (result : Result A Ending) (old mid new : List Event) → Takes old mid → StopsBy result mid new → StopsBy result old new
stops-then (Ok it) old mid new takes next = takes-then old mid new takes next
stops-then (Err ending) old mid new takes (inl next) = inl (takes-then old mid new takes next)
stops-then (Err ending) old mid new takes (inr next) = inr (loses-then ending old mid new takes next)

pub then-halts : {A B : Type 0} (first : List Event → Result A Ending → List Event → Type 0) (next : A → List Event → Result B Ending → List Event → Type 0) → Halts first → ((given : A) → Halts (next given)) → Halts (Then first next)
then-halts first next f n old (Ok r) new (inl ends-here) = absurd ends-here
then-halts first next f n old (Err e) new (inl ends-here) = f old (Err e) new ends-here
then-halts first next f n old result new (inr it) = stops-then result old it.between new (f old (Ok it.given) it.between it.done) (n it.given it.between result new it.after)

pub silent : {A : Type 0} (result : Result A Ending) (old new : List Event) → output new ≡ output old → StopsBy result old new
silent (Ok it) old new is = ([], is, tt)
silent (Err ending) old new is = inl ([], is, tt)

pub purely-halts : {A : Type 0} (gives : Result A Ending → Type 0) → Halts (Purely gives)
purely-halts gives old result new p = silent result old new (ap output p.1)

pub at-halts : (form : ImageForm) → Halts (LooksAt form)
at-halts form old result new p = silent result old new (at-vain form old result new p).1

pub answers-halt : {A : Type 0} (gives : Result A ArchiveFault → Type 0) (size : ℕ) → Halts (Answers gives size)
answers-halt gives size old (Ok it) new p = ([], ap output p.1, tt)
answers-halt gives size old (Err ending) new p = inl ([], (answers-refuse gives size old ending new p).1, tt)

pub prints-halt : (bytes : List ℕ) → Halts (Prints bytes)
prints-halt bytes old (Ok it) new p = ((true, bytes) ∷ [], ap output p, (refl, tt))
prints-halt bytes old (Err FullOutput) new p = inr ((false, bytes) ∷ [], ap output p, tt, λ is_data. refl)
prints-halt bytes old (Err NoReader) new p = inr ((false, bytes) ∷ [], ap output p, tt, λ is_data. refl)
prints-halt bytes old (Err (Line it)) new p = absurd p
prints-halt bytes old (Err (Fault it)) new p = absurd p
prints-halt bytes old (Err Failure) new p = absurd p
prints-halt bytes old (Err (Busy it)) new p = absurd p
prints-halt bytes old (Err (NotWritten it left)) new p = absurd p
prints-halt bytes old (Err Unreported) new p = absurd p
prints-halt bytes old (Err Misuse) new p = absurd p

-- ## The end

none-after : (prints : List (Bool × List ℕ)) → AreTaken prints → NoneFollows prints
none-after [] taken = tt
none-after ((ok, bytes) ∷ earlier) taken = (inr taken.1, none-after earlier taken.1)

none-after-last : (prints : List (Bool × List ℕ)) → AreTakenButLast prints → NoneFollows prints
none-after-last [] lost = tt
none-after-last ((ok, bytes) ∷ earlier) lost = (inr lost, none-after earlier lost)

takes-end : (line : List ℕ) (old between new : List Event) → Takes old between → PrintsOnce line between new → StopsPrinting old new
takes-end line old between new (since, is, taken) (inl none) = (since, none ∙ is, none-after since taken)
takes-end line old between new (since, is, taken) (inr (ok, so)) = ((ok, line) ∷ since, so ∙ ap (λ (o : List (Bool × List ℕ)). (ok, line) ∷ o) is, (inr taken, none-after since taken))

loses-end : (line : List ℕ) (old between new : List Event) (since : List (Bool × List ℕ)) → output between ≡ since ++ output old → AreTakenButLast since → line ≡ [] → PrintsOnce line between new → StopsPrinting old new
loses-end line old between new since is lost empty (inl none) = (since, none ∙ is, none-after-last since lost)
loses-end line old between new since is lost empty (inr (ok, so)) = ((ok, line) ∷ since, so ∙ ap (λ (o : List (Bool × List ℕ)). (ok, line) ∷ o) is, (inl empty, none-after-last since lost))

work-ends : (is_data : Bool) (notes : Option ImageNotes) (work : Result (Unit {0}) Ending) (old between new : List Event) (status : ℕ) → StopsBy work old between → EndsSo is_data notes work between new status → StopsPrinting old new
work-ends is_data notes (Ok it) old between new status takes e = takes-end (outcome_of is_data (Ok it)).output old between new takes (ends is_data notes (Ok it) between new status e).1
work-ends is_data notes (Err ending) old between new status (inl takes) e = takes-end (outcome_of is_data (Err ending)).output old between new takes (ends is_data notes (Err ending) between new status e).1
work-ends is_data notes (Err ending) old between new status (inr (since, is, lost, empty)) e =
    loses-end (outcome_of is_data (Err ending)).output old between new since is lost (empty is_data) (ends is_data notes (Err ending) between new status e).1

pub task-ends : (it : Task) (is_typed : Bool) (input : Reading) → Halts (DoesTask it is_typed input) → (old new : List Event) (status : ℕ) → RunsTask it is_typed input old new status → StopsPrinting old new
task-ends it is_typed input halts old new status (inl r) = work-ends (gives_data it) r.notes r.work old r.between new status (halts old r.work r.between r.does) r.ends
task-ends it is_typed input halts old new status (inr e) = work-ends (gives_data it) None (Err (Fault Memory)) old old new status (inl ([], refl, tt)) e

-- ## The commands

pub shows-halts : (wanted : Target) (how : GetForm) (form : ImageForm) → Halts (Shows (λ bytes. Gets bytes wanted how) form)
shows-halts wanted how form = then-halts (LooksAt form) (λ image. Then (Answers (Gets image.items wanted how) (length image.items)) (λ bytes. Prints bytes.items)) (at-halts form)
    (λ image. then-halts (Answers (Gets image.items wanted how) (length image.items)) (λ bytes. Prints bytes.items) (answers-halt (Gets image.items wanted how) (length image.items)) (λ bytes. prints-halt bytes.items))

pub dumps-halt : (span : Option (ℕ × ℕ)) (is_sixbit : Bool) (form : ImageForm) → Halts (Dumps span is_sixbit form)
dumps-halt span is_sixbit form = then-halts (LooksAt form) (λ image. Then (Purely (IsDump span (form_of is_sixbit) image.items)) (λ text. Prints text.items)) (at-halts form)
    (λ image. then-halts (Purely (IsDump span (form_of is_sixbit) image.items)) (λ text. Prints text.items) (purely-halts (IsDump span (form_of is_sixbit) image.items)) (λ text. prints-halt text.items))

pieces-halt : (form : ImageForm) → Halts (ShowsPieces form)
pieces-halt form = then-halts (LooksAt form) (λ image. Then (Answers (Scans image.items) (length image.items)) (λ scan. Then (Purely (AreLines (scan_text scan))) (λ lines. Prints lines.items))) (at-halts form)
    (λ image. then-halts (Answers (Scans image.items) (length image.items)) (λ scan. Then (Purely (AreLines (scan_text scan))) (λ lines. Prints lines.items)) (answers-halt (Scans image.items) (length image.items))
    (λ scan. then-halts (Purely (AreLines (scan_text scan))) (λ lines. Prints lines.items) (purely-halts (AreLines (scan_text scan))) (λ lines. prints-halt lines.items)))

-- pieces are written out, each line after its file
gives-halt : (image : List ℕ) (piece : Piece) → Halts (GivesPiece image piece)
gives-halt image piece old (Ok bytes) new p = ([], ap output p.1, tt)
gives-halt image piece old (Err ending) new (why, gets, p) = inl ([], refused why p, tt)
  where
    refused : (why : BlocksFault) → RefusesBlocks why (length image) old ending new → output new ≡ output old
    refused (Archive fault) r = (refuses-refused fault (length image) old ending new r).1
    refused (NoBlocks has) r = ap output r.1

lays-halt : (path file : List ℕ) → Halts (LaysFirst path file)
lays-halt path file old (Ok it) new p = ([], p.only.prints, tt)
lays-halt path file old (Err ending) new (fault, between, is, laid, cause, number, told) =
    inl ([], unless-output (is_want_of_memory fault) (reason_of_first fault) path between new told ∙ laid.only.prints, tt)

folder-halts : (folder : List ℕ) → Halts (MakesFolder folder)
folder-halts folder old (Ok it) new p = ([], ap output p, tt)
folder-halts folder old (Err ending) new (fault, is, p) = inl ([], unless-output (is_want_of_memory fault) (reason_of_first fault) folder (failed_call MakeFolder folder fault ∷ old) new p, tt)

piece-halts : (folder image : List ℕ) (scan : Scan) (piece : Piece) → Halts (WritesPiece folder image scan piece)
piece-halts folder image scan piece = then-halts (GivesPiece image piece)
    (λ bytes. Then (Purely (IsPath folder piece)) (λ path. Then (Purely (AreLines (piece_line scan.frames.items piece))) (λ shown. Then (LaysFirst path.bytes.items bytes.items) (λ it. Prints shown.items)))) (gives-halt image piece)
    (λ bytes. then-halts (Purely (IsPath folder piece)) (λ path. Then (Purely (AreLines (piece_line scan.frames.items piece))) (λ shown. Then (LaysFirst path.bytes.items bytes.items) (λ it. Prints shown.items)))
    (purely-halts (IsPath folder piece))
    (λ path. then-halts (Purely (AreLines (piece_line scan.frames.items piece))) (λ shown. Then (LaysFirst path.bytes.items bytes.items) (λ it. Prints shown.items)) (purely-halts (AreLines (piece_line scan.frames.items piece)))
    (λ shown. then-halts (LaysFirst path.bytes.items bytes.items) (λ it. Prints shown.items) (lays-halt path.bytes.items bytes.items) (λ it. prints-halt shown.items))))

each-halts : (folder image : List ℕ) (scan : Scan) (pieces : List Piece) → Halts (WritesEach folder image scan pieces)
each-halts folder image scan [] = purely-halts (λ (result : Result (Unit {0}) Ending). result ≡ Ok tt)
each-halts folder image scan (piece ∷ pieces) = then-halts (WritesPiece folder image scan piece) (λ it. WritesEach folder image scan pieces) (piece-halts folder image scan piece) (λ it. each-halts folder image scan pieces)

written-halts : (folder : List ℕ) (form : ImageForm) → Halts (WritesPieces folder form)
written-halts folder form = then-halts (LooksAt form) (λ image. Then (Answers (Scans image.items) (length image.items)) (λ scan. WritesAll folder image.items scan)) (at-halts form)
    (λ image. then-halts (Answers (Scans image.items) (length image.items)) (λ scan. WritesAll folder image.items scan) (answers-halt (Scans image.items) (length image.items))
    (λ scan. then-halts (MakesFolder folder) (λ it. WritesEach folder image.items scan scan.pieces.items) (folder-halts folder) (λ it. each-halts folder image.items scan scan.pieces.items)))

pub scan-halts : (into : Option (String Global)) (form : ImageForm) → Halts (ScansBlocks into form)
scan-halts None form = pieces-halt form
scan-halts (Some folder) form = written-halts folder.bytes.items form
