-- The command that writes pieces to files makes its folder, and no other.
use Rattle.std.proofs.Common.{◌≡◌, ◌∙◌, ◌∷◌, ℕ, Bool, true, false, Result, Ok, Err, List, [], ap, inl, inr, length}
use Rattle.hosts.specs.Event.{Event, MakeFolder, failed_call}
use Rattle.hosts.specs.Streams.{folders}
use Rattle.outcome.specs.declared.endings.Ending.{Ending}
use Rattle.program_tasks.specs.declared.forms.ImageForm.{ImageForm}
use Rattle.image_files.specs.Answers.{Answers, AreLines}
use Rattle.image_files.specs.Laws.{MakesAtMost, MakesFolderAlone}
use Rattle.image_files.specs.Reading.{LooksAt}
use Rattle.image_files.specs.Reasons.{is_want_of_memory, reason_of_first}
use Rattle.image_files.specs.Saving.{Prints}
use Rattle.image_files.specs.Work.{Then, Purely}
use Rattle.image_files.proofs.KeepLemmas.{of-folders}
use Rattle.image_files.proofs.ReasonLemmas.{unless-keeps}
use Rattle.volume_salvage.specs.Scanning.{Scans, piece_line}
use Rattle.volume_salvage.specs.declared.pieces.Piece.{Piece}
use Rattle.volume_salvage.specs.declared.scans.Scan.{Scan}
use Rattle.salvage_commands.specs.ScanningBlocks.{GivesPiece, IsPath, LaysFirst, MakesFolder, WritesAll, WritesEach, WritesPiece, WritesPieces}
use Rattle.salvage_commands.proofs.PathLemmas.{Stays, answers-stays, gives-stays, looks-at-stays, prints-stays, purely-stays}

-- a step makes no folder
abbrev MakesNone : {A : Type 0} → (List Event → Result A Ending → List Event → Type 0) → Type 0
MakesNone {A} step = (old : List Event) (result : Result A Ending) (new : List Event) → step old result new → folders new ≡ folders old

quiet : {A : Type 0} (step : List Event → Result A Ending → List Event → Type 0) → ((path : List ℕ) → Stays path step) → MakesNone step
quiet step f old result new p = of-folders [] (f [] old result new p)

then-none : {A B : Type 0} (first : List Event → Result A Ending → List Event → Type 0) (next : A → List Event → Result B Ending → List Event → Type 0)
    → MakesNone first → ((a : A) → MakesNone (next a)) → MakesNone (Then first next)
then-none first next f n old (Ok r) new (inl ends) = absurd ends
then-none first next f n old (Err e) new (inl ends) = f old (Err e) new ends
then-none first next f n old result new (inr it) = n it.given it.between result new it.after ∙ f old (Ok it.given) it.between it.done

lays-none : (laid bytes : List ℕ) → MakesNone (LaysFirst laid bytes)
lays-none laid bytes old (Ok it) new p = p.only.keeps_folders
lays-none laid bytes old (Err ending) new (why, between, is, laid_by, cause, number, told) =
    of-folders [] (unless-keeps (is_want_of_memory why) (reason_of_first why) laid between new told []) ∙ laid_by.only.keeps_folders

piece-none : (folder image : List ℕ) (scan : Scan) (piece : Piece) → MakesNone (WritesPiece folder image scan piece)
piece-none folder image scan piece =
    then-none (GivesPiece image piece)
    (λ bytes. Then (Purely (IsPath folder piece)) (λ name. Then (Purely (AreLines (piece_line scan.frames.items piece))) (λ shown. Then (LaysFirst name.bytes.items bytes.items) (λ it. Prints shown.items))))
    (quiet (GivesPiece image piece) (λ path. gives-stays path image piece))
    (λ bytes. then-none (Purely (IsPath folder piece)) (λ name. Then (Purely (AreLines (piece_line scan.frames.items piece))) (λ shown. Then (LaysFirst name.bytes.items bytes.items) (λ it. Prints shown.items)))
    (quiet (Purely (IsPath folder piece)) (λ path. purely-stays path (IsPath folder piece)))
    (λ name. then-none (Purely (AreLines (piece_line scan.frames.items piece))) (λ shown. Then (LaysFirst name.bytes.items bytes.items) (λ it. Prints shown.items))
    (quiet (Purely (AreLines (piece_line scan.frames.items piece))) (λ path. purely-stays path (AreLines (piece_line scan.frames.items piece))))
    (λ shown. then-none (LaysFirst name.bytes.items bytes.items) (λ it. Prints shown.items) (lays-none name.bytes.items bytes.items)
    (λ it. quiet (Prints shown.items) (λ path. prints-stays path shown.items)))))

each-none : (folder image : List ℕ) (scan : Scan) (pieces : List Piece) → MakesNone (WritesEach folder image scan pieces)
each-none folder image scan [] = quiet (WritesEach folder image scan []) (λ path. purely-stays path (λ (result : Result (Unit {0}) Ending). result ≡ Ok tt))
each-none folder image scan (piece ∷ pieces) =
    then-none (WritesPiece folder image scan piece) (λ it. WritesEach folder image scan pieces) (piece-none folder image scan piece) (λ it. each-none folder image scan pieces)

made : (folder : List ℕ) (old : List Event) (result : Result (Unit {0}) Ending) (new : List Event) → MakesFolder folder old result new → MakesAtMost folder old new
made folder old (Ok it) new p = inr (true, ap (λ (events : List Event). folders events) p)
made folder old (Err ending) new (fault, is, p) = inr (false, of-folders [] (unless-keeps (is_want_of_memory fault) (reason_of_first fault) folder (failed_call MakeFolder folder fault ∷ old) new p []))

one-before : (folder : List ℕ) (old between new : List Event) → folders between ≡ folders old → MakesAtMost folder between new → MakesAtMost folder old new
one-before folder old between new none (inl is) = inl (is ∙ none)
one-before folder old between new none (inr (ok, is)) = inr (ok, is ∙ ap (λ (all : List (Bool × List ℕ)). (ok, folder) ∷ all) none)

one-after : (folder : List ℕ) (old between new : List Event) → MakesAtMost folder old between → folders new ≡ folders between → MakesAtMost folder old new
one-after folder old between new (inl is) none = inl (none ∙ is)
one-after folder old between new (inr (ok, is)) none = inr (ok, none ∙ is)

all-one : (folder image : List ℕ) (scan : Scan) → MakesFolderAlone folder (WritesAll folder image scan)
all-one folder image scan old (Ok it) new (inl ends) = absurd ends
all-one folder image scan old (Err ending) new (inl ends) = made folder old (Err ending) new ends
all-one folder image scan old result new (inr it) =
    one-after folder old it.between new (made folder old (Ok it.given) it.between it.done) (each-none folder image scan scan.pieces.items it.between result new it.after)

then-one : {A B : Type 0} (folder : List ℕ) (first : List Event → Result A Ending → List Event → Type 0) (next : A → List Event → Result B Ending → List Event → Type 0)
    → MakesNone first → ((a : A) → MakesFolderAlone folder (next a)) → MakesFolderAlone folder (Then first next)
then-one folder first next f n old (Ok r) new (inl ends) = absurd ends
then-one folder first next f n old (Err e) new (inl ends) = inl (f old (Err e) new ends)
then-one folder first next f n old result new (inr it) = one-before folder old it.between new (f old (Ok it.given) it.between it.done) (n it.given it.between result new it.after)

pub one-folder : (folder : List ℕ) (form : ImageForm) → MakesFolderAlone folder (WritesPieces folder form)
one-folder folder form =
    then-one folder (LooksAt form) (λ image. Then (Answers (Scans image.items) (length image.items)) (λ scan. WritesAll folder image.items scan)) (quiet (LooksAt form) (λ path. looks-at-stays path form))
    (λ image. then-one folder (Answers (Scans image.items) (length image.items)) (λ scan. WritesAll folder image.items scan)
    (quiet (Answers (Scans image.items) (length image.items)) (λ path. answers-stays path (Scans image.items) (length image.items)))
    (λ scan. all-one folder image.items scan))
