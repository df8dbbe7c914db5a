-- What is made of a damaged volume replaces no file.
use Rattle.std.proofs.Common.{◌≡◌, ◌∙◌, ◌∷◌, ◌++◌, ℕ, Bool, true, false, codes, Option, None, Some, Result, Ok, Err, List, [], ap, inl, inr, length, refl, subst}
use Rattle.std.specs.Global.{Vec}
use Rattle.std.specs.Str.{bytes_eq}
use Rattle.std.proofs.lemmas.Slice.Eq.{bytes_eq-Decides}
use Rattle.hosts.specs.Event.{Event}
use Rattle.hosts.specs.Place.{Step, about}
use Rattle.hosts.specs.Saving.{replacements}
use Rattle.hosts.specs.Streams.{path_of_name, changes_at}
use Rattle.image_kind.specs.Keeping.{two_readings}
use Rattle.image_kind.specs.Margins.{body_of, margins_in}
use Rattle.image_kind.specs.Volumes.{volumes_in}
use Rattle.image_kind.specs.declared.margins.Margins.{Margins}
use Rattle.outcome.specs.declared.endings.Ending.{Ending}
use Rattle.outcome.specs.declared.endings.Ending.TheVariants.{Line, Fault, Failure, Busy, NotWritten, FullOutput, Unreported, NoReader, Misuse}
use Rattle.program_tasks.specs.declared.forms.ImageForm.{ImageForm}
use Rattle.image_files.specs.Answers.{Answers, AreLines}
use Rattle.image_files.specs.Judging.{Judges}
use Rattle.image_files.specs.Laws.{NeverReplaces}
use Rattle.image_files.specs.Making.{MakesFirst}
use Rattle.image_files.specs.Reading.{FindsOne, Looks, LooksAt}
use Rattle.image_files.specs.Reasons.{is_want_of_memory, reason_of_first}
use Rattle.image_files.specs.Saving.{Prints, Reports}
use Rattle.image_files.specs.Work.{Then, Purely}
use Rattle.image_files.proofs.KeepLemmas.{of-file}
use Rattle.image_files.proofs.ReasonLemmas.{unless-keeps}
use Rattle.volume_salvage.specs.Salvaging.{Salvages, is_complete, rescued_text}
use Rattle.volume_salvage.specs.Scanning.{Scans, piece_line}
use Rattle.volume_salvage.specs.declared.pieces.Piece.{Piece}
use Rattle.volume_salvage.specs.declared.scans.Scan.{Scan}
use Rattle.salvage_commands.specs.Rescuing.{Finishes, RescuesFile, RescuesImage, RescuesVolume, TellsMargins, has_margins, with_margin_note}
use Rattle.salvage_commands.specs.ScanningBlocks.{GivesPiece, IsPath, LaysFirst, MakesFolder, WritesAll, WritesEach, WritesPiece, WritesPieces}
use Rattle.salvage_commands.proofs.PathLemmas.{Stays, answers-stays, finds-stays, folder-stays, gives-stays, judges-by-stays, looks-at-stays, looks-stays, prints-stays, purely-stays}

never : {A : Type 0} (step : List Event → Result A Ending → List Event → Type 0) → ((path : List ℕ) → Stays path step) → NeverReplaces step
never step f old result new p path = ap (λ (steps : List Step). replacements steps) (of-file path (f path old result new p))

then-never : {A B : Type 0} (first : List Event → Result A Ending → List Event → Type 0) (next : A → List Event → Result B Ending → List Event → Type 0)
    → NeverReplaces first → ((a : A) → NeverReplaces (next a)) → NeverReplaces (Then first next)
then-never first next f n old (Ok r) new (inl ends) path = absurd ends
then-never first next f n old (Err e) new (inl ends) path = f old (Err e) new ends path
then-never first next f n old result new (inr it) path = n it.given it.between result new it.after path ∙ f old (Ok it.given) it.between it.done path

-- a path is the one at which a file is made first, or stays as it was
first-at : (made path : List ℕ) (is : Bool) (old new : List Event) → bytes_eq made path ≡ is → replacements (about made new) ≡ replacements (about made old)
    → ((other : List ℕ) → bytes_eq made other ≡ false → about other new ≡ about other old) → replacements (about path new) ≡ replacements (about path old)
first-at made path true old new is first others = subst (λ (p : List ℕ). replacements (about p new) ≡ replacements (about p old)) ((bytes_eq-Decides made path).0 is) first
first-at made path false old new is first others = ap (λ (steps : List Step). replacements steps) (others path is)

-- ## Pieces

lays-never : (laid bytes : List ℕ) → NeverReplaces (LaysFirst laid bytes)
lays-never laid bytes old (Ok it) new p path = first-at laid path (bytes_eq laid path) old new refl p.first p.only.others
lays-never laid bytes old (Err ending) new (why, between, is, laid_by, cause, number, told) path =
    ap (λ (steps : List Step). replacements steps) (of-file path (unless-keeps (is_want_of_memory why) (reason_of_first why) laid between new told path))
    ∙ first-at laid path (bytes_eq laid path) old between refl laid_by.first laid_by.only.others

piece-never : (folder image : List ℕ) (scan : Scan) (piece : Piece) → NeverReplaces (WritesPiece folder image scan piece)
piece-never folder image scan piece =
    then-never (GivesPiece image piece)
    (λ bytes. Then (Purely (IsPath folder piece)) (λ name. Then (Purely (AreLines (piece_line scan.frames.items piece))) (λ shown. Then (LaysFirst name.bytes.items bytes.items) (λ it. Prints shown.items))))
    (never (GivesPiece image piece) (λ path. gives-stays path image piece))
    (λ bytes. then-never (Purely (IsPath folder piece)) (λ name. Then (Purely (AreLines (piece_line scan.frames.items piece))) (λ shown. Then (LaysFirst name.bytes.items bytes.items) (λ it. Prints shown.items)))
    (never (Purely (IsPath folder piece)) (λ path. purely-stays path (IsPath folder piece)))
    (λ name. then-never (Purely (AreLines (piece_line scan.frames.items piece))) (λ shown. Then (LaysFirst name.bytes.items bytes.items) (λ it. Prints shown.items))
    (never (Purely (AreLines (piece_line scan.frames.items piece))) (λ path. purely-stays path (AreLines (piece_line scan.frames.items piece))))
    (λ shown. then-never (LaysFirst name.bytes.items bytes.items) (λ it. Prints shown.items) (lays-never name.bytes.items bytes.items)
    (λ it. never (Prints shown.items) (λ path. prints-stays path shown.items)))))

each-never : (folder image : List ℕ) (scan : Scan) (pieces : List Piece) → NeverReplaces (WritesEach folder image scan pieces)
each-never folder image scan [] = never (WritesEach folder image scan []) (λ path. purely-stays path (λ (result : Result (Unit {0}) Ending). result ≡ Ok tt))
each-never folder image scan (piece ∷ pieces) =
    then-never (WritesPiece folder image scan piece) (λ it. WritesEach folder image scan pieces) (piece-never folder image scan piece)
    (λ it. each-never folder image scan pieces)

all-never : (folder image : List ℕ) (scan : Scan) → NeverReplaces (WritesAll folder image scan)
all-never folder image scan =
    then-never (MakesFolder folder) (λ it. WritesEach folder image scan scan.pieces.items) (λ old result new p path. ap (λ (steps : List Step). replacements steps) (folder-stays path folder old result new p))
    (λ it. each-never folder image scan scan.pieces.items)

pub pieces-never : (folder : List ℕ) (form : ImageForm) → NeverReplaces (WritesPieces folder form)
pieces-never folder form =
    then-never (LooksAt form) (λ image. Then (Answers (Scans image.items) (length image.items)) (λ scan. WritesAll folder image.items scan)) (never (LooksAt form) (λ path. looks-at-stays path form))
    (λ image. then-never (Answers (Scans image.items) (length image.items)) (λ scan. WritesAll folder image.items scan)
    (never (Answers (Scans image.items) (length image.items)) (λ path. answers-stays path (Scans image.items) (length image.items)))
    (λ scan. all-never folder image.items scan))

-- ## The new volume

makes-never : (name file : List ℕ) → NeverReplaces (MakesFirst name file)
makes-never name file old (Ok it) new p path = first-at (path_of_name new) path (bytes_eq (path_of_name new) path) old new refl p.first p.only.others
makes-never name file old (Err ending) new (why, between, is, unmade, told) path =
    ap (λ (steps : List Step). replacements steps) (of-file path (unless-keeps (is_want_of_memory why) (reason_of_first why) name between new told path))
    ∙ first-at (path_of_name between) path (bytes_eq (path_of_name between) path) old between refl unmade.first unmade.only.others

same : {old new : List Event} (path : List ℕ) → new ≡ old → changes_at path new ≡ changes_at path old
same path is = ap (λ (events : List Event). changes_at path events) is

reports-stay : (path lines : List ℕ) → Stays path (Reports lines)
reports-stay path lines old (Ok it) new p = same path p
reports-stay path lines old (Err (Line it)) new p = absurd p
reports-stay path lines old (Err (Fault it)) new p = absurd p
reports-stay path lines old (Err Failure) new p = absurd p
reports-stay path lines old (Err (Busy it)) new p = absurd p
reports-stay path lines old (Err (NotWritten it left)) new p = absurd p
reports-stay path lines old (Err FullOutput) new p = absurd p
reports-stay path lines old (Err Unreported) new p = same path p
reports-stay path lines old (Err NoReader) new p = same path p
reports-stay path lines old (Err Misuse) new p = absurd p

finishes-stay : (path : List ℕ) (is : Bool) (lines : List ℕ) → Stays path (Finishes is lines)
finishes-stay path true lines old (Ok it) new p = reports-stay path lines old (Ok it) new p
finishes-stay path true lines old (Err ending) new p = reports-stay path lines old (Err ending) new p
finishes-stay path false lines old (Ok it) new p = absurd p
finishes-stay path false lines old (Err (Line it)) new p = absurd p
finishes-stay path false lines old (Err (Fault it)) new p = absurd p
finishes-stay path false lines old (Err Failure) new (inl p) = reports-stay path lines old (Ok tt) new p
finishes-stay path false lines old (Err Failure) new (inr p) = reports-stay path lines old (Err NoReader) new p
finishes-stay path false lines old (Err (Busy it)) new p = absurd p
finishes-stay path false lines old (Err (NotWritten it left)) new p = absurd p
finishes-stay path false lines old (Err FullOutput) new p = absurd p
finishes-stay path false lines old (Err Unreported) new p = reports-stay path lines old (Err Unreported) new p
finishes-stay path false lines old (Err NoReader) new p = absurd p
finishes-stay path false lines old (Err Misuse) new p = absurd p

margin-stays : (path : List ℕ) (is ok : Bool) (old new : List Event) → new ≡ with_margin_note is ok old → changes_at path new ≡ changes_at path old
margin-stays path true ok old new p = same path p
margin-stays path false ok old new p = same path p

margins-stay : (path : List ℕ) (margins : Margins) → Stays path (TellsMargins margins)
margins-stay path margins old result new (done, ok, p) = margin-stays path (has_margins margins) ok old new p

volume-never : (new image : List ℕ) → NeverReplaces (RescuesVolume new image)
volume-never new image =
    then-never (Answers (Salvages image) (length image)) (λ salvage. Then (Purely (AreLines (rescued_text salvage))) (λ lines. Then (MakesFirst new salvage.image.items) (λ it. Finishes (is_complete salvage) lines.items)))
    (never (Answers (Salvages image) (length image)) (λ path. answers-stays path (Salvages image) (length image)))
    (λ salvage. then-never (Purely (AreLines (rescued_text salvage))) (λ lines. Then (MakesFirst new salvage.image.items) (λ it. Finishes (is_complete salvage) lines.items))
    (never (Purely (AreLines (rescued_text salvage))) (λ path. purely-stays path (AreLines (rescued_text salvage))))
    (λ lines. then-never (MakesFirst new salvage.image.items) (λ it. Finishes (is_complete salvage) lines.items) (makes-never new salvage.image.items)
    (λ it. never (Finishes (is_complete salvage) lines.items) (λ path. finishes-stay path (is_complete salvage) lines.items))))

file-never : (new : List ℕ) (form : ImageForm) (file : List ℕ) → NeverReplaces (RescuesFile new form file)
file-never new form file =
    then-never (Judges form.file.bytes.items form.layout form.is_plain file)
    (λ it. Then (FindsOne form.layout form.is_plain file) (λ image. Then (TellsMargins (margins_in form.layout form.is_plain file)) (λ it. RescuesVolume new image.items)))
    (never (Judges form.file.bytes.items form.layout form.is_plain file) (λ path. judges-by-stays path form.file.bytes.items (two_readings form.layout form.is_plain file)))
    (λ it. then-never (FindsOne form.layout form.is_plain file) (λ image. Then (TellsMargins (margins_in form.layout form.is_plain file)) (λ it. RescuesVolume new image.items))
    (never (FindsOne form.layout form.is_plain file) (λ path. finds-stays path (volumes_in form.layout form.is_plain file) (body_of form.layout form.is_plain file)))
    (λ image. then-never (TellsMargins (margins_in form.layout form.is_plain file)) (λ it. RescuesVolume new image.items)
    (never (TellsMargins (margins_in form.layout form.is_plain file)) (λ path. margins-stay path (margins_in form.layout form.is_plain file)))
    (λ it. volume-never new image.items)))

pub rescue-never : (new : List ℕ) (form : ImageForm) → NeverReplaces (RescuesImage new form)
rescue-never new form =
    then-never (Looks form.file.bytes.items form.file.bytes.items) (λ file. RescuesFile new form file.items)
    (never (Looks form.file.bytes.items form.file.bytes.items) (λ path. looks-stays path form.file.bytes.items form.file.bytes.items))
    (λ file. file-never new form file.items)
