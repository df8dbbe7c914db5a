-- A save prints nothing on standard output.
use Rattle.std.proofs.Common.{◌≡◌, ◌∙◌, ℕ, Bool, true, false, Option, None, Some, Result, Ok, Err, List, [], ◌∷◌, ◌++◌, refl, ap, sym, inl, inr}
use Rattle.std.specs.Str.{bytes_eq}
use Rattle.hosts.specs.Event.{Call, Event, Alter, Resolve, Hold, DropSeconds, Look, TakeInput, Alone, Leads, LockBeside, Free, There, MakeFolder, Print, Tell, Terminal, Seconds, Pause, Word, EndOfWords, TimeOf, Same, DropLeftovers}
use Rattle.hosts.specs.Streams.{output, output_text, with_printed, with_text}
use Rattle.hosts.specs.declared.faults.Unwritten.TheVariants.{AsItWas, InPart}
use Rattle.pdp8e.specs.Papers.{PaperState, PapersState}
use Rattle.rk8e.specs.Packs.{PackState}
use Rattle.rk8e.specs.State.{DiskState}
use Rattle.outcome.specs.declared.contents.Content.{Content}
use Rattle.outcome.specs.declared.contents.Content.TheVariants.{Image, Tape}
use Rattle.outcome.specs.declared.endings.Ending.{Ending}
use Rattle.outcome.specs.declared.endings.Ending.TheVariants.{Line, Fault, Failure, Busy, NotWritten, FullOutput, Unreported, NoReader, Misuse}
use Rattle.image_files.specs.Saving.{Writes}
use Rattle.image_files.specs.declared.reading.ImagePlace.{ImagePlace}
use Rattle.drive_files.specs.Saving.{SavesBytes, SavesDrive, SavesDrives, SavesPack, WantsMemory}
use Rattle.drive_files.specs.Devices.{SavesPaper, SavesPapers}
use Rattle.drive_files.specs.declared.devices.PaperPlace.{PaperPlace}
use Rattle.drive_files.specs.declared.devices.PaperPlaces.{PaperPlaces}
use Rattle.drive_files.specs.declared.mounting.Places.{Places}

abbrev text_of : List (Bool × List ℕ) → List ℕ
text_of [] = []
text_of ((true, bytes) ∷ earlier) = text_of earlier ++ bytes
text_of ((false, bytes) ∷ earlier) = text_of earlier

with_one : (call : Call) (e : Event) (before : List (Bool × List ℕ)) (text : List ℕ) → text ≡ text_of before → with_text call e.ok e.bytes text ≡ text_of (with_printed call e before)
with_one Print e before text is = with_print e.ok e.bytes before text is where
  with_print : (ok : Bool) (bytes : List ℕ) (before : List (Bool × List ℕ)) (text : List ℕ) → text ≡ text_of before → with_text Print ok bytes text ≡ text_of ((ok, bytes) ∷ before)
  with_print true bytes before text is = ap (λ (t : List ℕ). t ++ bytes) is
  with_print false bytes before text is = is
with_one (Alter change) e before text is = is
with_one Resolve e before text is = is
with_one Hold e before text is = is
with_one DropSeconds e before text is = is
with_one Look e before text is = is
with_one TakeInput e before text is = is
with_one Alone e before text is = is
with_one Leads e before text is = is
with_one LockBeside e before text is = is
with_one Free e before text is = is
with_one There e before text is = is
with_one MakeFolder e before text is = is
with_one Tell e before text is = is
with_one Terminal e before text is = is
with_one Seconds e before text is = is
with_one Pause e before text is = is
with_one Word e before text is = is
with_one EndOfWords e before text is = is
with_one TimeOf e before text is = is
with_one Same e before text is = is
with_one DropLeftovers e before text is = is

text_is : (events : List Event) → output_text events ≡ text_of (output events)
text_is [] = refl
text_is (e ∷ earlier) = with_one e.call e (output earlier) (output_text earlier) (text_is earlier)

pub same_text : (old new : List Event) → output new ≡ output old → output_text new ≡ output_text old
same_text old new same = text_is new ∙ (ap text_of same ∙ sym (text_is old))

-- ## Saves

-- nothing more was printed on standard output
abbrev KeepsText : List Event → List Event → Type 0
KeepsText old new = output_text new ≡ output_text old

writes-text : (content : Content) (path name file : List ℕ) (old : List Event) (result : Result (Unit {0}) Ending) (new : List Event) → Writes content path name file old result new → KeepsText old new
writes-text content path name file old (Ok it) new w = same_text old new w.only.prints
writes-text content path name file old (Err (NotWritten it AsItWas)) new (is, fault, between, u, (text, ok, reason, p)) = ap output_text p ∙ same_text old between u.only.prints
writes-text content path name file old (Err (NotWritten it InPart)) new (is, fault, between, u, (text, ok, reason, p)) = ap output_text p ∙ same_text old between u.only.prints
writes-text content path name file old (Err (Line it)) new w = absurd w
writes-text content path name file old (Err (Fault it)) new w = absurd w
writes-text content path name file old (Err Failure) new w = absurd w
writes-text content path name file old (Err (Busy it)) new w = absurd w
writes-text content path name file old (Err FullOutput) new w = absurd w
writes-text content path name file old (Err Unreported) new w = absurd w
writes-text content path name file old (Err NoReader) new w = absurd w
writes-text content path name file old (Err Misuse) new w = absurd w

bytes-text : (is_same : Bool) (file : List ℕ) (place : ImagePlace) (saved saved' : List ℕ) (old : List Event) (result : Result (Unit {0}) Ending) (new : List Event)
    → SavesBytes is_same file place saved saved' old result new → KeepsText old new
bytes-text true file place saved saved' old result new p = ap output_text p.0.1
bytes-text false file place saved saved' old result new p = writes-text Image place.path.bytes.items place.name.bytes.items file old result new p.0

wants-text : (old : List Event) (result : Result (Unit {0}) Ending) (new : List Event) → WantsMemory old result new → KeepsText old new
wants-text old (Ok it) new p = absurd p
wants-text old (Err ending) new p = ap output_text p.1

pack-text : (changed : Bool) (pack : PackState) (place : ImagePlace) (saved saved' : List ℕ) (old : List Event) (result : Result (Unit {0}) Ending) (new : List Event)
    → SavesPack changed pack place saved saved' old result new → KeepsText old new
pack-text false pack place saved saved' old result new p = ap output_text p.0.1
pack-text true pack place saved saved' old result new (inl p) = wants-text old result new p.0
pack-text true pack place saved saved' old result new (inr (file, is, p)) = bytes-text (bytes_eq file saved) file place saved saved' old result new p

drive-text : (drive : ℕ) (pack : Option PackState) (place : Option ImagePlace) (saved saved' : List ℕ) (old : List Event) (result : Result (Unit {0}) Ending) (new : List Event)
    → SavesDrive drive pack place saved saved' old result new → KeepsText old new
drive-text drive None place saved saved' old result new p = ap output_text p.0.1
drive-text drive (Some pack) None saved saved' old result new p = ap output_text p.0.1
drive-text drive (Some pack) (Some place) saved saved' old (Ok it) new p = pack-text pack.changed pack place saved saved' old (Ok it) new p
drive-text drive (Some pack) (Some place) saved saved' old (Err ended) new (ending, p, is) = pack-text pack.changed pack place saved saved' old (Err ending) new p

pub saves-text : (disk : DiskState) (places places' : Places) (old : List Event) (result : Result (Unit {0}) Ending) (new : List Event)
    → SavesDrives disk places places' old result new → output_text new ≡ output_text old
saves-text disk places places' old result new s =
    drive-text 3 disk.drive3.pack places.place3 places.rooms.saved3.items places'.rooms.saved3.items s.after_third s.fourth new s.saves3
    ∙ (drive-text 2 disk.drive2.pack places.place2 places.rooms.saved2.items places'.rooms.saved2.items s.after_second s.third s.after_third s.saves2
    ∙ (drive-text 1 disk.drive1.pack places.place1 places.rooms.saved1.items places'.rooms.saved1.items s.after_first s.second s.after_second s.saves1
    ∙ drive-text 0 disk.drive0.pack places.place0 places.rooms.saved0.items places'.rooms.saved0.items old s.first s.after_first s.saves0))

paper-text : (paper : PaperState) (place : Option PaperPlace) (old : List Event) (result : Result (Unit {0}) Ending) (new : List Event) → SavesPaper paper place old result new → KeepsText old new
paper-text paper None old result new p = ap output_text p.1
paper-text paper (Some place) old result new p = writes-text Tape place.path.bytes.items place.name.bytes.items paper.bytes old p.written new p.writes

pub papers-text : (papers : PapersState) (places : PaperPlaces) (old : List Event) (result : Result (Unit {0}) Ending) (new : List Event)
    → SavesPapers papers places old result new → output_text new ≡ output_text old
papers-text papers places old result new s =
    paper-text papers.transfers places.transfers s.after_second s.third new s.saves_transfers
    ∙ (paper-text papers.printer places.printer s.after_first s.second s.after_second s.saves_printer
    ∙ paper-text papers.punch places.punch old s.first s.after_first s.saves_punch)
