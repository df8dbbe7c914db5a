-- At each moment of a save the file is the old one or the new one.
use Rattle.std.proofs.Common.{◌⊎◌, ℕ, Bool, true, false, Result, Ok, Err, List, inl, inr}
use Rattle.std.specs.Str.{bytes_eq}
use Rattle.hosts.specs.Event.{Event}
use Rattle.hosts.specs.Place.{about}
use Rattle.hosts.specs.Saving.{AnyMomentOf}
use Rattle.hosts.specs.Streams.{may_replace}
use Rattle.hosts.specs.declared.faults.Unwritten.TheVariants.{AsItWas, InPart}
use Rattle.rk8e.specs.Packs.{IsFileOf, PackState}
use Rattle.outcome.specs.declared.contents.Content.TheVariants.{Image}
use Rattle.outcome.specs.declared.endings.Ending.{Ending}
use Rattle.outcome.specs.declared.endings.Ending.TheVariants.{Line, Fault, Failure, Busy, NotWritten, FullOutput, Unreported, NoReader, Misuse}
use Rattle.image_files.specs.Laws.{ChangesNothing}
use Rattle.image_files.specs.Saving.{Writes}
use Rattle.image_files.specs.declared.reading.ImagePlace.{ImagePlace}
use Rattle.image_files.proofs.KeepLemmas.{same}
use Rattle.drive_files.specs.Laws.{IsSavedOrKept}
use Rattle.drive_files.specs.Saving.{SavesBytes, SavesPack, WantsMemory}

wants-keeps : (old : List Event) (result : Result (Unit {0}) Ending) (new : List Event) → WantsMemory old result new → ChangesNothing old new
wants-keeps old (Ok it) new p path = absurd p
wants-keeps old (Err ending) new p path = same path p.1

writes-moments : (path name file : List ℕ) (old : List Event) (result : Result (Unit {0}) Ending) (new : List Event) → Writes Image path name file old result new
    → AnyMomentOf (may_replace new) file (about path old) (about path new)
writes-moments path name file old (Ok it) new w = w.moments
writes-moments path name file old (Err (NotWritten it AsItWas)) new (is, fault, between, u, (text, ok, reason, p)) = rw p u.moments
writes-moments path name file old (Err (NotWritten it InPart)) new (is, fault, between, u, (text, ok, reason, p)) = rw p (λ start. inr u.in_place)
writes-moments path name file old (Err (Line it)) new w = absurd w
writes-moments path name file old (Err (Fault it)) new w = absurd w
writes-moments path name file old (Err Failure) new w = absurd w
writes-moments path name file old (Err (Busy it)) new w = absurd w
writes-moments path name file old (Err FullOutput) new w = absurd w
writes-moments path name file old (Err Unreported) new w = absurd w
writes-moments path name file old (Err NoReader) new w = absurd w
writes-moments path name file old (Err Misuse) new w = absurd w

bytes-or-kept : (is_same : Bool) (pack : PackState) (file : List ℕ) (place : ImagePlace) (saved saved' : List ℕ) (old : List Event) (result : Result (Unit {0}) Ending) (new : List Event) → IsFileOf file pack
    → SavesBytes is_same file place saved saved' old result new → ChangesNothing old new ⊎ IsSavedOrKept pack place.path.bytes.items old new
bytes-or-kept true pack file place saved saved' old result new is p = inl (λ path. same path p.0.1)
bytes-or-kept false pack file place saved saved' old result new is p =
    inr (record { file = file; is = is; moments = writes-moments place.path.bytes.items place.name.bytes.items file old result new p.0 })

pub saved-or-kept : (pack : PackState) (place : ImagePlace) (saved saved' : List ℕ) (old : List Event) (result : Result (Unit {0}) Ending) (new : List Event) → SavesPack true pack place saved saved' old result new
    → ChangesNothing old new ⊎ IsSavedOrKept pack place.path.bytes.items old new
saved-or-kept pack place saved saved' old result new (inl p) = inl (wants-keeps old result new p.0)
saved-or-kept pack place saved saved' old result new (inr (file, is, p)) = bytes-or-kept (bytes_eq file saved) pack file place saved saved' old result new is p
