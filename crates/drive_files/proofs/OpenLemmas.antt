-- The opening of a file that is to be saved, and of the drives.
use Rattle.std.proofs.Common.{◌≡◌, ℕ, Bool, true, false, true≢false, not, Option, Result, Ok, Err, IsErrAnd, List, refl, subst, sym}
use Rattle.std.specs.Result.{IsErr}
use Rattle.hosts.specs.Event.{Event}
use Rattle.hosts.specs.declared.faults.Unwritten.TheVariants.{AsItWas}
use Rattle.refusals.specs.declared.faults.SessionFault.TheVariants.{Memory}
use Rattle.outcome.specs.declared.contents.Content.TheVariants.{Image}
use Rattle.outcome.specs.declared.endings.Ending.{Ending}
use Rattle.outcome.specs.declared.endings.Ending.TheVariants.{Fault, NotWritten}
use Rattle.outcome.specs.declared.reasons.Reason.TheVariants as reason
use Rattle.image_files.specs.Reasons.{TellsReason}
use Rattle.image_files.specs.declared.reading.ImagePlace.{ImagePlace}
use Rattle.drive_files.specs.Opening.{AreOpen, IsWritable}
use Rattle.drive_files.specs.declared.opening.OpenDisk.{OpenDisk}
use Rattle.drive_files.specs.declared.opening.OpenDrives.{OpenDrives}

-- what isn't denied is so
is-so : (is : Bool) → not is ≡ false → is ≡ true
is-so true p = refl
is-so false p = absurd (true≢false p)

-- a file that may be written is held
pub is-writable : (place : ImagePlace) (name : List ℕ) (old : List Event) → not place.is_held ≡ false → IsWritable place place.is_held name old (Ok place) old
is-writable place name old is = subst (λ held. IsWritable place held name old (Ok place) old) (sym (is-so place.is_held is)) (refl, refl)

-- and another is refused
refused : (place : ImagePlace) (name : List ℕ) (held : Bool) (old new : List Event) → not held ≡ true → TellsReason (reason.Fault place.why) name old new
    → IsWritable place held name old (Err (NotWritten Image AsItWas)) new
refused place name true old new is tells = absurd (true≢false (sym is))
refused place name false old new is tells = (refl, tells)

pub is-refused : (place : ImagePlace) (name : List ℕ) (old new : List Event) → not place.is_held ≡ true → TellsReason (reason.Fault place.why) name old new
    → IsWritable place place.is_held name old (Err (NotWritten Image AsItWas)) new
is-refused place name old new is tells = refused place name place.is_held old new is tells

-- memory is wanted for a save
pub are-not-open : (disk0 disk1 disk2 disk3 : Option OpenDisk) (result : Result OpenDrives Ending) → IsErr result × IsErrAnd result (λ it. it ≡ Fault Memory)
    → AreOpen disk0 disk1 disk2 disk3 result
are-not-open disk0 disk1 disk2 disk3 (Ok it) is = absurd is.1
are-not-open disk0 disk1 disk2 disk3 (Err it) is = is.1
