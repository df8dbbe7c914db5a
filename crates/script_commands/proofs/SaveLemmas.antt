-- How an image file gets an image.
use Rattle.std.proofs.Common.{◌≡◌, ◌⊎◌, ◌∙◌, ◌<◌, ℕ, Bool, true, false, List, Result, Ok, Err, ap, inl, inr, refl}
use Rattle.hosts.specs.Event.{Event}
use Rattle.hosts.specs.Place.{Step, about}
use Rattle.hosts.specs.Saving.{AnyMomentOf, IsCutShort, IsOrderCut, IsPlaceNoted, IsUnwritten, StaysAsItWas}
use Rattle.hosts.specs.Faults.{fault_number}
use Rattle.hosts.specs.Streams.{output, errors, read, folders, failures, last_fault, may_replace}
use Rattle.hosts.specs.declared.faults.HostFault.{HostFault}
use Rattle.hosts.specs.declared.faults.Durability.{Durability}
use Rattle.hosts.specs.declared.faults.Durability.TheVariants.{Certain, Unknown}
use Rattle.hosts.specs.declared.faults.Unwritten.{Unwritten}
use Rattle.hosts.specs.declared.faults.Unwritten.TheVariants.{AsItWas, InPart}
use Rattle.outcome.specs.declared.contents.Content.TheVariants as content
use Rattle.outcome.specs.declared.endings.Ending.{Ending}
use Rattle.outcome.specs.declared.endings.Ending.TheVariants.{NotWritten}
use Rattle.image_files.specs.Reasons.{TellsReason}
use Rattle.outcome.specs.declared.reasons.Reason.TheVariants.{Fault, NoRoom}
use Rattle.image_files.specs.Saving.{IsPlaceTold, TouchesOnly, Writes, directory_size}
use Rattle.image_files.specs.declared.images.Image.{Image}
use Rattle.script_commands.specs.Steps.{GetsImage, IsBodyOf, IsSyncToldOnce, once_note}
use Rattle.script_commands.specs.RunSteps.{IsWritten, NotesSync, WritesAround, WritesImage}

-- what a note on the folder leaves as it was
record IsNoted (is_told : Bool) (durability : Durability) (old new : List Event) : Type 0 where
  files : (path : List ℕ) → about path new ≡ about path old
  keeps_folders : folders new ≡ folders old
  answers : may_replace new ≡ may_replace old
  prints : output new ≡ output old
  reads : read new ≡ read old
  note : IsSyncToldOnce is_told durability (errors old) (errors new)

noted : (is_told : Bool) (durability : Durability) (old new : List Event) → NotesSync is_told durability old new → IsNoted is_told durability old new
noted true durability old new is = record { files = λ path. ap (λ (h : List Event). about path h) is; answers = ap may_replace is; prints = ap output is; reads = ap read is; keeps_folders = ap folders is; note = ap errors is }
noted false Certain old new is = record { files = λ path. ap (λ (h : List Event). about path h) is; answers = ap may_replace is; prints = ap output is; reads = ap read is; keeps_folders = ap folders is; note = ap errors is }
noted false Unknown old new (ok, is) = record { files = λ path. ap (λ (h : List Event). about path h) is; answers = ap may_replace is; prints = ap output is; reads = ap read is; keeps_folders = ap folders is; note = (ok, ap errors is) }

pub got : (is_place is_sync : Bool) (before img after : Image) (bytes : List ℕ) (durability : Durability) (old mid new : List Event) → IsWritten is_place before bytes durability img old mid → NotesSync is_sync durability mid new
    → after.place ≡ img.place → after.disk ≡ img.disk → after.parts ≡ img.parts → after.judgment ≡ img.judgment → after.bytes.items ≡ bytes → GetsImage is_place is_sync before after durability old new
got is_place is_sync before img after bytes durability old mid new w notes place disk parts same are = record {
  held = w.held;
  place = place ∙ w.place;
  file = w.file;
  is = rw (disk, parts, are) w.is;
  judgment = same ∙ w.judgment;
  kind = w.kind;
  kept = rw (n.answers, n.files path) w.wrote.kept;
  moments = rw (n.answers, n.files path) w.wrote.moments;
  order = rw (n.answers, n.files path) w.wrote.order;
  noted = errors mid;
  place_note = rw n.answers w.wrote.note;
  sync_note = n.note;
  only = record { others = λ other apart. n.files other ∙ w.wrote.only.others other apart; beside = rw (n.files path) w.wrote.only.beside; prints = n.prints ∙ w.wrote.only.prints; reads = n.reads ∙ w.wrote.only.reads; keeps_folders = n.keeps_folders ∙ w.wrote.only.keeps_folders };
} where
  path : List ℕ
  path = before.place.path.bytes.items

  n : IsNoted is_sync durability mid new
  n = noted is_sync durability mid new notes

place_told : (is is_told : Bool) (old new : List (Bool × List ℕ)) → IsPlaceNoted is (once_note is_told) old new → (new ≡ old) ⊎ IsPlaceTold false content.Image old new
place_told true is_told old new it = inl it
place_told false true old new it = inl it
place_told false false old new it = inr it

in_place : (is : Bool) (old new : List Step) → IsUnwritten InPart is old new → is ≡ false
in_place true old new it = absurd it
in_place false old new it = refl

stays : (is : Bool) (old new : List Step) → IsUnwritten AsItWas is old new → StaysAsItWas old new
stays true old new it = it
stays false old new it = absurd it

silent : (is : Bool) (a b : List Step) → IsUnwritten AsItWas is a b → (note : List ℕ) (old new : List (Bool × List ℕ)) → IsPlaceNoted is note old new → new ≡ old
silent true a b it note old new noted = noted
silent false a b it note old new noted = absurd it

cut_short : (is : Bool) (file : List ℕ) (old new : List Step) → IsUnwritten InPart is old new → IsOrderCut is directory_size file old new → IsCutShort directory_size file old new
cut_short true file old new it order = absurd it
cut_short false file old new it order = order

-- a file that could not be written, which was printed
pub left_so : (is_told : Bool) (path name file : List ℕ) (left : Unwritten) (why : HostFault) (old between new : List Event) → IsUnwritten left (may_replace between) (about path old) (about path between)
    → IsOrderCut (may_replace between) directory_size file (about path old) (about path between) → AnyMomentOf (may_replace between) file (about path old) (about path between) → failures old < failures between → fault_number why ≡ last_fault between
    → IsPlaceNoted (may_replace between) (once_note is_told) (errors old) (errors between) → TouchesOnly path old between → TellsReason (Fault why) name between new
    → Writes content.Image path name file old (Err (NotWritten content.Image left)) new
left_so is_told path name file AsItWas why old between new saves order moments cause number note only told = (
  refl,
  why,
  between,
  record {
    same = stays (may_replace between) (about path old) (about path between) saves;
    moments = moments;
    cause = cause;
    why = number;
    silent = silent (may_replace between) (about path old) (about path between) saves (once_note is_told) (errors old) (errors between) note;
    only = only;
  },
  told,
)
left_so is_told path name file InPart why old between new saves order moments cause number note only told = (
  refl,
  why,
  between,
  record {
    in_place = in_place (may_replace between) (about path old) (about path between) saves;
    order = cut_short (may_replace between) file (about path old) (about path between) saves order;
    cause = cause;
    why = number;
    place = place_told (may_replace between) is_told (errors old) (errors between) note;
    only = only;
  },
  told,
)

-- the file of an image gets these bytes of its volumes, or not
pub written_so : (is_told : Bool) (before after : Image) (bytes body : List ℕ) (result : Result Durability Ending) (old new : List Event) → before.place.is_held ≡ true → after.place ≡ before.place → after.bytes ≡ before.bytes
    → after.judgment ≡ before.judgment → IsBodyOf before.disk bytes body after.disk
    → WritesAround before.judgment is_told before.parts before.place.path.bytes.items before.place.name.bytes.items body result after.parts old new → WritesImage is_told before bytes result after old new
written_so is_told before after bytes body (Ok durability) old new held place same judgment body_is (file, is, kind, wrote) =
    record { held = held; place = place; same = same; file = file; is = (body, body_is, is); judgment = judgment; kind = kind; wrote = wrote }
written_so is_told before after bytes body (Err ending) old new held place same judgment body_is (inl (ends, told)) = inr (inl (ends, NoRoom, told))
written_so is_told before after bytes body (Err ending) old new held place same judgment body_is (inr (file, writes)) = inr (inr (held, file, writes))
