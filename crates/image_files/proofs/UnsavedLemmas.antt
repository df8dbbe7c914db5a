-- A file that could not be written, and what was printed of that.
use Rattle.std.proofs.Common.{◌≡◌, ◌⊎◌, ◌<◌, ℕ, Bool, true, false, List, Err, inr, refl}
use Rattle.hosts.specs.Event.{Event}
use Rattle.hosts.specs.Faults.{fault_number}
use Rattle.hosts.specs.Place.{Step, about}
use Rattle.hosts.specs.Saving.{AnyMomentOf, IsCutShort, IsOrderCut, IsUnwritten, StaysAsItWas}
use Rattle.hosts.specs.Streams.{errors, failures, last_fault, may_replace}
use Rattle.hosts.specs.declared.faults.HostFault.{HostFault}
use Rattle.hosts.specs.declared.faults.Unwritten.{Unwritten}
use Rattle.hosts.specs.declared.faults.Unwritten.TheVariants.{AsItWas, InPart}
use Rattle.outcome.specs.declared.contents.Content.{Content}
use Rattle.outcome.specs.declared.endings.Ending.TheVariants.{NotWritten}
use Rattle.outcome.specs.declared.reasons.Reason.TheVariants.{Fault}
use Rattle.image_files.specs.Reasons.{TellsReason}
use Rattle.image_files.specs.Saving.{IsPlaceTold, TouchesOnly, Writes, directory_size}

in_place : (is : Bool) (old new : List Step) → IsUnwritten InPart is old new → is ≡ false
in_place true old new it = absurd it
in_place false old new it = refl

stays : (is : Bool) (old new : List Step) → IsUnwritten AsItWas is old new → StaysAsItWas old new
stays true old new it = it
stays false old new it = absurd it

silent : (is : Bool) (content : Content) (a b : List Step) → IsUnwritten AsItWas is a b → (old new : List (Bool × List ℕ)) → IsPlaceTold is content old new → new ≡ old
silent true content a b it old new noted = noted
silent false content a b it old new noted = absurd it

place_told : (is : Bool) (content : Content) (a b : List Step) → IsUnwritten InPart is a b → (old new : List (Bool × List ℕ)) → IsPlaceTold is content old new → (new ≡ old) ⊎ IsPlaceTold false content old new
place_told true content a b it old new noted = absurd it
place_told false content a b it old new noted = inr noted

cut_short : (is : Bool) (file : List ℕ) (old new : List Step) → IsUnwritten InPart is old new → IsOrderCut is directory_size file old new → IsCutShort directory_size file old new
cut_short true file old new it order = absurd it
cut_short false file old new it order = order

pub unsaved : (content : Content) (path name file : List ℕ) (state : Unwritten) (why : HostFault) (old between new : List Event) → IsUnwritten state (may_replace between) (about path old) (about path between)
    → IsOrderCut (may_replace between) directory_size file (about path old) (about path between) → AnyMomentOf (may_replace between) file (about path old) (about path between) → failures old < failures between → fault_number why ≡ last_fault between
    → IsPlaceTold (may_replace between) content (errors old) (errors between) → TouchesOnly path old between → TellsReason (Fault why) name between new
    → Writes content path name file old (Err (NotWritten content state)) new
unsaved content path name file AsItWas why old between new saves order moments cause number noted only told = (
  refl,
  why,
  between,
  record {
    same = stays (may_replace between) (about path old) (about path between) saves;
    moments = moments;
    cause = cause;
    why = number;
    silent = silent (may_replace between) content (about path old) (about path between) saves (errors old) (errors between) noted;
    only = only;
  },
  told,
)
unsaved content path name file InPart why old between new saves order moments cause number noted only told = (
  refl,
  why,
  between,
  record {
    in_place = in_place (may_replace between) (about path old) (about path between) saves;
    order = cut_short (may_replace between) file (about path old) (about path between) saves order;
    cause = cause;
    why = number;
    place = place_told (may_replace between) content (about path old) (about path between) saves (errors old) (errors between) noted;
    only = only;
  },
  told,
)
