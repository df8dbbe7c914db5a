-- What a program that holds a file knows of its changes.
use Rattle.std.proofs.Common.{◌≡◌, Bool, true, false, List, [], ◌∷◌, ◌++◌, Option, None, Some, ◌⊎◌, inl, inr, refl, ap, ◌∙◌, ℕ, ◌&&◌}
use Rattle.std.specs.Str.{bytes_eq}
use Rattle.hosts.specs.Event.{Event}
use Rattle.hosts.specs.Event as event
use Rattle.hosts.specs.Holding.{Turn, Hold, Look, Change, End, without, holder, IsLawful, GoesOn, AllOwn, is_of_path, put_if, with_turn, turns}

same_holder : (now : Option Bool) (other who : Bool) → (now ≡ None) ⊎ (now ≡ Some other) → now ≡ Some who → Some other ≡ Some who
same_holder now other who (inl none) is = cc
same_holder now other who (inr some) is = cc

same_changer : (now : Option Bool) (other who : Bool) → now ≡ Some other → now ≡ Some who → other ≡ who
same_changer now other who some is = cc

without_another : (ended who : Bool) → (ended ≡ who → ⊥) → without ended (Some who) ≡ Some who
without_another true true differs = absurd (differs refl)
without_another true false differs = refl
without_another false true differs = refl
without_another false false differs = absurd (differs refl)

pub record HoldsOn (who : Bool) (later earlier : List Turn) : Type 0 where
  pub holds : holder (later ++ earlier) ≡ Some who
  pub own : AllOwn who later

pub holds_on : (who : Bool) (later earlier : List Turn) → IsLawful (later ++ earlier) → holder earlier ≡ Some who → GoesOn who later → HoldsOn who later earlier
holds_on who [] earlier law h goes = record { holds = h; own = tt }
holds_on who (Hold other true ∷ later) earlier law h goes =
    let r = holds_on who later earlier law.1 h goes in
    record { holds = same_holder (holder (later ++ earlier)) other who law.0 r.holds; own = r.own }
holds_on who (Hold other false ∷ later) earlier law h goes =
    let r = holds_on who later earlier law h goes in
    record { holds = r.holds; own = r.own }
holds_on who (Look other ∷ later) earlier law h goes =
    let r = holds_on who later earlier law h goes in
    record { holds = r.holds; own = r.own }
holds_on who (Change other ∷ later) earlier law h goes =
    let r = holds_on who later earlier law.1 h goes in
    record { holds = r.holds; own = (same_changer (holder (later ++ earlier)) other who law.0 r.holds, r.own) }
holds_on who (End ended ∷ later) earlier law h goes =
    let r = holds_on who later earlier law h goes.1 in
    record { holds = rw r.holds (without_another ended who goes.0); own = r.own }

put_if_append : (is : Bool) (turn : Turn) (later earlier : List Turn) → put_if is turn (later ++ earlier) ≡ put_if is turn later ++ earlier
put_if_append true turn later earlier = refl
put_if_append false turn later earlier = refl

with_turn_append : (c : event.Call) (who : Bool) (e : Event) (path : List ℕ) (later earlier : List Turn) → with_turn c who e path (later ++ earlier) ≡ with_turn c who e path later ++ earlier
with_turn_append event.Hold who e path later earlier = put_if_append (bytes_eq e.name path) (Hold who e.ok) later earlier
with_turn_append event.Look who e path later earlier = put_if_append (bytes_eq e.name path) (Look who) later earlier
with_turn_append (event.Alter change) who e path later earlier = put_if_append (bytes_eq e.name path && is_of_path change) (Change who) later earlier
with_turn_append event.Resolve who e path later earlier = refl
with_turn_append event.DropSeconds who e path later earlier = refl
with_turn_append event.TakeInput who e path later earlier = refl
with_turn_append event.Alone who e path later earlier = refl
with_turn_append event.Leads who e path later earlier = refl
with_turn_append event.LockBeside who e path later earlier = refl
with_turn_append event.Free who e path later earlier = refl
with_turn_append event.There who e path later earlier = refl
with_turn_append event.MakeFolder who e path later earlier = refl
with_turn_append event.Print who e path later earlier = refl
with_turn_append event.Tell who e path later earlier = refl
with_turn_append event.Terminal who e path later earlier = refl
with_turn_append event.Seconds who e path later earlier = refl
with_turn_append event.Pause who e path later earlier = refl
with_turn_append event.Word who e path later earlier = refl
with_turn_append event.EndOfWords who e path later earlier = refl
with_turn_append event.TimeOf who e path later earlier = refl
with_turn_append event.Same who e path later earlier = refl
with_turn_append event.DropLeftovers who e path later earlier = refl

turns_append : (path : List ℕ) (later earlier : List (Bool × Option Event)) → turns path (later ++ earlier) ≡ turns path later ++ turns path earlier
turns_append path [] earlier = refl
turns_append path ((who, Some e) ∷ later) earlier =
    ap (with_turn e.call who e path) (turns_append path later earlier) ∙ with_turn_append e.call who e path (turns path later) (turns path earlier)
turns_append path ((who, None) ∷ later) earlier = ap (λ before. End who ∷ before) (turns_append path later earlier)

pub own_changes : (path : List ℕ) (who : Bool) (later earlier : List (Bool × Option Event)) → IsLawful (turns path (later ++ earlier)) → holder (turns path earlier) ≡ Some who → GoesOn who (turns path later) → AllOwn who (turns path later)
own_changes path who later earlier law h goes = (holds_on who (turns path later) (turns path earlier) (rw (turns_append path later earlier) at law) h goes).own
