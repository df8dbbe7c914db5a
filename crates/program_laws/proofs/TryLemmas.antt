-- Tries, and what is asked of the host first.
use Rattle.std.proofs.Common.{◌≡◌, ◌∙◌, ◌≤◌, ℕ, Bool, true, false, nat_eq, Result, Ok, List, [], ◌∷◌, length, refl, ap, subst, arith, inl, inr}
use Rattle.std.proofs.lemmas.Bool.{eqb-true}
use Rattle.hosts.specs.Event.{Event, leftovers_call}
use Rattle.hosts.specs.Streams.{changes_at}
use Rattle.outcome.specs.declared.endings.Ending.{Ending}
use Rattle.image_files.specs.Laws.{ChangesNothing}
use Rattle.image_files.specs.Reading.{Holds, HoldsAt}
use Rattle.image_files.specs.declared.reading.ImagePlace.{ImagePlace}
use Rattle.show_commands.specs.Checking.{DropsBeside, TellsDropped}
use Rattle.image_files.specs.Waiting.{AreBusy, Within}
use Rattle.program_laws.specs.Tries.{CountsLeft, HasHeld}

-- ## Tries

none-busy : (command : List Event → Result (Unit {0}) Ending → List Event → Type 0) (tries : List (List Event)) (old between : List Event) → length tries ≤ 0 → AreBusy command tries old between → between ≡ old
none-busy command [] old between few busy = busy
none-busy command (before ∷ earlier) old between few busy = absurd (omega (arith, few))

pub once : (name : List ℕ) (command : List Event → Result (Unit {0}) Ending → List Event → Type 0) (old : List Event) (result : Result (Unit {0}) Ending) (new : List Event) (within : Within 0 name command old result new)
    → command old result within.after
once name command old result new within =
    let few : length within.tries ≤ 0 = within.few in
    subst (λ (n : List Event). command n result within.after) (none-busy command within.tries old within.between few within.busy) within.last

-- ## What is held

holds-at : (name : List ℕ) (place : ImagePlace) (old new : List Event) → HoldsAt name place true old new → HasHeld name place.path.bytes.items old new
holds-at name place old new (true, ok, is) = (true, inl is)
holds-at name place old new (false, ok, is) = (false, inr (ok, is))

pub has-held : (name : List ℕ) (place : ImagePlace) (old new : List Event) → Holds name old (Ok place) new → place.is_held ≡ true → HasHeld name place.path.bytes.items old new
has-held name place old new p held = holds-at name place old new (subst (λ (b : Bool). HoldsAt name place b old new) held p.1)

at-keeps : (name : List ℕ) (place : ImagePlace) (is_held : Bool) (old new : List Event) → HoldsAt name place is_held old new → ChangesNothing old new
at-keeps name place true old new (true, ok, is) path = ap (λ (n : List Event). changes_at path n) is
at-keeps name place true old new (false, ok, is) path = ap (λ (n : List Event). changes_at path n) is
at-keeps name place false old new p path = p.0.files path

pub hold-keeps : (name : List ℕ) (place : ImagePlace) (old new : List Event) → Holds name old (Ok place) new → ChangesNothing old new
hold-keeps name place old new p = at-keeps name place place.is_held old new p.1

-- ## What is left beside

counted : (name : List ℕ) (count : ℕ) (is_none : Bool) → nat_eq count 0 ≡ is_none → (old new : List Event) → TellsDropped is_none name count (leftovers_call name count ∷ old) (Ok tt) new → CountsLeft name old new
counted name count true same old new p = inl (p.1 ∙ ap (λ (n : ℕ). leftovers_call name n ∷ old) (eqb-true count 0 same))
counted name count false same old new (ok, is) = inr (inr (count, ok, is))

pub counts-left : (name : List ℕ) (old new : List Event) → DropsBeside name old (Ok tt) new → CountsLeft name old new
counts-left name old new (inl (count, p)) = counted name count (nat_eq count 0) refl old new p
counts-left name old new (inr (fault, is, p)) = inr (inl (fault, p))
