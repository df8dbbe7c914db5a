-- What two programs do with one image file, each change of which the host lets that one make alone that holds it.
use Rattle.std.specs.Prelude.{◌≡◌, ℕ, Bool, true, false, not, Option, None, Some, List, [], ◌∷◌, ◌++◌}
use Rattle.hosts.specs.Event.{Event, hold_call, look_call}
use Rattle.hosts.specs.Holding.{AllOwn, turns}

abbrev pub is_one : Bool → Bool → Bool
is_one true other = other
is_one false other = not other

abbrev pub with_call : Bool → Event → List Event → List Event
with_call true e before = e ∷ before
with_call false e before = before

-- the calls of one of two programs, the newest first
abbrev pub calls_of : Bool → List (Bool × Option Event) → List Event
calls_of who [] = []
calls_of who ((other, None) ∷ earlier) = calls_of who earlier
calls_of who ((other, Some e) ∷ earlier) = with_call (is_one who other) e (calls_of who earlier)

-- it has not ended
abbrev pub GoesOnStill : Bool → List (Bool × Option Event) → Type 0
GoesOnStill who [] = Unit {0}
GoesOnStill who ((ended, None) ∷ earlier) = (ended ≡ who → ⊥) × GoesOnStill who earlier
GoesOnStill who ((other, Some e) ∷ earlier) = GoesOnStill who earlier

-- A program held the file of a path, and then read it. Each change of that file since it held it is its own, so what it read is what the file
-- has, but for what it changed itself.
pub record IsHeldSince (who : Bool) (path : List ℕ) (history : List (Bool × Option Event)) : Type 0 where
  pub since : List (Bool × Option Event)
  pub before : List (Bool × Option Event)
  pub has_lock : Bool
  pub parts : history ≡ since ++ (who, Some (hold_call path has_lock)) ∷ before
  pub later : List Event
  pub was : List ℕ
  pub notes : List Event
  pub reads : calls_of who since ≡ later ++ look_call path was ∷ notes
  pub own : AllOwn who (turns path since)
