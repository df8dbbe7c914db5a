-- What the small steps of a statement give, for private clauses.
use Rattle.std.specs.Prelude.{◌≡◌, ℕ, Result, Ok, Err}
use Rattle.pal8_places.specs.Passing.{standing}
use Rattle.pal8_places.specs.Places.{Standing}
use Rattle.pal8_places.specs.declared.faults.Code.{Code}
use Rattle.pal8_places.specs.declared.faults.Stop.{Stop}
use Rattle.pal8_places.specs.declared.faults.Stop.TheVariants.{At, Memory}
use Rattle.pal8_places.specs.declared.names.KnownNames.{KnownNames}
use Rattle.pal8_places.specs.declared.places.Position.{Position}

-- a position is answered, or the fault that refuses it
abbrev pub Moves : Result Position Code → Result Position Stop → Type 0
Moves whole (Ok next) = whole ≡ Ok next
Moves whole (Err (At code)) = whole ≡ Err code
Moves whole (Err Memory) = Unit {0}

-- names are defined, or the fault is answered that refuses them; or memory ran out
abbrev pub Defines : Result Standing Code → Position → Result (Unit {0}) Stop → KnownNames → Type 0
Defines whole position (Ok nothing) new = whole ≡ Ok (standing new position)
Defines whole position (Err (At code)) new = whole ≡ Err code
Defines whole position (Err Memory) new = Unit {0}

-- a value is answered, or the fault that refuses it; or memory ran out
abbrev pub Values : Result ℕ Code → Result ℕ Stop → Type 0
Values whole (Ok found) = whole ≡ Ok found
Values whole (Err (At code)) = whole ≡ Err code
Values whole (Err Memory) = Unit {0}
