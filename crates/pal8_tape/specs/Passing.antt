-- What the statements of sources leave, but for words.
use Rattle.std.specs.Prelude.{◌≡◌, Bool, true, false, is_some, Option, None, Ok, Err, List}
use Rattle.pal8_places.specs.Passing.{standing}
use Rattle.pal8_asm.specs.Sources.{Entry, PassResult, Remainder}
use Rattle.pal8_asm.specs.declared.faults.Place.{Place}
use Rattle.pal8_places.specs.declared.names.KnownNames.{KnownNames}
use Rattle.pal8_places.specs.declared.places.Position.{Position}

-- How far a pass is.
pub record PassState : Type 0 where
  pub names : KnownNames
  pub position : Position
  pub brackets : List Bool
  -- a statement had a fault, or a `$` ended the source
  pub is_over : Bool

abbrev pub remainder_at : KnownNames → Position → List Entry → List Bool → Option Place → Remainder
remainder_at names position entries brackets end = record { standing = standing names position; entries = entries; brackets = brackets; end = end }

-- a statement had a fault, or a `$` ended the source
abbrev pub is_settled : PassResult → Bool
is_settled (Err fault) = true
is_settled (Ok left) = is_some left.end

abbrev pub FollowsBy : Bool → PassState → PassResult → Type 0
FollowsBy true p left = is_settled left ≡ true
FollowsBy false p left = (entries : List Entry) × (left ≡ Ok (remainder_at p.names p.position entries p.brackets None))

-- a pass has what statements left, but for their words
abbrev pub Follows : PassState → PassResult → Type 0
Follows p left = FollowsBy p.is_over p left
