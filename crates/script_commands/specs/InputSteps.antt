-- How many bytes a reader gave. No contract of a public function cites this.
use Rattle.std.specs.Prelude.{◌≡◌, ◌-◌, ◌^◌, ℕ, min, Option, List, length}
use Rattle.std.specs.Io.KnownBytes.{Consumes}

-- a reader gave so many bytes, as far as they are counted
pub record HasGiven (start now : Option (List ℕ)) (count : ℕ) : Type 0 where
  pub bytes : List ℕ
  pub taken : Consumes start now bytes
  pub counted : count ≡ min (length bytes) (2 ^ 64 - 1)
