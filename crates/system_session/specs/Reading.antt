-- What is taken of a script's bytes.
use Rattle.std.specs.Prelude.{◌≡◌, ℕ, ◌≤◌, ◌⊎◌, Option, List, [], ◌++◌, length}
use Rattle.std.specs.Io.KnownBytes.{Consumes}

-- the reader gave these bytes, so many at most, and one more only after so many
pub record IsTaken (most : ℕ) (old new : Option (List ℕ)) (bytes : List ℕ) : Type 0 where
  pub more : List ℕ
  pub taken : Consumes old new (bytes ++ more)
  pub within : length bytes ≤ most
  pub past : (more ≡ []) ⊎ ((length bytes ≡ most) × (length more ≤ 1))
