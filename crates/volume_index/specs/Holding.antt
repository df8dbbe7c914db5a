-- When bytes hold others.
use Rattle.std.specs.Prelude.{ℕ, nat_eq, Bool, true, false, ◌&&◌, ◌||◌, List, [], ◌∷◌}

-- bytes begin with these
abbrev pub begins : List ℕ → List ℕ → Bool
begins [] bytes = true
begins (first ∷ part) [] = false
begins (first ∷ part) (byte ∷ bytes) = nat_eq first byte && begins part bytes

-- these stand somewhere in bytes
abbrev pub holds : List ℕ → List ℕ → Bool
holds part [] = begins part []
holds part (byte ∷ bytes) = begins part (byte ∷ bytes) || holds part bytes
