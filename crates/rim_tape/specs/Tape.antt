-- When frames are a RIM tape.
use Rattle.std.specs.Prelude.{◌≡◌, ℕ, ◌<◌, ◌≤◌, length, replicate, List, [], ◌∷◌, ◌++◌}
use Rattle.rim_tape.specs.Pairs.{frames_of_pairs, AreOfField0}

-- The frames are a tape of these words with their cells. They are leader frames 0200, if any, then each address with its word, one at
-- least, then a trailer frame 0200, and anything.
pub record IsRim (frames : List ℕ) (pairs : List (ℕ × ℕ)) : Type 0 where
  pub leader : ℕ
  pub rest : List ℕ
  pub frames_are : frames ≡ (replicate leader 0o200 ++ frames_of_pairs pairs) ++ 0o200 ∷ rest
  pub some : 0 < length pairs
  pub words : AreOfField0 pairs

-- nothing, or the first frames of an address with its word
abbrev pub IsPart : List ℕ → Type 0
IsPart [] = Unit {0}
IsPart (a ∷ []) = (0o100 ≤ a) × (a < 0o200)
IsPart (a ∷ b ∷ []) = (0o100 ≤ a) × (a < 0o200) × (b < 0o100)
IsPart (a ∷ b ∷ c ∷ []) = (0o100 ≤ a) × (a < 0o200) × (b < 0o100) × (c < 0o100)
IsPart (a ∷ b ∷ c ∷ d ∷ rest) = ⊥

-- The frames may go on as a tape, and have no trailer yet: leader frames, words with their addresses, and perhaps a part of one more.
pub record IsOpen (frames : List ℕ) (pairs : List (ℕ × ℕ)) (part : List ℕ) : Type 0 where
  pub leader : ℕ
  pub frames_are : frames ≡ (replicate leader 0o200 ++ frames_of_pairs pairs) ++ part
  pub words : AreOfField0 pairs
  pub begun : IsPart part
