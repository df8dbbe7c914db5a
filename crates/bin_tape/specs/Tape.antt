-- When frames are a BIN tape.
use Rattle.std.specs.Prelude.{◌≡◌, ℕ, ◌+◌, ◌*◌, ◌<◌, ◌≤◌, ◌⊎◌, true, List, [], ◌∷◌, ◌++◌}
use Rattle.bin_tape.specs.Frames.{heeded_frames}
use Rattle.bin_tape.specs.Items.{Item, Word, frames_of_items, has_origin, IsPrefix, check_sum}

-- nothing, or the first frame of an origin or, after an origin, of a word
abbrev pub IsPart : List Item → List ℕ → Type 0
IsPart items [] = Unit {0}
IsPart items (p ∷ []) = (p < 0o200) × ((0o100 ≤ p) ⊎ (has_origin items ≡ true))
IsPart items (p ∷ q ∷ rest) = ⊥

-- The heeded frames may go on as a tape: they are these items, and perhaps the first frame of one more.
pub record IsOpen (kept_frames : List ℕ) (items : List Item) (part : List ℕ) : Type 0 where
  pub frames : kept_frames ≡ frames_of_items items ++ part
  pub is_prefix : IsPrefix items
  pub begun : IsPart items part

-- The frames are a tape of these items: after them come the check sum, a trailer frame, and anything.
pub record IsTape (frames : List ℕ) (items : List Item) : Type 0 where
  pub high : ℕ
  pub low : ℕ
  pub rest : List ℕ
  pub kept_frames : heeded_frames frames ≡ frames_of_items (Word high low ∷ items) ++ 0o200 ∷ rest
  pub is_prefix : IsPrefix (Word high low ∷ items)
  pub sum : 0o100 * high + low ≡ check_sum items
