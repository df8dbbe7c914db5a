-- What the laws of BIN tapes use.
use Rattle.std.specs.Prelude.{ℕ, List, ◌++◌}
use Rattle.bin_tape.specs.Frames.{heeded_frames}
use Rattle.bin_tape.specs.Items.{Item}
use Rattle.bin_tape.specs.Tape.{IsOpen, IsTape}

-- the frames are no tape, and can't become one
pub record IsClosed (frames : List ℕ) : Type 0 where
  pub not_tape : (items : List Item) → IsTape frames items → ⊥
  pub not_open : (items : List Item) (part : List ℕ) → IsOpen (heeded_frames frames) items part → ⊥

-- Some further frames make a tape of the frames, whose items begin with these.
pub record GoesOn (frames : List ℕ) (items : List Item) : Type 0 where
  pub more : List ℕ
  pub later : List Item
  pub is_tape : IsTape (frames ++ more) (later ++ items)
