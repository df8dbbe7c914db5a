-- A tape that is being written, for private clauses.
use Rattle.std.specs.Prelude.{◌≡◌, ℕ, List}
use Rattle.bin_tape.specs.Items.{Item, frames_of_items, check_sum}

-- the frames so far are those of the items, and the sum is what their check sum would be
pub record HoldsFrames (frames : List ℕ) (sum : ℕ) (items : List Item) : Type 0 where
  pub frames_are : frames ≡ frames_of_items items
  pub sum_is : sum ≡ check_sum items
