-- What steps of the code do. No contract of a public function cites these.
use Rattle.std.specs.Prelude.{◌≡◌, ◌⊎◌, ℕ, ◌+◌, ◌*◌, ◌%◌, ◌<◌, ◌≤◌, List, length, slice_index}
use Rattle.image_kind.specs.Mending.{word_from}

-- So many words from a byte on have their top bits off, and no other byte changes.
pub record AreOff (start count : ℕ) (old new : List ℕ) : Type 0 where
  pub size : length new ≡ length old
  pub words : (k : ℕ) → k < count → word_from new start k ≡ word_from old start k % 0o10000
  pub others : (j : ℕ) → j < start ⊎ start + 2 * count ≤ j → slice_index new j ≡ slice_index old j
