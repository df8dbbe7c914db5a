-- The steps of reading a core image, for private clauses.
use Rattle.std.specs.Prelude.{◌≡◌, ℕ, ◌+◌, ◌*◌, ◌≤◌, length, Result, Ok, Err, List, ◌∷◌}
use Rattle.core_image.specs.Segments.{AreSegments, blocks_in, pairs_in}
use Rattle.core_image.specs.Image.{HasHead}
use Rattle.core_image.specs.Fault.{IsFault}
use Rattle.core_image.specs.declared.faults.CoreFault.{CoreFault}

-- So many segments are read, and the words of the next begin at this block.
pub record HasReadTo (words : List ℕ) (number block : ℕ) (older : List (ℕ × ℕ)) : Type 0 where
  pub head : HasHead words
  pub are : AreSegments words older
  pub number_is : number ≡ length older
  pub block_is : block ≡ 1 + blocks_in older
  pub small : block ≤ 1 + 16 * number

pub record HasReadSome (words : List ℕ) (number block : ℕ) : Type 0 where
  pub older : List (ℕ × ℕ)
  pub read : HasReadTo words number block older

-- the same, and the words of these segments are kept
pub record HasKept (words : List ℕ) (number block : ℕ) (pairs : List (ℕ × ℕ)) : Type 0 where
  pub older : List (ℕ × ℕ)
  pub read : HasReadTo words number block older
  pub pairs_are : pairs ≡ pairs_in words older

-- what one more segment after these gives
abbrev pub TellsSegment : List ℕ → List (ℕ × ℕ) → Result (ℕ × ℕ) CoreFault → Type 0
TellsSegment words older (Ok segment) = AreSegments words (segment ∷ older)
TellsSegment words older (Err fault) = IsFault words fault
