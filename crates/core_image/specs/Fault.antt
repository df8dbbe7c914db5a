-- The one fault of words that are no core image.
use Rattle.std.specs.Prelude.{◌≡◌, ℕ, ◌+◌, ◌*◌, ◌<◌, ◌≤◌, ◌⊎◌, length, slice_index, List}
use Rattle.word12.specs.declared.sizes.TheConstants.{BLOCK}
use Rattle.core_image.specs.Segments.{AreSegments, IsFirst, IsControl, blocks_in, blocks_of}
use Rattle.core_image.specs.Image.{HasHead, IsCount, IsStart, IsImage, count_of}
use Rattle.core_image.specs.declared.faults.CoreFault.{CoreFault}
use Rattle.core_image.specs.declared.faults.CoreFault.TheVariants.{BadWord, TooShort, Memory}

-- word 0 gives no number of segments; or it does, and word 1 is no 62N3
abbrev pub IsBadHead : List ℕ → ℕ → Type 0
IsBadHead words place = (BLOCK ≤ length words)
    × (((place ≡ 0) × (slice_index words 0 < 0o7602))
    ⊎ ((place ≡ 1) × IsCount (slice_index words 0) × (IsStart (slice_index words 1) → ⊥)))

-- the control block lists one more segment after these
pub record HasMore (words : List ℕ) (older : List (ℕ × ℕ)) : Type 0 where
  pub head : HasHead words
  pub are : AreSegments words older
  pub more : length older < count_of words

-- the first word of a segment is not so, or it is so and the second is not
pub record IsBadSegment (words : List ℕ) (place : ℕ) : Type 0 where
  pub older : List (ℕ × ℕ)
  pub has_more : HasMore words older
  pub bad : ((place ≡ 4 + 2 * length older) × (IsFirst (slice_index words place) → ⊥))
      ⊎ ((place ≡ 5 + 2 * length older) × IsFirst (slice_index words (4 + 2 * length older))
      × (IsControl (slice_index words (4 + 2 * length older)) (slice_index words place) → ⊥))

-- the file ends before the words of a segment whose two words are so
pub record EndsEarly (words : List ℕ) : Type 0 where
  pub older : List (ℕ × ℕ)
  pub has_more : HasMore words older
  pub first : IsFirst (slice_index words (4 + 2 * length older))
  pub control : IsControl (slice_index words (4 + 2 * length older)) (slice_index words (5 + 2 * length older))
  pub short : length words < BLOCK * (1 + blocks_in older + blocks_of (slice_index words (5 + 2 * length older)))

-- the words are a core image
pub record IsSomeImage (words : List ℕ) : Type 0 where
  pub pairs : List (ℕ × ℕ)
  pub start : ℕ
  pub status : ℕ
  pub is_image : IsImage words pairs start status

-- The fault of words that are no core image. It is the first word of the control block that is not so, with its place. Or it is
-- that the file ends before the control block or the words of a segment. Memory runs out only for the words of an image.
abbrev pub IsFault : List ℕ → CoreFault → Type 0
IsFault words (BadWord place word) = (word ≡ slice_index words place) × (IsBadHead words place ⊎ IsBadSegment words place)
IsFault words TooShort = (length words < BLOCK) ⊎ EndsEarly words
IsFault words Memory = IsSomeImage words
