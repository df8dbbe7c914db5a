-- When the words of a file are a core image, and what it gives.
use Rattle.std.specs.Prelude.{◌≡◌, ℕ, ◌+◌, ◌-◌, ◌*◌, ◌/◌, ◌%◌, ◌<◌, ◌≤◌, length, slice_index, List}
use Rattle.word12.specs.declared.sizes.TheConstants.{BLOCK, FIELD}
use Rattle.core_image.specs.Segments.{AreSegments, field_of, pairs_in}

-- word 0 of the control block is minus the number of segments, 1 to 126, as many as a block of 256 words has room for
abbrev pub IsCount : ℕ → Type 0
IsCount word = (0o7602 ≤ word) × (word < 0o10000)

abbrev pub count_of : List ℕ → ℕ
count_of words = 0o10000 - slice_index words 0

-- word 1 is 62N3, where N is the field to start in
abbrev pub IsStart : ℕ → Type 0
IsStart word = (word / 0o100 ≡ 0o62) × (word % 8 ≡ 3)

-- The file begins with a whole block whose words 0 and 1 are those of a control block.
pub record HasHead (words : List ℕ) : Type 0 where
  pub whole : BLOCK ≤ length words
  pub count : IsCount (slice_index words 0)
  pub start : IsStart (slice_index words 1)

-- The words are a core image. It gives these cells these words, in the order of the file. Its program starts at a cell, by the field of
-- word 1 and the address that is word 2. Word 3 is its job status word. What stands after the last segment means nothing.
pub record IsImage (words : List ℕ) (pairs : List (ℕ × ℕ)) (start status : ℕ) : Type 0 where
  pub head : HasHead words
  pub segments : List (ℕ × ℕ)
  pub are : AreSegments words segments
  pub all : length segments ≡ count_of words
  pub pairs_are : pairs ≡ pairs_in words segments
  pub start_is : start ≡ FIELD * field_of (slice_index words 1) + slice_index words 2
  pub status_is : status ≡ slice_index words 3
