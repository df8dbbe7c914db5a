-- Volumes as lists of blocks, and what a failing device leaves of them.
use Rattle.std.specs.Prelude.{◌≡◌, ℕ, ◌+◌, ◌<◌, ◌≤◌, nat_lt, if◌then◌else◌, List, [], length, slice_index, slice_index_or, All, slice_set}
use Rattle.word12.specs.declared.sizes.TheConstants.{BLOCK, MOST_BLOCKS}

-- a block has 256 words
abbrev pub IsBlock : List ℕ → Type 0
IsBlock words = length words ≡ BLOCK

-- 8 to 4095 blocks
pub record IsVolume (blocks : List (List ℕ)) : Type 0 where
  pub least : 8 ≤ length blocks
  pub most : length blocks ≤ MOST_BLOCKS
  pub each : All IsBlock blocks

-- each word of each block has twelve bits (Small Computer Handbook)
abbrev pub AreWords : List (List ℕ) → Type 0
AreWords blocks = (n k : ℕ) → slice_index (slice_index_or blocks n []) k < 0o10000

-- one block has any words, and the others are as before
pub record IsDamaged (old new : List (List ℕ)) (number : ℕ) : Type 0 where
  pub words : List ℕ
  pub block : IsBlock words
  pub rest : new ≡ slice_set old number words

-- one more, but a count that stands at its greatest value stays there
abbrev pub next_count : ℕ → ℕ
next_count n = if nat_lt n 18446744073709551615 then n + 1 else n
