-- Three characters in two words (OS/8 Software Support Manual).
use Rattle.std.specs.Prelude.{◌≡◌, ℕ, ◌+◌, ◌-◌, ◌*◌, ◌/◌, ◌%◌, ◌≤◌, List, [], ◌∷◌, ◌++◌, length, replicate}
use Rattle.word12.specs.declared.sizes.TheConstants.{BLOCK}
use Rattle.char_pack.specs.declared.packing.TheConstants as declared

-- The frames of words: three for each two of them, where the third has the high four bits of both. An odd last word
-- gives none.
abbrev pub frames : List ℕ → List ℕ
frames [] = []
frames (first ∷ []) = []
frames (first ∷ second ∷ words) =
    (first % 256) ∷ (second % 256) ∷ (16 * (first / 256) + second / 256) ∷ frames words

-- the two words of three bytes: each has one of the first two, and four bits of the third above it
abbrev pub group : ℕ → ℕ → ℕ → List ℕ
group a b c = (256 * (c / 16) + a) ∷ (256 * (c % 16) + b) ∷ []

-- the words of bytes, three in two words, where zeros fill the last group
abbrev pub words_of_bytes : List ℕ → List ℕ
words_of_bytes [] = []
words_of_bytes (a ∷ []) = group a 0 0
words_of_bytes (a ∷ b ∷ []) = group a b 0
words_of_bytes (a ∷ b ∷ c ∷ bytes) = group a b c ++ words_of_bytes bytes

-- how many groups of three so many bytes take, each of them two words
abbrev pub group_count : ℕ → ℕ
group_count n = (n + 2) / 3

-- the words are the shortest even list of words whose frames begin with the bytes, and the frames after these are zeros
pub record IsPacking (bytes words : List ℕ) : Type 0 where
  pub even : length words % 2 ≡ 0
  pub reads_back : frames words ≡ bytes ++ replicate (3 * group_count (length bytes) - length bytes) 0
  pub shortest : (others following : List ℕ) → length others % 2 ≡ 0 → frames others ≡ bytes ++ following
      → length words ≤ length others

-- how many words a block has
unfoldable pub block_words : ℕ
block_words = BLOCK

-- how many frames a block has
unfoldable pub block_frames : ℕ
block_frames = declared.BLOCK_FRAMES

-- how many blocks hold so many frames
abbrev pub block_count : ℕ → ℕ
block_count n = (n + (declared.BLOCK_FRAMES - 1)) / declared.BLOCK_FRAMES

-- the words of bytes in whole blocks, where zeros fill the last block
abbrev pub packed_blocks : List ℕ → List ℕ
packed_blocks bytes =
    words_of_bytes bytes ++ replicate (block_words * block_count (length bytes) - 2 * group_count (length bytes)) 0

-- the words are the fewest whole blocks whose frames begin with the bytes, and the frames after these are zeros
pub record IsBlockPacking (bytes words : List ℕ) : Type 0 where
  pub whole : length words ≡ BLOCK * block_count (length bytes)
  pub reads_back : frames words ≡ bytes ++ replicate (block_frames * block_count (length bytes) - length bytes) 0
  pub fewest : (others following : List ℕ) (count : ℕ) → length others ≡ BLOCK * count → frames others ≡ bytes ++ following
      → length words ≤ length others
