-- Images of volumes: 8 to 4095 blocks of 512 bytes, each word in two bytes, the low one first (this project's profile).
use Rattle.std.specs.Prelude.{◌≡◌, ◌≢◌, ℕ, ◌+◌, ◌-◌, ◌*◌, ◌/◌, ◌%◌, ◌<◌, ◌≤◌, ◌==◌, if◌then◌else◌, List, [], ◌∷◌, length, slice_index, slice_index_or, Result, Ok, Err, MatchResult, All}
use Rattle.volume_image.specs.Volume.{IsVolume}
use Rattle.volume_image.specs.Stores.{InMemory}
use Rattle.volume_image.specs.declared.faults.ImageFault.{ImageFault}
use Rattle.volume_image.specs.declared.faults.ImageFault.TheVariants.{NotWhole, TooSmall, TooLarge, BadWord, Memory}
use Rattle.word12.specs.declared.sizes.TheConstants.{BLOCK, FIRST_FILE_BLOCK, MOST_BLOCKS}

-- numbers that fit in bytes
abbrev pub AreBytes : List ℕ → Type 0
AreBytes bytes = All (λ byte. byte < 256) bytes

-- word k of an image
abbrev pub image_word : List ℕ → ℕ → ℕ
image_word bytes k = slice_index bytes (2 * k) + 256 * slice_index bytes (2 * k + 1)

-- word k of block n
abbrev pub block_word : List (List ℕ) → ℕ → ℕ → ℕ
block_word blocks n k = slice_index (slice_index_or blocks n []) k

-- the first word that has more than twelve bits
pub record IsFirstBadWord (bytes : List ℕ) (number : ℕ) : Type 0 where
  pub within : 2 * number < length bytes
  pub bad : 0o10000 ≤ image_word bytes number
  pub before : (k : ℕ) → k < number → image_word bytes k < 0o10000

-- whole blocks, 8 to 4095 of them
pub record HasImageSize (bytes : List ℕ) : Type 0 where
  pub whole : length bytes % 512 ≡ 0
  pub least : 8 ≤ length bytes / 512
  pub most : length bytes / 512 ≤ MOST_BLOCKS

-- an image of that size whose words have twelve bits
pub record IsImage (bytes : List ℕ) : Type 0 where
  pub size : HasImageSize bytes
  pub range : (k : ℕ) → image_word bytes k < 0o10000

-- the image of these blocks: word k of block n is word 256 n + k of the image
pub record IsImageOf (bytes : List ℕ) (blocks : List (List ℕ)) : Type 0 where
  pub volume : IsVolume blocks
  pub size : length bytes ≡ 512 * length blocks
  pub range : (k : ℕ) → image_word bytes k < 0o10000
  pub words : (n k : ℕ) → n < length blocks → k < BLOCK → block_word blocks n k ≡ image_word bytes (BLOCK * n + k)

-- what is answered where bytes are to be read as an image: `Memory` is reported for an image only
abbrev pub ReadsImage : List ℕ → Result InMemory ImageFault → Type 0
ReadsImage bytes (Ok volume) = IsImageOf bytes volume.blocks × (volume.reads ≡ 0) × (volume.writes ≡ 0)
ReadsImage bytes (Err NotWhole) = length bytes % 512 ≢ 0
ReadsImage bytes (Err TooSmall) = (length bytes % 512 ≡ 0) × (length bytes / 512 < 8)
ReadsImage bytes (Err TooLarge) = (length bytes % 512 ≡ 0) × (MOST_BLOCKS < length bytes / 512)
ReadsImage bytes (Err (BadWord number)) = HasImageSize bytes × IsFirstBadWord bytes number
ReadsImage bytes (Err Memory) = IsImage bytes

-- minus a number, as a word
abbrev pub minus : ℕ → ℕ
minus n = (0o10000 - n) % 0o10000

-- Block 1 of an empty volume begins with these words (OS/8 Software Support Manual). They are minus the number of
-- entries, the first block of files, no next segment, no flag word, minus the number of information words, and one
-- entry. This is empty and has minus its length.
abbrev pub new_directory : ℕ → List ℕ
new_directory blocks = minus 1 ∷ FIRST_FILE_BLOCK ∷ 0 ∷ 0 ∷ minus 1 ∷ 0 ∷ minus (blocks - FIRST_FILE_BLOCK) ∷ []

-- word k of block n of an empty volume
abbrev pub new_word : ℕ → ℕ → ℕ → ℕ
new_word blocks n k = if n == 1 then slice_index (new_directory blocks) k else 0

-- an empty volume of so many blocks: all words that the directory does not name are 0
pub record IsNewVolume (count : ℕ) (blocks : List (List ℕ)) : Type 0 where
  pub volume : IsVolume blocks
  pub size : length blocks ≡ count
  pub words : (n k : ℕ) → n < count → k < BLOCK → block_word blocks n k ≡ new_word count n k

-- what is answered where an empty volume of so many blocks is wanted
abbrev pub Creates : ℕ → Result InMemory ImageFault → Type 0
Creates count (Ok volume) = IsNewVolume count volume.blocks × (volume.reads ≡ 0) × (volume.writes ≡ 0)
Creates count (Err NotWhole) = ⊥
Creates count (Err TooSmall) = count < 8
Creates count (Err TooLarge) = MOST_BLOCKS < count
Creates count (Err (BadWord number)) = ⊥
Creates count (Err Memory) = (8 ≤ count) × (count ≤ MOST_BLOCKS)

-- the image of a volume is read back as that volume, where memory is there
abbrev pub WrittenIsReadBack : Type 0
WrittenIsReadBack = (bytes : List ℕ) (blocks : List (List ℕ)) (answer : Result InMemory ImageFault)
    → IsImageOf bytes blocks → ReadsImage bytes answer → MatchResult answer (λ volume. volume.blocks ≡ blocks) (λ fault. fault ≡ Memory)

-- an image that is read and written is the same bytes
abbrev pub ReadIsWrittenBack : Type 0
ReadIsWrittenBack = (bytes written : List ℕ) (volume : InMemory)
    → AreBytes bytes → AreBytes written → ReadsImage bytes (Ok volume) → IsImageOf written volume.blocks → written ≡ bytes
