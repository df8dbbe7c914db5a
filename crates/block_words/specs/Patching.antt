-- One word of an image in place of another.
use Rattle.std.specs.Prelude.{◌≡◌, ◌≢◌, ℕ, ◌+◌, ◌*◌, ◌/◌, ◌<◌, ◌≤◌, Result, Ok, Err, List, length, slice_index}
use Rattle.word12.specs.declared.sizes.TheConstants.{BLOCK}
use Rattle.volume_image.specs.Image.{image_word}
use Rattle.block_words.specs.declared.faults.PatchFault.{PatchFault}
use Rattle.block_words.specs.declared.faults.PatchFault.TheVariants.{NoBlock, NoWord, OtherWord}

-- an image with this word at a place: each byte that is none of the word's is as it was
pub record IsPatched (old new : List ℕ) (place word : ℕ) : Type 0 where
  pub size : length new ≡ length old
  pub there : image_word new place ≡ word
  pub others : (k : ℕ) → k ≢ 2 * place → k ≢ 2 * place + 1 → slice_index new k ≡ slice_index old k

-- the image has the block, whole
abbrev pub HasBlock : List ℕ → ℕ → Type 0
HasBlock image block = block < length image / 0o1000

-- What is answered where a word of a block is to be put in place of this one: another word that stands there is reported.
abbrev pub Patches : List ℕ → ℕ → ℕ → ℕ → ℕ → Result (Unit {0}) PatchFault → List ℕ → Type 0
Patches old block number found word (Ok done) new =
    HasBlock old block × (number < BLOCK) × (image_word old (BLOCK * block + number) ≡ found) × IsPatched old new (BLOCK * block + number) word
Patches old block number found word (Err (NoBlock count)) new = (new ≡ old) × (count ≡ length old / 0o1000) × (count ≤ block)
Patches old block number found word (Err NoWord) new = (new ≡ old) × HasBlock old block × (BLOCK ≤ number)
Patches old block number found word (Err (OtherWord there)) new =
    (new ≡ old) × HasBlock old block × (number < BLOCK) × (there ≡ image_word old (BLOCK * block + number)) × (there ≢ found)
