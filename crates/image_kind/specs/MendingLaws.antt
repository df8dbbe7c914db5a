-- What holds of an image file of which the faults are mended.
use Rattle.std.specs.Prelude.{◌≡◌, ℕ, Bool, ◌/◌, ◌%◌, ◌<◌, ◌≤◌, Option, List, [], length, All, Contains}
use Rattle.disk_layouts.specs.declared.layouts.Layout.{Layout}
use Rattle.image_kind.specs.Volumes.{volumes_in}
use Rattle.image_kind.specs.declared.mending.MendedFile.{MendedFile}
use Rattle.image_kind.specs.declared.mending.WideWord.{WideWord}
use Rattle.image_kind.specs.Sizes.{block_words}
use Rattle.image_kind.specs.Mending.{IsMended, first_of, size_of, word_from, words_of}

-- each word of its volumes has twelve bits, and it has a length that such a file has
pub record IsSound (given : Option Layout) (is_plain : Bool) (file : List ℕ) : Type 0 where
  pub size : size_of given is_plain file ≡ length file
  pub words : (k : ℕ) → k < words_of given is_plain file → word_from file (first_of given is_plain file) k < 0o10000

-- a file without faults is as it was, and nothing is done
pub record IsUntouched (file : List ℕ) (it : MendedFile) : Type 0 where
  pub same : it.bytes.items ≡ file
  pub wide : it.wide.items ≡ []
  pub zeros : it.zeros ≡ 0
  pub cut : it.cut ≡ 0

abbrev pub SoundStays : Type 0
SoundStays = (given : Option Layout) (is_plain : Bool) (file : List ℕ) (it : MendedFile) → All (λ byte. byte < 256) file → All (λ byte. byte < 256) it.bytes.items
    → IsMended given is_plain file it → IsSound given is_plain file → IsUntouched file it

-- word k of the volumes of a file, by its block and its number in it
abbrev pub word_of : Option Layout → Bool → List ℕ → ℕ → WideWord
word_of given is_plain file k = record {
  block = k / block_words (volumes_in given is_plain file);
  word = k % block_words (volumes_in given is_plain file);
  bits = word_from file (first_of given is_plain file) k;
}

-- what is listed is a word of the volumes of more than twelve bits
pub record IsWide (given : Option Layout) (is_plain : Bool) (file : List ℕ) (it : WideWord) : Type 0 where
  pub number : ℕ
  pub within : number < words_of given is_plain file
  pub is : it ≡ word_of given is_plain file number
  pub wide : 0o10000 ≤ it.bits

abbrev pub ListedAreWide : Type 0
ListedAreWide = (given : Option Layout) (is_plain : Bool) (file : List ℕ) (it : MendedFile) → IsMended given is_plain file it → All (IsWide given is_plain file) it.wide.items

-- each such word is listed
abbrev pub WideAreListed : Type 0
WideAreListed = (given : Option Layout) (is_plain : Bool) (file : List ℕ) (it : MendedFile) (k : ℕ) → IsMended given is_plain file it → k < words_of given is_plain file
    → 0o10000 ≤ word_from file (first_of given is_plain file) k → Contains it.wide.items (word_of given is_plain file k)
