-- An image file of which the faults are mended (this project's profile).
use Rattle.std.specs.Prelude.{◌≡◌, ◌⊎◌, ℕ, Bool, zero, suc, ◌+◌, ◌-◌, ◌*◌, ◌/◌, ◌%◌, ◌<◌, ◌≤◌, nat_le, if◌then◌else◌, Option, List, [], ◌∷◌, ◌++◌, length, slice_index}
use Rattle.disk_layouts.specs.declared.layouts.Layout.{Layout}
use Rattle.image_kind.specs.Judging.{judged_kind}
use Rattle.image_kind.specs.Margins.{margins_in}
use Rattle.image_kind.specs.Volumes.{volumes_in}
use Rattle.image_kind.specs.Sizes.{block_words, mended_size, words_within}
use Rattle.image_kind.specs.declared.mending.WideWord.{WideWord}
use Rattle.image_kind.specs.declared.mending.MendedFile.{MendedFile}

-- ## Words

-- word k of a file from a byte on: its low byte first; 0 after the end
abbrev pub word_from : List ℕ → ℕ → ℕ → ℕ
word_from file start k = slice_index file (start + 2 * k) + 256 * slice_index file (start + 2 * k + 1)

-- the word of this number and these bits, if they are more than twelve, by its block and its number in it
abbrev pub if_wide : ℕ → ℕ → ℕ → List WideWord
if_wide block k bits = if nat_le 0o10000 bits then record { block = k / block; word = k % block; bits = bits } ∷ [] else []

abbrev pub wide_word : ℕ → List ℕ → ℕ → ℕ → List WideWord
wide_word block file start k = if_wide block k (word_from file start k)

-- those of so many words that have more than twelve bits
abbrev pub wide_words : ℕ → List ℕ → ℕ → ℕ → List WideWord
wide_words block file start zero = []
wide_words block file start (suc k) = wide_words block file start k ++ wide_word block file start k

-- ## The file

-- how long it is when it is mended
abbrev pub size_of : Option Layout → Bool → List ℕ → ℕ
size_of given is_plain file = mended_size given (judged_kind is_plain file) (length file)

-- how many bytes stand before the first word of its volumes, and how many words they have
abbrev pub first_of : Option Layout → Bool → List ℕ → ℕ
first_of given is_plain file = (margins_in given is_plain file).before

abbrev pub words_of : Option Layout → Bool → List ℕ → ℕ
words_of given is_plain file = words_within (margins_in given is_plain file) (size_of given is_plain file)

-- Of each word of the volumes the top bits are off, and each that had such bits is listed. No other byte changes; past the old end are zeros.
pub record IsMended (given : Option Layout) (is_plain : Bool) (file : List ℕ) (it : MendedFile) : Type 0 where
  pub size : length it.bytes.items ≡ size_of given is_plain file
  pub words : (k : ℕ) → k < words_of given is_plain file → word_from it.bytes.items (first_of given is_plain file) k ≡ word_from file (first_of given is_plain file) k % 0o10000
  pub others : (j : ℕ) → j < size_of given is_plain file → j < first_of given is_plain file ⊎ first_of given is_plain file + 2 * words_of given is_plain file ≤ j
      → slice_index it.bytes.items j ≡ slice_index file j
  pub wide : it.wide.items ≡ wide_words (block_words (volumes_in given is_plain file)) file (first_of given is_plain file) (words_of given is_plain file)
  pub zeros : it.zeros ≡ size_of given is_plain file - length file
  pub cut : it.cut ≡ length file - size_of given is_plain file
