-- The words of a target fill whole blocks, at least one.
use Rattle.std.proofs.Common.{◌≡◌, ◌∙◌, ℕ, ◌-◌, ◌*◌, ◌<◌, List, [], ◌∷◌, ◌++◌, length, replicate, refl, ap, arith}
use Rattle.std.proofs.lemmas.List.{length-append, length-replicate}
use Rattle.char_pack.specs.Packing.{frames, words_of_bytes, packed_blocks, group_count, block_count, block_words}
use Rattle.bin_tape.specs.Frames.{heeded_frames}
use Rattle.bin_tape.specs.Items.{Item, Word, frames_of_items}
use Rattle.bin_tape.specs.Tape.{IsTape}
use Rattle.bin_tape.specs.Writing.{tape_of}
use Rattle.pal_asm.specs.Words.{pairs_of}
use Rattle.pal_blocks.specs.Blocks.{blocks_in}
use Rattle.pal_blocks.specs.Sources.{newest_first, assembled_words, IsTapeOfSources}

length_packed : (bytes : List ℕ) → length (words_of_bytes bytes) ≡ 2 * group_count (length bytes)
length_packed [] = refl
length_packed (a ∷ []) = refl
length_packed (a ∷ b ∷ []) = refl
length_packed (a ∷ b ∷ c ∷ bytes) = omega (arith, length_packed bytes)

length_blocks : (bytes : List ℕ) → length (packed_blocks bytes) ≡ 256 * block_count (length bytes)
unfolding block_words
length_blocks bytes = length-append (words_of_bytes bytes) (replicate (256 * block_count n - 2 * group_count n) 0) ∙ omega (arith, length_packed bytes, length-replicate {A = ℕ} (256 * block_count n - 2 * group_count n) 0)
  where
    n : ℕ
    n = length bytes

-- no tape is empty
some_words : (words : List ℕ) (items : List Item) → IsTape (frames words) items → 0 < length words
some_words [] items tape = absurd (never (ap (λ (l : List ℕ). length l) tape.kept_frames))
  where
    never : length (heeded_frames []) ≡ length (frames_of_items (Word tape.high tape.low ∷ items) ++ 128 ∷ tape.rest) → ⊥
    never is = omega (arith, is, length-append (frames_of_items (Word tape.high tape.low ∷ items)) (128 ∷ tape.rest))
some_words (word ∷ words) items tape = omega arith

pub target_whole : (sources : List (List ℕ)) (words : List ℕ) → words ≡ assembled_words sources → 256 * blocks_in words ≡ length words
target_whole sources words is = omega (arith, ap (λ (l : List ℕ). length l) is ∙ length_blocks (tape_of (pairs_of (newest_first sources))))

pub target_some : (sources : List (List ℕ)) (words : List ℕ) → words ≡ assembled_words sources → IsTapeOfSources sources words → 0 < blocks_in words
target_some sources words is means = omega (arith, target_whole sources words is, some_words words means.items means.is_tape)
