-- What was packed has the bytes as its frames.
use Rattle.std.proofs.Common.{◌≤◌, sym, ◌≡◌, ℕ, ◌+◌, ◌-◌, ◌*◌, ◌/◌, ◌%◌, ◌<◌, List, [], ◌∷◌, ◌++◌, zero, suc, length, get_or, replicate, refl, ap, ◌∙◌, arith}
use Rattle.std.proofs.lemmas.List.{append_assoc, length-append, length-replicate, replicate-append-replicate}
use Rattle.char_pack.specs.Packing.{frames, group, words_of_bytes, group_count, IsPacking, block_words, block_frames, block_count, packed_blocks, IsBlockPacking}
use Rattle.char_pack.proofs.FrameLemmas.{length-frames, frames-append}

-- each is a number of eight bits
abbrev pub Bytes : List ℕ → Type 0
Bytes [] = Unit {0}
Bytes (byte ∷ bytes) = (byte < 256) × Bytes bytes

pub Bytes-from : (bytes : List ℕ) → ((k : ℕ) → k < length bytes → get_or bytes k 0 < 256) → Bytes bytes
Bytes-from [] below = tt
Bytes-from (byte ∷ bytes) below = (below 0 (omega arith), Bytes-from bytes (λ k within. below (suc k) (omega arith)))

pub length-packed : (bytes : List ℕ) → length (words_of_bytes bytes) ≡ 2 * group_count (length bytes)
length-packed [] = refl
length-packed (a ∷ []) = refl
length-packed (a ∷ b ∷ []) = refl
length-packed (a ∷ b ∷ c ∷ bytes) = omega (arith, length-packed bytes)

first_frame : (a c : ℕ) → a < 256 → (256 * (c / 16) + a) % 256 ≡ a
first_frame a c a_fits = omega arith

third_frame : (a b c : ℕ) → a < 256 → b < 256
    → 16 * ((256 * (c / 16) + a) / 256) + (256 * (c % 16) + b) / 256 ≡ c
third_frame a b c a_fits b_fits = omega arith

-- the frames of a group's two words are its three bytes
pub frames-group : (a b c : ℕ) (words : List ℕ) → a < 256 → b < 256 → frames (group a b c ++ words) ≡ a ∷ b ∷ c ∷ frames words
frames-group a b c words a_fits b_fits =
    let first : (256 * (c / 16) + a) % 256 ≡ a = first_frame a c a_fits in
    let second : (256 * (c % 16) + b) % 256 ≡ b = omega arith in
    let third : 16 * ((256 * (c / 16) + a) / 256) + (256 * (c % 16) + b) / 256 ≡ c = third_frame a b c a_fits b_fits in
    cc

pub frames-packed : (bytes : List ℕ) → Bytes bytes
    → frames (words_of_bytes bytes) ≡ bytes ++ replicate (3 * group_count (length bytes) - length bytes) 0
frames-packed [] fit = refl
frames-packed (a ∷ []) fit = frames-group a 0 0 [] fit.0 (omega arith)
frames-packed (a ∷ b ∷ []) fit = frames-group a b 0 [] fit.0 fit.1.0
frames-packed (a ∷ b ∷ c ∷ bytes) fit =
    let n = length bytes in
    let same : 3 * group_count n - n ≡ 3 * group_count (suc (suc (suc n))) - suc (suc (suc n)) = omega arith in
    frames-group a b c (words_of_bytes bytes) fit.0 fit.1.0
    ∙ ap (λ fs. a ∷ b ∷ c ∷ fs) (frames-packed bytes fit.1.1.1 ∙ ap (λ k. bytes ++ replicate k 0) same)

pub is_packing : (bytes : List ℕ) → Bytes bytes → IsPacking bytes (words_of_bytes bytes)
is_packing bytes fit = record {
  even = omega (arith, length-packed bytes);
  reads_back = frames-packed bytes fit;
  shortest = λ others following even same.
      omega (arith, length-packed bytes, length-frames others, ap length same, length-append bytes following);
}

-- zeros have zeros as frames
frames-replicate : (k : ℕ) → frames (replicate (2 * k) 0) ≡ replicate (3 * k) 0
frames-replicate zero = refl
frames-replicate (suc k) =
    let two : 2 * suc k ≡ suc (suc (2 * k)) = omega arith in
    let three : 3 * suc k ≡ suc (suc (suc (3 * k))) = omega arith in
    rw (two, three) (ap (λ fs. 0 ∷ 0 ∷ 0 ∷ fs) (frames-replicate k))

-- the frames of words, and of zeros after them
frames_and_zeros : (words bytes : List ℕ) (following pairs : ℕ) → length words % 2 ≡ 0
    → frames words ≡ bytes ++ replicate following 0
    → frames (words ++ replicate (2 * pairs) 0) ≡ bytes ++ replicate (following + 3 * pairs) 0
frames_and_zeros words bytes following pairs even same =
    frames-append words (replicate (2 * pairs) 0) even
    ∙ ap (λ fs. fs ++ frames (replicate (2 * pairs) 0)) same
    ∙ append_assoc bytes (replicate following 0) (frames (replicate (2 * pairs) 0))
    ∙ ap (λ fs. bytes ++ (replicate following 0 ++ fs)) (frames-replicate pairs)
    ∙ ap (λ fs. bytes ++ fs) (replicate-append-replicate following (3 * pairs) 0)

-- blocks whose frames are so many and more are enough for them
fewest_blocks : (n words others more count : ℕ) → words ≡ 256 * block_count n → others ≡ 256 * count
    → 3 * (others / 2) ≡ n + more → words ≤ others
fewest_blocks n words others more count whole blocks same =
    let pairs : others / 2 ≡ 128 * count = omega arith in
    let enough : block_count n ≤ count = omega arith in
    omega arith

pub is_block_packing : (bytes : List ℕ) → Bytes bytes → IsBlockPacking bytes (packed_blocks bytes)
unfolding block_words block_frames
is_block_packing bytes fit =
    let n : ℕ = length bytes in
    let pairs : ℕ = 128 * block_count n - group_count n in
    let zeros : 256 * block_count n - 2 * group_count n ≡ 2 * pairs = omega arith in
    let following : 3 * group_count n - n + 3 * pairs ≡ 384 * block_count n - n = omega arith in
    let whole : length (packed_blocks bytes) ≡ 256 * block_count n =
    length-append (words_of_bytes bytes) (replicate (256 * block_count n - 2 * group_count n) 0)
    ∙ omega (arith, length-packed bytes, length-replicate {A = ℕ} (256 * block_count n - 2 * group_count n) 0) in
    record {
      whole = whole;
      reads_back = ap (λ k. frames (words_of_bytes bytes ++ replicate k 0)) zeros
          ∙ frames_and_zeros (words_of_bytes bytes) bytes (3 * group_count n - n) pairs (omega (arith, length-packed bytes)) (frames-packed bytes fit)
          ∙ ap (λ k. bytes ++ replicate k 0) following;
      fewest = λ others more count blocks same.
          fewest_blocks n (length (packed_blocks bytes)) (length others) (length more) count whole blocks
          (sym (length-frames others) ∙ ap length same ∙ length-append bytes more);
    }

-- a group of the three frames of two words is those words
group-frames : (first second : ℕ) → second < 4096
    → group (first % 256) (second % 256) (16 * (first / 256) + second / 256) ≡ first ∷ second ∷ []
group-frames first second fits =
    let high : 256 * ((16 * (first / 256) + second / 256) / 16) + first % 256 ≡ first = omega arith in
    let low : 256 * ((16 * (first / 256) + second / 256) % 16) + second % 256 ≡ second = omega arith in
    cc

pub packed-frames : (words : List ℕ) → length words % 2 ≡ 0 → ((k : ℕ) → k < length words → get_or words k 0 < 4096)
    → words_of_bytes (frames words) ≡ words
packed-frames [] even fit = refl
packed-frames (first ∷ []) even fit = absurd (omega arith)
packed-frames (first ∷ second ∷ words) even fit =
    ap (λ ws. ws ++ words_of_bytes (frames words)) (group-frames first second (fit 1 (omega arith)))
    ∙ ap (λ ws. first ∷ second ∷ ws) (packed-frames words (omega arith) (λ k within. fit (suc (suc k)) (omega arith)))
