-- What holds of an image file of which the faults are mended.
use Rattle.std.proofs.Common.{◌≡◌, ◌⊎◌, ℕ, ◌+◌, ◌-◌, ◌*◌, ◌/◌, ◌%◌, ◌<◌, ◌≤◌, List, length, slice_index, All, arith, refl, subst, sym, ◌∙◌, inl, inr}
use Rattle.std.specs.Prelude.{Contains}
use Rattle.std.proofs.lemmas.Bool.{cases_eq, cases_lt}
use Rattle.std.proofs.lemmas.List.{ext_get_or}
use Rattle.std.proofs.lemmas.List.Elements.{All-get_or}
use Rattle.image_kind.specs.Volumes.{volumes_in}
use Rattle.image_kind.specs.Sizes.{block_words}
use Rattle.image_kind.specs.Mending.{first_of, size_of, wide_words, word_from, words_of}
use Rattle.image_kind.specs.MendingLaws.{IsWide, ListedAreWide, SoundStays, WideAreListed, word_of}
use Rattle.image_kind.proofs.WideLemmas.{all_wide, none_wide, wide_listed}

-- two bytes are determined by their word
same_low : (a b c d : ℕ) → a < 256 → c < 256 → a + 256 * b ≡ c + 256 * d → a ≡ c
same_low a b c d ha hc e = omega arith

same_high : (a b c d : ℕ) → a < 256 → c < 256 → a + 256 * b ≡ c + 256 * d → b ≡ d
same_high a b c d ha hc e = omega arith

-- bytes of one length are determined by these words and by the others
pub same_bytes : (x y : List ℕ) (s n : ℕ) → All (λ b. b < 256) x → All (λ b. b < 256) y → length x ≡ length y
    → ((k : ℕ) → k < n → word_from x s k ≡ word_from y s k)
    → ((j : ℕ) → j < length x → j < s ⊎ s + 2 * n ≤ j → slice_index x j ≡ slice_index y j)
    → n ≤ (length x - s) / 2 → x ≡ y
same_bytes x y s n bx by e words others within =
    ext_get_or 0 x y e (λ i h.
    elim (cases_lt i s) [
      | inl before ↦ others i h (inl before)
      | inr from ↦ elim (cases_lt i (s + 2 * n)) [
        | inr past ↦ others i h (inr past)
        | inl inside ↦ (
            let k = (i - s) / 2 in
            let w : word_from x s k ≡ word_from y s k = words k (omega arith) in
            let lx : slice_index x (s + 2 * k) < 256 = All-get_or (λ b. b < 256) x (s + 2 * k) 0 (omega arith) bx in
            let ly : slice_index y (s + 2 * k) < 256 = All-get_or (λ b. b < 256) y (s + 2 * k) 0 (omega arith) by in
            let P : ℕ → Type 0 = λ j. slice_index x j ≡ slice_index y j in
            elim (cases_eq ((i - s) % 2) 0) [
              | inl z ↦ (
                  let at : s + 2 * k ≡ i = omega arith in
                  subst P at (same_low _ (slice_index x (s + 2 * k + 1)) _ (slice_index y (s + 2 * k + 1)) lx ly w))
              | inr z ↦ (
                  let at : s + 2 * k + 1 ≡ i = omega arith in
                  subst P at (same_high (slice_index x (s + 2 * k)) _ (slice_index y (s + 2 * k)) _ lx ly w))
            ])
      ]
    ])

small_rest : (w : ℕ) → w < 4096 → w % 4096 ≡ w
small_rest w h = omega arith

within_half : (z b a s : ℕ) → z ≡ s → (s - b - a) / 2 ≤ (z - b) / 2
within_half z b a s e = omega arith

pub sound_stays : SoundStays
sound_stays given is_plain file it bo bn mended sound =
    let s = first_of given is_plain file in
    let n = words_of given is_plain file in
    let size : length it.bytes.items ≡ length file = mended.size ∙ sound.size in
    record {
      same = same_bytes it.bytes.items file s n bn bo size
          (λ k h. mended.words k h ∙ small_rest (word_from file s k) (sound.words k h))
          (λ j h out. mended.others j (let z = mended.size in omega (arith, z, h)) out)
          (within_half _ _ _ _ mended.size);
      wide = mended.wide ∙ none_wide (block_words (volumes_in given is_plain file)) file s n sound.words;
      zeros = (let is = mended.zeros in let same = sound.size in omega (arith, is, same));
      cut = (let is = mended.cut in let same = sound.size in omega (arith, is, same));
    }

pub listed_are_wide : ListedAreWide
listed_are_wide given is_plain file it mended =
    let all : All (IsWide given is_plain file) (wide_words (block_words (volumes_in given is_plain file)) file (first_of given is_plain file) (words_of given is_plain file)) =
    all_wide (IsWide given is_plain file) (block_words (volumes_in given is_plain file)) file (first_of given is_plain file) (words_of given is_plain file)
    (λ k h large. record { number = k; within = h; is = refl; wide = large }) in
    subst (All (IsWide given is_plain file)) (sym mended.wide) all

pub wide_are_listed : WideAreListed
wide_are_listed given is_plain file it k mended within large =
    let listed = wide_listed (block_words (volumes_in given is_plain file)) file (first_of given is_plain file) (words_of given is_plain file) k within large in
    subst (λ ws. Contains ws (word_of given is_plain file k)) (sym mended.wide) listed
