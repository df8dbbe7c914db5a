-- An image and the volume that it stands for determine each other.
use Rattle.std.proofs.Common.{◌≡◌, ℕ, ◌+◌, ◌*◌, ◌/◌, ◌%◌, ◌<◌, List, [], length, slice_index, slice_index_or, arith, refl, subst, sym, ◌∙◌, inl, inr, Ok, Err}
use Rattle.std.proofs.lemmas.Bool.{cases_eq}
use Rattle.std.proofs.lemmas.List.{ext_get_or}
use Rattle.std.proofs.lemmas.List.Elements.{All-get_or}
use Rattle.volume_image.specs.Volume.{IsBlock}
use Rattle.volume_image.specs.Image.{AreBytes, image_word, IsImageOf, WrittenIsReadBack, ReadIsWrittenBack}
use Rattle.volume_image.specs.declared.faults.ImageFault.TheVariants.{NotWhole, TooSmall, TooLarge, BadWord, Memory}

-- an image is that of one volume
pub same_blocks : (bytes : List ℕ) (a b : List (List ℕ)) → IsImageOf bytes a → IsImageOf bytes b → a ≡ b
same_blocks bytes a b ia ib =
    let size : length a ≡ length b = omega (arith, ia.size, ib.size) in
    ext_get_or [] a b size (λ n h.
    let hb : n < length b = omega arith in
    let la : length (slice_index_or a n []) ≡ 256 = All-get_or IsBlock a n [] h ia.volume.each in
    let lb : length (slice_index_or b n []) ≡ 256 = All-get_or IsBlock b n [] hb ib.volume.each in
    ext_get_or 0 (slice_index_or a n []) (slice_index_or b n []) (la ∙ sym lb) (λ k hk.
    ia.words n k h (omega arith) ∙ sym (ib.words n k hb (omega arith))))

-- two bytes are determined by their word
pub same_low : (a b c d : ℕ) → a < 256 → c < 256 → a + 256 * b ≡ c + 256 * d → a ≡ c
same_low a b c d ha hc e = omega arith

pub same_high : (a b c d : ℕ) → a < 256 → c < 256 → a + 256 * b ≡ c + 256 * d → b ≡ d
same_high a b c d ha hc e = omega arith

-- the word of each place of the image
pub same_words : (x y : List ℕ) (blocks : List (List ℕ)) → IsImageOf x blocks → IsImageOf y blocks
    → (k : ℕ) → k < 256 * length blocks → image_word x k ≡ image_word y k
same_words x y blocks ix iy k h =
    let e : 256 * (k / 256) + k % 256 ≡ k = omega arith in
    let hn : k / 256 < length blocks = omega arith in
    let hk : k % 256 < 256 = omega arith in
    let P : ℕ → Type 0 = λ j. image_word x j ≡ image_word y j in
    subst P e (sym (ix.words (k / 256) (k % 256) hn hk) ∙ iy.words (k / 256) (k % 256) hn hk)

-- a volume has one image
pub same_bytes : (x y : List ℕ) (blocks : List (List ℕ)) → AreBytes x → AreBytes y → IsImageOf x blocks → IsImageOf y blocks → x ≡ y
same_bytes x y blocks bx by ix iy =
    let size : length x ≡ length y = ix.size ∙ sym iy.size in
    ext_get_or 0 x y size (λ i h.
    let sx : length x ≡ 512 * length blocks = ix.size in
    let w : image_word x (i / 2) ≡ image_word y (i / 2) = same_words x y blocks ix iy (i / 2) (omega arith) in
    let lx : slice_index x (2 * (i / 2)) < 256 = All-get_or (λ b. b < 256) x (2 * (i / 2)) 0 (omega arith) bx in
    let ly : slice_index y (2 * (i / 2)) < 256 = All-get_or (λ b. b < 256) y (2 * (i / 2)) 0 (omega arith) by in
    let P : ℕ → Type 0 = λ j. slice_index x j ≡ slice_index y j in
    elim (cases_eq (i % 2) 0) [
      | inl z ↦ (
          let e : 2 * (i / 2) ≡ i = omega arith in
          subst P e (same_low _ (slice_index x (2 * (i / 2) + 1)) _ (slice_index y (2 * (i / 2) + 1)) lx ly w))
      | inr z ↦ (
          let e : 2 * (i / 2) + 1 ≡ i = omega arith in
          subst P e (same_high (slice_index x (2 * (i / 2))) _ (slice_index y (2 * (i / 2))) _ lx ly w))
    ])

pub written_is_read_back : WrittenIsReadBack
written_is_read_back bytes blocks (Ok volume) image reads = same_blocks bytes volume.blocks blocks reads.0 image
written_is_read_back bytes blocks (Err NotWhole) image reads = absurd (reads (let e = image.size in omega arith))
written_is_read_back bytes blocks (Err TooSmall) image reads =
    let e = image.size in let l = image.volume.least in absurd (omega arith)
written_is_read_back bytes blocks (Err TooLarge) image reads =
    let e = image.size in let l = image.volume.most in absurd (omega arith)
written_is_read_back bytes blocks (Err (BadWord number)) image reads =
    let b = reads.1.bad in let r = image.range number in absurd (omega arith)
written_is_read_back bytes blocks (Err Memory) image reads = refl

pub read_is_written_back : ReadIsWrittenBack
read_is_written_back bytes written volume bb bw reads image = same_bytes written bytes volume.blocks bw bb image reads.0
