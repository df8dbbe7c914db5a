-- What one more word, and one more segment, come to.
use Rattle.std.proofs.Common.{◌≡◌, ℕ, ◌+◌, ◌-◌, ◌*◌, ◌/◌, ◌%◌, ◌<◌, ◌≤◌, nat_eq, if◌then◌else◌, length, length-append, take, drop, get_or, List, [], ◌∷◌, ◌++◌, append_assoc, refl, ap, sym, subst, ◌∙◌, add-one, arith}
use Rattle.std.proofs.lemmas.List.{length-take-le, length-take, length-drop}
use Rattle.std.proofs.lemmas.Bool.Decides.{nat_tests}
use Rattle.std.proofs.Math.Seq.{take-suc}
use Rattle.core_image.specs.Segments.{AreSegments, blocks_in, blocks_of, field_of, words_from, pages_of, pairs_in, pairs_of}
use Rattle.core_image.specs.Image.{IsImage, count_of}
use Rattle.core_image.specs.Fault.{IsSomeImage}
use Rattle.core_image.specs.ReadSteps.{HasReadTo, HasReadSome}

numbered_more : (cell : ℕ) (words : List ℕ) (word : ℕ) → words_from cell (words ++ word ∷ []) ≡ words_from cell words ++ (cell + length words, word) ∷ []
numbered_more cell [] word = ap (λ n. (n, word) ∷ []) (omega arith)
numbered_more cell (w ∷ words) word =
    ap (λ l. (cell, w) ∷ l) (numbered_more (cell + 1) words word)
    ∙ ap (λ n. (cell, w) ∷ (words_from (cell + 1) words ++ (n, word) ∷ [])) (omega arith)

-- one word more of a segment
pub word_more : (before after : List (ℕ × ℕ)) (cell : ℕ) (words : List ℕ) (at word number : ℕ) → at < length words → word ≡ get_or words at word
    → number ≡ cell + at → before ≡ after ++ words_from cell (take at words)
    → before ++ (number, word) ∷ [] ≡ after ++ words_from cell (take (at + 1) words)
word_more before after cell words at word number inside is number_is so =
    ap (λ l. l ++ (number, word) ∷ []) so
    ∙ append_assoc after (words_from cell (take at words)) ((number, word) ∷ [])
    ∙ ap (λ l. after ++ l) (
    ap (λ n. words_from cell (take at words) ++ (n, word) ∷ []) (number_is ∙ ap (λ n. cell + n) (sym (length-take-le at words (omega (arith, inside)))))
    ∙ sym (numbered_more cell (take at words) word)
    ∙ ap (λ w. words_from cell (take at words ++ w ∷ [])) is
    ∙ ap (words_from cell) (sym (rw add-one (take-suc words at word inside))))

-- one segment more
pub segment_more : (words : List ℕ) (number block more : ℕ) (older : List (ℕ × ℕ)) (segment : ℕ × ℕ) → more ≡ blocks_of segment.1 → more ≤ 16
    → HasReadTo words number block older → AreSegments words (segment ∷ older) → HasReadTo words (number + 1) (block + more) (segment ∷ older)
segment_more words number block more older segment is few read are = record {
  head = read.head;
  are = are;
  number_is = omega (arith, read.number_is);
  block_is = omega (arith, read.block_is, is);
  small = omega (arith, read.small, few);
}

-- all segments are read, so the words are an image
pub all_read : (words : List ℕ) (number block count : ℕ) → count ≡ count_of words → count ≤ number → number ≤ count → HasReadSome words number block → IsSomeImage words
all_read words number block count is least most read = record {
  pairs = pairs_in words read.older;
  start = 4096 * field_of (get_or words 1 0) + get_or words 2 0;
  status = get_or words 3 0;
  is_image = record {
    head = read.read.head;
    segments = read.older;
    are = read.read.are;
    all = omega (arith, is, least, most, read.read.number_is);
    pairs_are = refl;
    start_is = refl;
    status_is = refl;
  };
}

-- the words of one segment more
pub pairs_more : (words : List ℕ) (block cell first control pages : ℕ) (older : List (ℕ × ℕ)) (before after : List (ℕ × ℕ)) → block ≡ 1 + blocks_in older
    → pages ≡ pages_of control → cell ≡ 4096 * field_of control + first → before ≡ pairs_in words older
    → after ≡ before ++ words_from cell (take (256 * block + 128 * pages - 256 * block) (drop (256 * block) words))
    → after ≡ pairs_in words ((first, control) ∷ older)
pairs_more words block cell first control pages older before after block_is pages_is cell_is so is =
    is
    ∙ ap (λ n. before ++ words_from cell (take n (drop (256 * block) words))) size
    ∙ ap (λ c. before ++ words_from c (take (128 * pages_of control) (drop (256 * block) words))) cell_is
    ∙ ap (λ l. l ++ words_from (4096 * field_of control + first) (take (128 * pages_of control) (drop (256 * block) words))) so
    ∙ ap (λ b. pairs_in words older ++ words_from (4096 * field_of control + first) (take (128 * pages_of control) (drop (256 * b) words))) block_is
  where
    size : 256 * block + 128 * pages - 256 * block ≡ 128 * pages_of control
    size = omega (arith, pages_is)

-- a segment has a word
some_numbered : (cell : ℕ) (words : List ℕ) → 0 < length words → 0 < length (words_from cell words)
some_numbered cell [] some = some
some_numbered cell (word ∷ words) some = omega arith

pages_some : (pages : ℕ) → 0 < (if nat_eq pages 0 then 32 else pages)
pages_some pages = grind (arith, nat_tests)

pub some_pairs : (words : List ℕ) (segments : List (ℕ × ℕ)) → AreSegments words segments → 0 < length segments → 0 < length (pairs_in words segments)
some_pairs words [] are some = some
some_pairs words (segment ∷ older) are some =
    let pages = pages_some (segment.1 / 64 % 32) in
    let taken : 0 < length (take (128 * pages_of segment.1) (drop (256 * (1 + blocks_in older)) words)) =
    rw (length-take (128 * pages_of segment.1) (drop (256 * (1 + blocks_in older)) words)) (rw (length-drop (256 * (1 + blocks_in older)) words) (omega (arith, pages, are.4))) in
    let more = some_numbered (4096 * field_of segment.1 + segment.0) (take (128 * pages_of segment.1) (drop (256 * (1 + blocks_in older)) words)) taken in
    omega (arith, length-append (pairs_in words older) (pairs_of words (1 + blocks_in older) segment), more)

pub image_has_word : (words : List ℕ) (pairs : List (ℕ × ℕ)) (start status : ℕ) → IsImage words pairs start status → 0 < length pairs
image_has_word words pairs start status image =
    subst (λ (l : List (ℕ × ℕ)). 0 < length l) (sym image.pairs_are)
    (some_pairs words image.segments image.are (omega (arith, image.all, image.head.count.1)))
