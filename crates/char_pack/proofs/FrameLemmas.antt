-- Where the frames of words stand.
use Rattle.std.proofs.Common.{◌≡◌, ℕ, ◌+◌, ◌*◌, ◌/◌, ◌%◌, ◌<◌, List, [], ◌∷◌, ◌++◌, zero, suc, length, drop, get_or, refl, ap, sym, ◌∙◌, arith}
use Rattle.std.proofs.lemmas.List.{drop_more, get_or-drop}
use Rattle.char_pack.specs.Packing.{frames}

-- three for each two words
pub length-frames : (words : List ℕ) → length (frames words) ≡ 3 * (length words / 2)
length-frames [] = refl
length-frames (first ∷ []) = refl
length-frames (first ∷ second ∷ words) = omega (arith, length-frames words)

-- the frames after so many groups are those of the words after so many pairs
pub drop-frames : (k : ℕ) (words : List ℕ) → drop (3 * k) (frames words) ≡ frames (drop (2 * k) words)
drop-frames zero words = refl
drop-frames (suc k) [] =
    let three : 3 * suc k ≡ suc (suc (suc (3 * k))) = omega arith in
    let two : 2 * suc k ≡ suc (suc (2 * k)) = omega arith in
    rw (three, two)
drop-frames (suc k) (first ∷ []) =
    let three : 3 * suc k ≡ suc (suc (suc (3 * k))) = omega arith in
    let two : 2 * suc k ≡ suc (suc (2 * k)) = omega arith in
    rw (three, two)
drop-frames (suc k) (first ∷ second ∷ words) =
    let three : 3 * suc k ≡ suc (suc (suc (3 * k))) = omega arith in
    let two : 2 * suc k ≡ suc (suc (2 * k)) = omega arith in
    rw (three, two) (drop-frames k words)

-- the words from a pair on
pub pair_at : (words : List ℕ) (k : ℕ) → 2 * k + 1 < length words
    → drop (2 * k) words ≡ get_or words (2 * k) 0 ∷ get_or words (2 * k + 1) 0 ∷ drop (2 * k + 1 + 1) words
pair_at words k within =
    drop_more words (2 * k) 0 (omega arith)
    ∙ ap (λ others. get_or words (2 * k) 0 ∷ others) (drop_more words (2 * k + 1) 0 within)

-- a frame of a group is that frame of the group's two words
pub get_or-frames : (words : List ℕ) (k i : ℕ) → 2 * k + 1 < length words
    → get_or (frames words) (3 * k + i) 0
    ≡ get_or (frames (get_or words (2 * k) 0 ∷ get_or words (2 * k + 1) 0 ∷ drop (2 * k + 1 + 1) words)) i 0
get_or-frames words k i within =
    sym (get_or-drop (3 * k) (frames words) i 0)
    ∙ ap (λ fs. get_or fs i 0) (drop-frames k words ∙ ap frames (pair_at words k within))

-- the frames of words after an even list of words
pub frames-append : (words others : List ℕ) → length words % 2 ≡ 0 → frames (words ++ others) ≡ frames words ++ frames others
frames-append [] others even = refl
frames-append (first ∷ []) others even = absurd (omega arith)
frames-append (first ∷ second ∷ words) others even =
    ap (λ fs. (first % 256) ∷ (second % 256) ∷ (16 * (first / 256) + second / 256) ∷ fs)
    (frames-append words others (omega arith))

-- a frame by the two words that it comes from
pub frame_of_pair : (words : List ℕ) (index i : ℕ) → index % 3 ≡ i → index < 3 * (length words / 2)
    → get_or (frames words) index 0
    ≡ get_or (frames (get_or words (2 * (index / 3)) 0 ∷ get_or words (2 * (index / 3) + 1) 0 ∷ drop (2 * (index / 3) + 1 + 1) words)) i 0
frame_of_pair words index i same within =
    let place : index ≡ 3 * (index / 3) + i = omega arith in
    ap (λ n. get_or (frames words) n 0) place ∙ get_or-frames words (index / 3) i (omega arith)
