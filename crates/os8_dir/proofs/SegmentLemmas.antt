-- The words of segments as they are written, and as they are read back.
use Rattle.std.proofs.Common.{◌≡◌, ℕ, zero, suc, ◌+◌, ◌-◌, ◌*◌, ◌<◌, ◌≤◌, List, [], ◌∷◌, ◌++◌, length, take, drop, get_or, set, refl, ap, sym, ◌∙◌, arith, add-zero, add-one, append_assoc, drop-cons}
use Rattle.std.proofs.Common.{min}
use Rattle.std.proofs.Math.Nat.{mul-le-mul_right, div-mul-le_self, zero-min}
use Rattle.os8_dir.specs.declared.entries.DirEntry.{DirEntry}
use Rattle.os8_dir.specs.declared.entries.DirEntry.TheVariants.{File, Empty}
use Rattle.os8_dir.specs.Names.{with_end_zeros, words_of_name}
use Rattle.os8_dir.specs.Entries.{DirectoryState, minus, total, IsTidy}
use Rattle.os8_dir.specs.Found.{per_segment}
use Rattle.os8_dir.specs.Segments.{words_of_entry, words_of_entries, words_of_segment, before_segment, entries_of}
use Rattle.os8_dir.specs.Steps.{with_words_from}
use Rattle.os8_dir.proofs.LawLemmas.{append-nil}

-- Words written over others.
pub written-append : (segment : List ℕ) (at : ℕ) (words more : List ℕ) → with_words_from segment at (words ++ more) ≡ with_words_from (with_words_from segment at words) (at + length words) more
written-append segment at [] more = rw add-zero refl
written-append segment at (w ∷ words) more =
    let e : at + length (w ∷ words) ≡ (at + 1) + length words = omega arith in
    rw e (written-append (set segment at w) (at + 1) words more)

take-more-words : (words : List ℕ) (k : ℕ) → k < length words → take (suc k) words ≡ take k words ++ get_or words k 0 ∷ []
take-more-words [] k inside = absurd (omega arith)
take-more-words (w ∷ words) zero inside = refl
take-more-words (w ∷ words) (suc k) inside = ap (λ xs. w ∷ xs) (take-more-words words k (omega arith))

pub length-take-words : (words : List ℕ) (k : ℕ) → k ≤ length words → length (take k words) ≡ k
length-take-words words zero inside = refl
length-take-words [] (suc k) inside = absurd (omega arith)
length-take-words (w ∷ words) (suc k) inside = ap suc (length-take-words words k (omega arith))

-- one more word
pub written-more : (segment words : List ℕ) (at k : ℕ) → k < length words → with_words_from segment at (take (k + 1) words) ≡ set (with_words_from segment at (take k words)) (at + k) (get_or words k 0)
written-more segment words at k inside =
    rw (add-one, take-more-words words k inside, written-append segment at (take k words) (get_or words k 0 ∷ []), length-take-words words k (omega arith)) refl

-- Zeros after words.
pub length-padded : (n : ℕ) (words : List ℕ) → length (with_end_zeros n words) ≡ n
length-padded zero words = refl
length-padded (suc n) [] = ap suc (length-padded n [])
length-padded (suc n) (w ∷ words) = ap suc (length-padded n words)

set-padded_at : (n : ℕ) (words : List ℕ) (w : ℕ) → length words < n → set (with_end_zeros n words) (length words) w ≡ with_end_zeros n (words ++ w ∷ [])
set-padded_at zero words w fits = absurd (omega arith)
set-padded_at (suc n) [] w fits = refl
set-padded_at (suc n) (v ∷ words) w fits = ap (λ xs. v ∷ xs) (set-padded_at n words w (omega arith))

length-append : (xs ys : List ℕ) → length (xs ++ ys) ≡ length xs + length ys
length-append [] ys = omega arith
length-append (x ∷ xs) ys = omega (arith, length-append xs ys)

-- words after others, of which zeros were
pub written-padded : (n : ℕ) (words more : List ℕ) → length words + length more ≤ n → with_words_from (with_end_zeros n words) (length words) more ≡ with_end_zeros n (words ++ more)
written-padded n words [] fits = rw (append-nil words) refl
written-padded n words (w ∷ more) fits =
    let there : length (words ++ w ∷ []) ≡ length words + 1 = length-append words (w ∷ []) in
    let same : with_words_from (set (with_end_zeros n words) (length words) w) (length words + 1) more ≡ with_words_from (with_end_zeros n (words ++ w ∷ [])) (length (words ++ w ∷ [])) more = rw (set-padded_at n words w (omega arith), there) refl in
    same ∙ written-padded n (words ++ w ∷ []) more (omega arith) ∙ rw append_assoc refl

pub padded-append : (n : ℕ) (words : List ℕ) → length words ≤ n → with_end_zeros n words ≡ words ++ with_end_zeros (n - length words) []
padded-append n [] fits = let e : n - 0 ≡ n = omega arith in rw e refl
padded-append zero (w ∷ words) fits = absurd (omega arith)
padded-append (suc n) (w ∷ words) fits =
    let e : suc n - length (w ∷ words) ≡ n - length words = omega arith in
    rw e (ap (λ xs. w ∷ xs) (padded-append n words (omega arith)))

-- How long the words of entries are.
length-take-least : (k : ℕ) (words : List ℕ) → length (take k words) ≤ k
length-take-least zero words = omega arith
length-take-least (suc k) [] = omega arith
length-take-least (suc k) (w ∷ words) = omega (arith, length-take-least k words)

pub length-entry : (info : ℕ) (e : DirEntry) → length (words_of_entry info e) ≤ 5 + info
length-entry info (File name words size) = omega (arith, length-append (take info words) (minus size ∷ []), length-take-least info words)
length-entry info (Empty size) = omega arith

pub length-file : (info name size : ℕ) (kept : List ℕ) → length (take info kept) ≡ info → length (words_of_entry info (File name kept size)) ≡ 5 + info
length-file info name size kept all = omega (arith, length-append (take info kept) (minus size ∷ []), all)

pub length-entries : (info : ℕ) (es : List DirEntry) → length (words_of_entries info es) ≤ length es * (5 + info)
length-entries info [] = omega arith
length-entries info (e ∷ es) = omega (arith, length-append (words_of_entry info e) (words_of_entries info es), length-entry info e, length-entries info es)

pub drop-item : (k : ℕ) (xs : List DirEntry) (x : DirEntry) → k < length xs → x ≡ get_or xs k x → drop k xs ≡ x ∷ drop (k + 1) xs
drop-item k xs x inside is = rw add-one (drop-cons xs k x inside ∙ ap (λ y. y ∷ drop (suc k) xs) (sym is))

-- a file: its name, its information words and its length
pub written-file : (segment named told words first kept : List ℕ) (at info name size word : ℕ) → words ≡ words_of_name name → named ≡ with_words_from segment at words → first ≡ take info kept → length first ≡ info → told ≡ with_words_from named (at + 4) first → word ≡ minus size
    → set told (at + 4 + info) word ≡ with_words_from segment at (words_of_entry info (File name kept size))
written-file segment named told words first kept at info name size word spelled names prefix all tells is =
    rw (tells, names, spelled, is, ← prefix) (sym (written-append segment at (words_of_name name) (first ++ minus size ∷ []) ∙ written-append (with_words_from segment at (words_of_name name)) (at + 4) first (minus size ∷ []) ∙ rw all refl))

-- one more entry
pub written-entry : (segment : List ℕ) (at info : ℕ) (es rest : List DirEntry) (e : DirEntry) → es ≡ e ∷ rest → with_words_from segment at (words_of_entries info es) ≡ with_words_from (with_words_from segment at (words_of_entry info e)) (at + length (words_of_entry info e)) (words_of_entries info rest)
written-entry segment at info es rest e is = rw is (written-append segment at (words_of_entry info e) (words_of_entries info rest))

-- the first five words of a segment
pub segment-head : (n : ℕ) (a b c d : ℕ) (words : List ℕ) → length words ≤ n → set (set (set (set (with_words_from (with_end_zeros (5 + n) []) 5 words) 0 a) 1 b) 2 c) 4 d ≡ with_end_zeros (5 + n) (a ∷ b ∷ c ∷ 0 ∷ d ∷ words)
segment-head n a b c d words fits =
    let five : 5 + n ≡ suc (suc (suc (suc (suc n)))) = omega arith in
    let zeros : with_words_from (with_end_zeros (5 + n) []) 5 words ≡ with_end_zeros (5 + n) (0 ∷ 0 ∷ 0 ∷ 0 ∷ 0 ∷ words) = rw five (written-padded (suc (suc (suc (suc (suc n))))) (0 ∷ 0 ∷ 0 ∷ 0 ∷ 0 ∷ []) words (omega arith)) in
    rw (zeros, five) refl

pub segment-made : (first info link : ℕ) (es : List DirEntry) → length es * (5 + info) ≤ 251 → set (set (set (set (with_words_from (with_end_zeros 256 []) 5 (words_of_entries info es)) 0 (minus (length es))) 1 first) 2 link) 4 (minus info) ≡ words_of_segment first info link es
unfolding words_of_segment
segment-made first info link es fits = segment-head 251 (minus (length es)) first link (minus info) (words_of_entries info es) (omega (arith, length-entries info es))

-- no more entries than blocks
pub length-neat : (es : List DirEntry) → IsTidy es → length es ≤ total es
length-neat [] neat = omega arith
length-neat (e ∷ es) neat = omega (arith, neat.0, length-neat es neat.2)

total-take : (m : ℕ) (es : List DirEntry) → total (take m es) ≤ total es
total-take zero es = omega arith
total-take (suc m) [] = omega arith
total-take (suc m) (e ∷ es) = omega (arith, total-take m es)

pub total-take-drop : (k m : ℕ) (es : List DirEntry) → total (take k es) + total (take m (drop k es)) ≤ total es
total-take-drop zero m es = omega (arith, total-take m es)
total-take-drop (suc k) zero [] = omega arith
total-take-drop (suc k) (suc m) [] = omega arith
total-take-drop (suc k) m (e ∷ es) = omega (arith, total-take-drop k m es)

take-min : (m : ℕ) (es : List DirEntry) → take (min m (length es)) es ≡ take m es
take-min zero es = rw (zero-min (length es)) refl
take-min (suc m) [] = let e : min (suc m) 0 ≡ 0 = omega arith in rw e refl
take-min (suc m) (e ∷ es) = let e' : min (suc m) (length (e ∷ es)) ≡ suc (min m (length es)) = omega arith in rw e' (ap (λ xs. e ∷ xs) (take-min m es))

-- the two parts of a list that a segment needs
pub segment-pieces : (d : DirectoryState) (k size : ℕ) (prefix rest piece : List DirEntry) → size ≡ per_segment d.info → prefix ≡ take (k * size) d.entries → rest ≡ drop (k * size) d.entries → piece ≡ take (min size (length rest)) rest → (prefix ≡ before_segment d k) × (piece ≡ entries_of d k) × (total prefix + total piece ≤ total d.entries)
segment-pieces d k size prefix rest piece same is_prefix is_rest is_piece =
    let before : prefix ≡ before_segment d k = is_prefix ∙ rw same refl in
    let own : piece ≡ entries_of d k = is_piece ∙ take-min size rest ∙ rw (is_rest, same) refl in
    (before, own, rw (before, own) (total-take-drop (k * per_segment d.info) (per_segment d.info) d.entries))

pub per_segment-fits : (info n : ℕ) → n ≤ per_segment info → n * (5 + info) ≤ 251
per_segment-fits info n few = omega (arith, mul-le-mul_right (5 + info) few, div-mul-le_self 251 (5 + info))

pub length-take-entries : (m : ℕ) (es : List DirEntry) → length (take m es) ≤ m
length-take-entries zero es = omega arith
length-take-entries (suc m) [] = omega arith
length-take-entries (suc m) (e ∷ es) = omega (arith, length-take-entries m es)
