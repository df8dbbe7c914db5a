-- The segments that a directory is written to are read back as it.
use Rattle.std.proofs.Common.{◌≡◌, ℕ, zero, suc, ◌+◌, ◌-◌, ◌*◌, ◌/◌, ◌<◌, ◌≤◌, ◌≢◌, Bool, true, false, ◌||◌, cond, eqb, List, [], ◌∷◌, ◌++◌, length, take, drop, get_or, Ok, refl, ap, sym, subst, ◌∙◌, arith, append_assoc, eq-eqb, ne_eqb}
use Rattle.std.proofs.lemmas.Bool.{true≢false, lt-ltb, le-ltb}
use Rattle.std.proofs.Math.Nat.{div-le_self, lt-div-mul-add, div-lt_iff_lt-mul}
use Rattle.os8_dir.specs.declared.entries.DirEntry.{DirEntry}
use Rattle.os8_dir.specs.declared.entries.DirEntry.TheVariants.{File, Empty}
use Rattle.os8_dir.specs.Names.{name_of, words_of_name, with_end_zeros}
use Rattle.os8_dir.specs.Entries.{DirectoryState, minus, is_zero, contains, AreDistinct, size_of, total, names_of, IsTidy, IsNamed, IsWritable, AreWritable}
use Rattle.os8_dir.specs.Reading.{word, block, empty_at, file_at, entry_at, is_new, with_entry, with_entries, with_segment, is_unread, with_links, head_of, directory_of}
use Rattle.os8_dir.specs.Found.{per_segment, limit, IsDirectory}
use Rattle.os8_dir.specs.Segments.{words_of_entry, words_of_entries, words_of_segment, segment_count, before_segment, entries_of, link_of, segment_of, HoldsSegments}
use Rattle.os8_dir.proofs.TidyLemmas.{total-append, append-nil, tidy-same, IsTidy-prefix}
use Rattle.os8_dir.proofs.LawLemmas.{names_of-append}
use Rattle.os8_dir.proofs.ReadingLemmas.{with_entry-more, with_entries-none, with_entries-more, with_segment-entries, head_of-ok, with_links-end, with_links-next, directory_of-links}
use Rattle.os8_dir.proofs.LinkLemmas.{unread-new}
use Rattle.os8_dir.proofs.SegmentLemmas.{length-padded, length-take-words, length-entries, padded-append, per_segment-fits, length-take-entries}

-- An entry.
minus-again : (n : ℕ) → n < 4096 → minus (minus n) ≡ n
minus-again n small = omega arith

name-again : (n : ℕ) → name_of (words_of_name n) ≡ n
name-again n = omega arith

is_zero-some : (n : ℕ) → 0 < n → is_zero n ≡ false
is_zero-some zero some = absurd (omega arith)
is_zero-some (suc n) some = refl

take-back : (xs rest : List ℕ) (w : ℕ) → take (length xs) ((xs ++ w ∷ []) ++ rest) ≡ xs
take-back [] rest w = refl
take-back (x ∷ xs) rest w = ap (λ ys. x ∷ ys) (take-back xs rest w)

word-back : (xs rest : List ℕ) (w : ℕ) → get_or ((xs ++ w ∷ []) ++ rest) (length xs) 0 ≡ w
word-back [] rest w = refl
word-back (x ∷ xs) rest w = word-back xs rest w

drop-back : (xs rest : List ℕ) (w : ℕ) → drop (suc (length xs)) ((xs ++ w ∷ []) ++ rest) ≡ rest
drop-back [] rest w = refl
drop-back (x ∷ xs) rest w = drop-back xs rest w

length-back : (xs rest : List ℕ) (w : ℕ) → length xs < length ((xs ++ w ∷ []) ++ rest)
length-back [] rest w = omega arith
length-back (x ∷ xs) rest w = omega (arith, length-back xs rest w)

length-info : (info : ℕ) (words : List ℕ) → info ≤ 10 → with_end_zeros 10 (take info words) ≡ words → length (take info words) ≡ info
length-info info words few same =
    let ten : length words ≡ 10 = sym (ap length same) ∙ length-padded 10 (take info words) in
    length-take-words words info (omega arith)

file-back : (info name size : ℕ) (words kept rest : List ℕ) → length kept ≡ info → with_end_zeros 10 kept ≡ words → IsNamed name → size < 4096 → entry_at info ((words_of_name name ++ (kept ++ minus size ∷ [])) ++ rest) ≡ Ok (File name words size, rest)
unfolding entry_at file_at
file-back info name size words kept rest long same some small =
    let fits : info < length ((kept ++ minus size ∷ []) ++ rest) = omega (arith, length-back kept rest (minus size)) in
    rw (is_zero-some (name / 68719476736) some, lt-ltb info (length ((kept ++ minus size ∷ []) ++ rest)) fits, name-again name, ← long, take-back kept rest (minus size), word-back kept rest (minus size), drop-back kept rest (minus size), minus-again size small, same) refl

empty-back : (info size : ℕ) (rest : List ℕ) → size < 4096 → entry_at info ((0 ∷ minus size ∷ []) ++ rest) ≡ Ok (Empty size, rest)
unfolding entry_at empty_at
empty-back info size rest small = rw (minus-again size small) refl

entry-back : (info : ℕ) (e : DirEntry) (rest : List ℕ) → info ≤ 10 → IsWritable info e → size_of e < 4096 → entry_at info (words_of_entry info e ++ rest) ≡ Ok (e, rest)
entry-back info (File name words size) rest few writable small = file-back info name size words (take info words) rest (length-info info words few writable.1) writable.1 writable.0 small
entry-back info (Empty size) rest few writable small = empty-back info size rest small

-- Parts of lists.
pub contains-append : (xs ys : List ℕ) (x : ℕ) → contains (xs ++ ys) x ≡ (contains xs x || contains ys x)
contains-append [] ys x = refl
contains-append (z ∷ xs) ys x = rw (contains-append xs ys x) (elim (eqb z x) as (λ b. cond b true (contains xs x || contains ys x) ≡ (cond b true (contains xs x) || contains ys x)) [ true ↦ refl | false ↦ refl ])

or-none : (a b : Bool) → (a || b) ≡ false → (a ≡ false) × (b ≡ false)
or-none true b none = absurd (true≢false none)
or-none false b none = (refl, none)

distinct-prefix : (xs ys : List ℕ) → AreDistinct (xs ++ ys) → AreDistinct xs
distinct-prefix [] ys apart = tt
distinct-prefix (x ∷ xs) ys apart = ((or-none (contains xs x) (contains ys x) (sym (contains-append xs ys x) ∙ apart.0)).0, distinct-prefix xs ys apart.1)

head-other : (x y : ℕ) (ys : List ℕ) → contains (y ∷ ys) x ≡ false → y ≢ x
head-other x y ys none same = true≢false (sym (rw (eq-eqb y x same) refl) ∙ none)

distinct-new : (xs ys : List ℕ) (y : ℕ) → AreDistinct (xs ++ y ∷ ys) → contains xs y ≡ false
distinct-new [] ys y apart = refl
distinct-new (x ∷ xs) ys y apart =
    let none = or-none (contains xs x) (contains (y ∷ ys) x) (sym (contains-append xs (y ∷ ys) x) ∙ apart.0) in
    rw (ne_eqb x y (λ same. head-other x y ys none.1 (sym same))) (distinct-new xs ys y apart.1)

is_new-distinct : (xs es : List DirEntry) (e : DirEntry) → AreDistinct (names_of (xs ++ e ∷ es)) → is_new (names_of xs) e ≡ true
is_new-distinct xs es (File name info zero) apart = refl
is_new-distinct xs es (File name info (suc size)) apart = rw (distinct-new (names_of xs) (names_of es) name (rw (names_of-append xs (File name info (suc size) ∷ es)) at apart)) refl
is_new-distinct xs es (Empty size) apart = refl

-- All entries of a segment.
abbrev listed : ℕ → ℕ → List DirEntry → DirectoryState
listed first info es = record { first = first; info = info; entries = es }

with_entries-back : (es : List DirEntry) (volume first info : ℕ) (xs : List DirEntry) (rest : List ℕ) → info ≤ 10 → IsTidy (xs ++ es) → AreDistinct (names_of (xs ++ es)) → first + total (xs ++ es) ≤ volume → volume ≤ 4095 → AreWritable info es → with_entries (length es) volume (listed first info xs) (words_of_entries info es ++ rest) ≡ Ok (listed first info (xs ++ es))
with_entries-back [] volume first info xs rest few neat single inside most writable = rw (append-nil xs) (with_entries-none volume (listed first info xs) rest)
with_entries-back (e ∷ es) volume first info xs rest few neat single inside most writable =
    let regroup : (xs ++ e ∷ []) ++ es ≡ xs ++ e ∷ es = rw append_assoc refl in
    let words : words_of_entries info (e ∷ es) ++ rest ≡ words_of_entry info e ++ (words_of_entries info es ++ rest) = rw append_assoc refl in
    let size : first + total xs + size_of e ≤ volume = omega (arith, total-append xs (e ∷ es)) in
    let d = listed first info xs in
    let following = words_of_entries info es ++ rest in
    let said : entry_at info (words_of_entry info e ++ following) ≡ Ok (e, following) = entry-back info e following few writable.0 (omega arith) in
    let prefix : IsTidy (xs ++ e ∷ []) = IsTidy-prefix (xs ++ e ∷ []) es (rw regroup neat) in
    let more : with_entry volume d e ≡ Ok (listed first info (xs ++ e ∷ [])) = with_entry-more volume d e size (is_new-distinct xs es e single) ∙ rw (tidy-same (xs ++ e ∷ []) prefix) refl in
    let less : suc (length es) - 1 ≡ length es = omega arith in
    let step : with_entries (suc (length es)) volume d (words_of_entry info e ++ following) ≡ with_entries (length es) volume (listed first info (xs ++ e ∷ [])) following = rw less at (with_entries-more (suc (length es)) volume d (listed first info (xs ++ e ∷ [])) (words_of_entry info e ++ following) (e, following) (omega arith) said more) in
    rw words (step ∙ with_entries-back es volume first info (xs ++ e ∷ []) rest few (rw regroup neat) (rw regroup single) (rw regroup inside) most writable.1 ∙ rw regroup refl)

-- A segment.
words_of_segment-is : (first info link : ℕ) (es : List DirEntry) → length (words_of_entries info es) ≤ 251 → words_of_segment first info link es ≡ minus (length es) ∷ first ∷ link ∷ 0 ∷ minus info ∷ (words_of_entries info es ++ with_end_zeros (251 - length (words_of_entries info es)) [])
unfolding words_of_segment
words_of_segment-is first info link es fits = ap (λ ws. minus (length es) ∷ first ∷ link ∷ 0 ∷ minus info ∷ ws) (padded-append 251 (words_of_entries info es) fits)

segment-fits : (info : ℕ) (es : List DirEntry) → length es ≤ per_segment info → length (words_of_entries info es) ≤ 251
segment-fits info es few = omega (arith, length-entries info es, per_segment-fits info (length es) few)

word-link : (first info link : ℕ) (es : List DirEntry) → length es ≤ per_segment info → word (words_of_segment first info link es) 2 ≡ link
word-link first info link es few = rw (words_of_segment-is first info link es (segment-fits info es few)) refl

with_segment-back : (volume first info link number start : ℕ) (xs es : List DirEntry) → length es ≤ per_segment info → length es < 4096 → start ≡ first + total xs → info ≤ 10 → IsTidy (xs ++ es) → AreDistinct (names_of (xs ++ es)) → first + total (xs ++ es) ≤ volume → volume ≤ 4095 → AreWritable info es → with_segment volume (listed first info xs) number (words_of_segment start info link es) ≡ Ok (listed first info (xs ++ es))
with_segment-back volume first info link number start xs es fits small follows few neat single inside most writable =
    let words = minus (length es) ∷ start ∷ link ∷ 0 ∷ minus info ∷ (words_of_entries info es ++ with_end_zeros (251 - length (words_of_entries info es)) []) in
    let same : minus (minus info) ≡ info = minus-again info (omega arith) in
    let count : minus (minus (length es)) ≡ length es = minus-again (length es) small in
    let read : with_segment volume (listed first info xs) number words ≡ with_entries (minus (minus (length es))) volume (listed first info xs) (words_of_entries info es ++ with_end_zeros (251 - length (words_of_entries info es)) []) = with_segment-entries volume (listed first info xs) number words (omega arith) same follows in
    rw (words_of_segment-is start info link es (segment-fits info es fits)) (read ∙ rw count (with_entries-back es volume first info xs (with_end_zeros (251 - length (words_of_entries info es)) []) few neat single inside most writable))

-- The segments of a list.
take-none : (m : ℕ) → take {A = DirEntry} m [] ≡ []
take-none zero = refl
take-none (suc m) = refl

take-add : (a b : ℕ) (es : List DirEntry) → take (a + b) es ≡ take a es ++ take b (drop a es)
take-add zero b es = let e : 0 + b ≡ b = omega arith in rw e refl
take-add (suc a) b [] = let e : suc a + b ≡ suc (a + b) = omega arith in rw e (sym (take-none b))
take-add (suc a) b (e ∷ es) = let more : suc a + b ≡ suc (a + b) = omega arith in rw more (ap (λ xs. e ∷ xs) (take-add a b es))

split-at : (m : ℕ) (es : List DirEntry) → take m es ++ drop m es ≡ es
split-at zero es = refl
split-at (suc m) [] = refl
split-at (suc m) (e ∷ es) = ap (λ xs. e ∷ xs) (split-at m es)

take-whole : (m : ℕ) (es : List DirEntry) → length es ≤ m → take m es ≡ es
take-whole zero [] all = refl
take-whole zero (e ∷ es) all = absurd (omega arith)
take-whole (suc m) [] all = refl
take-whole (suc m) (e ∷ es) all = ap (λ xs. e ∷ xs) (take-whole m es (omega arith))

writable-take : (info m : ℕ) (es : List DirEntry) → AreWritable info es → AreWritable info (take m es)
writable-take info zero es writable = tt
writable-take info (suc m) [] writable = tt
writable-take info (suc m) (e ∷ es) writable = (writable.0, writable-take info m es writable.1)

writable-drop : (info m : ℕ) (es : List DirEntry) → AreWritable info es → AreWritable info (drop m es)
writable-drop info zero es writable = writable
writable-drop info (suc m) [] writable = tt
writable-drop info (suc m) (e ∷ es) writable = writable-drop info m es writable.1

before-more : (d : DirectoryState) (k : ℕ) → before_segment d k ++ entries_of d k ≡ before_segment d (k + 1)
before-more d k =
    let e : (k + 1) * per_segment d.info ≡ k * per_segment d.info + per_segment d.info = omega arith in
    rw e (sym (take-add (k * per_segment d.info) (per_segment d.info) d.entries))

-- what a directory keeps of a prefix of its list
record IsPrefix (volume : ℕ) (d : DirectoryState) (es : List DirEntry) : Type 0 where
  pub neat : IsTidy es
  pub single : AreDistinct (names_of es)
  pub inside : d.first + total es ≤ volume

prefix-of : (volume : ℕ) (d : DirectoryState) (m : ℕ) → IsDirectory volume d → IsPrefix volume d (take m d.entries)
prefix-of volume d m is =
    let split = split-at m d.entries in
    record {
      neat = IsTidy-prefix (take m d.entries) (drop m d.entries) (rw split is.neat);
      single = distinct-prefix (names_of (take m d.entries)) (names_of (drop m d.entries)) (rw (← names_of-append (take m d.entries) (drop m d.entries), split) is.single);
      inside = omega (arith, ap total split, total-append (take m d.entries) (drop m d.entries), is.inside);
    }

-- one more segment
segment-back : (volume : ℕ) (d : DirectoryState) (k number : ℕ) → IsDirectory volume d → volume ≤ 4095 → with_segment volume (listed d.first d.info (before_segment d k)) number (segment_of d k) ≡ Ok (listed d.first d.info (before_segment d (k + 1)))
segment-back volume d k number is most =
    let E = per_segment d.info in
    let prefix : IsPrefix volume d (before_segment d k ++ entries_of d k) = rw (before-more d k) (prefix-of volume d ((k + 1) * E) is) in
    let few : length (entries_of d k) ≤ E = length-take-entries E (drop (k * E) d.entries) in
    let least : E ≤ 251 = div-le_self 251 (5 + d.info) in
    rw (← before-more d k) (with_segment-back volume d.first d.info (link_of (segment_count d) k) number (d.first + total (before_segment d k)) (before_segment d k) (entries_of d k) few (omega arith) refl is.few prefix.neat prefix.single prefix.inside most (writable-take d.info E (drop (k * E) d.entries) (writable-drop d.info (k * E) d.entries is.writable)))

-- The chain of segments.
size-some : (info : ℕ) → info ≤ 10 → 1 ≤ per_segment info
size-some zero few = omega arith
size-some (suc zero) few = omega arith
size-some (suc (suc zero)) few = omega arith
size-some (suc (suc (suc zero))) few = omega arith
size-some (suc (suc (suc (suc zero)))) few = omega arith
size-some (suc (suc (suc (suc (suc zero))))) few = omega arith
size-some (suc (suc (suc (suc (suc (suc zero)))))) few = omega arith
size-some (suc (suc (suc (suc (suc (suc (suc zero))))))) few = omega arith
size-some (suc (suc (suc (suc (suc (suc (suc (suc zero)))))))) few = omega arith
size-some (suc (suc (suc (suc (suc (suc (suc (suc (suc zero))))))))) few = omega arith
size-some (suc (suc (suc (suc (suc (suc (suc (suc (suc (suc zero)))))))))) few = omega arith
size-some (suc (suc (suc (suc (suc (suc (suc (suc (suc (suc (suc n))))))))))) few = absurd (omega arith)

-- the segments take all entries
quotient-covers : (n m : ℕ) → 1 ≤ m → n ≤ ((n - 1) / m + 1) * m
quotient-covers n m some = omega (arith, lt-div-mul-add {a = n - 1} {b = m} some)

count-covers : (d : DirectoryState) → d.info ≤ 10 → before_segment d (segment_count d) ≡ d.entries
count-covers d few = take-whole (segment_count d * per_segment d.info) d.entries (quotient-covers (length d.entries) (per_segment d.info) (size-some d.info few))

quotient-six : (n m : ℕ) → 1 ≤ m → n ≤ 6 * m → (n - 1) / m + 1 ≤ 6
quotient-six n m some few = omega (arith, (div-lt_iff_lt-mul {k = m} {x = n - 1} {y = 6} some).1 (omega arith))

count-six : (d : DirectoryState) → d.info ≤ 10 → length d.entries ≤ limit d → segment_count d ≤ 6
count-six d few short = quotient-six (length d.entries) (per_segment d.info) (size-some d.info few) short

unread-more : (read : List ℕ) (k : ℕ) → ((q : ℕ) → k < q → contains read q ≡ false) → (q : ℕ) → k + 1 < q → contains ((k + 1) ∷ read) q ≡ false
unread-more read k new q past = rw (ne_eqb (k + 1) q (λ same. absurd (omega arith))) (new q (omega arith))

links-back : (m k left : ℕ) (blocks : List (List ℕ)) (d : DirectoryState) (read : List ℕ) → IsDirectory (length blocks) d → length blocks ≤ 4095 → HoldsSegments blocks d → k + 1 + m ≡ segment_count d → k + 1 + left ≡ 6 → segment_count d ≤ 6 → ((q : ℕ) → k + 1 < q → contains read q ≡ false) → with_links left (listed d.first d.info (before_segment d (k + 1))) blocks read (k + 1) (link_of (segment_count d) k) ≡ Ok d
links-back zero k left blocks d read is most holds at room six new =
    let last : k + 1 ≡ segment_count d = omega arith in
    let all : before_segment d (k + 1) ≡ d.entries = rw last (count-covers d is.few) in
    rw (le-ltb (k + 1) (segment_count d) (omega arith), all) (with_links-end left d blocks read (k + 1))
links-back (suc m) k left blocks d read is most holds at room six new =
    let here : k + 1 < segment_count d = omega arith in
    let next : k + 2 ≡ (k + 1) + 1 = omega arith in
    let held : block blocks ((k + 1) + 1) ≡ segment_of d (k + 1) = holds (k + 1) here in
    let E = per_segment d.info in
    let few : length (entries_of d (k + 1)) ≤ E = length-take-entries E (drop ((k + 1) * E) d.entries) in
    let link : word (block blocks ((k + 1) + 1)) 2 ≡ link_of (segment_count d) (k + 1) = rw held (word-link (d.first + total (before_segment d (k + 1))) d.info (link_of (segment_count d) (k + 1)) (entries_of d (k + 1)) few) in
    let added : with_segment (length blocks) (listed d.first d.info (before_segment d (k + 1))) ((k + 1) + 1) (block blocks ((k + 1) + 1)) ≡ Ok (listed d.first d.info (before_segment d ((k + 1) + 1))) = rw held (segment-back (length blocks) d (k + 1) ((k + 1) + 1) is most) in
    let unread : is_unread read ((k + 1) + 1) ≡ true = unread-new read ((k + 1) + 1) (omega arith) (new ((k + 1) + 1) (omega arith)) in
    let rest = links-back m (k + 1) (left - 1) blocks d (((k + 1) + 1) ∷ read) is most holds (omega arith) (omega arith) six (unread-more read (k + 1) new) in
    rw (lt-ltb (k + 1) (segment_count d) here, next) (with_links-next left (listed d.first d.info (before_segment d (k + 1))) (listed d.first d.info (before_segment d ((k + 1) + 1))) blocks read (k + 1) ((k + 1) + 1) (omega arith) (omega arith) unread added ∙ rw link rest)

-- The whole.
first-unread : (q : ℕ) → 1 < q → contains (1 ∷ []) q ≡ false
first-unread q past = rw (ne_eqb 1 q (λ same. absurd (omega arith))) refl

none-before : (d : DirectoryState) → before_segment d 0 ≡ []
none-before d = let e : 0 * per_segment d.info ≡ 0 = omega arith in rw e refl

head-back : (volume first info link start : ℕ) (es : List DirEntry) → start ≡ first → 7 ≤ first → first ≤ volume → info ≤ 10 → length es ≤ per_segment info → head_of volume (words_of_segment start info link es) ≡ Ok (listed first info [])
head-back volume first info link start es same low high few fits =
    let again : minus (minus info) ≡ info = minus-again info (omega arith) in
    let words = minus (length es) ∷ start ∷ link ∷ 0 ∷ minus info ∷ (words_of_entries info es ++ with_end_zeros (251 - length (words_of_entries info es)) []) in
    rw (words_of_segment-is start info link es (segment-fits info es fits)) (head_of-ok volume words (omega arith) (omega arith) (omega arith) ∙ rw (again, same) refl)

pub directory-back : (blocks : List (List ℕ)) (d : DirectoryState) → IsDirectory (length blocks) d → length blocks ≤ 4095 → length d.entries ≤ limit d → HoldsSegments blocks d → directory_of blocks ≡ Ok d
directory-back blocks d is most short holds =
    let none = none-before d in
    let some : 0 < segment_count d = omega arith in
    let E = per_segment d.info in
    let few : length (entries_of d 0) ≤ E = length-take-entries E (drop (0 * E) d.entries) in
    let held : block blocks 1 ≡ segment_of d 0 = holds 0 some in
    let start : d.first + total (before_segment d 0) ≡ d.first = rw none (omega arith) in
    let head : head_of (length blocks) (block blocks 1) ≡ Ok (listed d.first d.info []) = rw held (head-back (length blocks) d.first d.info (link_of (segment_count d) 0) (d.first + total (before_segment d 0)) (entries_of d 0) start is.starts (omega (arith, is.inside)) is.few few) in
    let one : with_segment (length blocks) (listed d.first d.info []) 1 (block blocks 1) ≡ Ok (listed d.first d.info (before_segment d 1)) = rw held (subst (λ (xs : List DirEntry). with_segment (length blocks) (listed d.first d.info xs) 1 (segment_of d 0) ≡ Ok (listed d.first d.info (before_segment d 1))) none (segment-back (length blocks) d 0 1 is most)) in
    let link : word (block blocks 1) 2 ≡ link_of (segment_count d) 0 = rw held (word-link (d.first + total (before_segment d 0)) d.info (link_of (segment_count d) 0) (entries_of d 0) few) in
    directory_of-links blocks (listed d.first d.info []) (listed d.first d.info (before_segment d 1)) head one ∙ rw link (links-back (segment_count d - 1) 0 5 blocks d (1 ∷ []) is most holds (omega arith) refl (count-six d is.few short) first-unread)
