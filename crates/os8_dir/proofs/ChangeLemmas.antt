-- Lists of entries as they are changed.
use Rattle.std.proofs.Common.{◌≡◌, ℕ, zero, suc, ◌+◌, ◌-◌, ◌<◌, ◌≤◌, Bool, true, false, ◌&&◌, cond, eqb, leb, List, [], ◌∷◌, ◌++◌, length, take, drop, get_or, refl, ap, sym, ◌∙◌, arith, add-zero, append_assoc, inl, inr, min}
use Rattle.std.proofs.lemmas.Bool.{true≢false, leb-true}
use Rattle.os8_dir.specs.declared.entries.DirEntry.{DirEntry}
use Rattle.os8_dir.specs.declared.entries.DirEntry.TheVariants.{File, Empty}
use Rattle.os8_dir.specs.Entries.{size_of, total, before, tidy, IsTidy}
use Rattle.std.proofs.Math.Nat.{zero-min}
use Rattle.os8_dir.specs.Found.{rooms_at}
use Rattle.os8_dir.specs.Changes.{emptied_entry, entries_without, is_within, parts_of_empty, put, with_file_lower, LieIn}
use Rattle.os8_dir.proofs.TidyLemmas.{total-tidy, total-append, append-nil, IsTidy-tidy}
use Rattle.os8_dir.proofs.SegmentLemmas.{drop-item}

-- Tidying in parts.
pub before-none : (es : List DirEntry) → before (Empty 0) es ≡ es
before-none [] = refl
before-none (File name info size ∷ es) = refl
before-none (Empty size ∷ es) = let e : 0 + size ≡ size = omega arith in rw e refl

before-some : (size more : ℕ) (es : List DirEntry) → before (Empty size) (before (Empty (suc more)) es) ≡ before (Empty (size + suc more)) es
before-some size more [] = let e : size + suc more ≡ suc (size + more) = omega arith in rw e refl
before-some size more (File name info other ∷ es) = let e : size + suc more ≡ suc (size + more) = omega arith in rw e refl
before-some size more (Empty other ∷ es) = let e : size + (suc more + other) ≡ (size + suc more) + other = omega arith in rw e refl

before-two : (size more : ℕ) (es : List DirEntry) → before (Empty size) (before (Empty more) es) ≡ before (Empty (size + more)) es
before-two size zero es = rw (before-none es, add-zero) refl
before-two size (suc more) es = before-some size more es

before-append : (e : DirEntry) (es ys : List DirEntry) → tidy (before e es ++ ys) ≡ before e (tidy (es ++ ys))
before-append (File name info zero) es ys = refl
before-append (File name info (suc size)) es ys = refl
before-append (Empty zero) [] ys = sym (before-none (tidy ys))
before-append (Empty (suc size)) [] ys = refl
before-append (Empty size) (Empty more ∷ es) ys = sym (before-two size more (tidy (es ++ ys)))
before-append (Empty zero) (File name info more ∷ es) ys = sym (before-none (tidy (File name info more ∷ es ++ ys)))
before-append (Empty (suc size)) (File name info more ∷ es) ys = refl

pub tidy-prefix : (xs ys : List DirEntry) → tidy (tidy xs ++ ys) ≡ tidy (xs ++ ys)
tidy-prefix [] ys = refl
tidy-prefix (x ∷ xs) ys = before-append x (tidy xs) ys ∙ ap (before x) (tidy-prefix xs ys)

-- One more entry.
pub take-item : (k : ℕ) (xs : List DirEntry) (x : DirEntry) → k < length xs → x ≡ get_or xs k x → take (k + 1) xs ≡ take k xs ++ x ∷ []
take-item k [] x inside is = absurd (omega arith)
take-item zero (y ∷ xs) x inside is = ap (λ z. z ∷ []) (sym is)
take-item (suc k) (y ∷ xs) x inside is = let e : suc k + 1 ≡ suc (k + 1) = omega arith in rw e (ap (λ zs. y ∷ zs) (take-item k xs x (omega arith) is))

pub total-split : (k : ℕ) (es : List DirEntry) → total (take k es) + total (drop k es) ≡ total es
total-split zero es = omega arith
total-split (suc k) [] = omega arith
total-split (suc k) (e ∷ es) = omega (arith, total-split k es)

-- the blocks of an entry and of those before it
pub total-item : (k : ℕ) (es : List DirEntry) (e : DirEntry) → k < length es → e ≡ get_or es k e → total (take k es) + size_of e ≤ total es
total-item k es e inside is = omega (arith, total-split k es, ap total (drop-item k es e inside is))

pub total-take-item : (k : ℕ) (es : List DirEntry) (e : DirEntry) → k < length es → e ≡ get_or es k e → total (take (k + 1) es) ≡ total (take k es) + size_of e
total-take-item k es e inside is = rw (take-item k es e inside is) (omega (arith, total-append (take k es) (e ∷ [])))

-- what was tidied
pub tidied-neat : (kept xs : List DirEntry) → kept ≡ tidy xs → IsTidy kept
tidied-neat kept xs is = rw is (IsTidy-tidy xs)

pub tidied-total : (kept xs : List DirEntry) → kept ≡ tidy xs → total kept ≡ total xs
tidied-total kept xs is = rw is (total-tidy xs)

-- more after what was tidied
pub tidy-more : (kept xs ys zs : List DirEntry) → kept ≡ tidy xs → xs ++ ys ≡ zs → tidy (kept ++ ys) ≡ tidy zs
tidy-more kept xs ys zs is same = rw (is, tidy-prefix xs ys, same) refl

-- The file of a name is an empty.
pub emptied-append : (name : ℕ) (xs ys : List DirEntry) → entries_without name (xs ++ ys) ≡ entries_without name xs ++ entries_without name ys
emptied-append name [] ys = refl
emptied-append name (x ∷ xs) ys = ap (λ es. emptied_entry name x ∷ es) (emptied-append name xs ys)

size-if : (b : Bool) (name size : ℕ) (info : List ℕ) → size_of (cond b (Empty size) (File name info size)) ≡ size
size-if true name size info = refl
size-if false name size info = refl

pub size-emptied : (name : ℕ) (e : DirEntry) → size_of (emptied_entry name e) ≡ size_of e
size-emptied name (File other info size) = size-if (eqb other name) other size info
size-emptied name (Empty size) = refl

pub total-emptied : (name : ℕ) (es : List DirEntry) → total (entries_without name es) ≡ total es
total-emptied name [] = refl
total-emptied name (e ∷ es) = omega (arith, size-emptied name e, total-emptied name es)

pub emptied-item : (name k : ℕ) (es : List DirEntry) (e : DirEntry) → k < length es → e ≡ get_or es k e → entries_without name (take k es) ++ emptied_entry name e ∷ [] ≡ entries_without name (take (k + 1) es)
emptied-item name k es e inside is = rw (take-item k es e inside is) (sym (emptied-append name (take k es) (e ∷ [])))

-- A file is laid into an empty.
pub put-append : (place from : ℕ) (file : DirEntry) (xs ys : List DirEntry) → put place from file (xs ++ ys) ≡ put place from file xs ++ put (place + total xs) from file ys
put-append place from file [] ys = rw add-zero refl
put-append place from file (x ∷ xs) ys =
    let e : place + total (x ∷ xs) ≡ (place + size_of x) + total xs = omega arith in
    rw (e, append_assoc) (ap (λ es. parts_of_empty place from file x ++ es) (put-append (place + size_of x) from file xs ys))

and-both : (a b : Bool) → (a && b) ≡ true → (a ≡ true) × (b ≡ true)
and-both true b e = (refl, e)
and-both false b e = absurd (true≢false (sym e))

pub within-bounds : (place size from count : ℕ) → is_within place size from count ≡ true → (place ≤ from) × (from + count ≤ place + size)
within-bounds place size from count within =
    let both = and-both (leb place from) (leb (from + count) (place + size)) within in
    (leb-true place from both.0, leb-true (from + count) (place + size) both.1)

total-laid_if : (place size from : ℕ) (file : DirEntry) (b : Bool) → is_within place size from (size_of file) ≡ b → total (cond b (Empty (from - place) ∷ file ∷ Empty ((place + size) - (from + size_of file)) ∷ []) (Empty size ∷ [])) ≡ size
total-laid_if place size from file true within = let bounds = within-bounds place size from (size_of file) within in omega (arith, bounds.0, bounds.1)
total-laid_if place size from file false within = omega arith

pub total-laid : (place from : ℕ) (file e : DirEntry) → total (parts_of_empty place from file e) ≡ size_of e
total-laid place from file (File name info size) = omega arith
total-laid place from file (Empty size) = total-laid_if place size from file (is_within place size from (size_of file)) refl

pub total-put : (place from : ℕ) (file : DirEntry) (es : List DirEntry) → total (put place from file es) ≡ total es
total-put place from file [] = refl
total-put place from file (e ∷ es) = omega (arith, total-append (parts_of_empty place from file e) (put (place + size_of e) from file es), total-laid place from file e, total-put (place + size_of e) from file es)

pub put-item : (first from name k : ℕ) (file : DirEntry) (es : List DirEntry) (e : DirEntry) (place : ℕ) → place ≡ first + total (take k es) → k < length es → e ≡ get_or es k e → put first from file (entries_without name (take k es)) ++ parts_of_empty place from file (emptied_entry name e) ≡ put first from file (entries_without name (take (k + 1) es))
put-item first from name k file es e place at inside is =
    let there : first + total (entries_without name (take k es)) ≡ place = omega (arith, total-emptied name (take k es)) in
    rw (← emptied-item name k es e inside is, put-append first from file (entries_without name (take k es)) (emptied_entry name e ∷ []), there, append-nil (parts_of_empty place from file (emptied_entry name e))) refl

-- The blocks that lie in an empty of a list lie in the list.
pub lie-inside : (place from count : ℕ) (es : List DirEntry) → LieIn from count (rooms_at place es) → from + count ≤ place + total es
lie-inside place from count [] lies = absurd lies
lie-inside place from count (File name info size ∷ es) lies = omega (arith, lie-inside (place + size) from count es lies)
lie-inside place from count (Empty size ∷ es) lies = elim lies [ inl here ↦ omega (arith, here.1) | inr there ↦ omega (arith, lie-inside (place + size) from count es there) ]

pub take-min-words : (m : ℕ) (words : List ℕ) → take (min m (length words)) words ≡ take m words
take-min-words zero words = rw (zero-min (length words)) refl
take-min-words (suc m) [] = let e : min (suc m) 0 ≡ 0 = omega arith in rw e refl
take-min-words (suc m) (w ∷ words) = let e : min (suc m) (length (w ∷ words)) ≡ suc (min m (length words)) = omega arith in rw e (ap (λ ws. w ∷ ws) (take-min-words m words))

-- The file of a name and the empty below it change places.
total-pair : (b : Bool) (name gap size : ℕ) (info : List ℕ) (es rest : List DirEntry) → total rest ≡ total es → total (cond b (File name info size ∷ Empty gap ∷ es) (Empty gap ∷ File name info size ∷ rest)) ≡ gap + (size + total es)
total-pair true name gap size info es rest same = omega arith
total-pair false name gap size info es rest same = omega arith

pub total-swapped : (name : ℕ) (es : List DirEntry) → total (with_file_lower name es) ≡ total es
total-swapped name [] = refl
total-swapped name (File other info size ∷ es) = omega (arith, total-swapped name es)
total-swapped name (Empty gap ∷ []) = refl
total-swapped name (Empty gap ∷ Empty size ∷ es) = omega (arith, total-swapped name (Empty size ∷ es))
total-swapped name (Empty gap ∷ File other info size ∷ es) = total-pair (eqb other name) other gap size info es (with_file_lower name es) (total-swapped name es)

-- the four parts of a list in which two entries change places
pub parts-sum : (k : ℕ) (es prefix following gap more file rest : List DirEntry) → prefix ≡ take k es → following ≡ drop k es → gap ≡ take 1 following → more ≡ drop 1 following → file ≡ take 1 more → rest ≡ drop 1 more → total prefix + total file + total gap + total rest ≡ total es
parts-sum k es prefix following gap more file rest is_prefix is_following is_gap is_more is_file is_rest =
    omega (arith, ap total is_prefix, ap total is_following, ap total is_gap, ap total is_more, ap total is_file, ap total is_rest, total-split k es, total-split 1 following, total-split 1 more)

pub parts-tidy : (none one two three four prefix file gap rest : List DirEntry) → none ≡ [] → one ≡ tidy (none ++ prefix) → two ≡ tidy (one ++ file) → three ≡ tidy (two ++ gap) → four ≡ tidy (three ++ rest) → four ≡ tidy (prefix ++ (file ++ (gap ++ rest)))
parts-tidy none one two three four prefix file gap rest is_none is_one is_two is_three is_four =
    let first : one ≡ tidy prefix = is_one ∙ rw is_none refl in
    let second : two ≡ tidy (prefix ++ file) = is_two ∙ tidy-more one prefix file (prefix ++ file) first refl in
    let third : three ≡ tidy ((prefix ++ file) ++ gap) = is_three ∙ tidy-more two (prefix ++ file) gap ((prefix ++ file) ++ gap) second refl in
    is_four ∙ tidy-more three ((prefix ++ file) ++ gap) rest (prefix ++ (file ++ (gap ++ rest))) third (rw (append_assoc, append_assoc) refl)
