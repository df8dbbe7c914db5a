-- What changes of a list do to its files.
use Rattle.std.proofs.Common.{◌≡◌, ℕ, zero, suc, ◌+◌, ◌-◌, ◌<◌, ◌≤◌, ◌≢◌, Bool, true, false, not, ◌&&◌, cond, eqb, leb, List, [], ◌∷◌, ◌++◌, take, Option, Some, None, refl, ap, sym, ◌∙◌, arith, add-zero, inl, inr, eq-eqb, ne_eqb}
use Rattle.std.proofs.lemmas.Bool.{true≢false, le-leb}
use Rattle.std.proofs.lemmas.Bool.Decides.{eqb_tells, leb_tells}
use Rattle.os8_dir.specs.declared.entries.DirEntry.{DirEntry}
use Rattle.os8_dir.specs.declared.entries.DirEntry.TheVariants.{File, Empty}
use Rattle.os8_dir.specs.Names.{with_end_zeros}
use Rattle.os8_dir.specs.Entries.{DirectoryState, is_zero, contains, AreDistinct, size_of, total, names_of, before, tidy, IsTidy, IsNamed, IsWritable, AreWritable}
use Rattle.os8_dir.specs.Found.{FilePlace, files_at, find, rooms_at, IsDirectory}
use Rattle.os8_dir.specs.Changes.{emptied_entry, entries_without, without_file, is_within, parts_of_empty, put, with_new_file, LieIn, IsRoom, gap_below, with_file_lower, moved_down, directory_with, file_lower}
use Rattle.os8_dir.specs.Steps.{is_named}
use Rattle.os8_dir.proofs.TidyLemmas.{total-tidy, IsTidy-tidy}
use Rattle.os8_dir.proofs.LawLemmas.{names_of-tidy, AreApart-files_at, writable-tidy, writable-append}
use Rattle.os8_dir.proofs.ChangeLemmas.{total-emptied, total-put, total-swapped, within-bounds}

-- The files of a tidy list.
files_at-before : (place : ℕ) (e : DirEntry) (es : List DirEntry) → files_at place (before e es) ≡ files_at place (e ∷ es)
files_at-before place (File name info zero) es = refl
files_at-before place (File name info (suc size)) es = refl
files_at-before place (Empty zero) [] = refl
files_at-before place (Empty (suc size)) [] = refl
files_at-before place (Empty size) (Empty more ∷ es) = let e : place + (size + more) ≡ (place + size) + more = omega arith in ap (λ n. files_at n es) e
files_at-before place (Empty zero) (File name info more ∷ es) = rw add-zero refl
files_at-before place (Empty (suc size)) (File name info more ∷ es) = refl

files_at-more : (e : DirEntry) (xs ys : List DirEntry) (place : ℕ) → ((from : ℕ) → files_at from xs ≡ files_at from ys) → files_at place (e ∷ xs) ≡ files_at place (e ∷ ys)
files_at-more (File name info zero) xs ys place same = same place
files_at-more (File name info (suc size)) xs ys place same = ap (λ fs. record { name = name; info = info; place = place; size = suc size } ∷ fs) (same (place + suc size))
files_at-more (Empty size) xs ys place same = same (place + size)

pub files_at-tidy : (es : List DirEntry) (place : ℕ) → files_at place (tidy es) ≡ files_at place es
files_at-tidy [] place = refl
files_at-tidy (e ∷ es) place = files_at-before place e (tidy es) ∙ files_at-more e (tidy es) es place (λ from. files_at-tidy es from)

-- An entry that is the file of a name, and one that is not.
pub find-skip : (q place : ℕ) (e : DirEntry) (es : List DirEntry) → is_named q e ≡ false → find q (files_at place (e ∷ es)) ≡ find q (files_at (place + size_of e) es)
find-skip q place (File name info zero) es other = rw add-zero refl
find-skip q place (File name info (suc size)) es other = rw other refl
find-skip q place (Empty size) es other = refl

pub find-hit : (q place size : ℕ) (info : List ℕ) (es : List DirEntry) → 0 < size → find q (files_at place (File q info size ∷ es)) ≡ Some (record { name = q; info = info; place = place; size = size })
find-hit q place zero info es some = absurd (omega arith)
find-hit q place (suc size) info es some = rw (eq-eqb q q refl) refl

and-false : (b : Bool) → (b && false) ≡ false
and-false true = refl
and-false false = refl

pub other-named : (q name size : ℕ) (info : List ℕ) → name ≢ q → is_named q (File name info size) ≡ false
other-named q name size info other = rw (ne_eqb name q other) (and-false (not (is_zero size)))

-- one more entry of two lists
pub find-more : (q place : ℕ) (e : DirEntry) (xs ys : List DirEntry) → find q (files_at (place + size_of e) xs) ≡ find q (files_at (place + size_of e) ys) → find q (files_at place (e ∷ xs)) ≡ find q (files_at place (e ∷ ys))
find-more q place (File name info zero) xs ys same = rw add-zero at same
find-more q place (File name info (suc size)) xs ys same = ap (λ r. cond (eqb name q) (Some (record { name = name; info = info; place = place; size = suc size })) r) same
find-more q place (Empty size) xs ys same = same

-- The file of a name is an empty.
emptied-named : (name : ℕ) (e : DirEntry) → is_named name (emptied_entry name e) ≡ false
emptied-named name (File other info size) = elim (eqb_tells other name) [
  | inl here ↦ rw here.0 refl
  | inr there ↦ rw there.0 (other-named name other size info there.1)
]
emptied-named name (Empty size) = refl

find-emptied : (name place : ℕ) (es : List DirEntry) → find name (files_at place (entries_without name es)) ≡ None
find-emptied name place [] = refl
find-emptied name place (e ∷ es) = find-skip name place (emptied_entry name e) (entries_without name es) (emptied-named name e) ∙ find-emptied name (place + size_of (emptied_entry name e)) es

find-emptied_other : (name q place : ℕ) (es : List DirEntry) → name ≢ q → find q (files_at place (entries_without name es)) ≡ find q (files_at place es)
find-emptied_other name q place [] other = refl
find-emptied_other name q place (File own info size ∷ es) other = elim (eqb_tells own name) [
  | inl here ↦ rw here.0 (find-emptied_other name q (place + size) es other ∙ sym (find-skip q place (File own info size) es (other-named q own size info (λ same. other (sym here.1 ∙ same)))))
  | inr there ↦ rw there.0 (find-more q place (File own info size) (entries_without name es) es (find-emptied_other name q (place + size) es other))
]
find-emptied_other name q place (Empty size ∷ es) other = find-emptied_other name q (place + size) es other

pub removed-gone : (name place : ℕ) (es : List DirEntry) → find name (files_at place (without_file name es)) ≡ None
removed-gone name place es = rw (files_at-tidy (entries_without name es) place) (find-emptied name place es)

pub removed-others : (name q place : ℕ) (es : List DirEntry) → name ≢ q → find q (files_at place (without_file name es)) ≡ find q (files_at place es)
removed-others name q place es other = rw (files_at-tidy (entries_without name es) place) (find-emptied_other name q place es other)

-- A file is laid into an empty.
not-within : (place size from count : ℕ) → from < place → is_within place size from count ≡ false
not-within place size from count below = elim (leb_tells place from) [
  | inl met ↦ absurd (omega (arith, met.1))
  | inr missed ↦ rw missed.0 refl
]

pub not-within_past : (place size from count : ℕ) → 0 < count → place + size ≤ from → is_within place size from count ≡ false
not-within_past place size from count some past = elim (leb_tells (from + count) (place + size)) [
  | inl met ↦ absurd (omega (arith, met.1))
  | inr missed ↦ rw missed.0 (and-false (leb place from))
]

pub is-within : (place size from count : ℕ) → place ≤ from → from + count ≤ place + size → is_within place size from count ≡ true
is-within place size from count low high = rw (le-leb place from low, le-leb (from + count) (place + size) high) refl

-- after the empty that has the blocks nothing changes
pub put-past : (place from : ℕ) (file : DirEntry) (es : List DirEntry) → from < place → put place from file es ≡ es
put-past place from file [] past = refl
put-past place from file (File name info size ∷ es) past = ap (λ xs. File name info size ∷ xs) (put-past (place + size) from file es (omega arith))
put-past place from file (Empty size ∷ es) past = rw (not-within place size from (size_of file) past) (ap (λ xs. Empty size ∷ xs) (put-past (place + size) from file es (omega arith)))

find-laid_other : (q place from size name count : ℕ) (info : List ℕ) (rest : List DirEntry) → name ≢ q → place ≤ from → from + count ≤ place + size → find q (files_at place (Empty (from - place) ∷ File name info count ∷ Empty ((place + size) - (from + count)) ∷ rest)) ≡ find q (files_at (place + size) rest)
find-laid_other q place from size name count info rest other low high =
    let end : ((place + (from - place)) + count) + ((place + size) - (from + count)) ≡ place + size = omega arith in
    find-skip q (place + (from - place)) (File name info count) (Empty ((place + size) - (from + count)) ∷ rest) (other-named q name count info other) ∙ rw end refl

find-put_other : (q place from name count : ℕ) (info : List ℕ) (es : List DirEntry) → name ≢ q → find q (files_at place (put place from (File name info count) es)) ≡ find q (files_at place es)
find-put_other q place from name count info [] other = refl
find-put_other q place from name count info (File own words size ∷ es) other = find-more q place (File own words size) (put (place + size) from (File name info count) es) es (find-put_other q (place + size) from name count info es other)
find-put_other q place from name count info (Empty size ∷ es) other =
    let following = put (place + size) from (File name info count) es in
    let same = find-put_other q (place + size) from name count info es other in
    elim (leb_tells place from) [
      | inl low ↦ elim (leb_tells (from + count) (place + size)) [
        | inl high ↦ rw (low.0, high.0) (find-laid_other q place from size name count info following other low.1 high.1 ∙ same)
        | inr missed ↦ rw (low.0, missed.0) same
      ]
      | inr missed ↦ rw missed.0 same
    ]

-- the blocks lie no lower than the list begins
pub lie-from : (place from count : ℕ) (es : List DirEntry) → LieIn from count (rooms_at place es) → place ≤ from
lie-from place from count [] lies = absurd lies
lie-from place from count (File name info size ∷ es) lies = omega (arith, lie-from (place + size) from count es lies)
lie-from place from count (Empty size ∷ es) lies = elim lies [ inl here ↦ here.0 | inr there ↦ omega (arith, lie-from (place + size) from count es there) ]

pub head-named : (name own size : ℕ) (info : List ℕ) (es : List DirEntry) → contains (names_of (File own info size ∷ es)) name ≡ false → is_named name (File own info size) ≡ false
head-named name own zero info es none = refl
head-named name own (suc size) info es none = elim (eqb_tells own name) [
  | inl here ↦ absurd (true≢false (rw here.0 at none))
  | inr there ↦ there.0
]

pub rest-none : (e : DirEntry) (es : List DirEntry) (q : ℕ) → contains (names_of (e ∷ es)) q ≡ false → contains (names_of es) q ≡ false
rest-none (File own info zero) es q none = none
rest-none (File own info (suc size)) es q none = elim (eqb_tells own q) [
  | inl here ↦ absurd (true≢false (rw here.0 at none))
  | inr there ↦ rw there.0 at none
]
rest-none (Empty size) es q none = none

find-put : (place from name count : ℕ) (info : List ℕ) (es : List DirEntry) → 0 < count → contains (names_of es) name ≡ false → LieIn from count (rooms_at place es) → find name (files_at place (put place from (File name info count) es)) ≡ Some (record { name = name; info = info; place = from; size = count })
find-put place from name count info [] some new lies = absurd lies
find-put place from name count info (File own words size ∷ es) some new lies =
    find-skip name place (File own words size) (put (place + size) from (File name info count) es) (head-named name own size words es new) ∙ find-put (place + size) from name count info es some (rest-none (File own words size) es name new) lies
find-put place from name count info (Empty size ∷ es) some new lies = elim lies [
  | inl here ↦
      let at : place + (from - place) ≡ from = omega (arith, here.0) in
      rw (is-within place size from count here.0 here.1) (find-hit name (place + (from - place)) count info (Empty ((place + size) - (from + count)) ∷ put (place + size) from (File name info count) es) some ∙ rw at refl)
  | inr there ↦ rw (not-within_past place size from count some (lie-from (place + size) from count es there)) (find-put (place + size) from name count info es some new there)
]

emptied-rooms : (name place from count : ℕ) (es : List DirEntry) → LieIn from count (rooms_at place es) → LieIn from count (rooms_at place (entries_without name es))
emptied-rooms name place from count [] lies = lies
emptied-rooms name place from count (File own info size ∷ es) lies = elim (eqb_tells own name) [
  | inl here ↦ rw here.0 (inr (emptied-rooms name (place + size) from count es lies))
  | inr there ↦ rw there.0 (emptied-rooms name (place + size) from count es lies)
]
emptied-rooms name place from count (Empty size ∷ es) lies = elim lies [ inl here ↦ inl here | inr there ↦ inr (emptied-rooms name (place + size) from count es there) ]

none-emptied : (name : ℕ) (es : List DirEntry) → contains (names_of (entries_without name es)) name ≡ false
none-emptied name [] = refl
none-emptied name (File own info zero ∷ es) = elim (eqb_tells own name) [
  | inl here ↦ rw here.0 (none-emptied name es)
  | inr there ↦ rw there.0 (none-emptied name es)
]
none-emptied name (File own info (suc size) ∷ es) = elim (eqb_tells own name) [
  | inl here ↦ rw here.0 (none-emptied name es)
  | inr there ↦ rw (there.0, there.0) (none-emptied name es)
]
none-emptied name (Empty size ∷ es) = none-emptied name es

pub placed-there : (first : ℕ) (f : FilePlace) (es : List DirEntry) → 0 < f.size → LieIn f.place f.size (rooms_at first es) → find f.name (files_at first (with_new_file first f es)) ≡ Some f
placed-there first f es some lies = rw (files_at-tidy (put first f.place (File f.name f.info f.size) (entries_without f.name es)) first) (find-put first f.place f.name f.size f.info (entries_without f.name es) some (none-emptied f.name es) (emptied-rooms f.name first f.place f.size es lies))

pub placed-others : (first q : ℕ) (f : FilePlace) (es : List DirEntry) → f.name ≢ q → find q (files_at first (with_new_file first f es)) ≡ find q (files_at first es)
placed-others first q f es other = rw (files_at-tidy (put first f.place (File f.name f.info f.size) (entries_without f.name es)) first) (find-put_other q first f.place f.name f.size f.info (entries_without f.name es) other ∙ find-emptied_other f.name q first es other)

-- Names.
emptied-without : (name q : ℕ) (es : List DirEntry) → contains (names_of es) q ≡ false → contains (names_of (entries_without name es)) q ≡ false
emptied-without name q [] none = refl
emptied-without name q (File own info zero ∷ es) none = elim (eqb_tells own name) [
  | inl here ↦ rw here.0 (emptied-without name q es none)
  | inr there ↦ rw there.0 (emptied-without name q es none)
]
emptied-without name q (File own info (suc size) ∷ es) none =
    let following = emptied-without name q es (rest-none (File own info (suc size)) es q none) in
    let other : eqb own q ≡ false = head-named q own (suc size) info es none in
    elim (eqb_tells own name) [
      | inl here ↦ rw here.0 following
      | inr there ↦ rw (there.0, other) following
    ]
emptied-without name q (Empty size ∷ es) none = emptied-without name q es none

emptied-distinct : (name : ℕ) (es : List DirEntry) → AreDistinct (names_of es) → AreDistinct (names_of (entries_without name es))
emptied-distinct name [] apart = tt
emptied-distinct name (File own info zero ∷ es) apart = elim (eqb_tells own name) [
  | inl here ↦ rw here.0 (emptied-distinct name es apart)
  | inr there ↦ rw there.0 (emptied-distinct name es apart)
]
emptied-distinct name (File own info (suc size) ∷ es) apart = elim (eqb_tells own name) [
  | inl here ↦ rw here.0 (emptied-distinct name es apart.1)
  | inr there ↦ rw there.0 (emptied-without name own es apart.0, emptied-distinct name es apart.1)
]
emptied-distinct name (Empty size ∷ es) apart = emptied-distinct name es apart

put-without : (q place from name count : ℕ) (info : List ℕ) (es : List DirEntry) → 0 < count → name ≢ q → contains (names_of es) q ≡ false → contains (names_of (put place from (File name info count) es)) q ≡ false
put-without q place from name count info [] some other none = refl
put-without q place from name count info (File own words zero ∷ es) some other none = rw add-zero (put-without q place from name count info es some other none)
put-without q place from name count info (File own words (suc size) ∷ es) some other none =
    rw (head-named q own (suc size) words es none) (put-without q (place + suc size) from name count info es some other (rest-none (File own words (suc size)) es q none))
put-without q place from name zero info (Empty size ∷ es) some other none = absurd (omega arith)
put-without q place from name (suc count) info (Empty size ∷ es) some other none =
    let following = put-without q (place + size) from name (suc count) info es some other none in
    elim (is_within place size from (suc count)) as (λ b. contains (names_of (cond b (Empty (from - place) ∷ File name info (suc count) ∷ Empty ((place + size) - (from + suc count)) ∷ []) (Empty size ∷ []) ++ put (place + size) from (File name info (suc count)) es)) q ≡ false) [
      | true ↦ rw (ne_eqb name q other) following
      | false ↦ following
    ]

put-distinct_if : (b : Bool) (place from name count size : ℕ) (info : List ℕ) (es : List DirEntry) → is_within place size from (suc count) ≡ b → contains (names_of es) name ≡ false → AreDistinct (names_of es) → AreDistinct (names_of (put (place + size) from (File name info (suc count)) es)) → AreDistinct (names_of (cond b (Empty (from - place) ∷ File name info (suc count) ∷ Empty ((place + size) - (from + suc count)) ∷ []) (Empty size ∷ []) ++ put (place + size) from (File name info (suc count)) es))
put-distinct_if true place from name count size info es within new apart following =
    let bounds = within-bounds place size from (suc count) within in
    let same : put (place + size) from (File name info (suc count)) es ≡ es = put-past (place + size) from (File name info (suc count)) es (omega (arith, bounds.1)) in
    rw same (new, apart)
put-distinct_if false place from name count size info es within new apart following = following

put-distinct : (place from name count : ℕ) (info : List ℕ) (es : List DirEntry) → 0 < count → contains (names_of es) name ≡ false → AreDistinct (names_of es) → AreDistinct (names_of (put place from (File name info count) es))
put-distinct place from name count info [] some new apart = tt
put-distinct place from name count info (File own words zero ∷ es) some new apart = rw add-zero (put-distinct place from name count info es some new apart)
put-distinct place from name count info (File own words (suc size) ∷ es) some new apart =
    let other : eqb own name ≡ false = head-named name own (suc size) words es new in
    (put-without own (place + suc size) from name count info es some (λ same. true≢false (sym (eq-eqb own name (sym same)) ∙ other)) apart.0, put-distinct (place + suc size) from name count info es some (rest-none (File own words (suc size)) es name new) apart.1)
put-distinct place from name zero info (Empty size ∷ es) some new apart = absurd (omega arith)
put-distinct place from name (suc count) info (Empty size ∷ es) some new apart =
    put-distinct_if (is_within place size from (suc count)) place from name count size info es refl new apart (put-distinct (place + size) from name (suc count) info es some new apart)

-- Entries that can be written.
emptied-writable : (info name : ℕ) (es : List DirEntry) → AreWritable info es → AreWritable info (entries_without name es)
emptied-writable info name [] all = tt
emptied-writable info name (File own words size ∷ es) all = elim (eqb_tells own name) [
  | inl here ↦ rw here.0 (tt, emptied-writable info name es all.1)
  | inr there ↦ rw there.0 (all.0, emptied-writable info name es all.1)
]
emptied-writable info name (Empty size ∷ es) all = (tt, emptied-writable info name es all.1)

laid-writable : (info place from : ℕ) (file e : DirEntry) → IsWritable info file → IsWritable info e → AreWritable info (parts_of_empty place from file e)
laid-writable info place from file (File name words size) new old = (old, tt)
laid-writable info place from file (Empty size) new old = elim (is_within place size from (size_of file)) as (λ b. AreWritable info (cond b (Empty (from - place) ∷ file ∷ Empty ((place + size) - (from + size_of file)) ∷ []) (Empty size ∷ []))) [
  | true ↦ (tt, (new, (tt, tt)))
  | false ↦ (tt, tt)
]

put-writable : (info place from : ℕ) (file : DirEntry) (es : List DirEntry) → IsWritable info file → AreWritable info es → AreWritable info (put place from file es)
put-writable info place from file [] new all = tt
put-writable info place from file (e ∷ es) new all = writable-append info (parts_of_empty place from file e) (put (place + size_of e) from file es) (laid-writable info place from file e new all.0) (put-writable info (place + size_of e) from file es new all.1)

-- The new directories.
relisted-directory : (volume : ℕ) (d : DirectoryState) (es : List DirEntry) → IsDirectory volume d → total es ≡ total d.entries → AreDistinct (names_of es) → AreWritable d.info es → IsDirectory volume (directory_with d (tidy es))
relisted-directory volume d es is same apart all =
    let inside : d.first + total (tidy es) ≤ volume = omega (arith, total-tidy es, is.inside) in
    record {
      starts = is.starts;
      few = is.few;
      inside = inside;
      neat = IsTidy-tidy es;
      single = rw (names_of-tidy es) apart;
      apart = AreApart-files_at d.first volume (tidy es) inside;
      writable = writable-tidy d.info es all;
    }

pub removed-directory : (volume name : ℕ) (d : DirectoryState) → IsDirectory volume d → IsDirectory volume (directory_with d (without_file name d.entries))
removed-directory volume name d is = relisted-directory volume d (entries_without name d.entries) is (total-emptied name d.entries) (emptied-distinct name d.entries is.single) (emptied-writable d.info name d.entries is.writable)

pub placed-directory : (volume : ℕ) (d : DirectoryState) (f : FilePlace) → IsDirectory volume d → IsNamed f.name → 0 < f.size → with_end_zeros 10 (take d.info f.info) ≡ f.info → IsDirectory volume (directory_with d (with_new_file d.first f d.entries))
placed-directory volume d f is named some said =
    let file = File f.name f.info f.size in
    let es = entries_without f.name d.entries in
    relisted-directory volume d (put d.first f.place file es) is (total-put d.first f.place file es ∙ total-emptied f.name d.entries) (put-distinct d.first f.place f.name f.size f.info es some (none-emptied f.name d.entries) (emptied-distinct f.name d.entries is.single)) (put-writable d.info d.first f.place file es (named, said) (emptied-writable d.info f.name d.entries is.writable))

-- The file of a name and the empty below it change places.
swapped-names : (name : ℕ) (es : List DirEntry) → names_of (with_file_lower name es) ≡ names_of es
swapped-names name [] = refl
swapped-names name (File own info zero ∷ es) = swapped-names name es
swapped-names name (File own info (suc size) ∷ es) = ap (λ ns. own ∷ ns) (swapped-names name es)
swapped-names name (Empty gap ∷ []) = refl
swapped-names name (Empty gap ∷ Empty size ∷ es) = swapped-names name (Empty size ∷ es)
swapped-names name (Empty gap ∷ File own info zero ∷ es) = elim (eqb own name) as (λ b. names_of (cond b (File own info 0 ∷ Empty gap ∷ es) (Empty gap ∷ File own info 0 ∷ with_file_lower name es)) ≡ names_of es) [ true ↦ refl | false ↦ swapped-names name es ]
swapped-names name (Empty gap ∷ File own info (suc size) ∷ es) = elim (eqb own name) as (λ b. names_of (cond b (File own info (suc size) ∷ Empty gap ∷ es) (Empty gap ∷ File own info (suc size) ∷ with_file_lower name es)) ≡ own ∷ names_of es) [ true ↦ refl | false ↦ ap (λ ns. own ∷ ns) (swapped-names name es) ]

swapped-writable : (info name : ℕ) (es : List DirEntry) → AreWritable info es → AreWritable info (with_file_lower name es)
swapped-writable info name [] all = tt
swapped-writable info name (File own words size ∷ es) all = (all.0, swapped-writable info name es all.1)
swapped-writable info name (Empty gap ∷ []) all = (tt, tt)
swapped-writable info name (Empty gap ∷ Empty size ∷ es) all = (tt, swapped-writable info name (Empty size ∷ es) all.1)
swapped-writable info name (Empty gap ∷ File own words size ∷ es) all = elim (eqb own name) as (λ b. AreWritable info (cond b (File own words size ∷ Empty gap ∷ es) (Empty gap ∷ File own words size ∷ with_file_lower name es))) [
  | true ↦ (all.1.0, (tt, all.1.1))
  | false ↦ (tt, (all.1.0, swapped-writable info name es all.1.1))
]

pub moved-directory : (volume name : ℕ) (d : DirectoryState) → IsDirectory volume d → IsDirectory volume (directory_with d (moved_down name d.entries))
moved-directory volume name d is = relisted-directory volume d (with_file_lower name d.entries) is (total-swapped name d.entries) (rw (swapped-names name d.entries) is.single) (swapped-writable d.info name d.entries is.writable)

find-swapped_other : (name q place : ℕ) (es : List DirEntry) → name ≢ q → find q (files_at place (with_file_lower name es)) ≡ find q (files_at place es)
find-swapped_other name q place [] other = refl
find-swapped_other name q place (File own info size ∷ es) other = find-more q place (File own info size) (with_file_lower name es) es (find-swapped_other name q (place + size) es other)
find-swapped_other name q place (Empty gap ∷ []) other = refl
find-swapped_other name q place (Empty gap ∷ Empty size ∷ es) other = find-swapped_other name q (place + gap) (Empty size ∷ es) other
find-swapped_other name q place (Empty gap ∷ File own info size ∷ es) other = elim (eqb_tells own name) [
  | inl here ↦
      let skipped : is_named q (File own info size) ≡ false = other-named q own size info (λ same. other (sym here.1 ∙ same)) in
      let end : (place + size) + gap ≡ (place + gap) + size = omega arith in
      rw here.0 (find-skip q place (File own info size) (Empty gap ∷ es) skipped ∙ rw end refl ∙ sym (find-skip q (place + gap) (File own info size) es skipped))
  | inr there ↦ rw there.0 (find-more q (place + gap) (File own info size) (with_file_lower name es) es (find-swapped_other name q ((place + gap) + size) es other))
]

pub moved-others : (name q place : ℕ) (es : List DirEntry) → name ≢ q → find q (files_at place (moved_down name es)) ≡ find q (files_at place es)
moved-others name q place es other = rw (files_at-tidy (with_file_lower name es) place) (find-swapped_other name q place es other)

-- a file with an empty below it is one of the list
gap-named : (name : ℕ) (es : List DirEntry) → IsTidy es → 0 < gap_below name es → contains (names_of es) name ≡ true
gap-named name [] neat some = absurd (omega arith)
gap-named name (File own info zero ∷ es) neat some = absurd (omega (arith, neat.0))
gap-named name (File own info (suc size) ∷ es) neat some = rw (gap-named name es neat.2 some) (elim (eqb own name) as (λ b. cond b true true ≡ true) [ true ↦ refl | false ↦ refl ])
gap-named name (Empty gap ∷ []) neat some = absurd (omega arith)
gap-named name (Empty gap ∷ Empty size ∷ es) neat some = absurd neat.1
gap-named name (Empty gap ∷ File own info zero ∷ es) neat some = absurd (omega (arith, neat.2.0))
gap-named name (Empty gap ∷ File own info (suc size) ∷ es) neat some = elim (eqb_tells own name) [
  | inl here ↦ rw here.0 refl
  | inr there ↦ rw there.0 (gap-named name es neat.2.2 (rw there.0 at some))
]

-- a file before it has another name
gap-other : (name own size : ℕ) (info : List ℕ) (es : List DirEntry) → IsTidy (File own info size ∷ es) → AreDistinct (names_of (File own info size ∷ es)) → 0 < gap_below name es → own ≢ name
gap-other name own zero info es neat apart some same = absurd (omega (arith, neat.0))
gap-other name own (suc size) info es neat apart some same = true≢false (sym (gap-named name es neat.2 some) ∙ rw same at apart.0)

rest-distinct : (e : DirEntry) (es : List DirEntry) → AreDistinct (names_of (e ∷ es)) → AreDistinct (names_of es)
rest-distinct (File own info zero) es apart = apart
rest-distinct (File own info (suc size)) es apart = apart.1
rest-distinct (Empty size) es apart = apart

find-swapped : (name place : ℕ) (es : List DirEntry) → IsTidy es → AreDistinct (names_of es) → 0 < gap_below name es → find name (files_at place (with_file_lower name es)) ≡ file_lower (gap_below name es) (find name (files_at place es))
find-swapped name place [] neat apart some = absurd (omega arith)
find-swapped name place (File own info size ∷ es) neat apart some =
    let skipped : is_named name (File own info size) ≡ false = other-named name own size info (gap-other name own size info es neat apart some) in
    find-skip name place (File own info size) (with_file_lower name es) skipped ∙ find-swapped name (place + size) es neat.2 (rest-distinct (File own info size) es apart) some ∙ ap (file_lower (gap_below name es)) (sym (find-skip name place (File own info size) es skipped))
find-swapped name place (Empty gap ∷ []) neat apart some = absurd (omega arith)
find-swapped name place (Empty gap ∷ Empty size ∷ es) neat apart some = absurd neat.1
find-swapped name place (Empty gap ∷ File own info size ∷ es) neat apart some = elim (eqb_tells own name) [
  | inl here ↦
      let back : (place + gap) - gap ≡ place = omega arith in
      let old : find own (files_at (place + gap) (File own info size ∷ es)) ≡ Some (record { name = own; info = info; place = place + gap; size = size }) = find-hit own (place + gap) size info es neat.2.0 in
      let new : find own (files_at place (File own info size ∷ Empty gap ∷ es)) ≡ Some (record { name = own; info = info; place = place; size = size }) = find-hit own place size info (Empty gap ∷ es) neat.2.0 in
      rw (here.0, ← here.1) (new ∙ rw old (rw back refl))
  | inr there ↦
      let skipped : is_named name (File own info size) ≡ false = other-named name own size info there.1 in
      let some' : 0 < gap_below name es = rw there.0 at some in
      rw there.0 (find-skip name (place + gap) (File own info size) (with_file_lower name es) skipped ∙ find-swapped name ((place + gap) + size) es neat.2.2 (rest-distinct (File own info size) es apart) some' ∙ ap (file_lower (gap_below name es)) (sym (find-skip name (place + gap) (File own info size) es skipped)))
]

pub moved-there : (name place : ℕ) (es : List DirEntry) → IsTidy es → AreDistinct (names_of es) → 0 < gap_below name es → find name (files_at place (moved_down name es)) ≡ file_lower (gap_below name es) (find name (files_at place es))
moved-there name place es neat apart some = rw (files_at-tidy (with_file_lower name es) place) (find-swapped name place es neat apart some)

-- where a file with an empty below it was
abbrev pub StandsOn : ℕ → Option FilePlace → List (ℕ × ℕ) → Type 0
StandsOn gap None rooms = ⊥
StandsOn gap (Some f) rooms = (gap ≤ f.place) × IsRoom (f.place - gap) gap rooms

stands-more : (gap : ℕ) (found : Option FilePlace) (room : ℕ × ℕ) (rooms : List (ℕ × ℕ)) → StandsOn gap found rooms → StandsOn gap found (room ∷ rooms)
stands-more gap None room rooms stands = stands
stands-more gap (Some f) room rooms stands = (stands.0, inr stands.1)

gap-stands : (name place : ℕ) (es : List DirEntry) → IsTidy es → AreDistinct (names_of es) → 0 < gap_below name es → StandsOn (gap_below name es) (find name (files_at place es)) (rooms_at place es)
gap-stands name place [] neat apart some = absurd (omega arith)
gap-stands name place (File own info size ∷ es) neat apart some =
    let skipped : is_named name (File own info size) ≡ false = other-named name own size info (gap-other name own size info es neat apart some) in
    rw (find-skip name place (File own info size) es skipped) (gap-stands name (place + size) es neat.2 (rest-distinct (File own info size) es apart) some)
gap-stands name place (Empty gap ∷ []) neat apart some = absurd (omega arith)
gap-stands name place (Empty gap ∷ Empty size ∷ es) neat apart some = absurd neat.1
gap-stands name place (Empty gap ∷ File own info size ∷ es) neat apart some = elim (eqb_tells own name) [
  | inl here ↦
      let back : (place + gap) - gap ≡ place = omega arith in
      let old : find own (files_at (place + gap) (File own info size ∷ es)) ≡ Some (record { name = own; info = info; place = place + gap; size = size }) = find-hit own (place + gap) size info es neat.2.0 in
      rw (here.0, ← here.1, old) (omega arith, inl (sym back, refl))
  | inr there ↦
      let skipped : is_named name (File own info size) ≡ false = other-named name own size info there.1 in
      let some' : 0 < gap_below name es = rw there.0 at some in
      rw (there.0, find-skip name (place + gap) (File own info size) es skipped) (stands-more (gap_below name es) (find name (files_at ((place + gap) + size) es)) (place, gap) (rooms_at ((place + gap) + size) es) (gap-stands name ((place + gap) + size) es neat.2.2 (rest-distinct (File own info size) es apart) some'))
]

stands-file : (gap : ℕ) (found : Option FilePlace) (rooms : List (ℕ × ℕ)) → StandsOn gap found rooms → (f : FilePlace) × ((found ≡ Some f) × (gap ≤ f.place) × IsRoom (f.place - gap) gap rooms)
stands-file gap None rooms stands = absurd stands
stands-file gap (Some f) rooms stands = (f, (refl, stands.0, stands.1))

pub gap-file : (name place : ℕ) (es : List DirEntry) → IsTidy es → AreDistinct (names_of es) → 0 < gap_below name es → (f : FilePlace) × ((find name (files_at place es) ≡ Some f) × (gap_below name es ≤ f.place) × IsRoom (f.place - gap_below name es) (gap_below name es) (rooms_at place es))
gap-file name place es neat apart some = stands-file (gap_below name es) (find name (files_at place es)) (rooms_at place es) (gap-stands name place es neat apart some)

pub total-removed : (name : ℕ) (es : List DirEntry) → total (without_file name es) ≡ total es
total-removed name es = total-tidy (entries_without name es) ∙ total-emptied name es

pub total-placed : (first : ℕ) (f : FilePlace) (es : List DirEntry) → total (with_new_file first f es) ≡ total es
total-placed first f es = total-tidy (put first f.place (File f.name f.info f.size) (entries_without f.name es)) ∙ total-put first f.place (File f.name f.info f.size) (entries_without f.name es) ∙ total-emptied f.name es

pub total-moved : (name : ℕ) (es : List DirEntry) → total (moved_down name es) ≡ total es
total-moved name es = total-tidy (with_file_lower name es) ∙ total-swapped name es
