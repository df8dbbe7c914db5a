-- What another name of a file does to a list.
use Rattle.std.proofs.Common.{◌≡◌, ◌≢◌, ℕ, zero, suc, ◌+◌, Bool, true, false, cond, eqb, List, [], ◌∷◌, ◌++◌, length, take, get_or, ◌<◌, Some, None, refl, ap, sym, ◌∙◌, arith, inl, inr, eq-eqb, ne_eqb}
use Rattle.std.proofs.lemmas.Bool.{true≢false}
use Rattle.std.proofs.lemmas.Bool.Decides.{eqb_tells}
use Rattle.os8_dir.specs.declared.entries.DirEntry.{DirEntry}
use Rattle.os8_dir.specs.declared.entries.DirEntry.TheVariants.{File, Empty}
use Rattle.os8_dir.specs.Entries.{DirectoryState, contains, AreDistinct, size_of, total, names_of, Apart, IsTidy, IsNamed, AreWritable}
use Rattle.os8_dir.specs.Found.{FilePlace, files_at, find, rooms_at, IsDirectory, count_files, above}
use Rattle.os8_dir.specs.Changes.{directory_with}
use Rattle.os8_dir.specs.Renaming.{renamed_name, renamed_entry, with_new_name, with_name}
use Rattle.os8_dir.specs.Steps.{is_named}
use Rattle.os8_dir.proofs.LawLemmas.{AreApart-files_at}
use Rattle.os8_dir.proofs.ChangeLemmas.{take-item}
use Rattle.os8_dir.proofs.FileLemmas.{find-skip, find-more, other-named, head-named, rest-none}

-- ## Names

name-old : (name new : ℕ) → renamed_name name new name ≡ new
name-old name new = rw (eq-eqb name name refl) refl

name-other : (name new other : ℕ) → other ≢ name → renamed_name name new other ≡ other
name-other name new other differ = rw (ne_eqb other name differ) refl

-- ## The list

size-renamed : (name new : ℕ) (e : DirEntry) → size_of (renamed_entry name new e) ≡ size_of e
size-renamed name new (File own info size) = refl
size-renamed name new (Empty size) = refl

pub total-renamed : (name new : ℕ) (es : List DirEntry) → total (with_new_name name new es) ≡ total es
total-renamed name new [] = refl
total-renamed name new (e ∷ es) = omega (arith, size-renamed name new e, total-renamed name new es)

pub length-renamed : (name new : ℕ) (es : List DirEntry) → length (with_new_name name new es) ≡ length es
length-renamed name new [] = refl
length-renamed name new (e ∷ es) = ap (λ n. suc n) (length-renamed name new es)

renamed-append : (name new : ℕ) (xs ys : List DirEntry) → with_new_name name new (xs ++ ys) ≡ with_new_name name new xs ++ with_new_name name new ys
renamed-append name new [] ys = refl
renamed-append name new (x ∷ xs) ys = ap (λ es. renamed_entry name new x ∷ es) (renamed-append name new xs ys)

pub renamed-item : (name new k : ℕ) (es : List DirEntry) (e : DirEntry) → k < length es → e ≡ get_or es k e → with_new_name name new (take k es) ++ renamed_entry name new e ∷ [] ≡ with_new_name name new (take (k + 1) es)
renamed-item name new k es e inside is = rw (take-item k es e inside is) (sym (renamed-append name new (take k es) (e ∷ [])))

apart-renamed : (name new : ℕ) (e : DirEntry) (es : List DirEntry) → Apart e es → Apart (renamed_entry name new e) (with_new_name name new es)
apart-renamed name new e [] apart = tt
apart-renamed name new (File own info size) (other ∷ es) apart = tt
apart-renamed name new (Empty size) (File own info more ∷ es) apart = tt
apart-renamed name new (Empty size) (Empty more ∷ es) apart = apart

pub tidy-renamed : (name new : ℕ) (es : List DirEntry) → IsTidy es → IsTidy (with_new_name name new es)
tidy-renamed name new [] neat = tt
tidy-renamed name new (e ∷ es) neat = (omega (arith, neat.0, size-renamed name new e), apart-renamed name new e es neat.1, tidy-renamed name new es neat.2)

-- the empties, and how many files have one below them, are as before
pub rooms-renamed : (name new place : ℕ) (es : List DirEntry) → rooms_at place (with_new_name name new es) ≡ rooms_at place es
rooms-renamed name new place [] = refl
rooms-renamed name new place (File own info size ∷ es) = rooms-renamed name new (place + size) es
rooms-renamed name new place (Empty size ∷ es) = ap (λ rooms. (place, size) ∷ rooms) (rooms-renamed name new (place + size) es)

count-renamed : (name new : ℕ) (es : List DirEntry) → count_files (with_new_name name new es) ≡ count_files es
count-renamed name new [] = refl
count-renamed name new (File own info size ∷ es) = ap (λ n. suc n) (count-renamed name new es)
count-renamed name new (Empty size ∷ es) = count-renamed name new es

pub above-renamed : (name new : ℕ) (es : List DirEntry) → above (with_new_name name new es) ≡ above es
above-renamed name new [] = refl
above-renamed name new (File own info size ∷ es) = above-renamed name new es
above-renamed name new (Empty size ∷ es) = count-renamed name new es

-- ## The files

some_none : (f : FilePlace) → Some f ≡ None → ⊥
some_none f same = cc

-- a name that no file has
none-rest : (q place : ℕ) (e : DirEntry) (es : List DirEntry) → find q (files_at place (e ∷ es)) ≡ None → find q (files_at (place + size_of e) es) ≡ None
none-rest q place (File own info zero) es none = sym (find-skip q place (File own info zero) es refl) ∙ none
none-rest q place (File own info (suc size)) es none = elim (eqb_tells own q) [
  | inl here ↦ absurd (some_none _ (rw here.0 at none))
  | inr there ↦ rw there.0 at none
]
none-rest q place (Empty size) es none = none

none-head : (q place own size : ℕ) (info : List ℕ) (es : List DirEntry) → 0 < size → find q (files_at place (File own info size ∷ es)) ≡ None → own ≢ q
none-head q place own zero info es some none = absurd (omega arith)
none-head q place own (suc size) info es some none = λ same. some_none _ (rw (eq-eqb own q same) at none)

pub none-contains : (q place : ℕ) (es : List DirEntry) → find q (files_at place es) ≡ None → contains (names_of es) q ≡ false
none-contains q place [] none = refl
none-contains q place (File own info zero ∷ es) none = none-contains q (place + 0) es (none-rest q place (File own info zero) es none)
none-contains q place (File own info (suc size) ∷ es) none =
    rw (ne_eqb own q (none-head q place own (suc size) info es (omega arith) none)) (none-contains q (place + suc size) es (none-rest q place (File own info (suc size)) es none))
none-contains q place (Empty size ∷ es) none = none-contains q (place + size) es none

-- the old name is gone
entry-gone : (name new : ℕ) (e : DirEntry) → name ≢ new → is_named name (renamed_entry name new e) ≡ false
entry-gone name new (File own info size) differ = elim (eqb_tells own name) [
  | inl here ↦ rw here.0 (other-named name new size info (λ same. differ (sym same)))
  | inr there ↦ rw there.0 (other-named name own size info there.1)
]
entry-gone name new (Empty size) differ = refl

pub renamed-gone : (name new place : ℕ) (es : List DirEntry) → name ≢ new → find name (files_at place (with_new_name name new es)) ≡ None
renamed-gone name new place [] differ = refl
renamed-gone name new place (e ∷ es) differ =
    find-skip name place (renamed_entry name new e) (with_new_name name new es) (entry-gone name new e differ) ∙ renamed-gone name new (place + size_of (renamed_entry name new e)) es differ

-- other files are found as before
pub renamed-others : (name new q place : ℕ) (es : List DirEntry) → name ≢ q → new ≢ q → find q (files_at place (with_new_name name new es)) ≡ find q (files_at place es)
renamed-others name new q place [] old fresh = refl
renamed-others name new q place (File own info size ∷ es) old fresh = elim (eqb_tells own name) [
  | inl here ↦ rw here.0
      (find-skip q place (File new info size) (with_new_name name new es) (other-named q new size info fresh) ∙ renamed-others name new q (place + size) es old fresh
      ∙ sym (find-skip q place (File own info size) es (other-named q own size info (λ same. old (sym here.1 ∙ same)))))
  | inr there ↦ rw there.0 (find-more q place (File own info size) (with_new_name name new es) es (renamed-others name new q (place + size) es old fresh))
]
renamed-others name new q place (Empty size ∷ es) old fresh = renamed-others name new q (place + size) es old fresh

-- the file is found under the new name
pub renamed-there : (name new place : ℕ) (es : List DirEntry) → find new (files_at place es) ≡ None → find new (files_at place (with_new_name name new es)) ≡ with_name new (find name (files_at place es))
renamed-there name new place [] none = refl
renamed-there name new place (File own info zero ∷ es) none =
    find-skip new place (File (renamed_name name new own) info 0) (with_new_name name new es) refl ∙ renamed-there name new (place + 0) es (none-rest new place (File own info zero) es none)
    ∙ ap (with_name new) (sym (find-skip name place (File own info zero) es refl))
renamed-there name new place (File own info (suc size) ∷ es) none = elim (eqb_tells own name) [
  | inl here ↦ rw (here.0, eq-eqb new new refl) refl
  | inr there ↦
      let fresh = none-head new place own (suc size) info es (omega arith) none in
      rw (there.0, ne_eqb own new fresh) (renamed-there name new (place + suc size) es (none-rest new place (File own info (suc size)) es none))
]
renamed-there name new place (Empty size ∷ es) none = renamed-there name new (place + size) es none

-- ## Names of the list

names-none : (name new : ℕ) (es : List DirEntry) → contains (names_of es) name ≡ false → names_of (with_new_name name new es) ≡ names_of es
names-none name new [] none = refl
names-none name new (File own info zero ∷ es) none = names-none name new es none
names-none name new (File own info (suc size) ∷ es) none =
    rw (head-named name own (suc size) info es none) (ap (λ names. own ∷ names) (names-none name new es (rest-none (File own info (suc size)) es name none)))
names-none name new (Empty size ∷ es) none = names-none name new es none

contains-if : (own q : ℕ) (one two : Bool) → one ≡ two → cond (eqb own q) true one ≡ cond (eqb own q) true two
contains-if own q one two same = ap (cond (eqb own q) true) same

names-others : (name new q : ℕ) (es : List DirEntry) → name ≢ q → new ≢ q → contains (names_of (with_new_name name new es)) q ≡ contains (names_of es) q
names-others name new q [] old fresh = refl
names-others name new q (File own info zero ∷ es) old fresh = names-others name new q es old fresh
names-others name new q (File own info (suc size) ∷ es) old fresh = elim (eqb_tells own name) [
  | inl here ↦ rw (here.0, ne_eqb new q fresh, ne_eqb own q (λ same. old (sym here.1 ∙ same))) (names-others name new q es old fresh)
  | inr there ↦ rw there.0 (contains-if own q _ _ (names-others name new q es old fresh))
]
names-others name new q (Empty size ∷ es) old fresh = names-others name new q es old fresh

distinct-renamed : (name new : ℕ) (es : List DirEntry) → AreDistinct (names_of es) → contains (names_of es) new ≡ false → AreDistinct (names_of (with_new_name name new es))
distinct-renamed name new [] apart none = tt
distinct-renamed name new (File own info zero ∷ es) apart none = distinct-renamed name new es apart none
distinct-renamed name new (File own info (suc size) ∷ es) apart none =
    let rest = rest-none (File own info (suc size)) es new none in
    elim (eqb_tells own name) [
      | inl here ↦
          let same : names_of (with_new_name name new es) ≡ names_of es = names-none name new es (rw here.1 at apart.0) in
          rw (here.0, same) (rest, apart.1)
      | inr there ↦
          let fresh : new ≢ own = λ same. true≢false (sym (eq-eqb own new (sym same)) ∙ head-named new own (suc size) info es none) in
          rw there.0 (names-others name new own es (λ same. there.1 (sym same)) fresh ∙ apart.0, distinct-renamed name new es apart.1 rest)
    ]
distinct-renamed name new (Empty size ∷ es) apart none = distinct-renamed name new es apart none

writable-renamed : (info name new : ℕ) (es : List DirEntry) → IsNamed new → AreWritable info es → AreWritable info (with_new_name name new es)
writable-renamed info name new [] named all = tt
writable-renamed info name new (File own words size ∷ es) named all = elim (eqb_tells own name) [
  | inl here ↦ rw here.0 ((named, all.0.1), writable-renamed info name new es named all.1)
  | inr there ↦ rw there.0 (all.0, writable-renamed info name new es named all.1)
]
writable-renamed info name new (Empty size ∷ es) named all = (tt, writable-renamed info name new es named all.1)

pub renamed-directory : (volume name new : ℕ) (d : DirectoryState) → IsDirectory volume d → IsNamed new → find new (files_at d.first d.entries) ≡ None
    → IsDirectory volume (directory_with d (with_new_name name new d.entries))
renamed-directory volume name new d is named none =
    let inside : d.first + total (with_new_name name new d.entries) ≡ d.first + total d.entries = omega (arith, total-renamed name new d.entries) in
    record {
      starts = is.starts;
      few = is.few;
      inside = omega (arith, inside, is.inside);
      neat = tidy-renamed name new d.entries is.neat;
      single = distinct-renamed name new d.entries is.single (none-contains new d.first d.entries none);
      apart = AreApart-files_at d.first volume (with_new_name name new d.entries) (omega (arith, inside, is.inside));
      writable = writable-renamed d.info name new d.entries named is.writable;
    }

-- ## Back

pub renamed-back : (name new place : ℕ) (es : List DirEntry) → IsTidy es → find new (files_at place es) ≡ None → with_new_name new name (with_new_name name new es) ≡ es
renamed-back name new place [] neat none = refl
renamed-back name new place (File own info size ∷ es) neat none =
    let rest = renamed-back name new (place + size) es neat.2 (none-rest new place (File own info size) es none) in
    let fresh = none-head new place own size info es neat.0 none in
    elim (eqb_tells own name) [
      | inl here ↦ rw (here.0, name-old new name, here.1) (ap (λ l. File name info size ∷ l) rest)
      | inr there ↦ rw (there.0, name-other new name own fresh) (ap (λ l. File own info size ∷ l) rest)
    ]
renamed-back name new place (Empty size ∷ es) neat none = ap (λ l. Empty size ∷ l) (renamed-back name new (place + size) es neat.2 none)

-- ## The loop

pub pushed : (name new k : ℕ) (es : List DirEntry) (e made : DirEntry) (kept more : List DirEntry) → more ≡ kept ++ made ∷ [] → made ≡ renamed_entry name new e
    → kept ≡ with_new_name name new (take k es) → k < length es → e ≡ get_or es k e → more ≡ with_new_name name new (take (k + 1) es)
pushed name new k es e made kept more is same so_far inside at =
    is ∙ ap (λ l. l ++ made ∷ []) so_far ∙ ap (λ m. with_new_name name new (take k es) ++ m ∷ []) same ∙ renamed-item name new k es e inside at
