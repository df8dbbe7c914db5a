-- What a reading that was accepted is, and which faults a reading has.
use Rattle.std.proofs.Common.{◌≡◌, ℕ, zero, suc, ◌+◌, ◌≤◌, ◌<◌, ◌≢◌, Bool, true, false, not, ◌&&◌, cond, eqb, ltb, List, [], ◌∷◌, ◌++◌, length, take, drop, Result, Ok, Err, refl, ap, sym, subst, ◌∙◌, arith, eq-eqb, ne_eqb, inl, inr}
use Rattle.std.proofs.lemmas.Bool.{true≢false, ltb-false}
use Rattle.std.specs.Prelude.{IfOk, is_ok, ◌⊎◌}
use Rattle.os8_dir.specs.declared.entries.DirEntry.{DirEntry}
use Rattle.os8_dir.specs.declared.entries.DirEntry.TheVariants.{File, Empty}
use Rattle.os8_dir.specs.declared.faults.DirFault.{DirFault}
use Rattle.os8_dir.specs.declared.faults.DirFault.TheVariants.{BadLink, BadCount, EntryPastSegment, PastVolume, SameName, WrongFirstBlock, MixedInfo}
use Rattle.os8_dir.specs.Names.{name_of, with_end_zeros}
use Rattle.os8_dir.specs.Entries.{DirectoryState, minus, contains, AreDistinct, size_of, total, end_of, names_of, before, tidy, IsTidy, IsNamed, IsWritable, AreWritable}
use Rattle.os8_dir.specs.Reading.{◌>>=◌, needs, word, block, empty_at, file_at, entry_at, is_new, with_entry, with_entries, with_segment, is_unread, with_links, head_of, is_first, directory_of, IsOfWords, Sound, HasFault}
use Rattle.os8_dir.specs.Found.{FilePlace, files_at, AreApart, IsDirectory}
use Rattle.os8_dir.proofs.TidyLemmas.{total-tidy, total-append, IsTidy-tidy}

-- Results of steps that follow one another.
if_ok-bind : {A B : Type 0} (r : Result A DirFault) (f : A → Result B DirFault) (P : A → Type 0) (Q : B → Type 0) → IfOk r P → ((x : A) → P x → IfOk (f x) Q) → IfOk (r >>= f) Q
if_ok-bind (Ok x) f P Q holds then = then x holds
if_ok-bind (Err fault) f P Q holds then = tt

if_ok-needs : {B : Type 0} (b : Bool) (fault : DirFault) (f : Unit {0} → Result B DirFault) (Q : B → Type 0) → (b ≡ true → IfOk (f tt) Q) → IfOk (needs b fault >>= f) Q
if_ok-needs true fault f Q then = then refl
if_ok-needs false fault f Q then = tt

not-true : (b : Bool) → not b ≡ true → b ≡ false
not-true true e = sym e
not-true false e = refl

-- Names.
pub names_of-append : (xs ys : List DirEntry) → names_of (xs ++ ys) ≡ names_of xs ++ names_of ys
names_of-append [] ys = refl
names_of-append (File name info zero ∷ xs) ys = names_of-append xs ys
names_of-append (File name info (suc size) ∷ xs) ys = ap (λ ns. name ∷ ns) (names_of-append xs ys)
names_of-append (Empty size ∷ xs) ys = names_of-append xs ys

names_of-before : (e : DirEntry) (es : List DirEntry) → names_of (before e es) ≡ names_of (e ∷ es)
names_of-before (File name info zero) es = refl
names_of-before (File name info (suc size)) es = refl
names_of-before (Empty zero) [] = refl
names_of-before (Empty (suc size)) [] = refl
names_of-before (Empty size) (Empty more ∷ es) = refl
names_of-before (Empty zero) (File name info more ∷ es) = refl
names_of-before (Empty (suc size)) (File name info more ∷ es) = refl

names_of-more : (e : DirEntry) (xs ys : List DirEntry) → names_of xs ≡ names_of ys → names_of (e ∷ xs) ≡ names_of (e ∷ ys)
names_of-more (File name info zero) xs ys same = same
names_of-more (File name info (suc size)) xs ys same = ap (λ ns. name ∷ ns) same
names_of-more (Empty size) xs ys same = same

pub names_of-tidy : (es : List DirEntry) → names_of (tidy es) ≡ names_of es
names_of-tidy [] = refl
names_of-tidy (e ∷ es) = names_of-before e (tidy es) ∙ names_of-more e (tidy es) es (names_of-tidy es)

pub append-nil : (xs : List ℕ) → xs ++ [] ≡ xs
append-nil [] = refl
append-nil (x ∷ xs) = ap (λ ys. x ∷ ys) (append-nil xs)

contains-append : (xs : List ℕ) (y x : ℕ) → contains xs x ≡ false → y ≢ x → contains (xs ++ y ∷ []) x ≡ false
contains-append [] y x out other = rw (ne_eqb y x other) refl
contains-append (z ∷ xs) y x out other = elim (eqb z x) as (λ b. cond b true (contains xs x) ≡ false → cond b true (contains (xs ++ y ∷ []) x) ≡ false) [ true ↦ λ e. e | false ↦ λ e. contains-append xs y x e other ] out

tail-out : (b c : Bool) → cond b true c ≡ false → c ≡ false
tail-out true c out = absurd (true≢false out)
tail-out false c out = out

head-other : (x y : ℕ) (xs : List ℕ) → contains (x ∷ xs) y ≡ false → (x ≢ y) × (contains xs y ≡ false)
head-other x y xs out = (λ same. true≢false (sym (rw (eq-eqb x y same) refl) ∙ out), tail-out (eqb x y) (contains xs y) out)

AreDistinct-append : (xs : List ℕ) (y : ℕ) → AreDistinct xs → contains xs y ≡ false → AreDistinct (xs ++ y ∷ [])
AreDistinct-append [] y apart out = (refl, tt)
AreDistinct-append (x ∷ xs) y apart out =
    let other = head-other x y xs out in
    (contains-append xs y x apart.0 (λ same. other.0 (sym same)), AreDistinct-append xs y apart.1 other.1)

-- Files in order.
AreApart-from : (low from bound : ℕ) (fs : List FilePlace) → low ≤ from → AreApart from bound fs → AreApart low bound fs
AreApart-from low from bound [] less apart = omega arith
AreApart-from low from bound (f ∷ fs) less apart = (omega (arith, apart.0), apart.1, apart.2)

pub AreApart-files_at : (place bound : ℕ) (es : List DirEntry) → place + total es ≤ bound → AreApart place bound (files_at place es)
AreApart-files_at place bound [] inside = omega arith
AreApart-files_at place bound (File name info zero ∷ es) inside = AreApart-files_at place bound es (omega arith)
AreApart-files_at place bound (File name info (suc size) ∷ es) inside = (omega arith, omega arith, AreApart-files_at (place + suc size) bound es (omega arith))
AreApart-files_at place bound (Empty size ∷ es) inside = AreApart-from place (place + size) bound (files_at (place + size) es) (omega arith) (AreApart-files_at (place + size) bound es (omega arith))

-- A directory while it is read.
record IsBegun (volume : ℕ) (d : DirectoryState) : Type 0 where
  pub starts : 7 ≤ d.first
  pub few : d.info ≤ 10
  pub inside : d.first + total d.entries ≤ volume
  pub neat : IsTidy d.entries
  pub single : AreDistinct (names_of d.entries)
  pub writable : AreWritable d.info d.entries

-- An entry that was read can be written.
padded-take-none : (n info : ℕ) → with_end_zeros n (take info (with_end_zeros n [])) ≡ with_end_zeros n []
padded-take-none n zero = refl
padded-take-none zero (suc info) = refl
padded-take-none (suc n) (suc info) = ap (λ ws. 0 ∷ ws) (padded-take-none n info)

pub padded-take : (n info : ℕ) (words : List ℕ) → with_end_zeros n (take info (with_end_zeros n (take info words))) ≡ with_end_zeros n (take info words)
padded-take n zero words = refl
padded-take zero (suc info) words = refl
padded-take (suc n) (suc info) [] = ap (λ ws. 0 ∷ ws) (padded-take-none n info)
padded-take (suc n) (suc info) (w ∷ words) = ap (λ ws. w ∷ ws) (padded-take n info words)

name-least : (a b c d : ℕ) → 0 < a → IsNamed (name_of (a ∷ b ∷ c ∷ d ∷ []))
name-least a b c d some = omega arith

writable-file : (info : ℕ) (words : List ℕ) → 0 < word words 0 → IfOk (file_at info words) (λ e. IsWritable info e.0)
unfolding file_at
writable-file info [] some = tt
writable-file info (a ∷ []) some = tt
writable-file info (a ∷ b ∷ []) some = tt
writable-file info (a ∷ b ∷ c ∷ []) some = tt
writable-file info (a ∷ b ∷ c ∷ d ∷ rest) some = if_ok-needs (ltb info (length rest)) EntryPastSegment _ (λ e. IsWritable info e.0) (λ fits. (name-least a b c d some, padded-take 10 info rest))

writable-empty : (info : ℕ) (words : List ℕ) → IfOk (empty_at words) (λ e. IsWritable info e.0)
unfolding empty_at
writable-empty info [] = tt
writable-empty info (w ∷ words) = tt

writable-at : (info : ℕ) (words : List ℕ) → IfOk (entry_at info words) (λ e. IsWritable info e.0)
unfolding entry_at
writable-at info [] = tt
writable-at info (zero ∷ rest) = writable-empty info rest
writable-at info (suc w ∷ rest) = writable-file info (suc w ∷ rest) (omega arith)

writable-before : (info : ℕ) (e : DirEntry) (es : List DirEntry) → IsWritable info e → AreWritable info es → AreWritable info (before e es)
writable-before info (File name words zero) es writable all = all
writable-before info (File name words (suc size)) es writable all = (writable, all)
writable-before info (Empty zero) [] writable all = tt
writable-before info (Empty (suc size)) [] writable all = (tt, tt)
writable-before info (Empty size) (Empty more ∷ es) writable all = (tt, all.1)
writable-before info (Empty zero) (File name words more ∷ es) writable all = all
writable-before info (Empty (suc size)) (File name words more ∷ es) writable all = (tt, all)

pub writable-tidy : (info : ℕ) (es : List DirEntry) → AreWritable info es → AreWritable info (tidy es)
writable-tidy info [] all = tt
writable-tidy info (e ∷ es) all = writable-before info e (tidy es) all.0 (writable-tidy info es all.1)

pub writable-append : (info : ℕ) (xs ys : List DirEntry) → AreWritable info xs → AreWritable info ys → AreWritable info (xs ++ ys)
writable-append info [] ys all more = more
writable-append info (x ∷ xs) ys all more = (all.0, writable-append info xs ys all.1 more)

AreDistinct-entry : (es : List DirEntry) (e : DirEntry) → AreDistinct (names_of es) → is_new (names_of es) e ≡ true → AreDistinct (names_of es ++ names_of (e ∷ []))
AreDistinct-entry es (File name info zero) single new = rw (append-nil (names_of es)) single
AreDistinct-entry es (File name info (suc size)) single new = AreDistinct-append (names_of es) name single (not-true (contains (names_of es) name) new)
AreDistinct-entry es (Empty size) single new = rw (append-nil (names_of es)) single

begun-more : (volume : ℕ) (d : DirectoryState) (e : DirEntry) → IsBegun volume d → IsWritable d.info e → end_of d + size_of e ≤ volume → is_new (names_of d.entries) e ≡ true → IsBegun volume (record d { entries = tidy (d.entries ++ e ∷ []) })
begun-more volume d e begun writable inside new = record {
  starts = begun.starts;
  few = begun.few;
  inside = rw (total-tidy (d.entries ++ e ∷ []), total-append d.entries (e ∷ [])) (omega arith);
  neat = IsTidy-tidy (d.entries ++ e ∷ []);
  single = rw (names_of-tidy (d.entries ++ e ∷ []), names_of-append d.entries (e ∷ [])) (AreDistinct-entry d.entries e begun.single new);
  writable = writable-tidy d.info (d.entries ++ e ∷ []) (writable-append d.info d.entries (e ∷ []) begun.writable (writable, tt));
}

begun-entry : (volume : ℕ) (d : DirectoryState) (e : DirEntry) → IsBegun volume d → IsWritable d.info e → IfOk (with_entry volume d e) (IsBegun volume)
unfolding with_entry
begun-entry volume d e begun writable =
    if_ok-needs (not (ltb volume (end_of d + size_of e))) PastVolume _ (IsBegun volume) (λ fits.
    if_ok-needs (is_new (names_of d.entries) e) SameName _ (IsBegun volume) (λ new.
    begun-more volume d e begun writable (ltb-false volume (end_of d + size_of e) (not-true _ fits)) new))

begun-entries : (count volume : ℕ) (d : DirectoryState) (words : List ℕ) → IsBegun volume d → IfOk (with_entries count volume d words) (IsBegun volume)
unfolding with_entries
begun-entries zero volume d words begun = begun
begun-entries (suc count) volume d words begun =
    if_ok-bind (entry_at d.info words) _ (λ e. IsWritable d.info e.0) (IsBegun volume) (writable-at d.info words) (λ e said.
    if_ok-bind (with_entry volume d e.0) _ (IsBegun volume) (IsBegun volume) (begun-entry volume d e.0 begun said) (λ more added.
    begun-entries count volume more e.1 added))

begun-segment : (volume : ℕ) (d : DirectoryState) (number : ℕ) (words : List ℕ) → IsBegun volume d → IfOk (with_segment volume d number words) (IsBegun volume)
unfolding with_segment
begun-segment volume d number words begun =
    if_ok-needs (not (ltb 10 (minus (word words 4)))) (BadCount number) _ (IsBegun volume) (λ few.
    if_ok-needs (eqb (minus (word words 4)) d.info) MixedInfo _ (IsBegun volume) (λ same.
    if_ok-needs (eqb (word words 1) (end_of d)) WrongFirstBlock _ (IsBegun volume) (λ follows.
    begun-entries (minus (word words 0)) volume d (drop 5 words) begun)))

begun-links : (left : ℕ) (d : DirectoryState) (blocks : List (List ℕ)) (read : List ℕ) (from link : ℕ) → IsBegun (length blocks) d → IfOk (with_links left d blocks read from link) (IsBegun (length blocks))
unfolding with_links
begun-links zero d blocks read from zero begun = begun
begun-links (suc left) d blocks read from zero begun = begun
begun-links zero d blocks read from (suc n) begun = tt
begun-links (suc left) d blocks read from (suc n) begun =
    if_ok-needs (is_unread read (suc n)) (BadLink from) _ (IsBegun (length blocks)) (λ unread.
    if_ok-bind (with_segment (length blocks) d (suc n) (block blocks (suc n))) _ (IsBegun (length blocks)) (IsBegun (length blocks)) (begun-segment (length blocks) d (suc n) (block blocks (suc n)) begun) (λ more added.
    begun-links left more blocks (suc n ∷ read) (suc n) (word (block blocks (suc n)) 2) added))

and-true : (a b : Bool) → (a && b) ≡ true → (a ≡ true) × (b ≡ true)
and-true true b e = (refl, e)
and-true false b e = absurd (true≢false (sym e))

begun-head : (volume : ℕ) (words : List ℕ) → IfOk (head_of volume words) (IsBegun volume)
unfolding head_of
begun-head volume words =
    if_ok-needs (not (ltb 10 (minus (word words 4)))) (BadCount 1) _ (IsBegun volume) (λ few.
    if_ok-needs (is_first volume (word words 1)) WrongFirstBlock _ (IsBegun volume) (λ first.
    let bounds = and-true (not (ltb (word words 1) 7)) (not (ltb volume (word words 1))) first in
    record {
      starts = ltb-false (word words 1) 7 (not-true _ bounds.0);
      few = ltb-false 10 (minus (word words 4)) (not-true _ few);
      inside = omega (arith, ltb-false volume (word words 1) (not-true _ bounds.1));
      neat = tt;
      single = tt;
      writable = tt;
    }))

begun-directory : (blocks : List (List ℕ)) → IfOk (directory_of blocks) (IsBegun (length blocks))
unfolding directory_of
begun-directory blocks =
    let volume = length blocks in
    if_ok-bind (head_of volume (block blocks 1)) _ (IsBegun volume) (IsBegun volume) (begun-head volume (block blocks 1)) (λ head begun.
    if_ok-bind (with_segment volume head 1 (block blocks 1)) _ (IsBegun volume) (IsBegun volume) (begun-segment volume head 1 (block blocks 1) begun) (λ one added.
    begun-links 5 one blocks (1 ∷ []) 1 (word (block blocks 1) 2) added))

whole : (volume : ℕ) (d : DirectoryState) → IsBegun volume d → IsDirectory volume d
whole volume d begun = record {
  starts = begun.starts;
  few = begun.few;
  inside = begun.inside;
  neat = begun.neat;
  single = begun.single;
  apart = AreApart-files_at d.first volume d.entries begun.inside;
  writable = begun.writable;
}

pub IsDirectory-read : (blocks : List (List ℕ)) (d : DirectoryState) → directory_of blocks ≡ Ok d → IsDirectory (length blocks) d
IsDirectory-read blocks d read =
    let P : Result DirectoryState DirFault → Type 0 = λ r. IfOk r (IsBegun (length blocks)) in
    whole (length blocks) d (subst P read (begun-directory blocks))

-- The faults of a reading.
abbrev Judged : {A : Type 0} → Result A DirFault → Type 0
Judged (Ok x) = Unit {0}
Judged (Err fault) = IsOfWords fault

judged-bind : {A B : Type 0} (r : Result A DirFault) (f : A → Result B DirFault) → Judged r → ((x : A) → Judged (f x)) → Judged (r >>= f)
judged-bind (Ok x) f judged then = then x
judged-bind (Err fault) f judged then = judged

judged-needs : {B : Type 0} (b : Bool) (fault : DirFault) (f : Unit {0} → Result B DirFault) → IsOfWords fault → Judged (f tt) → Judged (needs b fault >>= f)
judged-needs true fault f is then = then
judged-needs false fault f is then = is

judged-empty : (words : List ℕ) → Judged (empty_at words)
unfolding empty_at
judged-empty [] = tt
judged-empty (w ∷ ws) = tt

judged-file : (info : ℕ) (words : List ℕ) → Judged (file_at info words)
unfolding file_at
judged-file info [] = tt
judged-file info (a ∷ []) = tt
judged-file info (a ∷ b ∷ []) = tt
judged-file info (a ∷ b ∷ c ∷ []) = tt
judged-file info (a ∷ b ∷ c ∷ d ∷ rest) = judged-needs (ltb info (length rest)) EntryPastSegment _ tt tt

judged-at : (info : ℕ) (words : List ℕ) → Judged (entry_at info words)
unfolding entry_at
judged-at info [] = tt
judged-at info (zero ∷ rest) = judged-empty rest
judged-at info (suc w ∷ rest) = judged-file info (suc w ∷ rest)

judged-entry : (volume : ℕ) (d : DirectoryState) (e : DirEntry) → Judged (with_entry volume d e)
unfolding with_entry
judged-entry volume d e = judged-needs (not (ltb volume (end_of d + size_of e))) PastVolume _ tt (judged-needs (is_new (names_of d.entries) e) SameName _ tt tt)

judged-entries : (count volume : ℕ) (d : DirectoryState) (words : List ℕ) → Judged (with_entries count volume d words)
unfolding with_entries
judged-entries zero volume d words = tt
judged-entries (suc count) volume d words = judged-bind (entry_at d.info words) _ (judged-at d.info words) (λ e. judged-bind (with_entry volume d e.0) _ (judged-entry volume d e.0) (λ more. judged-entries count volume more e.1))

judged-segment : (volume : ℕ) (d : DirectoryState) (number : ℕ) (words : List ℕ) → Judged (with_segment volume d number words)
unfolding with_segment
judged-segment volume d number words =
    judged-needs (not (ltb 10 (minus (word words 4)))) (BadCount number) _ tt (judged-needs (eqb (minus (word words 4)) d.info) MixedInfo _ tt (judged-needs (eqb (word words 1) (end_of d)) WrongFirstBlock _ tt (judged-entries (minus (word words 0)) volume d (drop 5 words))))

judged-links : (left : ℕ) (d : DirectoryState) (blocks : List (List ℕ)) (read : List ℕ) (from link : ℕ) → Judged (with_links left d blocks read from link)
unfolding with_links
judged-links zero d blocks read from zero = tt
judged-links (suc left) d blocks read from zero = tt
judged-links zero d blocks read from (suc n) = tt
judged-links (suc left) d blocks read from (suc n) =
    judged-needs (is_unread read (suc n)) (BadLink from) _ tt (judged-bind (with_segment (length blocks) d (suc n) (block blocks (suc n))) _ (judged-segment (length blocks) d (suc n) (block blocks (suc n))) (λ more. judged-links left more blocks (suc n ∷ read) (suc n) (word (block blocks (suc n)) 2)))

judged-head : (volume : ℕ) (words : List ℕ) → Judged (head_of volume words)
unfolding head_of
judged-head volume words = judged-needs (not (ltb 10 (minus (word words 4)))) (BadCount 1) _ tt (judged-needs (is_first volume (word words 1)) WrongFirstBlock _ tt tt)

judged-directory : (blocks : List (List ℕ)) → Judged (directory_of blocks)
unfolding directory_of
judged-directory blocks =
    judged-bind (head_of (length blocks) (block blocks 1)) _ (judged-head (length blocks) (block blocks 1)) (λ head.
    judged-bind (with_segment (length blocks) head 1 (block blocks 1)) _ (judged-segment (length blocks) head 1 (block blocks 1)) (λ one.
    judged-links 5 one blocks (1 ∷ []) 1 (word (block blocks 1) 2)))

pub IsOfWords-read : (blocks : List (List ℕ)) (fault : DirFault) → HasFault blocks fault → IsOfWords fault
IsOfWords-read blocks fault has = let P : Result DirectoryState DirFault → Type 0 = λ r. Judged r in subst P has (judged-directory blocks)

sound-cases : (blocks : List (List ℕ)) (r : Result DirectoryState DirFault) → directory_of blocks ≡ r → Sound blocks ⊎ ((fault : DirFault) × HasFault blocks fault)
sound-cases blocks (Ok d) read = inl (ap is_ok read)
sound-cases blocks (Err fault) read = inr (fault, read)

pub sound-or-fault : (blocks : List (List ℕ)) → Sound blocks ⊎ ((fault : DirFault) × HasFault blocks fault)
sound-or-fault blocks = sound-cases blocks (directory_of blocks) refl

pub sound-no-fault : (blocks : List (List ℕ)) (fault : DirFault) → Sound blocks → HasFault blocks fault → ⊥
sound-no-fault blocks fault sound has = true≢false (sym sound ∙ ap is_ok has)
