-- The first blocks of files.
use Rattle.std.proofs.Common.{◌≡◌, ◌∙◌, ◌⊎◌, ◌≤◌, ℕ, zero, suc, ◌+◌, ◌==◌, Bool, true, false, true≢false, if◌then◌else◌, Option, Some, None, Result, Ok, Err, List, [], ◌∷◌, length, refl, sym, ap, subst, arith, inl, inr, eq-eqb, ne_eqb}
use Rattle.std.proofs.lemmas.Bool.Decides.{eqb_tells}
use Rattle.os8_dir.specs.declared.entries.DirEntry.{DirEntry}
use Rattle.os8_dir.specs.declared.entries.DirEntry.TheVariants.{File, Empty}
use Rattle.os8_dir.specs.declared.faults.DirFault.{DirFault}
use Rattle.os8_dir.specs.Entries.{DirectoryState, AreDistinct, contains, names_of}
use Rattle.os8_dir.specs.Found.{FilePlace, AreApart, IsDirectory, extent_of, files_at, find}
use Rattle.os8_dir.specs.Reading.{directory_of}
use Rattle.os8_files.specs.Failed.{extent_or}
use Rattle.archive_files.specs.Asking.{Target, OfName, AtBlock, asked_name, name_at, name_beginning}

some_eq : {X : Type 0} (x y : X) → Some x ≡ Some y → x ≡ y
some_eq x y same = cc

pub either : (b : Bool) (name n : ℕ) (rest : Option ℕ) → (if b then Some name else rest) ≡ Some n → (name ≡ n) ⊎ (rest ≡ Some n)
either true name n rest is = inl (some_eq name n is)
either false name n rest is = inr is

-- ## Among files

-- a file that begins at a block is found under its name
pub found-beginning : (place n : ℕ) (fs : List FilePlace) → name_beginning place fs ≡ Some n → (f : FilePlace) × (find n fs ≡ Some f)
found-beginning place n [] is = cc
found-beginning place n (f ∷ fs) is = elim (either (f.place == place) f.name n (name_beginning place fs) is) [
  | inl same ↦ (f, rw (eq-eqb f.name n same) refl)
  | inr rest ↦ (
      let g = found-beginning place n fs rest in
      elim (f.name == n) as (λ (b : Bool). (h : FilePlace) × ((if b then Some f else find n fs) ≡ Some h)) [ true ↦ (f, refl) | false ↦ g ]
      )
]

-- a file that is found lies after those before it
found-following : (from bound n : ℕ) (fs : List FilePlace) (f : FilePlace) → AreApart from bound fs → find n fs ≡ Some f → from ≤ f.place
found-following from bound n [] f apart is = cc
found-following from bound n (g ∷ gs) f apart is = elim (eqb_tells g.name n) [
  | inl here ↦ (let same : g ≡ f = some_eq g f (rw here.0 at is) in subst (λ (h : FilePlace). from ≤ h.place) same apart.0)
  | inr there ↦ (let rest = found-following (g.place + g.size) bound n gs f apart.2 (rw there.0 at is) in omega (arith, rest, apart.0))
]

-- it is the file that begins at its first block
pub beginning-found : (from bound n : ℕ) (fs : List FilePlace) (f : FilePlace) → AreApart from bound fs → find n fs ≡ Some f → name_beginning f.place fs ≡ Some n
beginning-found from bound n [] f apart is = cc
beginning-found from bound n (g ∷ gs) f apart is = elim (eqb_tells g.name n) [
  | inl here ↦ (
      let same : g ≡ f = some_eq g f (rw here.0 at is) in
      subst (λ (h : FilePlace). name_beginning h.place (g ∷ gs) ≡ Some n) same (rw (eq-eqb g.place g.place refl) (ap Some here.1))
      )
  | inr there ↦ (
      let tail : find n gs ≡ Some f = rw there.0 at is in
      let following = found-following (g.place + g.size) bound n gs f apart.2 tail in
      rw (ne_eqb g.place f.place (λ same. omega (arith, following, apart.1, same))) (beginning-found (g.place + g.size) bound n gs f apart.2 tail)
      )
]

abbrev named_in : List FilePlace → List ℕ
named_in [] = []
named_in (f ∷ fs) = f.name ∷ named_in fs

names-at : (place : ℕ) (es : List DirEntry) → names_of es ≡ named_in (files_at place es)
names-at place [] = refl
names-at place (File name info zero ∷ es) = names-at place es
names-at place (File name info (suc size) ∷ es) = ap (λ l. name ∷ l) (names-at (place + suc size) es)
names-at place (Empty size ∷ es) = names-at (place + size) es

found-named : (n : ℕ) (fs : List FilePlace) (f : FilePlace) → find n fs ≡ Some f → contains (named_in fs) n ≡ true
found-named n [] f is = cc
found-named n (g ∷ gs) f is = elim (eqb_tells g.name n) [
  | inl here ↦ rw here.0 refl
  | inr there ↦ rw there.0 (found-named n gs f (rw there.0 at is))
]

-- the file that begins at a block is found there
beginning-is : (place n : ℕ) (fs : List FilePlace) → AreDistinct (named_in fs) → name_beginning place fs ≡ Some n → (f : FilePlace) × (find n fs ≡ Some f) × (f.place ≡ place)
beginning-is place n [] distinct is = cc
beginning-is place n (f ∷ fs) distinct is = elim (eqb_tells f.place place) [
  | inl here ↦ (f, rw (eq-eqb f.name n (some_eq f.name n (rw here.0 at is))) refl, here.1)
  | inr there ↦ (
      let g = beginning-is place n fs distinct.1 (rw there.0 at is) in
      elim (eqb_tells f.name n) [
        | inl same ↦ absurd (true≢false (sym (found-named n fs g.0 g.1) ∙ ap (contains (named_in fs)) (sym same.1) ∙ distinct.0))
        | inr other ↦ (g.0, rw other.0 g.1, g.2)
      ]
      )
]

-- ## Of a volume

abbrev pub DirectoryIs : Type 0
DirectoryIs = (blocks : List (List ℕ)) (d : DirectoryState) → directory_of blocks ≡ Ok d → IsDirectory (length blocks) d

extent-of-block : (volume : ℕ) (read : Result DirectoryState DirFault) (place n : ℕ) → ((d : DirectoryState) → read ≡ Ok d → IsDirectory volume d) → name_at place read ≡ Some n
    → (size : ℕ) × (extent_or n read ≡ Some (place, size))
extent-of-block volume (Ok d) place n is-directory is =
    let f = beginning-is place n (files_at d.first d.entries) (subst AreDistinct (names-at d.first d.entries) (is-directory d refl).single) is in
    (f.0.size, ap extent_of f.1 ∙ ap (λ (p : ℕ). Some (p, f.0.size)) f.2)
extent-of-block volume (Err fault) place n is-directory is = cc

place_or : Option (ℕ × ℕ) → ℕ
place_or None = 0
place_or (Some extent) = extent.0

found-extent : (found : Option FilePlace) (place size : ℕ) → extent_of found ≡ Some (place, size) → (f : FilePlace) × (found ≡ Some f) × (f.place ≡ place)
unfolding place_or
found-extent None place size is = cc
found-extent (Some f) place size is = (f, refl, ap place_or is)

block-of-extent : (volume : ℕ) (read : Result DirectoryState DirFault) (place size n : ℕ) → ((d : DirectoryState) → read ≡ Ok d → IsDirectory volume d) → extent_or n read ≡ Some (place, size)
    → name_at place read ≡ Some n
block-of-extent volume (Ok d) place size n is-directory is =
    let f = found-extent (find n (files_at d.first d.entries)) place size is in
    subst (λ (p : ℕ). name_beginning p (files_at d.first d.entries) ≡ Some n) f.2
    (beginning-found d.first volume n (files_at d.first d.entries) f.0 (is-directory d refl).apart f.1)
block-of-extent volume (Err fault) place size n is-directory is = cc

-- what lies where a file lay begins at its block
pub begins-again : DirectoryIs → (place : ℕ) (before after : List (List ℕ)) (n m : ℕ) → asked_name before (AtBlock place) ≡ Some n → extent_or m (directory_of after) ≡ extent_or n (directory_of before)
    → asked_name after (AtBlock place) ≡ Some m
begins-again is-directory place before after n m named same =
    let extent = extent-of-block (length before) (directory_of before) place n (is-directory before) named in
    block-of-extent (length after) (directory_of after) place extent.0 m (is-directory after) (same ∙ extent.1)

-- what lies where it lay is asked for as before
pub asked-again : DirectoryIs → (one : Target) (before after : List (List ℕ)) (n : ℕ) → asked_name before one ≡ Some n → extent_or n (directory_of after) ≡ extent_or n (directory_of before)
    → asked_name after one ≡ Some n
asked-again is-directory (OfName text) before after n named same = named
asked-again is-directory (AtBlock place) before after n named same = begins-again is-directory place before after n n named same
