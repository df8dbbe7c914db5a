-- Files that are put one right after the other.
use Rattle.std.proofs.Common.{◌≡◌, ◌≢◌, ℕ, zero, suc, ◌+◌, ◌-◌, ◌<◌, ◌≤◌, true, false, Option, Some, None, Result, Ok, Err, is_ok, List, [], ◌∷◌, ◌++◌, take, length, if◌then◌else◌, refl, sym, ap, subst, ◌∙◌, arith, inl, inr}
use Rattle.std.specs.FinMap.{from_entries, get, get-from_entries}
use Rattle.std.proofs.lemmas.Cmp.{nat_cmp_total}
use Rattle.std.proofs.lemmas.Bool.Decides.{eqb_tells, leb_tells}
use Rattle.os8_dir.specs.declared.entries.DirEntry.{DirEntry}
use Rattle.os8_dir.specs.declared.entries.DirEntry.TheVariants.{File, Empty}
use Rattle.os8_dir.specs.Changes.{entries_without, fitting, is_within, new_file, put, smaller, smallest, with_new_file}
use Rattle.os8_dir.specs.Entries.{DirectoryState, before, capacity, is_zero, size_of, tidy, IsTidy}
use Rattle.os8_dir.specs.Files.{Files, capacity_of, data_if_there, files_of}
use Rattle.os8_dir.specs.Found.{FilePlace, IsDirectory, files_at, find, largest, rooms_at}
use Rattle.os8_dir.specs.Names.{with_end_zeros}
use Rattle.os8_dir.specs.Reading.{Sound, directory_of}
use Rattle.os8_dir.specs.declared.faults.DirFault.{DirFault}
use Rattle.os8_files.specs.Calls.{info_of, rooms_or}
use Rattle.os8_files.specs.Failed.{with_list}
use Rattle.os8_files.specs.Mounted.{MountState}
use Rattle.os8_files.specs.Puts.{HasPutWith, blocks_filled}
use Rattle.word12.specs.declared.sizes.TheConstants.{FIRST_FILE_BLOCK}
use Rattle.volume_salvage.specs.Rows.{Differ, HasNone, files_by_place, in_a_row, file_place}
use Rattle.volume_salvage.specs.Steps.{HaveBlocks, IsRow, free_entries, row}
use Rattle.volume_salvage.specs.declared.volumes.KeptFile.{KeptFile}

abbrev pub size : KeptFile → ℕ
size f = blocks_filled f.words.items

-- the blocks of files
abbrev pub used : List KeptFile → ℕ
used [] = 0
used (f ∷ fs) = size f + used fs

not-zero : (n : ℕ) → 0 < n → is_zero n ≡ false
not-zero zero some = absurd (omega (arith, some))
not-zero (suc n) some = refl

-- ## What a row has

rooms-row : (info place : ℕ) (kept : List KeptFile) (others : List DirEntry) → rooms_at place (row info kept others) ≡ rooms_at (place + used kept) others
rooms-row info place [] others = ap (λ p. rooms_at p others) (omega arith)
rooms-row info place (f ∷ fs) others = rooms-row info (place + size f) fs others ∙ ap (λ p. rooms_at p others) (omega arith)

files-row : (info place : ℕ) (kept : List KeptFile) (free : ℕ) → HaveBlocks kept → files_at place (row info kept (free_entries free)) ≡ in_a_row info place kept
files-row info place [] zero some = refl
files-row info place [] (suc k) some = refl
files-row info place (f ∷ fs) free some = rw (not-zero (size f) some.0) (ap (λ l. file_place info place f ∷ l) (files-row info (place + size f) fs free some.1))

without-none : (info name : ℕ) (kept : List KeptFile) (free : ℕ) → HasNone name kept → entries_without name (row info kept (free_entries free)) ≡ row info kept (free_entries free)
without-none info name [] zero none = refl
without-none info name [] (suc k) none = refl
without-none info name (f ∷ fs) free none = elim (eqb_tells f.name name) [
  | inl p ↦ absurd (none.0 p.1)
  | inr p ↦ rw p.0 (ap (λ es. File f.name (with_end_zeros 10 (take info f.info)) (size f) ∷ es) (without-none info name fs free none.1))
]

-- ## One file more

within : (place length from count : ℕ) → place ≤ from → from + count ≤ place + length → is_within place length from count ≡ true
within place length from count low high = elim (leb_tells place from) [
  | inl p ↦ elim (leb_tells (from + count) (place + length)) [
    | inl q ↦ rw (p.0, q.0) refl
    | inr q ↦ absurd (omega (arith, q.1, high))
  ]
  | inr p ↦ absurd (omega (arith, p.1, low))
]

put-row : (info place from : ℕ) (kept : List KeptFile) (file : DirEntry) (k : ℕ) → from ≡ place + used kept → size_of file ≤ suc k
    → put place from file (row info kept (Empty (suc k) ∷ [])) ≡ row info kept (Empty 0 ∷ file ∷ Empty (suc k - size_of file) ∷ [])
put-row info place from [] file k is fits =
    let none : from - place ≡ 0 = omega (arith, is) in
    let rest : (place + suc k) - (from + size_of file) ≡ suc k - size_of file = omega (arith, is) in
    rw (within place (suc k) from (size_of file) (omega (arith, is)) (omega (arith, is, fits)), none, rest) refl
put-row info place from (f ∷ fs) file k is fits =
    ap (λ es. File f.name (with_end_zeros 10 (take info f.info)) (size f) ∷ es) (put-row info (place + size f) from fs file k (omega (arith, is)) fits)

file-before : (name : ℕ) (info : List ℕ) (count : ℕ) (es : List DirEntry) → 0 < count → before (File name info count) es ≡ File name info count ∷ es
file-before name info count es some = rw (not-zero count some) refl

tidy-free : (left : ℕ) → before (Empty left) [] ≡ free_entries left
tidy-free zero = refl
tidy-free (suc k) = refl

tidy-row : (info : ℕ) (kept : List KeptFile) (f : KeptFile) (left : ℕ) → HaveBlocks kept → 0 < size f
    → tidy (row info kept (Empty 0 ∷ File f.name (with_end_zeros 10 (take info f.info)) (size f) ∷ Empty left ∷ [])) ≡ row info (kept ++ f ∷ []) (free_entries left)
tidy-row info [] f left some has =
    let words = with_end_zeros 10 (take info f.info) in
    ap (λ es. before (Empty 0) (before (File f.name words (size f)) es)) (tidy-free left) ∙ ap (before (Empty 0)) (file-before f.name words (size f) (free_entries left) has)
tidy-row info (k ∷ ks) f left some has =
    let words = with_end_zeros 10 (take info k.info) in
    ap (before (File k.name words (size k))) (tidy-row info ks f left some.1 has) ∙ file-before k.name words (size k) (row info (ks ++ f ∷ []) (free_entries left)) some.0

have-more : (kept : List KeptFile) (f : KeptFile) → HaveBlocks kept → 0 < size f → HaveBlocks (kept ++ f ∷ [])
have-more [] f some has = (has, tt)
have-more (k ∷ ks) f some has = (some.0, have-more ks f some.1 has)

-- the place and the size of an empty for a file
record Room (q n free place : ℕ) : Type 0 where
  at : place ≡ q
  k : ℕ
  is : free ≡ suc k
  fits : n ≤ suc k

some-none : (x : ℕ × ℕ) → None ≡ Some x → ⊥
some-none x e = cc

some-is : (x y : ℕ × ℕ) → Some x ≡ Some y → x ≡ y
some-is x y e = cc

room-for : (q n free place room : ℕ) → 0 < n → fitting n (rooms_at q (free_entries free)) ≡ Some (place, room) → Room q n free place
room-for q n zero place room some is = elim (eqb_tells n 0) [
  | inl p ↦ absurd (omega (arith, p.1, some))
  | inr p ↦ absurd (some-none (place, room) (subst (λ b. (if b then largest [] else smallest n []) ≡ Some (place, room)) p.0 is))
]
room-for q n (suc k) place room some is = elim (eqb_tells n 0) [
  | inl p ↦ absurd (omega (arith, p.1, some))
  | inr p ↦
      let rooms : List (ℕ × ℕ) = (q, suc k) ∷ [] in
      let least : smallest n rooms ≡ Some (place, room) = subst (λ b. (if b then largest rooms else smallest n rooms) ≡ Some (place, room)) p.0 is in
      elim (leb_tells (suc (suc k)) n) [
        | inl short ↦ absurd (some-none (place, room) (subst (λ b. (if b then smallest n [] else Some (smaller (q, suc k) (smallest n []))) ≡ Some (place, room)) short.0 least))
        | inr long ↦ record {
          at = ap (λ (r : ℕ × ℕ). r.0) (sym (some-is (q, suc k) (place, room) (subst (λ b. (if b then smallest n [] else Some (smaller (q, suc k) (smallest n []))) ≡ Some (place, room)) long.0 least)));
          k = k;
          is = refl;
          fits = omega (arith, long.1);
        }
      ]
]

pub row-more : (old new : MountState) (f : KeptFile) (kept : List KeptFile) → IsRow old.blocks kept → HasNone f.name kept → 0 < size f → HasPutWith old f.name f.info f.words.items new
    → IsRow new.blocks (kept ++ f ∷ [])
row-more old new f kept so none has done =
    let d = so.directory in
    let file = File f.name (with_end_zeros 10 (take d.info f.info)) (size f) in
    let found = ap (fitting (size f)) (sym (rooms-row d.info d.first kept (free_entries so.free)) ∙ ap (rooms_at d.first) (sym so.entries)) in
    let r = room-for (d.first + used kept) (size f) so.free done.place done.room has (found ∙ ap (λ r. fitting (size f) (rooms_or r)) (sym so.read) ∙ done.fits) in
    record {
      directory = record { first = d.first; info = d.info; entries = with_new_file d.first (new_file d f.name f.info done.place (size f)) d.entries };
      read = done.list ∙ ap (with_list (λ it. with_new_file it.first (new_file it f.name f.info done.place (size f)) it.entries)) so.read;
      first = so.first;
      free = suc r.k - size f;
      entries =
          ap (λ es. tidy (put d.first done.place file (entries_without f.name es))) so.entries
          ∙ ap (λ es. tidy (put d.first done.place file es)) (without-none d.info f.name kept so.free none)
          ∙ ap (λ j. tidy (put d.first done.place file (row d.info kept (free_entries j)))) r.is
          ∙ ap tidy (put-row d.info d.first done.place kept file r.k r.at r.fits)
          ∙ tidy-row d.info kept f (suc r.k - size f) so.some has;
      some = have-more kept f so.some has;
    }

none-init : (name : ℕ) (kept : List KeptFile) (f : KeptFile) → HasNone name (kept ++ f ∷ []) → HasNone name kept × (f.name ≢ name)
none-init name [] f none = (tt, none.0)
none-init name (k ∷ ks) f none = let rest = none-init name ks f none.1 in ((none.0, rest.0), rest.1)

pub differ-init : (kept : List KeptFile) (f : KeptFile) → Differ (kept ++ f ∷ []) → Differ kept × HasNone f.name kept
differ-init [] f differ = (tt, tt)
differ-init (k ∷ ks) f differ =
    let first = none-init k.name ks f differ.0 in
    let rest = differ-init ks f differ.1 in
    ((first.0, rest.0), (λ e. first.1 (sym e), rest.1))

pub same-row : (old new : MountState) (kept : List KeptFile) → directory_of new.blocks ≡ directory_of old.blocks → IsRow old.blocks kept → IsRow new.blocks kept
same-row old new kept same so = record { directory = so.directory; read = same ∙ so.read; first = so.first; free = so.free; entries = so.entries; some = so.some }

pub in-order : (blocks : List (List ℕ)) (kept : List KeptFile) → IsRow blocks kept → files_by_place (directory_of blocks) ≡ in_a_row (info_of blocks) FIRST_FILE_BLOCK kept
in-order blocks kept so =
    let d = so.directory in
    rw so.read (rw so.entries (rw so.first (files-row d.info FIRST_FILE_BLOCK kept so.free so.some)))

-- ## A new volume

-- a list of entries without a file is one empty, or nothing
record OneEmpty (es : List DirEntry) : Type 0 where
  free : ℕ
  is : es ≡ free_entries free

file-found : (name : ℕ) (place count : ℕ) (info : List ℕ) (es : List DirEntry) → 0 < count → find name (files_at place (File name info count ∷ es)) ≡ None → ⊥
file-found name place count info es some none = elim (eqb_tells name name) [
  | inl p ↦ (let is : find name (files_at place (File name info count ∷ es)) ≡ Some (record { name = name; info = info; place = place; size = count }) = rw (not-zero count some, p.0) refl in place-none _ (sym none ∙ is))
  | inr p ↦ absurd (p.1 refl)
]
  where
    place-none : (f : FilePlace) → None ≡ Some f → ⊥
    place-none f e = cc

one-empty : (place : ℕ) (es : List DirEntry) → IsTidy es → ((name : ℕ) → find name (files_at place es) ≡ None) → OneEmpty es
one-empty place [] neat none = record { free = 0; is = refl }
one-empty place (File name info count ∷ es) neat none = absurd (file-found name place count info es neat.0 (none name))
one-empty place (Empty zero ∷ es) neat none = absurd (omega (arith, neat.0))
one-empty place (Empty (suc k) ∷ []) neat none = record { free = suc k; is = refl }
one-empty place (Empty (suc k) ∷ Empty more ∷ es) neat none = absurd neat.1
one-empty place (Empty (suc k) ∷ File name info count ∷ es) neat none = absurd (file-found name (place + suc k) count info es neat.2.0 (none name))

no-data : (blocks : List (List ℕ)) (info : ℕ) (o : Option FilePlace) → data_if_there blocks info o ≡ None → o ≡ None
no-data blocks info None none = refl
no-data blocks info (Some f) none = cc

module _ (covered : (blocks : List (List ℕ)) (d : DirectoryState) → directory_of blocks ≡ Ok d → capacity_of blocks ≡ capacity d)
    (inside : (blocks : List (List ℕ)) (d : DirectoryState) → directory_of blocks ≡ Ok d → IsDirectory (length blocks) d)
    (found : (blocks : List (List ℕ)) (d : DirectoryState) (name : ℕ) → directory_of blocks ≡ Ok d → get (files_of blocks) name ≡ data_if_there blocks d.info (find name (files_at d.first d.entries))) where
  row-in : (count : ℕ) (blocks : List (List ℕ)) (r : Result DirectoryState DirFault) → directory_of blocks ≡ r → is_ok r ≡ true → length blocks ≡ count
      → files_of blocks ≡ from_entries [] → capacity_of blocks ≡ count - FIRST_FILE_BLOCK → IsRow blocks []
  row-in count blocks (Err fault) read sound size_is none free = cc
  row-in count blocks (Ok d) read sound size_is none free =
      let is = inside blocks d read in
      let nothing : (name : ℕ) → find name (files_at d.first d.entries) ≡ None
      = λ name. no-data blocks d.info (find name (files_at d.first d.entries)) (sym (found blocks d name read) ∙ ap (λ (files : Files). get files name) none ∙ get-from_entries nat_cmp_total [] name) in
      let one = one-empty d.first d.entries is.neat nothing in
      record {
        directory = d;
        read = read;
        first = omega (arith, is.starts, is.inside, sym (covered blocks d read) ∙ free, size_is);
        free = one.free;
        entries = one.is;
        some = tt;
      }

  pub new-row : (count : ℕ) (blocks : List (List ℕ)) → Sound blocks → length blocks ≡ count → files_of blocks ≡ from_entries [] → capacity_of blocks ≡ count - FIRST_FILE_BLOCK → IsRow blocks []
  new-row count blocks sound size_is none free = row-in count blocks (directory_of blocks) refl sound size_is none free
