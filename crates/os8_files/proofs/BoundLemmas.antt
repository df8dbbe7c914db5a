-- The bounds that refusals tell: of the largest empty, and of the entries of a list that is too long.
use Rattle.std.proofs.Common.{◌≡◌, ◌≢◌, ℕ, zero, suc, ◌+◌, ◌*◌, ◌<◌, ◌≤◌, All, true, false, cond, eqb, List, [], ◌∷◌, length, take, Some, None, Ok, refl, ap, sym, subst, ◌∙◌, arith}
use Rattle.std.specs.Ordering.{nat_cmp, eq_by_cmp}
use Rattle.std.specs.FinMap.{get, insert, remove, from_entries, get-from_entries}
use Rattle.std.specs.FinMap as map
use Rattle.std.proofs.lemmas.Cmp.{nat_cmp_total}
use Rattle.std.proofs.lemmas.Bool.Decides.{nat_tests}
use Rattle.volume_image.specs.Volume.{IsBlock}
use Rattle.os8_dir.specs.declared.entries.DirEntry.{DirEntry}
use Rattle.os8_dir.specs.declared.entries.DirEntry.TheVariants.{File, Empty}
use Rattle.os8_dir.specs.Names.{with_end_zeros}
use Rattle.os8_dir.specs.Entries.{DirectoryState, capacity, total, IsTidy}
use Rattle.os8_dir.specs.Reading.{directory_of}
use Rattle.os8_dir.specs.Found.{FilePlace, IsDirectory, IsTight, files_at, rooms_at, find, largest, size_or_zero, free_blocks, used_blocks, count_files, count_empties, limit, above}
use Rattle.os8_dir.specs.Files.{Files, data_of_file, data_of_files, data_if_there, files_of, run, capacity_of, limit_of, above_of, of_directory}
use Rattle.os8_dir.specs.Changes.{without_file, with_new_file, directory_with, new_file, LieIn}
use Rattle.os8_files.specs.Mounted.{MountState, NewFile}
use Rattle.os8_files.specs.Calls.{IsLargest, IsOver, info_of, new_held, rooms_or}
use Rattle.os8_files.proofs.ListingLemmas.{used_of-read, count_of-read}
use Rattle.os8_files.proofs.MapLemmas.{files-removed, files-inserted}
use Rattle.os8_files.proofs.RoomLemmas.{info-again}
use Rattle.os8_files.proofs.CallLemmas.{FindsFiles}

-- What a directory's numbers are of.
abbrev pub CapacityIs : Type 0
CapacityIs = (blocks : List (List ℕ)) (d : DirectoryState) → directory_of blocks ≡ Ok d → capacity_of blocks ≡ capacity d

abbrev pub LimitIs : Type 0
LimitIs = (blocks : List (List ℕ)) (d : DirectoryState) → directory_of blocks ≡ Ok d → limit_of blocks ≡ limit d

abbrev pub AboveIs : Type 0
AboveIs = (blocks : List (List ℕ)) (d : DirectoryState) → directory_of blocks ≡ Ok d → above_of blocks ≡ above d.entries

-- the files are those of the directory over the blocks
abbrev pub IsMade : List (List ℕ) → DirectoryState → Files → Type 0
IsMade blocks d m = m ≡ from_entries (data_of_files blocks d.info (files_at d.first d.entries))

used_blocks-free : (place : ℕ) (es : List DirEntry) → free_blocks es + used_blocks (files_at place es) ≡ total es
used_blocks-free place [] = refl
used_blocks-free place (File name info zero ∷ es) = omega (arith, used_blocks-free place es)
used_blocks-free place (File name info (suc size) ∷ es) = omega (arith, used_blocks-free (place + suc size) es)
used_blocks-free place (Empty size ∷ es) = omega (arith, used_blocks-free (place + size) es)

-- The largest empty.
pub is-largest : CapacityIs → AboveIs
    → (least : (first : ℕ) (es : List DirEntry) → size_or_zero (largest (rooms_at first es)) ≤ free_blocks es)
    → (most : (first : ℕ) (es : List DirEntry) → IsTidy es → free_blocks es ≤ size_or_zero (largest (rooms_at first es)) * (count_files es + 1))
    → (all : (first : ℕ) (es : List DirEntry) → IsTidy es → IsTight es → size_or_zero (largest (rooms_at first es)) ≡ free_blocks es)
    → (blocks : List (List ℕ)) (d : DirectoryState) → All IsBlock blocks → directory_of blocks ≡ Ok d → IsMade blocks d (files_of blocks) → IsDirectory (length blocks) d
    → IsLargest blocks (size_or_zero (largest (rooms_at d.first d.entries)))
is-largest covers aboves least most all blocks d each kept made is =
    let n = size_or_zero (largest (rooms_at d.first d.entries)) in
    let used = used_of-read blocks d (files_of blocks) each made is in
    let count = count_of-read blocks d (files_of blocks) each made is in
    let sum = used_blocks-free d.first d.entries in
    let cover = covers blocks d kept in
    let within = subst (λ k. free_blocks d.entries ≤ n * (k + 1)) (sym count) (most d.first d.entries is.neat) in
    record {
      exact = ap (λ rs. size_or_zero (largest rs)) (sym (ap rooms_or kept));
      least = omega (arith, used, sum, cover, least d.first d.entries);
      most = omega (arith, used, sum, cover, within);
      tight = λ low. omega (arith, used, sum, cover, all d.first d.entries is.neat (sym (aboves blocks d kept) ∙ low));
    }

-- A list that is too long.
pub is-over : LimitIs → AboveIs
    → (counts : (es : List DirEntry) → length es ≡ count_files es + count_empties es)
    → (empties : (es : List DirEntry) → IsTidy es → count_empties es ≤ count_files es + 1)
    → (one : (es : List DirEntry) → IsTidy es → IsTight es → count_empties es ≤ 1)
    → (blocks : List (List ℕ)) (d : DirectoryState) (es : List DirEntry) (after : Files) → All IsBlock blocks → directory_of blocks ≡ Ok d → IsMade blocks d (files_of blocks) → IsDirectory (length blocks) d
    → IsDirectory (length blocks) (directory_with d es) → IsMade blocks (directory_with d es) after → length es ≤ length d.entries + 1 → limit d < length es → IsOver blocks after
is-over limits aboves counts empties one blocks d es after each kept made is next made-next more full =
    let most = limits blocks d kept in
    record {
      files = omega (arith, most, full, counts es, empties es next.neat, count_of-read blocks (directory_with d es) after each made-next next);
      tight = λ low. omega (arith, most, full, more, counts d.entries, one d.entries is.neat (sym (aboves blocks d kept) ∙ low), count_of-read blocks d (files_of blocks) each made is);
    }

-- The files that a list has before it is written.
tied : (a b : ℕ) → eq_by_cmp nat_cmp b a ≡ eqb a b
tied a b = grind (arith, nat_tests)

find-held_by : (blocks : List (List ℕ)) (info name : ℕ) (fs : List FilePlace) → map.find nat_cmp name (data_of_files blocks info fs) ≡ data_if_there blocks info (find name fs)
find-held_by blocks info name [] = refl
find-held_by blocks info name (f ∷ fs) =
    rw (tied f.name name, find-held_by blocks info name fs) (elim (eqb f.name name) as (λ b. cond b (Some (data_of_file blocks info f)) (data_if_there blocks info (find name fs)) ≡ data_if_there blocks info (cond b (Some f) (find name fs))) [ true ↦ refl | false ↦ refl ])

pub get-made : (blocks : List (List ℕ)) (info name : ℕ) (fs : List FilePlace) → get (from_entries {R = nat_cmp} (data_of_files blocks info fs)) name ≡ data_if_there blocks info (find name fs)
get-made blocks info name fs = get-from_entries nat_cmp_total (data_of_files blocks info fs) name ∙ find-held_by blocks info name fs

pub removed-made : FindsFiles
    → (gone : (name first : ℕ) (es : List DirEntry) → find name (files_at first (without_file name es)) ≡ None)
    → (others : (name other first : ℕ) (es : List DirEntry) → name ≢ other → find other (files_at first (without_file name es)) ≡ find other (files_at first es))
    → (blocks : List (List ℕ)) (d : DirectoryState) (name : ℕ) → directory_of blocks ≡ Ok d → IsMade blocks (directory_with d (without_file name d.entries)) (remove (files_of blocks) name)
removed-made finds gone others blocks d name kept =
    let fs = files_at d.first (without_file name d.entries) in
    sym (files-removed (files_of blocks) (from_entries (data_of_files blocks d.info fs)) name
    (get-made blocks d.info name fs ∙ ap (data_if_there blocks d.info) (gone name d.first d.entries))
    (λ q other. get-made blocks d.info q fs ∙ ap (data_if_there blocks d.info) (others name q d.first d.entries other) ∙ sym (finds blocks d q kept)))

pub placed-made : FindsFiles
    → (there : (first : ℕ) (f : FilePlace) (es : List DirEntry) → 0 < f.size → LieIn f.place f.size (rooms_at first es) → find f.name (files_at first (with_new_file first f es)) ≡ Some f)
    → (others : (other first : ℕ) (f : FilePlace) (es : List DirEntry) → f.name ≢ other → find other (files_at first (with_new_file first f es)) ≡ find other (files_at first es))
    → (old : MountState) (d : DirectoryState) (name : ℕ) (b : NewFile) (info : List ℕ) → directory_of old.blocks ≡ Ok d → IsDirectory (length old.blocks) d → 0 < b.blocks_written → LieIn b.place b.blocks_written (rooms_at d.first d.entries)
    → IsMade old.blocks (directory_with d (with_new_file d.first (new_file d name info b.place b.blocks_written) d.entries)) (insert (files_of old.blocks) name (new_held old b info))
placed-made finds there others old d name b info kept is some lain =
    let f = new_file d name info b.place b.blocks_written in
    let fs = files_at d.first (with_new_file d.first f d.entries) in
    let words : take d.info f.info ≡ with_end_zeros (info_of old.blocks) info = info-again d.info 10 info is.few ∙ ap (λ n. with_end_zeros n info) (sym (ap (of_directory (λ (x : DirectoryState). x.info)) kept)) in
    sym (files-inserted (files_of old.blocks) (from_entries (data_of_files old.blocks d.info fs)) name (new_held old b info)
    (get-made old.blocks d.info name fs ∙ ap (data_if_there old.blocks d.info) (there d.first f d.entries some lain) ∙ ap (λ ws. Some (ws, run old.blocks b.place b.blocks_written)) words)
    (λ q other. get-made old.blocks d.info q fs ∙ ap (data_if_there old.blocks d.info) (others q d.first f d.entries other) ∙ sym (finds old.blocks d q kept)))
