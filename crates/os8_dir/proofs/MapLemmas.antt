-- The files of a volume as a map.
use Rattle.std.proofs.Common.{◌≡◌, ℕ, true, false, cond, eqb, List, [], ◌∷◌, Some, Ok, Err, refl, ◌∙◌, arith}
use Rattle.std.specs.Ordering.{nat_cmp, eq_by_cmp}
use Rattle.std.specs.FinMap.{get, from_entries, get-from_entries}
use Rattle.std.specs.FinMap as map
use Rattle.std.proofs.lemmas.Cmp.{nat_cmp_total}
use Rattle.std.proofs.lemmas.Bool.Decides.{nat_tests}
use Rattle.os8_dir.specs.declared.faults.DirFault.{DirFault}
use Rattle.os8_dir.specs.Entries.{DirectoryState, capacity}
use Rattle.os8_dir.specs.Reading.{directory_of}
use Rattle.os8_dir.specs.Found.{FilePlace, files_at, find, limit, above}
use Rattle.os8_dir.specs.Files.{data_of_file, data_of_files, data_if_there, files_in, files_of, capacity_of, limit_of, above_of}

tied : (a b : ℕ) → eq_by_cmp nat_cmp b a ≡ eqb a b
tied a b = grind (arith, nat_tests)

find-held_by : (blocks : List (List ℕ)) (info name : ℕ) (fs : List FilePlace) → map.find nat_cmp name (data_of_files blocks info fs) ≡ data_if_there blocks info (find name fs)
find-held_by blocks info name [] = refl
find-held_by blocks info name (f ∷ fs) =
    rw (tied f.name name, find-held_by blocks info name fs) (elim (eqb f.name name) as (λ b. cond b (Some (data_of_file blocks info f)) (data_if_there blocks info (find name fs)) ≡ data_if_there blocks info (cond b (Some f) (find name fs))) [ true ↦ refl | false ↦ refl ])

pub get-files_of : (blocks : List (List ℕ)) (d : DirectoryState) (name : ℕ) → directory_of blocks ≡ Ok d → get (files_of blocks) name ≡ data_if_there blocks d.info (find name (files_at d.first d.entries))
unfolding files_of files_in
get-files_of blocks d name read = rw read (get-from_entries nat_cmp_total (data_of_files blocks d.info (files_at d.first d.entries)) name ∙ find-held_by blocks d.info name (files_at d.first d.entries))

-- The numbers of a sound volume's directory.
pub capacity_of-read : (blocks : List (List ℕ)) (d : DirectoryState) → directory_of blocks ≡ Ok d → capacity_of blocks ≡ capacity d
unfolding capacity_of
capacity_of-read blocks d read = rw read refl

pub limit_of-read : (blocks : List (List ℕ)) (d : DirectoryState) → directory_of blocks ≡ Ok d → limit_of blocks ≡ limit d
unfolding limit_of
limit_of-read blocks d read = rw read refl

pub above_of-read : (blocks : List (List ℕ)) (d : DirectoryState) → directory_of blocks ≡ Ok d → above_of blocks ≡ above d.entries
unfolding above_of
above_of-read blocks d read = rw read refl

-- Those of a volume that is not sound.
pub files_of-unsound : (blocks : List (List ℕ)) (fault : DirFault) → directory_of blocks ≡ Err fault → files_of blocks ≡ from_entries []
unfolding files_of
files_of-unsound blocks fault read = rw read refl

pub above_of-unsound : (blocks : List (List ℕ)) (fault : DirFault) → directory_of blocks ≡ Err fault → above_of blocks ≡ 0
unfolding above_of
above_of-unsound blocks fault read = rw read refl
