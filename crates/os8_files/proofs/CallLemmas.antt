-- What the calls of the service do, from what the directory and the store answer.
use Rattle.std.proofs.Common.{◌≡◌, ℕ, ◌+◌, ◌<◌, ◌≤◌, true, false, List, [], ◌∷◌, length, take, drop, get_or, Option, Some, None, Result, Ok, Err, if◌then◌else◌, ◌==◌, refl, ap, sym, subst, ◌∙◌, arith}
use Rattle.std.specs.Prelude.{slice_get}
use Rattle.std.specs.Option.{is_some}
use Rattle.std.proofs.lemmas.List.{get_or-take, get_or-drop, length-take-le, length-drop}
use Rattle.std.proofs.lemmas.List.Elements.{All-take, All-drop}
use Rattle.std.proofs.lemmas.Option.{get_or_from_slice_get}
use Rattle.std.specs.FinMap.{get}
use Rattle.volume_image.specs.Volume.{IsVolume, IsBlock, next_count}
use Rattle.os8_dir.specs.Entries.{DirectoryState}
use Rattle.os8_dir.specs.Reading.{block, directory_of}
use Rattle.os8_dir.specs.Found.{FilePlace, IsDirectory, AreApart, files_at, find, extent_of}
use Rattle.os8_dir.specs.Files.{files_of, data_of_file, data_if_there}
use Rattle.os8_dir.specs.Segments.{HoldsSegments, segment_count, segment_of}
use Rattle.os8_files.specs.Mounted.{MountState}
use Rattle.os8_files.specs.Service.{blocks_of}
use Rattle.os8_files.specs.Calls.{HasFailed, HasBlock, HasRead, StopsInPart}
use Rattle.os8_files.specs.WriteSteps.{with_segments, HasDirectory, KeepsHigh, RewritesDirectory}
use Rattle.os8_dir.specs.declared.file_faults.FileFault.{FileFault}
use Rattle.os8_dir.specs.declared.file_faults.FileFault.TheVariants.{NotFound, NoRoom, DirectoryFull, Busy, BadName, TooLong, TentativeOpen, Device, Stopped, Memory, NothingWritten}
use Rattle.os8_files.proofs.LookupLemmas.{told, blocks_found, find_within, whole-run, blocks-run}
use Rattle.os8_files.proofs.WrittenLemmas.{block-segments, run-high, held-kept, block-joined}

-- The files of a directory, where it is what the blocks are read as.
abbrev pub FindsFiles : Type 0
FindsFiles = (blocks : List (List ℕ)) (d : DirectoryState) (name : ℕ) → directory_of blocks ≡ Ok d → get (files_of blocks) name ≡ data_if_there blocks d.info (find name (files_at d.first d.entries))

-- What a directory is read of.
abbrev pub ReadsLow : Type 0
ReadsLow = (old new : List (List ℕ)) → length new ≡ length old → ((k : ℕ) → k < 7 → block new k ≡ block old k) → directory_of new ≡ directory_of old

-- Options.
pub some-of : {A : Type 0} (o : Option A) → is_some o ≡ true → (x : A) × (o ≡ Some x)
some-of None there = cc
some-of (Some x) there = (x, refl)

pub none-of : {A : Type 0} (o : Option A) → is_some o ≡ false → o ≡ None
none-of None out = refl
none-of (Some x) out = cc

pub held-none : (blocks : List (List ℕ)) (info : ℕ) (f : Option FilePlace) → extent_of f ≡ None → data_if_there blocks info f ≡ None
held-none blocks info None none = refl
held-none blocks info (Some f) none = cc

abbrev first_or : Option (ℕ × ℕ) → ℕ
first_or None = 0
first_or (Some p) = p.0

abbrev second_or : Option (ℕ × ℕ) → ℕ
second_or None = 0
second_or (Some p) = p.1

pub found-some : (o : Option FilePlace) (place size : ℕ) → extent_of o ≡ Some (place, size) → (f : FilePlace) × (o ≡ Some f) × (f.place ≡ place) × (f.size ≡ size)
found-some None place size is = cc
found-some (Some f) place size is = (f, refl, ap first_or is, ap second_or is)

pub extent-at : (f : FilePlace) (place size : ℕ) → extent_of (Some f) ≡ Some (place, size) → (f.place ≡ place) × (f.size ≡ size)
extent-at f place size is = (ap first_or is, ap second_or is)

pub find-from : (name from bound : ℕ) (files : List FilePlace) (f : FilePlace) → AreApart from bound files → find name files ≡ Some f → from ≤ f.place
find-from name from bound [] f apart found = cc
find-from name from bound (g ∷ gs) f apart found =
    (elim (g.name == name) as (λ b. (if b then Some g else find name gs) ≡ Some f → from ≤ f.place) [
      | true ↦ λ here. let same : g ≡ f = cc in omega (arith, apart.0, ap (λ (p : FilePlace). p.place) same)
      | false ↦ λ following. let low = find-from name (g.place + g.size) bound gs f apart.2 following in omega (arith, apart.0, low)
    ]) found

-- A block that is read.
pub read-inside : (finds : FindsFiles) (m : MountState) (d : DirectoryState) (name k place size : ℕ) → IsVolume m.blocks → directory_of m.blocks ≡ Ok d → IsDirectory (length m.blocks) d
    → extent_of (find name (files_at d.first d.entries)) ≡ Some (place, size) → HasBlock m name k → (k < size) × (place + size ≤ length m.blocks)
read-inside finds m d name k place size volume kept is found longer =
    let f = found-some (find name (files_at d.first d.entries)) place size found in
    let within = find_within name d.first (length m.blocks) (files_at d.first d.entries) f.0 is.apart f.1 in
    let told' : blocks_of (get (files_of m.blocks) name) ≡ Some size =
    ap blocks_of (finds m.blocks d name kept) ∙ sym (blocks_found m.blocks d.info name d.first (files_at d.first d.entries) volume.each is.apart (find name (files_at d.first d.entries)) refl) ∙ ap told found in
    (longer size told', omega (arith, within, f.2, f.3))

pub read-done : (finds : FindsFiles) (m new : MountState) (d : DirectoryState) (name k place size : ℕ) (words : List ℕ) → IsVolume m.blocks → m.stopped ≡ false → directory_of m.blocks ≡ Ok d → IsDirectory (length m.blocks) d
    → extent_of (find name (files_at d.first d.entries)) ≡ Some (place, size) → HasBlock m name k → slice_get m.blocks (place + k) ≡ Some words
    → new ≡ record m { reads = next_count m.reads } → HasRead m name k words new
read-done finds m new d name k place size words volume running kept is found longer read others =
    let f = found-some (find name (files_at d.first d.entries)) place size found in
    let inside = read-inside finds m d name k place size volume kept is found longer in
    let bs = take f.0.size (drop f.0.place m.blocks) in
    let long : length bs ≡ size = length-take-le f.0.size (drop f.0.place m.blocks) (omega (arith, length-drop f.0.place m.blocks, inside.1, f.2, f.3)) ∙ f.3 in
    let at : f.0.place + k ≡ place + k = ap (λ p. p + k) f.2 in
    record {
      running = running;
      file = data_of_file m.blocks d.info f.0;
      there = finds m.blocks d name kept ∙ ap (data_if_there m.blocks d.info) f.1;
      whole = whole-run m.blocks f.0 volume.each (omega (arith, inside.1, f.2, f.3));
      inside = omega (arith, inside.0, f.3, blocks-run m.blocks f.0 volume.each (omega (arith, inside.1, f.2, f.3)));
      most = omega (arith, blocks-run m.blocks f.0 volume.each (omega (arith, inside.1, f.2, f.3)), inside.1, f.3, volume.most);
      block = sym (block-joined 256 bs k (All-take IsBlock f.0.size (drop f.0.place m.blocks) (All-drop IsBlock f.0.place m.blocks volume.each)) (omega (arith, long, inside.0))
          ∙ get_or-take f.0.size (drop f.0.place m.blocks) k [] (omega (arith, inside.0, f.3))
          ∙ get_or-drop f.0.place m.blocks k []
          ∙ ap (λ p. get_or m.blocks p []) at
          ∙ get_or_from_slice_get m.blocks (place + k) words [] read);
      others = others;
    }

-- A directory that is written.
pub holds-segments : (old new : List (List ℕ)) (d : DirectoryState) → new ≡ with_segments (segment_count d) d old → segment_count d < length old → HoldsSegments new d
holds-segments old new d is inside = λ k less. subst (λ (bs : List (List ℕ)). get_or bs (k + 1) [] ≡ segment_of d k) (sym is) (block-segments (segment_count d) d old k inside less)

pub by-rewrite : (old new : MountState) (d : DirectoryState) (r : Result (Unit {0}) FileFault) (P : Result (Unit {0}) FileFault → Type 0) → RewritesDirectory old d r new → ((done : Unit {0}) → HasDirectory old d new → P (Ok done)) → (HasFailed old new → KeepsHigh old.blocks new.blocks → StopsInPart old.blocks new.blocks d old.writes new.writes → P (Err Device)) → P r
by-rewrite old new d (Ok done) P is ok failed = ok done is
by-rewrite old new d (Err NotFound) P is ok failed = absurd is
by-rewrite old new d (Err (NoRoom n)) P is ok failed = absurd is
by-rewrite old new d (Err DirectoryFull) P is ok failed = absurd is
by-rewrite old new d (Err (Busy n)) P is ok failed = absurd is
by-rewrite old new d (Err BadName) P is ok failed = absurd is
by-rewrite old new d (Err TooLong) P is ok failed = absurd is
by-rewrite old new d (Err TentativeOpen) P is ok failed = absurd is
by-rewrite old new d (Err Device) P is ok failed = failed is.0 is.1 is.2
by-rewrite old new d (Err Stopped) P is ok failed = absurd is
by-rewrite old new d (Err Memory) P is ok failed = absurd is
by-rewrite old new d (Err NothingWritten) P is ok failed = absurd is

-- A file that the directory has, and whose blocks lie above the segments.
pub file-kept : (old new : List (List ℕ)) (d : DirectoryState) (name : ℕ) → IsDirectory (length old) d → drop 7 new ≡ drop 7 old → data_if_there new d.info (find name (files_at d.first d.entries)) ≡ data_if_there old d.info (find name (files_at d.first d.entries))
file-kept old new d name is same =
    held-kept old new d.info (find name (files_at d.first d.entries)) (λ g found.
    let low = find-from name d.first (length old) (files_at d.first d.entries) g is.apart found in
    run-high old new g.place g.size same (omega (arith, low, is.starts)))
