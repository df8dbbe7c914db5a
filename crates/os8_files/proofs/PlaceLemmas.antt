-- What is left where a block of a file is written, and where a file is placed in the directory.
use Rattle.std.proofs.Common.{◌≡◌, ◌≢◌, ℕ, ◌+◌, ◌<◌, ◌≤◌, List, [], length, take, slice_set, Option, Some, None, Result, Ok, Err, refl, ap, sym, ◌∙◌, arith, inl, inr, get_or-set_other}
use Rattle.std.specs.Prelude.{◌⊎◌}
use Rattle.std.proofs.Math.ListN.{length-set}
use Rattle.os8_dir.specs.declared.entries.DirEntry.{DirEntry}
use Rattle.os8_dir.specs.declared.faults.DirFault.{DirFault}
use Rattle.os8_dir.specs.Names.{with_end_zeros}
use Rattle.os8_dir.specs.Entries.{DirectoryState, total, IsTidy}
use Rattle.os8_dir.specs.Reading.{directory_of}
use Rattle.os8_dir.specs.Found.{FilePlace, IsDirectory, IsTight, files_at, rooms_at, find, extent_of}
use Rattle.os8_dir.specs.Files.{files_of, data_if_there, run, limit_of, of_directory}
use Rattle.os8_dir.specs.Changes.{with_new_file, directory_with, new_file, LieIn, IsRoom}
use Rattle.os8_files.specs.Mounted.{MountState, NewFile, IsBegun}
use Rattle.os8_files.specs.Calls.{IsFree, IsReady, HasClosed, info_of, entries_with}
use Rattle.os8_files.specs.Failed.{extent_or, with_list}
use Rattle.os8_files.specs.WriteSteps.{HasDirectory}
use Rattle.os8_files.proofs.MapLemmas.{files-inserted, files-same}
use Rattle.os8_files.proofs.WrittenLemmas.{run-high, held-kept}
use Rattle.os8_files.proofs.RoomLemmas.{room-inside, run-other, info-again}
use Rattle.os8_files.proofs.CallLemmas.{ReadsLow, FindsFiles, file-kept}
use Rattle.os8_files.proofs.KeepLemmas.{directory-keeps, info-of}
use Rattle.os8_files.proofs.BoundLemmas.{LimitIs, CapacityIs, AboveIs}

abbrev or_else : {A : Type 0} → Option A → A → A
or_else None d = d
or_else (Some x) d = x

pub some-same : {A : Type 0} (x y : A) → Some x ≡ Some y → x ≡ y
some-same x y e = ap (λ o. or_else o x) e

abbrev ok_or : Result DirectoryState DirFault → DirectoryState → DirectoryState
ok_or (Ok d) other = d
ok_or (Err fault) other = other

pub ok-same : (r : Result DirectoryState DirFault) (d other : DirectoryState) → r ≡ Ok d → r ≡ Ok other → d ≡ other
ok-same r d other one two = ap (λ x. ok_or x d) (sym one ∙ two)

pub find-none : (blocks : List (List ℕ)) (info : ℕ) (f : Option FilePlace) → data_if_there blocks info f ≡ None → f ≡ None
find-none blocks info None none = refl
find-none blocks info (Some f) none = cc

pub write-inside : (blocks : List (List ℕ)) (d : DirectoryState) (b : NewFile) → IsDirectory (length blocks) d → IsBegun d b → b.blocks_written < b.room → (7 ≤ b.place) × (b.place + b.blocks_written < length blocks)
write-inside blocks d b is lies short =
    let inside = room-inside b.place b.room d.first d.entries lies.room in
    (omega (arith, inside.0, is.starts), omega (arith, inside.1, is.inside, short))

pub written-directory : (reads : ReadsLow) (blocks : List (List ℕ)) (k : ℕ) (words : List ℕ) → 7 ≤ k → directory_of (slice_set blocks k words) ≡ directory_of blocks
written-directory reads blocks k words high = reads blocks (slice_set blocks k words) (length-set blocks k words) (λ j low. get_or-set_other blocks k j words [] (omega (arith, low, high)))

abbrev pub LieInside : Type 0
LieInside = (place size from count : ℕ) (rooms : List (ℕ × ℕ)) → IsRoom place size rooms → place ≤ from → from + count ≤ place + size → LieIn from count rooms

abbrev pub LieOutside : Type 0
LieOutside = (from count name first : ℕ) (es : List DirEntry) (f : FilePlace) → LieIn from count (rooms_at first es) → find name (files_at first es) ≡ Some f → (f.place + f.size ≤ from) ⊎ (from + count ≤ f.place)

pub written-files : (reads : ReadsLow) (finds : FindsFiles) (lie : LieInside) (outside : LieOutside) (blocks : List (List ℕ)) (d : DirectoryState) (b : NewFile) (words : List ℕ) → directory_of blocks ≡ Ok d → IsDirectory (length blocks) d → IsBegun d b → b.blocks_written < b.room
    → files_of (slice_set blocks (b.place + b.blocks_written) words) ≡ files_of blocks
written-files reads finds lie outside blocks d b words kept is lies short =
    let k = b.place + b.blocks_written in
    let new = slice_set blocks k words in
    let high = write-inside blocks d b is lies short in
    let steady = written-directory reads blocks k words (omega (arith, high.0)) in
    let lain = lie b.place b.room k 1 (rooms_at d.first d.entries) lies.room (omega arith) (omega (arith, short)) in
    files-same (files_of blocks) (files_of new) (λ q.
    finds new d q (steady ∙ kept)
    ∙ held-kept blocks new d.info (find q (files_at d.first d.entries)) (λ g found.
    run-other blocks k g.place g.size words (elim (outside k 1 q d.first d.entries g lain found) [ inl low ↦ inl low | inr up ↦ inr (omega (arith, up)) ]))
    ∙ sym (finds blocks d q kept))

pub placed-file : FindsFiles → LieInside → LimitIs → CapacityIs → AboveIs
    → (there : (first : ℕ) (f : FilePlace) (es : List DirEntry) → 0 < f.size → LieIn f.place f.size (rooms_at first es) → find f.name (files_at first (with_new_file first f es)) ≡ Some f)
    → (others : (other first : ℕ) (f : FilePlace) (es : List DirEntry) → f.name ≢ other → find other (files_at first (with_new_file first f es)) ≡ find other (files_at first es))
    → (covered : (first : ℕ) (f : FilePlace) (es : List DirEntry) → total (with_new_file first f es) ≡ total es)
    → (tight : (first size : ℕ) (f : FilePlace) (es : List DirEntry) → IsTidy es → IsTight es → find f.name (files_at first es) ≡ None → 0 < f.size → f.size ≤ size → IsRoom f.place size (rooms_at first es) → IsTight (with_new_file first f es))
    → (old new : MountState) (d : DirectoryState) (name : ℕ) (b : NewFile) (info : List ℕ) → IsReady old → b.name ≡ name → directory_of old.blocks ≡ Ok d → IsDirectory (length old.blocks) d → IsBegun d b → 0 < b.blocks_written → IsFree old name → entries_with b info old.blocks ≤ limit_of old.blocks
    → HasDirectory old (directory_with d (with_new_file d.first (new_file d name info b.place b.blocks_written) d.entries)) new → HasClosed (record old { tentative = Some b }) name info new
placed-file finds lie limits covers aboves there others covered tight old new d name b info ready names kept is lies some free fits done =
    let f = new_file d name info b.place b.blocks_written in
    let d' = directory_with d (with_new_file d.first f d.entries) in
    let lain = lie b.place b.room b.place b.blocks_written (rooms_at d.first d.entries) lies.room (omega arith) (omega (arith, lies.most)) in
    let inside = room-inside b.place b.room d.first d.entries lies.room in
    let words : take d.info f.info ≡ with_end_zeros (info_of old.blocks) info = info-again d.info 10 info is.few ∙ ap (λ n. with_end_zeros n info) (sym (ap (of_directory (λ (x : DirectoryState). x.info)) kept)) in
    let same : run new.blocks b.place b.blocks_written ≡ run old.blocks b.place b.blocks_written = run-high old.blocks new.blocks b.place b.blocks_written done.high (omega (arith, inside.0, is.starts)) in
    record {
      running = ready.running;
      begun = b;
      was = refl;
      names = names;
      some = some;
      free = free;
      fits = fits;
      list = done.read ∙ ap (with_list (λ (x : DirectoryState). with_new_file x.first (new_file x name info b.place b.blocks_written) x.entries)) (sym kept);
      place = ap (extent_or name) done.read ∙ ap extent_of (there d.first f d.entries some lain);
      places = λ other differ. ap (extent_or other) done.read ∙ ap extent_of (others other d.first f d.entries differ) ∙ sym (ap (extent_or other) kept);
      files = files-inserted (files_of old.blocks) (files_of new.blocks) name (with_end_zeros (info_of old.blocks) info, run old.blocks b.place b.blocks_written)
          (finds new.blocks d' name done.read ∙ ap (data_if_there new.blocks d.info) (there d.first f d.entries some lain) ∙ ap (λ ws. Some (ws, run new.blocks b.place b.blocks_written)) words ∙ ap (λ ws. Some (with_end_zeros (info_of old.blocks) info, ws)) same)
          (λ q other. finds new.blocks d' q done.read ∙ ap (data_if_there new.blocks d.info) (others q d.first f d.entries other) ∙ file-kept old.blocks new.blocks d q is done.high ∙ sym (finds old.blocks d q kept));
      capacity = covers new.blocks d' done.read ∙ covered d.first f d.entries ∙ sym (covers old.blocks d kept);
      limit = limits new.blocks d' done.read ∙ sym (limits old.blocks d kept);
      info = info-of new.blocks d' done.read ∙ sym (info-of old.blocks d kept);
      tight = λ none low. aboves new.blocks d' done.read ∙ tight d.first b.room f d.entries is.neat (sym (aboves old.blocks d kept) ∙ low) (find-none old.blocks d.info (find name (files_at d.first d.entries)) (sym (finds old.blocks d name kept) ∙ none)) some lies.most lies.room;
      written = record { directory = d'; read = done.read; segments = done.segments; unused = λ k more few. done.unused k more };
      blocks = directory-keeps old new d' done;
      writes = done.writes;
      others = done.others ∙ ap (λ (t : Option NewFile). record old { blocks = new.blocks; writes = new.writes; tentative = t }) ready.none;
    }
