-- What is left where a file is deleted.
use Rattle.std.proofs.Common.{◌≡◌, ◌≢◌, ℕ, ◌≤◌, List, length, Some, None, Ok, ap, sym, ◌∙◌, arith}
use Rattle.std.specs.FinMap.{get}
use Rattle.os8_dir.specs.declared.entries.DirEntry.{DirEntry}
use Rattle.os8_dir.specs.Entries.{DirectoryState, total}
use Rattle.os8_dir.specs.Reading.{directory_of}
use Rattle.os8_dir.specs.Found.{IsDirectory, files_at, find, extent_of, limit}
use Rattle.os8_dir.specs.Files.{FileData, files_of, data_if_there, of_directory}
use Rattle.os8_dir.specs.Changes.{without_file, directory_with}
use Rattle.os8_files.specs.Mounted.{MountState}
use Rattle.os8_files.specs.Calls.{IsReady, IsFree, HasDeleted}
use Rattle.os8_files.specs.Failed.{extent_or, with_list}
use Rattle.os8_files.specs.WriteSteps.{HasDirectory}
use Rattle.os8_files.proofs.MapLemmas.{files-removed}
use Rattle.os8_files.proofs.CallLemmas.{FindsFiles, file-kept}
use Rattle.os8_files.proofs.KeepLemmas.{directory-keeps, info-of}
use Rattle.os8_files.proofs.BoundLemmas.{LimitIs, CapacityIs}

pub deleted : FindsFiles → LimitIs → CapacityIs
    → (gone : (name first : ℕ) (es : List DirEntry) → find name (files_at first (without_file name es)) ≡ None)
    → (others : (name other first : ℕ) (es : List DirEntry) → name ≢ other → find other (files_at first (without_file name es)) ≡ find other (files_at first es))
    → (covered : (name : ℕ) (es : List DirEntry) → total (without_file name es) ≡ total es)
    → (old new : MountState) (d : DirectoryState) (name : ℕ) (h : FileData) → IsReady old → directory_of old.blocks ≡ Ok d → IsDirectory (length old.blocks) d
    → get (files_of old.blocks) name ≡ Some h → IsFree old name → length (without_file name d.entries) ≤ limit d
    → HasDirectory old (directory_with d (without_file name d.entries)) new → HasDeleted old name new
deleted finds limits covers gone others covered old new d name h ready kept is there free fits done =
    let d' = directory_with d (without_file name d.entries) in
    record {
      ready = ready;
      file = h;
      there = there;
      free = free;
      fits = omega (arith, fits, limits old.blocks d kept, ap (of_directory (λ (d : DirectoryState). length (without_file name d.entries))) kept);
      list = done.read ∙ ap (with_list (λ (x : DirectoryState). without_file name x.entries)) (sym kept);
      places = λ other differ. ap (extent_or other) done.read ∙ ap extent_of (others name other d.first d.entries differ) ∙ sym (ap (extent_or other) kept);
      files = files-removed (files_of old.blocks) (files_of new.blocks) name
          (finds new.blocks d' name done.read ∙ ap (data_if_there new.blocks d.info) (gone name d.first d.entries))
          (λ q other. finds new.blocks d' q done.read ∙ ap (data_if_there new.blocks d.info) (others name q d.first d.entries other) ∙ file-kept old.blocks new.blocks d q is done.high ∙ sym (finds old.blocks d q kept));
      capacity = covers new.blocks d' done.read ∙ covered name d.entries ∙ sym (covers old.blocks d kept);
      limit = limits new.blocks d' done.read ∙ sym (limits old.blocks d kept);
      info = info-of new.blocks d' done.read ∙ sym (info-of old.blocks d kept);
      written = record { directory = d'; read = done.read; segments = done.segments; unused = λ k more few. done.unused k more };
      blocks = directory-keeps old new d' done;
      writes = done.writes;
      others = done.others;
    }
