-- What is left where a file gets another name.
use Rattle.std.proofs.Common.{◌≡◌, ◌≢◌, ℕ, ◌≤◌, List, length, cond, Option, Some, None, Ok, refl, ap, sym, subst, ◌∙◌, arith, inl, inr}
use Rattle.std.specs.FinMap.{get, remove}
use Rattle.std.proofs.lemmas.Bool.Decides.{eqb_tells}
use Rattle.os8_dir.specs.declared.entries.DirEntry.{DirEntry}
use Rattle.os8_dir.specs.Entries.{DirectoryState, IsNamed, total}
use Rattle.os8_dir.specs.Reading.{directory_of}
use Rattle.os8_dir.specs.Found.{FilePlace, IsDirectory, files_at, find, extent_of, limit, above}
use Rattle.os8_dir.specs.Files.{FileData, files_of, data_if_there, of_directory}
use Rattle.os8_dir.specs.Changes.{directory_with}
use Rattle.os8_dir.specs.Renaming.{with_new_name, with_name}
use Rattle.os8_files.specs.Mounted.{MountState}
use Rattle.os8_files.specs.Calls.{IsReady, IsFree, IsThere, HasFailed, StopsInPart}
use Rattle.os8_files.specs.Renames.{HasRenamed, RenameFailed}
use Rattle.os8_files.specs.Failed.{extent_or, with_list}
use Rattle.os8_files.specs.WriteSteps.{HasDirectory, KeepsHigh}
use Rattle.os8_files.proofs.MapLemmas.{files-inserted, get-without}
use Rattle.os8_files.proofs.CallLemmas.{FindsFiles, file-kept}
use Rattle.os8_files.proofs.KeepLemmas.{directory-keeps, high-keeps, info-of}
use Rattle.os8_files.proofs.BoundLemmas.{LimitIs, CapacityIs, AboveIs, IsMade}
use Rattle.os8_files.proofs.FailedLemmas.{stand}

-- a file under another name holds the same, and lies where it lay
held-named : (blocks : List (List ℕ)) (info other : ℕ) (found : Option FilePlace) → data_if_there blocks info (with_name other found) ≡ data_if_there blocks info found
held-named blocks info other None = refl
held-named blocks info other (Some f) = refl

extent-named : (other : ℕ) (found : Option FilePlace) → extent_of (with_name other found) ≡ extent_of found
extent-named other None = refl
extent-named other (Some f) = refl

pub find-none : (blocks : List (List ℕ)) (info : ℕ) (f : Option FilePlace) → data_if_there blocks info f ≡ None → f ≡ None
find-none blocks info None none = refl
find-none blocks info (Some f) none = cc

pub find-there : (blocks : List (List ℕ)) (info : ℕ) (f : Option FilePlace) (h : FileData) → data_if_there blocks info f ≡ Some h → (g : FilePlace) × (f ≡ Some g)
find-there blocks info None h there = cc
find-there blocks info (Some f) h there = (f, refl)

-- two names of which one is there
two-names : (m : List (List ℕ)) (name other : ℕ) (h : FileData) → get (files_of m) name ≡ Some h → get (files_of m) other ≡ None → name ≢ other
two-names m name other h there fresh same = let e = ap (get (files_of m)) same in cc

-- the laws of another name
pub record Renaming : Type 0 where
  pub gone : (name other first : ℕ) (es : List DirEntry) → name ≢ other → find name (files_at first (with_new_name name other es)) ≡ None
  pub there : (name other first : ℕ) (es : List DirEntry) → find other (files_at first es) ≡ None → find other (files_at first (with_new_name name other es)) ≡ with_name other (find name (files_at first es))
  pub others : (name other third first : ℕ) (es : List DirEntry) → name ≢ third → other ≢ third → find third (files_at first (with_new_name name other es)) ≡ find third (files_at first es)
  pub covered : (name other : ℕ) (es : List DirEntry) → total (with_new_name name other es) ≡ total es
  pub above : (name other : ℕ) (es : List DirEntry) → above (with_new_name name other es) ≡ above es

pub has-name : FindsFiles → LimitIs → CapacityIs → AboveIs → Renaming → (old new : MountState) (d : DirectoryState) (name other : ℕ) (h : FileData) → IsReady old → IsNamed other
    → directory_of old.blocks ≡ Ok d → IsDirectory (length old.blocks) d → get (files_of old.blocks) name ≡ Some h → get (files_of old.blocks) other ≡ None
    → IsFree old name → IsFree old other → length d.entries ≤ limit d → HasDirectory old (directory_with d (with_new_name name other d.entries)) new → HasRenamed old name other new
has-name finds limits covers aboves laws old new d name other h ready named kept is there fresh free unheld fits done =
    let d' = directory_with d (with_new_name name other d.entries) in
    let none : find other (files_at d.first d.entries) ≡ None = find-none old.blocks d.info (find other (files_at d.first d.entries)) (sym (finds old.blocks d other kept) ∙ fresh) in
    let found = laws.there name other d.first d.entries none in
    let apart : name ≢ other = two-names old.blocks name other h there fresh in
    record {
      ready = ready;
      named = named;
      file = h;
      there = there;
      fresh = fresh;
      free = free;
      unheld = unheld;
      fits = omega (arith, fits, limits old.blocks d kept, ap (of_directory (λ (x : DirectoryState). length x.entries)) kept);
      list = done.read ∙ ap (with_list (λ (x : DirectoryState). with_new_name name other x.entries)) (sym kept);
      place = ap (extent_or other) done.read ∙ ap extent_of found ∙ extent-named other (find name (files_at d.first d.entries)) ∙ sym (ap (extent_or name) kept);
      places = λ third one two. ap (extent_or third) done.read ∙ ap extent_of (laws.others name other third d.first d.entries one two) ∙ sym (ap (extent_or third) kept);
      files = files-inserted (remove (files_of old.blocks) name) (files_of new.blocks) other h
          (finds new.blocks d' other done.read ∙ ap (data_if_there new.blocks d.info) found ∙ held-named new.blocks d.info other (find name (files_at d.first d.entries))
          ∙ file-kept old.blocks new.blocks d name is done.high ∙ sym (finds old.blocks d name kept) ∙ there)
          (λ q two. elim (eqb_tells name q) [
            | inl here ↦ finds new.blocks d' q done.read ∙ ap (data_if_there new.blocks d.info) (subst (λ n. find n (files_at d.first (with_new_name name other d.entries)) ≡ None) here.1 (laws.gone name other d.first d.entries apart))
                ∙ sym (get-without (files_of old.blocks) name q ∙ ap (λ b. cond b None (get (files_of old.blocks) q)) here.0)
            | inr away ↦ finds new.blocks d' q done.read ∙ ap (data_if_there new.blocks d.info) (laws.others name other q d.first d.entries away.1 two) ∙ file-kept old.blocks new.blocks d q is done.high
                ∙ sym (finds old.blocks d q kept) ∙ sym (get-without (files_of old.blocks) name q ∙ ap (λ b. cond b None (get (files_of old.blocks) q)) away.0)
          ]);
      capacity = covers new.blocks d' done.read ∙ laws.covered name other d.entries ∙ sym (covers old.blocks d kept);
      limit = limits new.blocks d' done.read ∙ sym (limits old.blocks d kept);
      info = info-of new.blocks d' done.read ∙ sym (info-of old.blocks d kept);
      above = aboves new.blocks d' done.read ∙ laws.above name other d.entries ∙ sym (aboves old.blocks d kept);
      written = record { directory = d'; read = done.read; segments = done.segments; unused = λ k more few. done.unused k more };
      blocks = directory-keeps old new d' done;
      writes = done.writes;
      others = done.others;
    }

pub rename-failed : (old new : MountState) (d : DirectoryState) (name other : ℕ) → IsReady old → IsNamed other → IsThere old name → IsFree old name → IsFree old other → directory_of old.blocks ≡ Ok d
    → IsDirectory (length old.blocks) d → IsMade old.blocks d (files_of old.blocks) → HasFailed old new → KeepsHigh old.blocks new.blocks
    → StopsInPart old.blocks new.blocks (directory_with d (with_new_name name other d.entries)) old.writes new.writes → RenameFailed old name other new
rename-failed old new d name other ready named there free unheld kept is made failed keeps part = record {
  ready = ready;
  named = named;
  there = there;
  free = free;
  unheld = unheld;
  files = stand old.blocks new.blocks d (directory_of old.blocks) (files_of old.blocks) kept is made keeps.high;
  written = (directory_with d (with_new_name name other d.entries), ap (with_list (λ (x : DirectoryState). with_new_name name other x.entries)) kept, part);
  blocks = high-keeps old.blocks new.blocks keeps;
  others = failed;
}
