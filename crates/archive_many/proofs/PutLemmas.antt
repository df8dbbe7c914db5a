-- Files that are put one after the other.
use Rattle.std.proofs.Common.{◌≡◌, ◌∙◌, ◌⊎◌, ◌≤◌, ◌<◌, ◌+◌, ◌∷◌, ◌++◌, ℕ, true, true≢false, Option, Some, Result, Ok, Err, List, [], map, length, length-append, append_assoc, refl, sym, ap, arith, inl, inr}
use Rattle.std.specs.Prelude.{Bool, false, is_ok, nat_lt}
use Rattle.std.proofs.lemmas.Bool.Decides.{nat_tests}
use Rattle.std.proofs.lemmas.List.{append-nil}
use Rattle.os8_dir.specs.Entries.{DirectoryState, capacity, end_of, total}
use Rattle.os8_dir.specs.Reading.{block, directory_of}
use Rattle.os8_dir.specs.Files.{capacity_of}
use Rattle.os8_dir.specs.Found.{rooms_at}
use Rattle.os8_dir.specs.Changes.{IsRoom, fitting, new_file, with_new_file, directory_with}
use Rattle.os8_dir.specs.declared.entries.DirEntry.{DirEntry}
use Rattle.os8_dir.specs.declared.entries.DirEntry.TheVariants as entry
use Rattle.os8_dir.specs.declared.faults.DirFault.{DirFault}
use Rattle.os8_files.specs.Mounted.{MountState}
use Rattle.os8_files.specs.Calls.{IsReady, rooms_or}
use Rattle.os8_files.specs.Failed.{with_list}
use Rattle.os8_files.specs.Puts.{HasPutWith, blocks_filled}
use Rattle.os8_dir.specs.declared.file_faults.FileFault.TheVariants.{NotFound, NoRoom, DirectoryFull, Busy, BadName, TooLong, TentativeOpen, Device, Stopped, NothingWritten}
use Rattle.os8_dir.specs.declared.file_faults.FileFault.TheVariants as file
use Rattle.refusals.specs.declared.faults.SessionFault.{SessionFault}
use Rattle.refusals.specs.declared.faults.SessionFault.TheVariants.{BadLine, NoJob, TooManyJobs, File, Asm, Tape, BadText, Reader, Writer, Memory, TooManyBreaks}
use Rattle.archive_files.specs.Putting.{information_for}
use Rattle.archive_many.specs.Putting.{ArePut, HasPutFile, IsRefusedAt, IsRefusedFile, KeepsUncovered, blocks_in, info_or, words_in}
use Rattle.archive_many.specs.PutSteps.{IsRefusedAfter, PutsFile, PutsFiles}
use Rattle.archive_many.specs.declared.putting.NewFile.{NewFile}

-- a service is ready again after a file that was put
pub ready-again : (old new : MountState) (info : Option (List ℕ)) (f : NewFile) → HasPutFile old info f new → IsReady new
ready-again old new info f is = record {
  running = ap (λ (m : MountState). m.stopped) is.put.others ∙ is.put.ready.running;
  none = ap (λ (m : MountState). m.tentative) is.put.others ∙ is.put.ready.none;
}

pub free-again : (old new : MountState) (info : Option (List ℕ)) (f : NewFile) → HasPutFile old info f new → old.holds ≡ [] → new.holds ≡ []
free-again old new info f is free = ap (λ (m : MountState). m.holds) is.put.others ∙ free

-- the first file is refused
first-refused : (old : MountState) (info : Option (List ℕ)) (f : NewFile) (files : List NewFile) (fault : SessionFault) → IsRefusedFile old info f fault → IsRefusedAt old info (f ∷ files) 0 fault
first-refused old info f files fault refused = record {
  prefix = [];
  file = f;
  following = files;
  files_are = refl;
  place_is = refl;
  next = old;
  put = refl;
  refused = refused;
}

-- a later one is
later-refused : (old next : MountState) (info : Option (List ℕ)) (f : NewFile) (files : List NewFile) (place : ℕ) (fault : SessionFault) → HasPutFile old info f next
    → IsRefusedAt next info files place fault → IsRefusedAt old info (f ∷ files) (place + 1) fault
later-refused old next info f files place fault put is = record {
  prefix = f ∷ is.prefix;
  file = is.file;
  following = is.following;
  files_are = ap (λ l. f ∷ l) is.files_are;
  place_is = omega (arith, is.place_is);
  next = is.next;
  put = (next, put, is.put);
  refused = is.refused;
}

refused-here : (old : MountState) (info : Option (List ℕ)) (f : NewFile) (files : List NewFile) (before : List ℕ) (fault : SessionFault) → IsRefusedFile old info f fault
    → IsRefusedAfter old info (f ∷ files) before before fault
refused-here old info f files before fault refused = record {
  place = 0;
  counted = omega arith;
  refused = first-refused old info f files fault refused;
}

refused-later : (old next : MountState) (info : Option (List ℕ)) (f : NewFile) (files : List NewFile) (count : ℕ) (before after : List ℕ) (fault : SessionFault) → HasPutFile old info f next
    → IsRefusedAfter next info files (before ++ count ∷ []) after fault → IsRefusedAfter old info (f ∷ files) before after fault
refused-later old next info f files count before after fault put is = record {
  place = is.place + 1;
  counted = omega (arith, is.counted, length-append before (count ∷ []));
  refused = later-refused old next info f files is.place fault put is.refused;
}

-- what becomes of all files where the first is refused
pub head-refused : (old new : MountState) (info : Option (List ℕ)) (f : NewFile) (files : List NewFile) (before : List ℕ) (fault : SessionFault) → PutsFile old info f (Err fault) new
    → PutsFiles old info (f ∷ files) (Err fault) before before new
head-refused old new info f files before Memory is = tt
head-refused old new info f files before (File Device) is = is
head-refused old new info f files before (File BadName) is = refused-here old info f files before (File BadName) is
head-refused old new info f files before (File NothingWritten) is = refused-here old info f files before (File NothingWritten) is
head-refused old new info f files before (File (NoRoom largest)) is = refused-here old info f files before (File (NoRoom largest)) is
head-refused old new info f files before (File DirectoryFull) is = refused-here old info f files before (File DirectoryFull) is
head-refused old new info f files before BadText is = refused-here old info f files before BadText is
head-refused old new info f files before (File NotFound) is = absurd is
head-refused old new info f files before (File (Busy name)) is = absurd is
head-refused old new info f files before (File TooLong) is = absurd is
head-refused old new info f files before (File TentativeOpen) is = absurd is
head-refused old new info f files before (File Stopped) is = absurd is
head-refused old new info f files before (File file.Memory) is = absurd is
head-refused old new info f files before BadLine is = absurd is
head-refused old new info f files before NoJob is = absurd is
head-refused old new info f files before TooManyJobs is = absurd is
head-refused old new info f files before (Asm asm) is = absurd is
head-refused old new info f files before (Tape tape) is = absurd is
head-refused old new info f files before Reader is = absurd is
head-refused old new info f files before Writer is = absurd is
head-refused old new info f files before TooManyBreaks is = absurd is

-- what becomes of all files where the first is put, and the others are or one of them is refused
pub head-put : (old next new : MountState) (info : Option (List ℕ)) (f : NewFile) (files : List NewFile) (count : ℕ) (before middle after : List ℕ) (result : Result (Unit {0}) SessionFault) → HasPutFile old info f next
    → count ≡ blocks_in f → middle ≡ before ++ count ∷ [] → PutsFiles next info files result middle after new → PutsFiles old info (f ∷ files) result before after new
head-put old next new info f files count before middle after (Ok done) put counts appended is =
    ((next, put, is.0), is.1 ∙ ap (λ l. l ++ map blocks_in files) (appended ∙ ap (λ n. before ++ n ∷ []) counts) ∙ append_assoc before (blocks_in f ∷ []) (map blocks_in files))
head-put old next new info f files count before middle after (Err Memory) put counts appended is = tt
head-put old next new info f files count before middle after (Err (File Device)) put counts appended is = is
head-put old next new info f files count before middle after (Err (File BadName)) put counts appended is = refused-later old next info f files count before after (File BadName) put (rw appended at is)
head-put old next new info f files count before middle after (Err (File NothingWritten)) put counts appended is = refused-later old next info f files count before after (File NothingWritten) put (rw appended at is)
head-put old next new info f files count before middle after (Err (File (NoRoom n))) put counts appended is = refused-later old next info f files count before after (File (NoRoom n)) put (rw appended at is)
head-put old next new info f files count before middle after (Err (File DirectoryFull)) put counts appended is = refused-later old next info f files count before after (File DirectoryFull) put (rw appended at is)
head-put old next new info f files count before middle after (Err BadText) put counts appended is = refused-later old next info f files count before after BadText put (rw appended at is)
head-put old next new info f files count before middle after (Err (File NotFound)) put counts appended is = absurd is.refused.refused
head-put old next new info f files count before middle after (Err (File (Busy name))) put counts appended is = absurd is.refused.refused
head-put old next new info f files count before middle after (Err (File TooLong)) put counts appended is = absurd is.refused.refused
head-put old next new info f files count before middle after (Err (File TentativeOpen)) put counts appended is = absurd is.refused.refused
head-put old next new info f files count before middle after (Err (File Stopped)) put counts appended is = absurd is.refused.refused
head-put old next new info f files count before middle after (Err (File file.Memory)) put counts appended is = absurd is.refused.refused
head-put old next new info f files count before middle after (Err BadLine) put counts appended is = absurd is.refused.refused
head-put old next new info f files count before middle after (Err NoJob) put counts appended is = absurd is.refused.refused
head-put old next new info f files count before middle after (Err TooManyJobs) put counts appended is = absurd is.refused.refused
head-put old next new info f files count before middle after (Err (Asm asm)) put counts appended is = absurd is.refused.refused
head-put old next new info f files count before middle after (Err (Tape tape)) put counts appended is = absurd is.refused.refused
head-put old next new info f files count before middle after (Err Reader) put counts appended is = absurd is.refused.refused
head-put old next new info f files count before middle after (Err Writer) put counts appended is = absurd is.refused.refused
head-put old next new info f files count before middle after (Err TooManyBreaks) put counts appended is = absurd is.refused.refused

-- no file is left to be put
pub none-put : (m : MountState) (info : Option (List ℕ)) (files : List NewFile) (counts : List ℕ) → length files < 1 → PutsFiles m info files (Ok tt) counts counts m
none-put m info [] counts none = (refl, sym (append-nil counts))
none-put m info (f ∷ files) counts none = absurd (omega (arith, none))

-- ## Blocks that the directory does not cover

-- the laws of directories that are wanted here
abbrev pub FitsInRoom : Type 0
FitsInRoom = (wish from size : ℕ) (rooms : List (ℕ × ℕ)) → fitting wish rooms ≡ Some (from, size) → IsRoom from size rooms × (wish ≤ size)

abbrev pub CoversSo : Type 0
CoversSo = (blocks : List (List ℕ)) (d : DirectoryState) → directory_of blocks ≡ Ok d → capacity_of blocks ≡ capacity d

-- an empty lies in what its directory covers
room-inside : (first from size : ℕ) (es : List DirEntry) → IsRoom from size (rooms_at first es) → (first ≤ from) × (from + size ≤ first + total es)
room-inside first from size [] is = absurd is
room-inside first from size (entry.File name info more ∷ es) is =
    let so = room-inside (first + more) from size es is in (omega (arith, so.0), omega (arith, so.1))
room-inside first from size (entry.Empty more ∷ es) (inl is) = (omega (arith, is.0), omega (arith, is.0, is.1))
room-inside first from size (entry.Empty more ∷ es) (inr is) =
    let so = room-inside (first + more) from size es is in (omega (arith, so.0), omega (arith, so.1))

-- a directory after one file more: it begins and ends where it did
pub record IsListedAgain (d : DirectoryState) (blocks : List (List ℕ)) : Type 0 where
  pub directory : DirectoryState
  pub read : directory_of blocks ≡ Ok directory
  pub first : directory.first ≡ d.first
  pub end : end_of directory ≡ end_of d

ends-again : (first total_d total_e cap_d cap_e : ℕ) → cap_d ≡ total_d → cap_e ≡ total_e → cap_e ≡ cap_d → first + total_e ≡ first + total_d
ends-again first total_d total_e cap_d cap_e one two three = omega (arith, one, two, three)

listed-again : CoversSo → (d : DirectoryState) (old new : MountState) (name : ℕ) (given words : List ℕ) → directory_of old.blocks ≡ Ok d → HasPutWith old name given words new → IsListedAgain d new.blocks
listed-again covers d old new name given words read put =
    let list : DirectoryState → List DirEntry = λ e. with_new_file e.first (new_file e name given put.place (blocks_filled words)) e.entries in
    let again : DirectoryState = directory_with d (list d) in
    let made : directory_of new.blocks ≡ Ok again = put.list ∙ ap (with_list list) read in
    record {
      directory = again;
      read = made;
      first = refl;
      end = ends-again d.first (total d.entries) (total again.entries) (capacity_of old.blocks) (capacity_of new.blocks) (covers old.blocks d read) (covers new.blocks again made) put.capacity;
    }

beside : (k first end place size room filled : ℕ) → first ≤ place → place + room ≤ end → filled ≤ room → (k < first) ⊎ (end ≤ k) → (k < place) ⊎ (place + filled ≤ k)
beside k first end place size room filled low high fits (inl below) = inl (omega (arith, low, below))
beside k first end place size room filled low high fits (inr above) = inr (omega (arith, high, fits, above))

-- one file that is put keeps the blocks that the directory does not cover
uncovered-one : FitsInRoom → (d : DirectoryState) (old new : MountState) (name : ℕ) (given words : List ℕ) → directory_of old.blocks ≡ Ok d → HasPutWith old name given words new
    → KeepsUncovered d old.blocks new.blocks
uncovered-one fits d old new name given words read put =
    let room : fitting (blocks_filled words) (rooms_at d.first d.entries) ≡ Some (put.place, put.room) = sym (ap (λ r. fitting (blocks_filled words) (rooms_or r)) read) ∙ put.fits in
    let chosen = fits (blocks_filled words) put.place put.room (rooms_at d.first d.entries) room in
    let inside = room-inside d.first put.place put.room d.entries chosen.0 in
    record {
      count = put.blocks.count;
      first = put.blocks.first;
      outside = λ k high out. put.blocks.following k high (beside k d.first (end_of d) put.place 0 put.room (blocks_filled words) inside.0 inside.1 chosen.1 out);
    }

moved-end : (k a b x y : ℕ) → x ≡ a → y ≡ b → (k < a) ⊎ (b ≤ k) → (k < x) ⊎ (y ≤ k)
moved-end k a b x y one two (inl below) = inl (omega (arith, one, below))
moved-end k a b x y one two (inr above) = inr (omega (arith, two, above))

-- so do all files that are put
pub uncovered-all : FitsInRoom → CoversSo → (d : DirectoryState) (old new : MountState) (info : Option (List ℕ)) (files : List NewFile) → directory_of old.blocks ≡ Ok d → ArePut old info files new
    → KeepsUncovered d old.blocks new.blocks
uncovered-all fits covers d old new info [] read put = record {
  count = ap (λ (m : MountState). length m.blocks) put;
  first = ap (λ (m : MountState). block m.blocks 0) put;
  outside = λ k high out. ap (λ (m : MountState). block m.blocks k) put;
}
uncovered-all fits covers d old new info (f ∷ files) read put =
    let given = information_for old f.name (info_or f.date info) in
    let one = uncovered-one fits d old put.0 f.name given (words_in f) read put.1.put in
    let again = listed-again covers d old put.0 f.name given (words_in f) read put.1.put in
    let others = uncovered-all fits covers again.directory put.0 new info files again.read put.2 in
    record {
      count = others.count ∙ one.count;
      first = others.first ∙ one.first;
      outside = λ k high out. others.outside k high (moved-end k d.first (end_of d) again.directory.first (end_of again.directory) again.first again.end out) ∙ one.outside k high out;
    }

-- what a sound volume is read as
pub sound-list : (read : Result DirectoryState DirFault) → is_ok read ≡ true → (d : DirectoryState) × (read ≡ Ok d)
sound-list (Ok d) sound = (d, refl)
sound-list (Err fault) sound = absurd (true≢false (sym sound))

-- a name that does not begin high begins with 0
pub begins-low : (n : ℕ) (high : Bool) → high ≡ nat_lt 0 n → high ≡ false → n ≡ 0
begins-low n high is low = grind (arith, nat_tests)

pub begins-high : (n : ℕ) (high : Bool) → high ≡ nat_lt 0 n → high ≡ true → 0 < n
begins-high n high is holds = grind (arith, nat_tests)
