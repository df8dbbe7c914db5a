-- Files that are asked for by their first blocks.
use Rattle.std.proofs.Common.{◌≡◌, ◌∙◌, ℕ, true, Option, Some, None, Result, Ok, Err, is_ok, List, length, refl, sym, ap, subst, inl, inr}
use Rattle.std.specs.FinMap.{get}
use Rattle.std.specs.Global.{Vec}
use Rattle.volume_image.specs.Image.{IsImageOf, WrittenIsReadBack}
use Rattle.archive_files.specs.declared.forms.GetForm.{GetForm}
use Rattle.os8_dir.specs.Entries.{DirectoryState}
use Rattle.os8_dir.specs.Found.{FilePlace, files_at, find}
use Rattle.os8_dir.specs.Reading.{directory_of}
use Rattle.os8_dir.specs.Files.{FileData, files_of, data_of_file, data_if_there}
use Rattle.os8_dir.specs.declared.faults.DirFault.{DirFault}
use Rattle.os8_dir.specs.declared.file_faults.FileFault.TheVariants.{NotFound, BadName}
use Rattle.os8_dir.specs.declared.file_faults.FileFault.TheVariants as file
use Rattle.refusals.specs.declared.faults.SessionFault.{SessionFault}
use Rattle.refusals.specs.declared.faults.SessionFault.TheVariants.{File, Memory}
use Rattle.refusals.specs.declared.faults.SessionFault.TheVariants as session
use Rattle.archive_files.specs.declared.faults.ArchiveFault.{ArchiveFault}
use Rattle.archive_files.specs.declared.faults.ArchiveFault.TheVariants.{Image, Directory, Refused}
use Rattle.archive_files.specs.Asking.{Target, OfName, AtBlock, asked_name, name_at, IsMissing}
use Rattle.archive_files.specs.Getting.{Gets, GetRefused, IsFile, IsNoFile}
use Rattle.archive_files.proofs.LawLemmas.{some_eq, one_volume}
use Rattle.archive_files.proofs.FirstBlockLemmas.{DirectoryIs, beginning-found, found-beginning}
use Rattle.archive_files.proofs.AskLemmas.{bad_named}
use Rattle.archive_files.proofs.DeleteLemmas.{none-there}
use Rattle.archive_files.proofs.ChangeLemmas.{FoundIn, directory_in}

-- ## Of a volume

there-in : FoundIn → (blocks : List (List ℕ)) (place n : ℕ) (read : Result DirectoryState DirFault) → directory_of blocks ≡ read → name_at place read ≡ Some n
    → (file : FileData) × (get (files_of blocks) n ≡ Some file)
there-in finds blocks place n (Ok d) read is =
    let found = found-beginning place n (files_at d.first d.entries) is in
    (data_of_file blocks d.info found.0, finds blocks d n read ∙ ap (data_if_there blocks d.info) found.1)
there-in finds blocks place n (Err fault) read is = cc

pub begins-there : FoundIn → (blocks : List (List ℕ)) (place n : ℕ) → asked_name blocks (AtBlock place) ≡ Some n → (file : FileData) × (get (files_of blocks) n ≡ Some file)
begins-there finds blocks place n is = there-in finds blocks place n (directory_of blocks) refl is

found-of : (blocks : List (List ℕ)) (info : ℕ) (found : Option FilePlace) (file : FileData) → data_if_there blocks info found ≡ Some file → (f : FilePlace) × (found ≡ Some f)
found-of blocks info None file is = cc
found-of blocks info (Some f) file is = (f, refl)

pub each-begins : FoundIn → DirectoryIs → (blocks : List (List ℕ)) (name : ℕ) (file : FileData) → is_ok (directory_of blocks) ≡ true → get (files_of blocks) name ≡ Some file
    → (place : ℕ) × (asked_name blocks (AtBlock place) ≡ Some name)
each-begins finds is-directory blocks name file sound there =
    let read = directory_in (directory_of blocks) sound in
    let d = read.0 in
    let found = found-of blocks d.info (find name (files_at d.first d.entries)) file (sym (finds blocks d name read.1) ∙ there) in
    (found.0.place, ap (name_at found.0.place) read.1 ∙ beginning-found d.first (length blocks) name (files_at d.first d.entries) found.0 (is-directory blocks d read.1).apart found.1)

-- ## One name

missing-name : (blocks : List (List ℕ)) (wanted : Target) (name : ℕ) → IsMissing blocks blocks wanted → asked_name blocks wanted ≡ Some name → get (files_of blocks) name ≡ None
missing-name blocks (OfName text) name missing named = ap (get (files_of blocks)) (some_eq name missing.0 (sym named ∙ missing.1)) ∙ missing.2
missing-name blocks (AtBlock place) name (inl none) named = absurd (none_some name (sym none ∙ named))
  where
    none_some : (n : ℕ) → None ≡ Some n → ⊥
    none_some n is = cc
missing-name blocks (AtBlock place) name (inr missing) named = ap (get (files_of blocks)) (some_eq name missing.0 (sym named ∙ missing.1)) ∙ missing.2

-- of what image is asked for in two ways that have one name
abbrev pub NamesBoth : List (List ℕ) → Target → Target → ℕ → Type 0
NamesBoth blocks one two name = (asked_name blocks one ≡ Some name) × (asked_name blocks two ≡ Some name)

both-of : WrittenIsReadBack → (image : List ℕ) (one two : Target) (name : ℕ) (blocks other : List (List ℕ)) → IsImageOf image blocks → IsImageOf image other → NamesBoth blocks one two name
    → NamesBoth other one two name
both-of law image one two name blocks other is also both = subst (λ (b : List (List ℕ)). NamesBoth b one two name) (sym (one_volume law image blocks other is also)) both

file-alike : WrittenIsReadBack → (image : List ℕ) (one two : Target) (name : ℕ) (words : List ℕ) (blocks : List (List ℕ)) → IsImageOf image blocks → NamesBoth blocks one two name
    → IsFile image one words → IsFile image two words
file-alike law image one two name words blocks is both f =
    let own = both-of law image one two name blocks f.blocks is f.opened.is_image both in
    record {
      blocks = f.blocks;
      opened = f.opened;
      number = f.number;
      named = own.1 ∙ ap Some (some_eq name f.number (sym own.0 ∙ f.named));
      info = f.info;
      there = f.there;
    }

none-alike : WrittenIsReadBack → (image : List ℕ) (one two : Target) (name : ℕ) (blocks : List (List ℕ)) → IsImageOf image blocks → NamesBoth blocks one two name → IsNoFile image one → IsNoFile image two
none-alike law image one two name blocks is both f =
    let own = both-of law image one two name blocks f.blocks is f.opened.is_image both in
    record {
      blocks = f.blocks;
      opened = f.opened;
      missing = none-there f.blocks two f.blocks name own.1 (missing-name f.blocks one name f.missing own.0);
    }

refused-alike : WrittenIsReadBack → (image : List ℕ) (one two : Target) (name : ℕ) (form : GetForm) (blocks : List (List ℕ)) (fault : SessionFault) → IsImageOf image blocks
    → NamesBoth blocks one two name → GetRefused image one form fault → GetRefused image two form fault
refused-alike law image one two name form blocks (File BadName) is both gets =
    absurd (bad_named gets.0 one name gets.2 (both-of law image one two name blocks gets.0 is gets.1.is_image both).0)
refused-alike law image one two name form blocks (File NotFound) is both gets = none-alike law image one two name blocks is both gets
refused-alike law image one two name form blocks (session.Tape fault) is both gets = (gets.0, file-alike law image one two name gets.0 blocks is both gets.1, gets.2, gets.3)
refused-alike law image one two name form blocks session.BadLine is both gets = gets
refused-alike law image one two name form blocks session.NoJob is both gets = gets
refused-alike law image one two name form blocks session.TooManyJobs is both gets = gets
refused-alike law image one two name form blocks (File (file.NoRoom largest)) is both gets = gets
refused-alike law image one two name form blocks (File file.DirectoryFull) is both gets = gets
refused-alike law image one two name form blocks (File (file.Busy other)) is both gets = gets
refused-alike law image one two name form blocks (File file.TooLong) is both gets = gets
refused-alike law image one two name form blocks (File file.TentativeOpen) is both gets = gets
refused-alike law image one two name form blocks (File file.Device) is both gets = gets
refused-alike law image one two name form blocks (File file.Stopped) is both gets = gets
refused-alike law image one two name form blocks (File file.Memory) is both gets = gets
refused-alike law image one two name form blocks (File file.NothingWritten) is both gets = gets
refused-alike law image one two name form blocks (session.Asm fault) is both gets = gets
refused-alike law image one two name form blocks session.BadText is both gets = gets
refused-alike law image one two name form blocks session.Reader is both gets = gets
refused-alike law image one two name form blocks session.Writer is both gets = gets
refused-alike law image one two name form blocks Memory is both gets = gets
refused-alike law image one two name form blocks session.TooManyBreaks is both gets = gets

pub got-alike : WrittenIsReadBack → (image : List ℕ) (one two : Target) (name : ℕ) (form : GetForm) (blocks : List (List ℕ)) (answer : Result (Vec ℕ) ArchiveFault) → IsImageOf image blocks
    → asked_name blocks one ≡ Some name → asked_name blocks two ≡ Some name → Gets image one form answer → Gets image two form answer
got-alike law image one two name form blocks (Ok bytes) is a b gets = (gets.0, file-alike law image one two name gets.0 blocks is (a, b) gets.1, gets.2)
got-alike law image one two name form blocks (Err (Image fault)) is a b gets = gets
got-alike law image one two name form blocks (Err (Directory fault)) is a b gets = gets
got-alike law image one two name form blocks (Err (Refused fault)) is a b gets = refused-alike law image one two name form blocks fault is (a, b) gets
