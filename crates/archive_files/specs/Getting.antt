-- What is read of a file of an image.
use Rattle.std.specs.Prelude.{◌≡◌, ℕ, ◌&&◌, Bool, false, nat_eq, if◌then◌else◌, Some, Result, Ok, Err, List, [], ◌∷◌, ◌++◌}
use Rattle.std.specs.Global.{Vec}
use Rattle.std.specs.FinMap.{get}
use Rattle.bin_tape.specs.Items.{Item}
use Rattle.bin_tape.specs.Tape.{IsTape}
use Rattle.bin_tape.specs.Fault.{IsFault}
use Rattle.char_pack.specs.Packing.{frames}
use Rattle.char_pack.specs.Texts.{text}
use Rattle.os8_dir.specs.Files.{FileData, files_of}
use Rattle.os8_dir.specs.declared.file_faults.FileFault.TheVariants.{NotFound, BadName}
use Rattle.refusals.specs.declared.faults.SessionFault.{SessionFault}
use Rattle.refusals.specs.declared.faults.SessionFault.TheVariants.{File, Memory}
use Rattle.refusals.specs.declared.faults.SessionFault.TheVariants as session
use Rattle.archive_files.specs.declared.faults.ArchiveFault.{ArchiveFault}
use Rattle.archive_files.specs.declared.faults.ArchiveFault.TheVariants.{Image, Directory, Refused}
use Rattle.archive_files.specs.declared.forms.GetForm.{GetForm}
use Rattle.archive_files.specs.declared.forms.GetForm.TheVariants.{Frames, Text, Tape}
use Rattle.archive_files.specs.Asking.{Target, asked_name, IsBadName, IsMissing}
use Rattle.archive_files.specs.Opening.{IsOpened, IsUnopened}

-- ## Files

-- the volume has the file that is wanted, with these words
pub record IsFile (image : List ℕ) (wanted : Target) (words : List ℕ) : Type 0 where
  pub blocks : List (List ℕ)
  pub opened : IsOpened image blocks
  pub number : ℕ
  pub named : asked_name blocks wanted ≡ Some number
  pub info : List ℕ
  pub there : get (files_of blocks) number ≡ Some (info, words)

-- the same with its information words
pub record HasFile (image : List ℕ) (wanted : Target) (file : FileData) : Type 0 where
  pub blocks : List (List ℕ)
  pub opened : IsOpened image blocks
  pub number : ℕ
  pub named : asked_name blocks wanted ≡ Some number
  pub there : get (files_of blocks) number ≡ Some file

-- the volume has no file that is wanted: none of the name that was typed, or none that begins at the block
pub record IsNoFile (image : List ℕ) (wanted : Target) : Type 0 where
  pub blocks : List (List ℕ)
  pub opened : IsOpened image blocks
  pub missing : IsMissing blocks blocks wanted

-- an LF comes next
abbrev pub is_before_lf : List ℕ → Bool
is_before_lf [] = false
is_before_lf (byte ∷ others) = nat_eq byte 0o12

-- a text without each CR that stands directly before an LF
abbrev pub line_feeds : List ℕ → List ℕ
line_feeds [] = []
line_feeds (byte ∷ others) = if nat_eq byte 0o15 && is_before_lf others then line_feeds others else byte ∷ line_feeds others

-- the frames 0200 that frames begin with
abbrev pub trailer : List ℕ → List ℕ
trailer [] = []
trailer (frame ∷ others) = if nat_eq frame 0o200 then frame ∷ trailer others else []

-- Frames begin with a BIN tape: its first trailer frame is the first frame with which they are one, and its last is the last
-- 0200 that follows directly.
pub record IsTapeOf (file tape : List ℕ) : Type 0 where
  pub before : List ℕ
  pub first : ℕ
  pub following : List ℕ
  pub items : List Item
  pub file_is : file ≡ before ++ first ∷ following
  pub is_tape : IsTape (before ++ first ∷ []) items
  pub none_before : (others : List Item) → IsTape before others → ⊥
  pub tape_is : tape ≡ before ++ first ∷ trailer following

-- what is given of a file of these words
abbrev pub IsGiven : GetForm → List ℕ → List ℕ → Type 0
IsGiven Frames words bytes = bytes ≡ frames words
IsGiven Text words bytes = bytes ≡ line_feeds (text words)
IsGiven Tape words bytes = IsTapeOf (frames words) bytes

-- a file is not read, for the first of these: a fault of the image, of its directory, no name, no file
abbrev pub RefusesRead : List ℕ → Target → ArchiveFault → Type 0
RefusesRead image wanted (Refused (File BadName)) = (blocks : List (List ℕ)) × IsOpened image blocks × IsBadName wanted
RefusesRead image wanted (Refused (File NotFound)) = IsNoFile image wanted
RefusesRead image wanted fault = IsUnopened image fault

-- what an image's file is not given for: in order, a fault of the image, of its directory, no name, no file, no tape
abbrev pub GetRefused : List ℕ → Target → GetForm → SessionFault → Type 0
GetRefused image wanted form (File BadName) = (blocks : List (List ℕ)) × IsOpened image blocks × IsBadName wanted
GetRefused image wanted form (File NotFound) = IsNoFile image wanted
GetRefused image wanted form (session.Tape fault) = (words : List ℕ) × IsFile image wanted words × (form ≡ Tape) × IsFault (frames words) fault
GetRefused image wanted form fault = IsUnopened image (Refused fault)

abbrev pub Gets : List ℕ → Target → GetForm → Result (Vec ℕ) ArchiveFault → Type 0
Gets image wanted form (Ok bytes) = (words : List ℕ) × IsFile image wanted words × IsGiven form words bytes.items
Gets image wanted form (Err (Image fault)) = IsUnopened image (Image fault)
Gets image wanted form (Err (Directory fault)) = IsUnopened image (Directory fault)
Gets image wanted form (Err (Refused fault)) = GetRefused image wanted form fault
