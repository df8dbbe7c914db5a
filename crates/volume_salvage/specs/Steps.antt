-- What steps of the code do. No contract of a public function cites these.
use Rattle.std.specs.Prelude.{◌≡◌, ◌-◌, ◌<◌, ℕ, zero, suc, take, Option, None, Some, Result, Ok, Err, List, [], ◌∷◌, ◌++◌}
use Rattle.std.specs.FinMap.{from_entries}
use Rattle.os8_dir.specs.Entries.{DirectoryState}
use Rattle.os8_dir.specs.Files.{capacity_of, files_of}
use Rattle.os8_dir.specs.Names.{with_end_zeros}
use Rattle.os8_dir.specs.Reading.{directory_of}
use Rattle.os8_dir.specs.declared.entries.DirEntry.{DirEntry}
use Rattle.os8_dir.specs.declared.entries.DirEntry.TheVariants.{File, Empty}
use Rattle.os8_files.specs.Calls.{IsReady, info_of}
use Rattle.os8_files.specs.Mounted.{MountState}
use Rattle.os8_files.specs.Puts.{HasPutWith, blocks_filled}
use Rattle.std.specs.Global.{Vec}
use Rattle.word12.specs.declared.sizes.TheConstants.{FIRST_FILE_BLOCK}
use Rattle.volume_image.specs.declared.faults.ImageFault.TheVariants as image
use Rattle.volume_salvage.specs.Rows.{Differ}
use Rattle.volume_salvage.specs.Rescued.{AreBlocks, AreJudged, HasFailedOf, IsOfFile, IsRefusedOf, Keeps, files_to_keep, with_files}
use Rattle.volume_salvage.specs.declared.faults.Refusal.{Refusal}
use Rattle.volume_salvage.specs.declared.faults.Refusal.TheVariants.{Failed}
use Rattle.volume_salvage.specs.declared.faults.RescueFault.{RescueFault}
use Rattle.volume_salvage.specs.declared.faults.RescueFault.TheVariants.{Image, Unread, Refused}
use Rattle.volume_salvage.specs.declared.volumes.KeptFile.{KeptFile}

-- The entries of files in their order, each right after the one before it, and others after them.
abbrev pub row : ℕ → List KeptFile → List DirEntry → List DirEntry
row info [] others = others
row info (f ∷ fs) others = File f.name (with_end_zeros 10 (take info f.info)) (blocks_filled f.words.items) ∷ row info fs others

-- so many free blocks
abbrev pub free_entries : ℕ → List DirEntry
free_entries zero = []
free_entries (suc k) = Empty (suc k) ∷ []

-- each file has a block
abbrev pub HaveBlocks : List KeptFile → Type 0
HaveBlocks [] = Unit {0}
HaveBlocks (f ∷ fs) = (0 < blocks_filled f.words.items) × HaveBlocks fs

-- a volume has just these files in a row, from its first file's block on, and free blocks after them
pub record IsRow (blocks : List (List ℕ)) (kept : List KeptFile) : Type 0 where
  pub directory : DirectoryState
  pub read : directory_of blocks ≡ Ok directory
  pub first : directory.first ≡ FIRST_FILE_BLOCK
  pub free : ℕ
  pub entries : directory.entries ≡ row directory.info kept (free_entries free)
  pub some : HaveBlocks kept

-- files are put into a volume, one after the other, or one is refused
abbrev pub KeepsFiles : MountState → List KeptFile → Result (Unit {0}) Refusal → MountState → Type 0
KeepsFiles old kept (Ok done) new = (info_of new.blocks ≡ info_of old.blocks) × (files_of new.blocks ≡ with_files (info_of old.blocks) (files_of old.blocks) kept)
    × (IsRow old.blocks [] → Differ kept → IsRow new.blocks kept)
KeepsFiles old kept (Err refusal) new = IsRefusedOf kept refusal

-- a new volume is mounted, and has no file
abbrev pub Mounts : ℕ → Result MountState RescueFault → Type 0
Mounts count (Ok m) = IsReady m × (files_of m.blocks ≡ from_entries []) × (capacity_of m.blocks ≡ count - FIRST_FILE_BLOCK) × IsRow m.blocks []
Mounts count (Err Unread) = Unit {0}
Mounts count (Err (Image fault)) = ⊥
Mounts count (Err (Refused refusal)) = ⊥

-- a volume has the files that it had
pub record StaysSame (old new : MountState) : Type 0 where
  pub ready : IsReady new
  pub files : files_of new.blocks ≡ files_of old.blocks
  pub info : info_of new.blocks ≡ info_of old.blocks
  pub capacity : capacity_of new.blocks ≡ capacity_of old.blocks
  pub directory : directory_of new.blocks ≡ directory_of old.blocks

-- a file is put into a volume, or is refused, or a call failed
abbrev pub FitsFile : MountState → KeptFile → ℕ → Result (Option Refusal) Refusal → MountState → Type 0
FitsFile old f place (Ok None) new = AreBlocks f.words.items × HasPutWith old f.name f.info f.words.items new
FitsFile old f place (Ok (Some refusal)) new = Keeps old f place (Err refusal) new × IsOfFile refusal × StaysSame old new
FitsFile old f place (Err refusal) new = (refusal ≡ Failed place) × Keeps old f place (Err (Failed place)) new

-- what fits of some files is put into an empty volume, or memory ran out, or a call failed
abbrev pub KeepsFitting : MountState → List KeptFile → Result (Vec (Option Refusal)) RescueFault → MountState → Type 0
KeepsFitting old files (Ok refusals) new = (info_of new.blocks ≡ info_of old.blocks)
    × (files_of new.blocks ≡ with_files (info_of old.blocks) (from_entries []) (files_to_keep files refusals.items))
    × AreJudged (info_of old.blocks) (capacity_of old.blocks) [] 0 files refusals.items
    × (IsRow old.blocks [] → Differ (files_to_keep files refusals.items) → IsRow new.blocks (files_to_keep files refusals.items))
KeepsFitting old files (Err (Image fault)) new = fault ≡ image.Memory
KeepsFitting old files (Err Unread) new = ⊥
KeepsFitting old files (Err (Refused refusal)) new = HasFailedOf files refusal
