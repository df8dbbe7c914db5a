-- The result of taking files out of an image.
use Rattle.std.specs.Prelude.{◌≡◌, ℕ, ◌<◌, false, Some, Result, Ok, Err, List, [], ◌∷◌, ◌++◌, length}
use Rattle.std.specs.FinMap.{remove}
use Rattle.volume_image.specs.Image.{IsImageOf}
use Rattle.os8_dir.specs.Entries.{contains}
use Rattle.os8_dir.specs.Files.{Files, files_of, limit_of}
use Rattle.os8_files.specs.Mounted.{MountState}
use Rattle.os8_files.specs.Calls.{HasDeleted, IsThere, KeepsBlocks, entries_without}
use Rattle.os8_files.specs.Laws.{extent_on}
use Rattle.os8_dir.specs.declared.file_faults.FileFault.{FileFault}
use Rattle.os8_dir.specs.declared.file_faults.FileFault.TheVariants.{BadName, NotFound, DirectoryFull}
use Rattle.archive_files.specs.declared.faults.DeleteFault.{DeleteFault}
use Rattle.archive_files.specs.declared.faults.DeleteFault.TheVariants.{Archive, Name}
use Rattle.archive_files.specs.declared.deleting.DeletedImage.{DeletedImage}
use Rattle.archive_files.specs.Asking.{Target, asked_name, AreAsked, IsBadName, IsMissing}
use Rattle.archive_files.specs.Opening.{IsUnopened}
use Rattle.archive_files.specs.Putting.{IsMounted}

-- the files of these names are taken out one after the other, each of which is there when its turn comes
abbrev pub AreDeleted : MountState → List ℕ → MountState → Type 0
AreDeleted old [] new = new ≡ old
AreDeleted old (name ∷ names) new = (next : MountState) × HasDeleted old name next × AreDeleted next names new

-- some files without those of these names
abbrev pub without : Files → List ℕ → Files
without files [] = files
without files (name ∷ names) = without (remove files name) names

-- The new image is that of the volume without the files that were wanted of it, whose names are answered. All others keep their
-- words, their information words and their places. Block 0 and all blocks after the directory's, from 7 on, keep their words.
pub record HasDeletedFrom (image : List ℕ) (wanted : List Target) (new : DeletedImage) : Type 0 where
  pub before : MountState
  pub after : MountState
  pub mounted : IsMounted image before
  pub named : AreAsked before.blocks wanted new.names.items
  pub deleted : AreDeleted before new.names.items after
  pub files : files_of after.blocks ≡ without (files_of before.blocks) new.names.items
  pub places : (other : ℕ) → contains new.names.items other ≡ false → extent_on after other ≡ extent_on before other
  pub blocks : KeepsBlocks before.blocks after.blocks 0 0
  pub is_image : IsImageOf new.bytes.items after.blocks

-- a file that was wanted of a volume isn't taken out now: what was typed is no name, it isn't there, or the directory without it has too
-- many entries
abbrev pub IsRefusedName : List (List ℕ) → MountState → Target → FileFault → Type 0
IsRefusedName was m wanted BadName = IsBadName wanted
IsRefusedName was m wanted NotFound = IsMissing was m.blocks wanted
IsRefusedName was m wanted DirectoryFull = (number : ℕ) × (asked_name was wanted ≡ Some number) × IsThere m number × (limit_of m.blocks < entries_without number m.blocks)
IsRefusedName was m wanted fault = ⊥

-- the first that is refused has this place among those wanted, counted from 0: the files of those before it could be taken out
pub record IsRefusedAt (was : List (List ℕ)) (before : MountState) (wanted : List Target) (place : ℕ) (fault : FileFault) : Type 0 where
  pub prefix : List Target
  pub one : Target
  pub following : List Target
  pub wanted_are : wanted ≡ prefix ++ one ∷ following
  pub place_is : place ≡ length prefix
  pub numbers : List ℕ
  pub named : AreAsked was prefix numbers
  pub next : MountState
  pub deleted : AreDeleted before numbers next
  pub refused : IsRefusedName was next one fault

abbrev pub DeletesFiles : List ℕ → List Target → Result DeletedImage DeleteFault → Type 0
DeletesFiles image wanted (Ok new) = HasDeletedFrom image wanted new
DeletesFiles image wanted (Err (Archive fault)) = IsUnopened image fault
DeletesFiles image wanted (Err (Name place fault)) = (before : MountState) × IsMounted image before × IsRefusedAt before.blocks before wanted place fault
