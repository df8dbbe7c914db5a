-- What holds of every call of the file service.
use Rattle.std.specs.Prelude.{◌≡◌, ◌≢◌, ◌↔◌, ◌⊎◌, ◌≤◌, ℕ, true, false, List, [], ◌∷◌, Option, Some, Result, Ok, Err}
use Rattle.os8_dir.specs.declared.file_faults.FileFault.{FileFault}
use Rattle.os8_dir.specs.declared.file_faults.FileFault.TheVariants.{Stopped}
use Rattle.std.specs.FinMap.{get}
use Rattle.os8_dir.specs.Reading.{directory_of}
use Rattle.os8_dir.specs.Files.{files_of}
use Rattle.volume_image.specs.Volume.{next_count}
use Rattle.os8_files.specs.Mounted.{MountState}
use Rattle.os8_files.specs.Failed.{extent_or, lowest_or}
use Rattle.os8_files.specs.Calls.{IsHeld, counted_more}
use Rattle.os8_files.specs.declared.tokens.Squeezed.{Squeezed}
use Rattle.os8_files.specs.declared.tokens.Squeezed.TheVariants.{Moved, Nothing}

-- a file that is held keeps its information words and its words, until a write fails
abbrev pub KeepsHeld : MountState → MountState → Type 0
KeepsHeld old new = (name : ℕ) → IsHeld old name → new.stopped ≡ false → get (files_of new.blocks) name ≡ get (files_of old.blocks) name

-- a call answers Stopped just where a write has failed before
abbrev pub IsStopped : {A : Type 0} → MountState → Result A FileFault → Type 0
IsStopped old result = (result ≡ Err Stopped) ↔ (old.stopped ≡ true)

-- A call takes and releases no hold, a service that has stopped stays so, and files that are held keep their words.
pub record KeepsHolds (old new : MountState) : Type 0 where
  pub holds : new.holds ≡ old.holds
  pub running : new.stopped ≡ false → old.stopped ≡ false
  pub held : KeepsHeld old new

-- A file is held in each of these states but perhaps the last. Each follows from the one before by a call after which
-- files that are held have their words.
abbrev pub IsHeldThrough : ℕ → MountState → List MountState → MountState → Type 0
IsHeldThrough name first [] last = first ≡ last
IsHeldThrough name first (next ∷ others) last = IsHeld first name × (next.stopped ≡ false → first.stopped ≡ false) × KeepsHeld first next × IsHeldThrough name next others last

-- where the file of a name lies on a volume: its first block and its length
abbrev pub extent_on : MountState → ℕ → Option (ℕ × ℕ)
extent_on m name = extent_or name (directory_of m.blocks)

-- files stay in their places, until a write fails
abbrev pub KeepsPlaces : MountState → MountState → Type 0
KeepsPlaces old new = (name : ℕ) → new.stopped ≡ false → extent_on new name ≡ extent_on old name

-- the same of all files but that of one name
abbrev pub KeepsOtherPlaces : ℕ → MountState → MountState → Type 0
KeepsOtherPlaces name old new = (other : ℕ) → name ≢ other → new.stopped ≡ false → extent_on new other ≡ extent_on old other

-- a turn of squeezing changes the place of the file that it answers, and of no other
abbrev pub MovesOne : MountState → Result Squeezed FileFault → MountState → Type 0
MovesOne old (Ok (Moved name)) new = KeepsOtherPlaces name old new
MovesOne old (Ok Nothing) new = KeepsPlaces old new
MovesOne old (Err fault) new = KeepsPlaces old new

-- at most one block was read
abbrev pub ReadsOne : MountState → MountState → Type 0
ReadsOne old new = (new.reads ≡ old.reads) ⊎ (new.reads ≡ next_count old.reads)

-- the lowest file with an empty directly below it was read, each block at most once
pub record ReadsLowest (old new : MountState) : Type 0 where
  pub name : ℕ
  pub gap : ℕ
  pub lowest : lowest_or (directory_of old.blocks) ≡ Some (name, gap)
  pub place : ℕ
  pub size : ℕ
  pub extent : extent_on old name ≡ Some (place, size)
  pub number : ℕ
  pub few : number ≤ size
  pub reads : new.reads ≡ counted_more number old.reads
