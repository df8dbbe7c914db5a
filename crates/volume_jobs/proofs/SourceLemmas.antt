-- The blocks of sources that are held.
use Rattle.std.proofs.Common.{◌≡◌, ◌∙◌, ℕ, zero, suc, ◌*◌, ◌<◌, false, true≢false, Some, None, List, [], ◌∷◌, length, take, drop, get_or, Err, refl, ap, sym, arith}
use Rattle.std.specs.FinMap.{get}
use Rattle.os8_dir.specs.Files.{Files, FileData, files_of}
use Rattle.os8_files.specs.Calls.{ReadsBlock, HasRead}
use Rattle.os8_files.specs.Mounted.{MountState}
use Rattle.os8_files.specs.Service as service
use Rattle.os8_dir.specs.declared.file_faults.FileFault.{FileFault}
use Rattle.os8_dir.specs.declared.file_faults.FileFault.TheVariants as file
use Rattle.pal_faults.specs.declared.assembling.AsmFault.{AsmFault}
use Rattle.pal_faults.specs.declared.assembling.AsmFault.TheVariants as asm
use Rattle.pal_blocks.specs.Blocks.{blocks_in}
use Rattle.pal_blocks.specs.Progress.{block_of}
use Rattle.pal_blocks.specs.Turns.{TakesBlock}
use Rattle.pal_blocks.specs.declared.assembling.Due.{Due}
use Rattle.volume_jobs.specs.Faults.{fault_of_asm, fault_of_file}
use Rattle.volume_jobs.specs.Steps.{HasReadOne, ReadsSource}
use Rattle.volume_jobs.specs.State.{words_or, words_in, AreIn}
use Rattle.volume_jobs.specs.declared.assembly.Assembly.{Assembly}

pub words_count : (files : Files) (names : List ℕ) → length (words_in files names) ≡ length names
words_count files [] = refl
words_count files (name ∷ names) = ap suc (words_count files names)

-- a source among others
pub source_at : (files : Files) (names : List ℕ) (k : ℕ) → AreIn files names → k < length names → (held : FileData) × (get files (get_or names k 0) ≡ Some held) × (get_or (words_in files names) k [] ≡ held.1)
source_at files [] k there inside = absurd (omega (arith, inside))
source_at files (name ∷ names) zero there inside = (there.0.0, there.0.1, ap words_or there.0.1)
source_at files (name ∷ names) (suc k) there inside = source_at files names k there.1 (omega (arith, inside))

some_is : (a b : ℕ) → Some a ≡ Some b → a ≡ b
some_is a b is = cc

same_held : (a b : FileData) → Some a ≡ Some b → a ≡ b
same_held a b is = cc

-- the block that is due is one of its file
pub block_inside : (files : Files) (names : List ℕ) (k b size name : ℕ) → name ≡ get_or names k 0 → AreIn files names → k < length (words_in files names) → b < blocks_in (get_or (words_in files names) k []) → service.blocks_of (get files name) ≡ Some size → b < size
block_inside files names k b size name named there inside low is = omega (arith, low, ap blocks_in at.2, size_is)
  where
    at : (held : FileData) × (get files (get_or names k 0) ≡ Some held) × (get_or (words_in files names) k [] ≡ held.1)
    at = source_at files names k there (omega (arith, inside, words_count files names))

    size_is : size ≡ blocks_in at.0.1
    size_is = some_is _ _ (sym is ∙ ap (λ n. service.blocks_of (get files n)) named ∙ ap service.blocks_of at.1)

-- what was read is the block that is due
pub source_read : (old new : MountState) (names : List ℕ) (due : Due) (name : ℕ) (block : List ℕ) → name ≡ get_or names due.source 0 → AreIn (files_of old.blocks) names → due.source < length (words_in (files_of old.blocks) names) → HasRead old name due.block block new
    → block ≡ block_of (words_in (files_of old.blocks) names) due
source_read old new names due name block named there inside read =
    read.block
    ∙ ap (λ (h : FileData). take 256 (drop (256 * due.block) h.1)) (same_held _ _ (sym read.there ∙ ap (get (files_of old.blocks)) named ∙ at.1))
    ∙ ap (λ w. take 256 (drop (256 * due.block) w)) (sym at.2)
  where
    at : (held : FileData) × (get (files_of old.blocks) (get_or names due.source 0) ≡ Some held) × (get_or (words_in (files_of old.blocks) names) due.source [] ≡ held.1)
    at = source_at (files_of old.blocks) names due.source there (omega (arith, inside, words_count (files_of old.blocks) names))

-- a block was read, and was not taken
pub not_taken : (sources : List (List ℕ)) (old new : MountState) (left : ℕ) (why : AsmFault) (it : Assembly) → HasReadOne old new → TakesBlock sources left (Err why) it.assembling → ReadsSource sources old left (Err (fault_of_asm why)) new it
not_taken sources old new left (asm.At code line) it one takes = (one, takes)
not_taken sources old new left asm.Memory it one takes = (one, takes)

-- a block was not read
pub not_read : (old new : MountState) (names : List ℕ) (k number name left : ℕ) (before after : List ℕ) (why : FileFault) (it : Assembly) → old.stopped ≡ false → name ≡ get_or names k 0 → AreIn (files_of old.blocks) names → k < length (words_in (files_of old.blocks) names)
    → ReadsBlock old name number before (Err why) new after → ReadsSource (words_in (files_of old.blocks) names) old left (Err (fault_of_file why)) new it
not_read old new names k number name left before after file.NotFound it running named there inside read = absurd (never (sym at.1 ∙ ap (get (files_of old.blocks)) (sym named) ∙ read.1))
  where
    at : (held : FileData) × (get (files_of old.blocks) (get_or names k 0) ≡ Some held) × (get_or (words_in (files_of old.blocks) names) k [] ≡ held.1)
    at = source_at (files_of old.blocks) names k there (omega (arith, inside, words_count (files_of old.blocks) names))

    never : {h : FileData} → Some h ≡ None → ⊥
    never e = cc
not_read old new names k number name left before after file.Device it running named there inside read = (read.0, read.1)
not_read old new names k number name left before after file.Stopped it running named there inside read = absurd (true≢false (sym read.0 ∙ running))
not_read old new names k number name left before after (file.NoRoom n) it running named there inside read = absurd read
not_read old new names k number name left before after file.DirectoryFull it running named there inside read = absurd read
not_read old new names k number name left before after (file.Busy n) it running named there inside read = absurd read
not_read old new names k number name left before after file.BadName it running named there inside read = absurd read
not_read old new names k number name left before after file.TooLong it running named there inside read = absurd read
not_read old new names k number name left before after file.TentativeOpen it running named there inside read = absurd read
not_read old new names k number name left before after file.Memory it running named there inside read = absurd read
not_read old new names k number name left before after file.NothingWritten it running named there inside read = absurd read
