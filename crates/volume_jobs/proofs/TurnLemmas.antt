-- Turns of jobs over the volume.
use Rattle.std.proofs.Common.{◌≡◌, ◌∙◌, ℕ, ◌*◌, Some, List, take, drop, Result, Ok, Err, ap, sym}
use Rattle.os8_dir.specs.Files.{FileData, files_of}
use Rattle.os8_files.specs.Mounted.{MountState}
use Rattle.os8_files.specs.Calls.{HasRead}
use Rattle.pal_blocks.specs.Blocks.{block_at}
use Rattle.volume_jobs.specs.Reading.{HasWords, IsLoading}
use Rattle.volume_jobs.specs.Steps.{ReadsBlock, HasReadOne, LoadsOn}
use Rattle.volume_jobs.specs.declared.loading.Loading.{Loading}
use Rattle.volume_jobs.specs.declared.faults.JobFault.{JobFault}
use Rattle.volume_jobs.specs.declared.faults.JobFault.TheVariants as fault

same_held : (a b : FileData) → Some a ≡ Some b → a ≡ b
same_held a b is = cc

-- the words that were read are the next block of the file
read_is : (words : List ℕ) (old new : MountState) (name k : ℕ) (block : List ℕ) → HasWords (files_of old.blocks) name words → HasRead old name k block new → block ≡ block_at k words
read_is words old new name k block has read =
    read.block ∙ ap (λ (h : FileData). take 256 (drop (256 * k) h.1)) (same_held _ _ (sym read.there ∙ has.1))

pub loads_on : (words : List ℕ) (old new : MountState) (job job2 : Loading) (left : ℕ) (block : List ℕ) (r : Result (Unit {0}) JobFault) → HasWords (files_of old.blocks) job.hold words → IsLoading words job left
    → HasRead old job.hold job.blocks_read block new → (block ≡ block_at job.blocks_read words → ReadsBlock words job left r job2) → LoadsOn words old job left r new job2
loads_on words old new job job2 left block r has is read reads = by_answer r (reads (read_is words old new job.hold job.blocks_read block has read))
  where
    one : HasReadOne old new
    one = (read.running, read.others)

    by_answer : (a : Result (Unit {0}) JobFault) → ReadsBlock words job left a job2 → LoadsOn words old job left a new job2
    by_answer (Ok done) it = (one, it)
    by_answer (Err fault.Memory) it = (one, it)
    by_answer (Err (fault.Tape why)) it = (one, it)
    by_answer (Err (fault.File why)) it = absurd it
    by_answer (Err fault.NoJob) it = absurd it
    by_answer (Err fault.TooManyJobs) it = absurd it
    by_answer (Err (fault.Asm why)) it = absurd it
