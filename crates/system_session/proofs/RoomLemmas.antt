-- What refusals for want of room tell of the store's blocks.
use Rattle.std.proofs.Common.{◌≡◌, ℕ, Bool, true, false, List, Err, refl, sym, subst}
use Rattle.os8_files.specs.Mounted.{MountState}
use Rattle.os8_files.specs.Puts.{PutsFile, TellsRoom}
use Rattle.os8_dir.specs.declared.file_faults.FileFault.{FileFault}
use Rattle.os8_dir.specs.declared.file_faults.FileFault.TheVariants as file
use Rattle.volume_jobs.specs.Calls as calls
use Rattle.volume_jobs.specs.declared.faults.JobFault.{JobFault}
use Rattle.volume_jobs.specs.declared.faults.JobFault.TheVariants as job
use Rattle.refusals.specs.Faults.{fault_of_file}
use Rattle.refusals.specs.declared.faults.SessionFault.{SessionFault}
use Rattle.refusals.specs.declared.faults.SessionFault.TheVariants as fault
use Rattle.system_session.specs.Room.{IfFile}
use Rattle.system_session.specs.Work.{fault_of_job}

-- ## A text is stored

-- what the service refuses tells of room
put_tells : (old new : MountState) (name : ℕ) (words : List ℕ) (why : FileFault) → PutsFile old name words (Err why) new → TellsRoom old.blocks name words why
put_tells old new name words (file.NoRoom most) is = is.3
put_tells old new name words file.DirectoryFull is = is.4
put_tells old new name words file.NotFound is = tt
put_tells old new name words (file.Busy other) is = tt
put_tells old new name words file.BadName is = tt
put_tells old new name words file.TooLong is = tt
put_tells old new name words file.TentativeOpen is = tt
put_tells old new name words file.Device is = tt
put_tells old new name words file.Stopped is = tt
put_tells old new name words file.Memory is = tt
put_tells old new name words file.NothingWritten is = tt

of_file : (has : FileFault → Type 0) (why : FileFault) → has why → IfFile has (Err (fault_of_file why))
of_file has (file.NoRoom most) is = is
of_file has file.DirectoryFull is = is
of_file has file.NotFound is = is
of_file has (file.Busy other) is = is
of_file has file.BadName is = is
of_file has file.TooLong is = is
of_file has file.TentativeOpen is = is
of_file has file.Device is = is
of_file has file.Stopped is = is
of_file has file.Memory is = tt
of_file has file.NothingWritten is = is

pub store_room : (old new : MountState) (name : ℕ) (words text : List ℕ) (why : FileFault) → words ≡ text → PutsFile old name words (Err why) new → IfFile (TellsRoom old.blocks name text) (Err (fault_of_file why))
store_room old new name words text why is has = of_file (TellsRoom old.blocks name text) why (subst (λ l. TellsRoom old.blocks name l why) is (put_tells old new name words why has))

-- a text that is refused before it is put tells nothing of room
pub unstored_room : (blocks : List (List ℕ)) (name : ℕ) (words : List ℕ) (why : SessionFault) (storable halted : Bool) → (storable ≡ false → why ≡ fault.BadText) → (storable ≡ true → halted ≡ true → why ≡ fault.File file.Stopped)
    → (storable ≡ true → halted ≡ false → why ≡ fault.File (file.Busy name)) → IfFile (TellsRoom blocks name words) (Err why)
unstored_room blocks name words why false halted bad halts busy = subst (λ f. IfFile (TellsRoom blocks name words) (Err f)) (sym (bad refl)) tt
unstored_room blocks name words why true true bad halts busy = subst (λ f. IfFile (TellsRoom blocks name words) (Err f)) (sym (halts refl refl)) tt
unstored_room blocks name words why true false bad halts busy = subst (λ f. IfFile (TellsRoom blocks name words) (Err f)) (sym (busy refl refl)) tt

-- ## A job takes a turn

pub turn_room : (has : FileFault → Type 0) (why : JobFault) → calls.IfFile has (Err why) → IfFile has (Err (fault_of_job why))
turn_room has (job.File why) is = is
turn_room has job.NoJob is = tt
turn_room has job.TooManyJobs is = tt
turn_room has (job.Asm why) is = tt
turn_room has (job.Tape why) is = tt
turn_room has job.Memory is = tt
