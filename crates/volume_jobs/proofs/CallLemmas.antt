-- What the calls that a turn makes read and move.
use Rattle.std.proofs.Common.{◌≡◌, ◌∙◌, ℕ, List, Result, Ok, Err, ap, sym, inl, inr}
use Rattle.std.specs.Prelude.{◌⊎◌}
use Rattle.os8_dir.specs.Reading.{directory_of}
use Rattle.os8_files.specs.Calls.{Squeezes}
use Rattle.os8_files.specs.Failed.{extent_or}
use Rattle.os8_files.specs.Laws.{KeepsPlaces, KeepsOtherPlaces, MovesOne, ReadsLowest}
use Rattle.os8_files.specs.Mounted.{MountState}
use Rattle.os8_files.specs.Puts.{PutsFile}
use Rattle.os8_dir.specs.declared.file_faults.FileFault.{FileFault}
use Rattle.os8_files.specs.declared.tokens.Squeezed.{Squeezed}
use Rattle.os8_files.specs.declared.tokens.Squeezed.TheVariants.{Moved, Nothing}
use Rattle.volume_jobs.specs.Calls.{WorkCalls, ReadsFew, MovesFew}
use Rattle.volume_jobs.specs.Settled.{work_of}
use Rattle.volume_jobs.specs.declared.kinds.Work.{Work}
use Rattle.volume_jobs.specs.declared.kinds.Work.TheVariants as work

abbrev pub PutReads : Type 0
PutReads = (old new : MountState) (name : ℕ) (words : List ℕ) (result : Result (Unit {0}) FileFault) → PutsFile old name words result new → new.reads ≡ old.reads

abbrev pub SqueezeReads : Type 0
SqueezeReads = (old new : MountState) (result : Result Squeezed FileFault) → Squeezes old result new → (new.reads ≡ old.reads) ⊎ ReadsLowest old new

abbrev pub PutPlaces : Type 0
PutPlaces = (old new : MountState) (name : ℕ) (words : List ℕ) (result : Result (Unit {0}) FileFault) → PutsFile old name words result new → KeepsOtherPlaces name old new

abbrev pub SqueezePlaces : Type 0
SqueezePlaces = (old new : MountState) (result : Result Squeezed FileFault) → Squeezes old result new → MovesOne old result new

pub reads_few : PutReads → SqueezeReads → (old new : MountState) (it : Work) (left : ℕ) → WorkCalls it left old new → ReadsFew (work_of it) old new
reads_few put squeeze old new (work.Assembling a) left calls = elim calls [
  | inl read ↦ read.1
  | inr puts ↦ inl (ap (λ (m : MountState). m.reads) puts.1.4 ∙ put old puts.1.2 a.to puts.1.0 puts.1.1 puts.1.3)
]
reads_few put squeeze old new (work.Loading l) left calls = calls.1
reads_few put squeeze old new (work.Squeezing clean) left calls = squeeze old new calls.0 calls.1

-- the directory is the same
same_places : (old new : MountState) → new.blocks ≡ old.blocks → KeepsPlaces old new
same_places old new same name still = ap (λ x. extent_or name (directory_of x)) same

-- one file at most is moved
one_moved : (old new : MountState) (call : Result Squeezed FileFault) → MovesOne old call new → (name : ℕ) × KeepsOtherPlaces name old new
one_moved old new (Ok (Moved name)) moves = (name, moves)
one_moved old new (Ok Nothing) keeps = (0, λ other differ still. keeps other still)
one_moved old new (Err why) keeps = (0, λ other differ still. keeps other still)

pub moves_few : PutPlaces → SqueezePlaces → (old new : MountState) (it : Work) (left : ℕ) → WorkCalls it left old new → MovesFew (work_of it) old new
moves_few put squeeze old new (work.Assembling a) left calls = elim calls [
  | inl read ↦ λ other differ still. same_places old new read.0 other still
  | inr puts ↦ λ other differ still.
      ap (λ (m : MountState). extent_or other (directory_of m.blocks)) puts.1.4
      ∙ put old puts.1.2 a.to puts.1.0 puts.1.1 puts.1.3 other differ (sym (ap (λ (m : MountState). m.stopped) puts.1.4) ∙ still)
]
moves_few put squeeze old new (work.Loading l) left calls = same_places old new calls.0
moves_few put squeeze old new (work.Squeezing clean) left calls = one_moved old new calls.0 (squeeze old new calls.0 calls.1)
