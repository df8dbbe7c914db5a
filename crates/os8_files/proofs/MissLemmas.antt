-- What a read that fails leaves, whatever the call.
use Rattle.std.proofs.Common.{◌≡◌, ℕ, ◌+◌, ◌<◌, List, Result, Ok, Err, ap, sym, ◌∙◌, arith, inl, inr}
use Rattle.os8_files.specs.Mounted.{MountState}
use Rattle.os8_files.specs.Calls.{ReadsBlock, Squeezes, HasMissed}
use Rattle.os8_dir.specs.declared.file_faults.FileFault.{FileFault}
use Rattle.os8_dir.specs.declared.file_faults.FileFault.TheVariants.{NotFound, NoRoom, DirectoryFull, Busy, BadName, TooLong, TentativeOpen, Device, Stopped, Memory, NothingWritten}
use Rattle.os8_files.specs.declared.tokens.Squeezed.{Squeezed}
use Rattle.os8_files.specs.declared.tokens.Squeezed.TheVariants.{Moved, Nothing}

none-missed : {A : Type 0} (old new : MountState) → new.failed_reads ≡ old.failed_reads → old.failed_reads < new.failed_reads → A
none-missed old new same more = absurd (omega (arith, same, more))

pub reads-missed : (old new : MountState) (name k : ℕ) (before after : List ℕ) (result : Result (Unit {0}) FileFault) → ReadsBlock old name k before result new after → old.failed_reads < new.failed_reads → HasMissed old new × (after ≡ before)
reads-missed old new name k before after (Ok done) is more = none-missed old new (ap (λ (m : MountState). m.failed_reads) is.others) more
reads-missed old new name k before after (Err NotFound) is more = none-missed old new (ap (λ (m : MountState). m.failed_reads) is.2) more
reads-missed old new name k before after (Err (NoRoom n)) is more = absurd is
reads-missed old new name k before after (Err DirectoryFull) is more = absurd is
reads-missed old new name k before after (Err (Busy n)) is more = absurd is
reads-missed old new name k before after (Err BadName) is more = absurd is
reads-missed old new name k before after (Err TooLong) is more = absurd is
reads-missed old new name k before after (Err TentativeOpen) is more = absurd is
reads-missed old new name k before after (Err Device) is more = (is.1 ∙ ap (λ n. record old { reads = n; failed_reads = old.failed_reads + 1 }) (sym (ap (λ (m : MountState). m.reads) is.1)), is.2)
reads-missed old new name k before after (Err Stopped) is more = none-missed old new (ap (λ (m : MountState). m.failed_reads) is.1) more
reads-missed old new name k before after (Err Memory) is more = absurd is
reads-missed old new name k before after (Err NothingWritten) is more = absurd is

pub squeezes-missed : (old new : MountState) (result : Result Squeezed FileFault) → Squeezes old result new → old.failed_reads < new.failed_reads → HasMissed old new
squeezes-missed old new (Ok (Moved name)) is more = none-missed old new (ap (λ (m : MountState). m.failed_reads) is.others) more
squeezes-missed old new (Ok Nothing) is more = none-missed old new (ap (λ (m : MountState). m.failed_reads) is.2) more
squeezes-missed old new (Err NotFound) is more = absurd is
squeezes-missed old new (Err (NoRoom n)) is more = absurd is
squeezes-missed old new (Err DirectoryFull) is more = none-missed old new (ap (λ (m : MountState). m.failed_reads) is.7) more
squeezes-missed old new (Err (Busy n)) is more = absurd is
squeezes-missed old new (Err BadName) is more = absurd is
squeezes-missed old new (Err TooLong) is more = absurd is
squeezes-missed old new (Err TentativeOpen) is more = none-missed old new (ap (λ (m : MountState). m.failed_reads) is.3) more
squeezes-missed old new (Err Device) is more = elim is [
  | inl missed ↦ missed.1
  | inr failed ↦ none-missed old new (ap (λ (m : MountState). m.failed_reads) failed.others) more
]
squeezes-missed old new (Err Stopped) is more = none-missed old new (ap (λ (m : MountState). m.failed_reads) is.1) more
squeezes-missed old new (Err Memory) is more = none-missed old new (ap (λ (m : MountState). m.failed_reads) is.2) more
squeezes-missed old new (Err NothingWritten) is more = absurd is
