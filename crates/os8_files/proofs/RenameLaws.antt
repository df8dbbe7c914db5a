-- What holds of a file that gets another name, as of the other calls.
use Rattle.std.proofs.Common.{◌≡◌, ◌≢◌, ◌<◌, ℕ, cond, None, Result, Ok, Err, ap, ◌∙◌, inl, inr}
use Rattle.std.specs.FinMap.{get, remove}
use Rattle.os8_dir.specs.Files.{files_of}
use Rattle.os8_files.specs.Mounted.{MountState}
use Rattle.os8_files.specs.Renames.{RenamesFile}
use Rattle.os8_files.specs.Failed.{Survives}
use Rattle.os8_files.specs.Laws.{KeepsHeld, IsStopped}
use Rattle.os8_dir.specs.declared.file_faults.FileFault.{FileFault}
use Rattle.os8_dir.specs.declared.file_faults.FileFault.TheVariants.{NotFound, NoRoom, DirectoryFull, Busy, BadName, TooLong, TentativeOpen, Device, Stopped, Memory, NothingWritten}
use Rattle.os8_files.proofs.MapLemmas.{get-without}
use Rattle.os8_files.proofs.KeptLemmas.{has-failed, blocks-same, held-other, kept-with}
use Rattle.os8_files.proofs.LeaveLemmas.{Leaves, same, broken}
use Rattle.os8_files.proofs.SurviveLemmas.{none-failed}
use Rattle.os8_files.proofs.StoppedLemmas.{running, stopped}

pub renames-keep : (old new : MountState) (name other : ℕ) (result : Result (Unit {0}) FileFault) → RenamesFile old name other result new → KeepsHeld old new
renames-keep old new name other (Ok done) is = λ q held runs.
    ap (λ m. get m q) is.files ∙ kept-with (remove (files_of old.blocks) name) other is.file q (held-other old.holds other q is.unheld held)
    ∙ get-without (files_of old.blocks) name q ∙ ap (λ b. cond b None (get (files_of old.blocks) q)) (held-other old.holds name q is.free held)
renames-keep old new name other (Err BadName) is = blocks-same old new is.2
renames-keep old new name other (Err TentativeOpen) is = blocks-same old new is.4
renames-keep old new name other (Err NotFound) is = blocks-same old new is.3
renames-keep old new name other (Err (Busy busy)) is = blocks-same old new is.4
renames-keep old new name other (Err DirectoryFull) is = blocks-same old new is.6
renames-keep old new name other (Err Device) is = has-failed old new (ap (λ (m : MountState). m.stopped) is.others)
renames-keep old new name other (Err Stopped) is = blocks-same old new is.1
renames-keep old new name other (Err Memory) is = blocks-same old new is.5
renames-keep old new name other (Err (NoRoom n)) is = absurd is
renames-keep old new name other (Err TooLong) is = absurd is
renames-keep old new name other (Err NothingWritten) is = absurd is

abbrev Third : ℕ → ℕ → ℕ → Type 0
Third name other q = (name ≢ q) × (other ≢ q)

pub renames-leave : (old new : MountState) (name other : ℕ) (result : Result (Unit {0}) FileFault) → RenamesFile old name other result new
    → Leaves old new (λ q. Third name other q) (new.reads ≡ old.reads)
renames-leave old new name other (Ok done) is = record {
  holds = (ap (λ (m : MountState). m.holds) is.others);
  running = λ runs. is.ready.running;
  places = λ q apart runs. is.places q apart.0 apart.1;
  counts = (ap (λ (m : MountState). m.reads) is.others);
}
renames-leave old new name other (Err BadName) is = same old new (λ q. Third name other q) is.2
renames-leave old new name other (Err TentativeOpen) is = same old new (λ q. Third name other q) is.4
renames-leave old new name other (Err NotFound) is = same old new (λ q. Third name other q) is.3
renames-leave old new name other (Err (Busy busy)) is = same old new (λ q. Third name other q) is.4
renames-leave old new name other (Err DirectoryFull) is = same old new (λ q. Third name other q) is.6
renames-leave old new name other (Err Device) is = broken old new (λ q. Third name other q) (ap (λ (m : MountState). m.holds) is.others) (ap (λ (m : MountState). m.stopped) is.others) (ap (λ (m : MountState). m.reads) is.others)
renames-leave old new name other (Err Stopped) is = same old new (λ q. Third name other q) is.1
renames-leave old new name other (Err Memory) is = same old new (λ q. Third name other q) is.5
renames-leave old new name other (Err (NoRoom n)) is = absurd is
renames-leave old new name other (Err TooLong) is = absurd is
renames-leave old new name other (Err NothingWritten) is = absurd is

pub renames-survive : (old new : MountState) (name other : ℕ) (result : Result (Unit {0}) FileFault) → RenamesFile old name other result new → old.failed_writes < new.failed_writes → Survives old.blocks new.blocks
renames-survive old new name other (Ok done) is more = none-failed old new (ap (λ (m : MountState). m.failed_writes) is.others) more
renames-survive old new name other (Err BadName) is more = none-failed old new (ap (λ (m : MountState). m.failed_writes) is.2) more
renames-survive old new name other (Err TentativeOpen) is more = none-failed old new (ap (λ (m : MountState). m.failed_writes) is.4) more
renames-survive old new name other (Err NotFound) is more = none-failed old new (ap (λ (m : MountState). m.failed_writes) is.3) more
renames-survive old new name other (Err (Busy busy)) is more = none-failed old new (ap (λ (m : MountState). m.failed_writes) is.4) more
renames-survive old new name other (Err DirectoryFull) is more = none-failed old new (ap (λ (m : MountState). m.failed_writes) is.6) more
renames-survive old new name other (Err Device) is more = inr (inr (inl (record { files = is.files; directory = is.written.0; part = is.written.2.part })))
renames-survive old new name other (Err Stopped) is more = none-failed old new (ap (λ (m : MountState). m.failed_writes) is.1) more
renames-survive old new name other (Err Memory) is more = none-failed old new (ap (λ (m : MountState). m.failed_writes) is.5) more
renames-survive old new name other (Err (NoRoom n)) is more = absurd is
renames-survive old new name other (Err TooLong) is more = absurd is
renames-survive old new name other (Err NothingWritten) is more = absurd is

pub renames-stopped : (old new : MountState) (name other : ℕ) (result : Result (Unit {0}) FileFault) → RenamesFile old name other result new → IsStopped old result
renames-stopped old new name other (Ok done) is = running old _ (λ e. cc) is.ready.running
renames-stopped old new name other (Err BadName) is = running old _ (λ e. cc) is.0
renames-stopped old new name other (Err TentativeOpen) is = running old _ (λ e. cc) is.0
renames-stopped old new name other (Err NotFound) is = running old _ (λ e. cc) is.0.running
renames-stopped old new name other (Err (Busy busy)) is = running old _ (λ e. cc) is.0.running
renames-stopped old new name other (Err DirectoryFull) is = running old _ (λ e. cc) is.0.running
renames-stopped old new name other (Err Device) is = running old _ (λ e. cc) is.ready.running
renames-stopped old new name other (Err Stopped) is = stopped old is.0
renames-stopped old new name other (Err Memory) is = running old _ (λ e. cc) is.0.running
renames-stopped old new name other (Err (NoRoom n)) is = absurd is
renames-stopped old new name other (Err TooLong) is = absurd is
renames-stopped old new name other (Err NothingWritten) is = absurd is
