-- What holds of putting a file, as of every call.
use Rattle.std.proofs.Common.{◌≡◌, ◌≢◌, ℕ, ◌<◌, List, [], Result, Ok, Err, ap, ◌∙◌, inl, inr}
use Rattle.std.specs.FinMap.{get}
use Rattle.os8_dir.specs.Files.{files_of}
use Rattle.os8_files.specs.Mounted.{MountState}
use Rattle.os8_files.specs.Failed.{Survives}
use Rattle.os8_files.specs.Laws.{KeepsHeld, IsStopped}
use Rattle.os8_files.specs.Puts.{PutsFile, PutsFileWith}
use Rattle.os8_dir.specs.declared.file_faults.FileFault.{FileFault}
use Rattle.os8_dir.specs.declared.file_faults.FileFault.TheVariants.{NotFound, NoRoom, DirectoryFull, Busy, BadName, TooLong, TentativeOpen, Device, Stopped, Memory, NothingWritten}
use Rattle.os8_files.proofs.LeaveLemmas.{Leaves, steady, same, broken}
use Rattle.os8_files.proofs.KeptLemmas.{same-files, has-failed, blocks-same, held-other, kept-with}
use Rattle.os8_files.proofs.StoppedLemmas.{running, stopped}
use Rattle.os8_files.proofs.SurviveLemmas.{none-failed, same-failed}

pub puts-leave : (old new : MountState) (name : ℕ) (given words : List ℕ) (result : Result (Unit {0}) FileFault) → PutsFileWith old name given words result new → Leaves old new (λ q. name ≢ q) (new.reads ≡ old.reads)
puts-leave old new name given words (Ok done) is = record { holds = ap (λ (m : MountState). m.holds) is.others; running = λ runs. is.ready.running; places = is.places; counts = ap (λ (m : MountState). m.reads) is.others }
puts-leave old new name given words (Err NotFound) is = absurd is
puts-leave old new name given words (Err (NoRoom n)) is = same old new (λ q. name ≢ q) is.4
puts-leave old new name given words (Err DirectoryFull) is = steady old new (λ q. name ≢ q) (new.reads ≡ old.reads) (ap (λ (m : MountState). m.holds) is.3.others) (ap (λ (m : MountState). m.stopped) is.3.others) is.3.kept.directory (ap (λ (m : MountState). m.reads) is.3.others)
puts-leave old new name given words (Err (Busy n)) is = same old new (λ q. name ≢ q) is.3
puts-leave old new name given words (Err BadName) is = absurd is
puts-leave old new name given words (Err TooLong) is = absurd is
puts-leave old new name given words (Err TentativeOpen) is = absurd is
puts-leave old new name given words (Err Device) is = broken old new (λ q. name ≢ q) (ap (λ (m : MountState). m.holds) is.others) (ap (λ (m : MountState). m.stopped) is.others) (ap (λ (m : MountState). m.reads) is.others)
puts-leave old new name given words (Err Stopped) is = same old new (λ q. name ≢ q) is.1
puts-leave old new name given words (Err Memory) is = steady old new (λ q. name ≢ q) (new.reads ≡ old.reads) (ap (λ (m : MountState). m.holds) is.2.others) (ap (λ (m : MountState). m.stopped) is.2.others) is.2.kept.directory (ap (λ (m : MountState). m.reads) is.2.others)
puts-leave old new name given words (Err NothingWritten) is = absurd is

pub puts-keep : (old new : MountState) (name : ℕ) (given words : List ℕ) (result : Result (Unit {0}) FileFault) → PutsFileWith old name given words result new → KeepsHeld old new
puts-keep old new name given words (Ok done) is = λ q held runs. ap (λ m. get m q) is.files ∙ kept-with (files_of old.blocks) name _ q (held-other old.holds name q is.free held)
puts-keep old new name given words (Err NotFound) is = absurd is
puts-keep old new name given words (Err (NoRoom n)) is = blocks-same old new is.4
puts-keep old new name given words (Err DirectoryFull) is = same-files old new is.3.files
puts-keep old new name given words (Err (Busy n)) is = blocks-same old new is.3
puts-keep old new name given words (Err BadName) is = absurd is
puts-keep old new name given words (Err TooLong) is = absurd is
puts-keep old new name given words (Err TentativeOpen) is = absurd is
puts-keep old new name given words (Err Device) is = has-failed old new (ap (λ (m : MountState). m.stopped) is.others)
puts-keep old new name given words (Err Stopped) is = blocks-same old new is.1
puts-keep old new name given words (Err Memory) is = same-files old new is.2.files
puts-keep old new name given words (Err NothingWritten) is = absurd is

pub puts-survive : (old new : MountState) (name : ℕ) (given words : List ℕ) (result : Result (Unit {0}) FileFault) → PutsFileWith old name given words result new → old.failed_writes < new.failed_writes → Survives old.blocks new.blocks
puts-survive old new name given words (Ok done) is more = none-failed old new (ap (λ (m : MountState). m.failed_writes) is.others) more
puts-survive old new name given words (Err NotFound) is more = absurd is
puts-survive old new name given words (Err (NoRoom n)) is more = same-failed old new is.4 more
puts-survive old new name given words (Err DirectoryFull) is more = none-failed old new (ap (λ (m : MountState). m.failed_writes) is.3.others) more
puts-survive old new name given words (Err (Busy n)) is more = same-failed old new is.3 more
puts-survive old new name given words (Err BadName) is more = absurd is
puts-survive old new name given words (Err TooLong) is more = absurd is
puts-survive old new name given words (Err TentativeOpen) is more = absurd is
puts-survive old new name given words (Err Device) is more = elim is.failed [
  | inl file ↦ inl file.files
  | inr entry ↦ inr (inr (inl (record { files = entry.older; directory = entry.directory; part = entry.written.part })))
]
puts-survive old new name given words (Err Stopped) is more = same-failed old new is.1 more
puts-survive old new name given words (Err Memory) is more = none-failed old new (ap (λ (m : MountState). m.failed_writes) is.2.others) more
puts-survive old new name given words (Err NothingWritten) is more = absurd is

pub puts-stopped : (old new : MountState) (name : ℕ) (given words : List ℕ) (result : Result (Unit {0}) FileFault) → PutsFileWith old name given words result new → IsStopped old result
puts-stopped old new name given words (Ok done) is = running old _ (λ e. cc) is.ready.running
puts-stopped old new name given words (Err NotFound) is = absurd is
puts-stopped old new name given words (Err (NoRoom n)) is = running old _ (λ e. cc) is.0.running
puts-stopped old new name given words (Err DirectoryFull) is = running old _ (λ e. cc) is.0.running
puts-stopped old new name given words (Err (Busy n)) is = running old _ (λ e. cc) is.0.running
puts-stopped old new name given words (Err BadName) is = absurd is
puts-stopped old new name given words (Err TooLong) is = absurd is
puts-stopped old new name given words (Err TentativeOpen) is = absurd is
puts-stopped old new name given words (Err Device) is = running old _ (λ e. cc) is.ready.running
puts-stopped old new name given words (Err Stopped) is = stopped old is.0
puts-stopped old new name given words (Err Memory) is = running old _ (λ e. cc) is.0.running
puts-stopped old new name given words (Err NothingWritten) is = absurd is

-- ## With no information word given

pub plain-puts : (old new : MountState) (name : ℕ) (words : List ℕ) (result : Result (Unit {0}) FileFault) → PutsFileWith old name [] words result new → PutsFile old name words result new
plain-puts old new name words (Ok done) is = is
plain-puts old new name words (Err NotFound) is = is
plain-puts old new name words (Err (NoRoom n)) is = is
plain-puts old new name words (Err DirectoryFull) is = is
plain-puts old new name words (Err (Busy n)) is = is
plain-puts old new name words (Err BadName) is = is
plain-puts old new name words (Err TooLong) is = is
plain-puts old new name words (Err TentativeOpen) is = is
plain-puts old new name words (Err Device) is = is
plain-puts old new name words (Err Stopped) is = is
plain-puts old new name words (Err Memory) is = is
plain-puts old new name words (Err NothingWritten) is = is

pub puts-plain : (old new : MountState) (name : ℕ) (words : List ℕ) (result : Result (Unit {0}) FileFault) → PutsFile old name words result new → PutsFileWith old name [] words result new
puts-plain old new name words (Ok done) is = is
puts-plain old new name words (Err NotFound) is = is
puts-plain old new name words (Err (NoRoom n)) is = is
puts-plain old new name words (Err DirectoryFull) is = is
puts-plain old new name words (Err (Busy n)) is = is
puts-plain old new name words (Err BadName) is = is
puts-plain old new name words (Err TooLong) is = is
puts-plain old new name words (Err TentativeOpen) is = is
puts-plain old new name words (Err Device) is = is
puts-plain old new name words (Err Stopped) is = is
puts-plain old new name words (Err Memory) is = is
puts-plain old new name words (Err NothingWritten) is = is
