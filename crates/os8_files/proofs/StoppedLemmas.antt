-- A call answers Stopped just where a write has failed before.
use Rattle.std.proofs.Common.{◌≡◌, ℕ, true, false, true≢false, List, Result, Ok, Err, refl, sym, ◌∙◌, inl, inr}
use Rattle.std.specs.Global.{Vec}
use Rattle.os8_files.specs.Mounted.{MountState}
use Rattle.os8_files.specs.Laws.{IsStopped}
use Rattle.os8_files.specs.Calls.{ReadsBlock, ListsFiles, HoldsFile, Enters, WritesBlock, ClosesFile, DeletesFile, Squeezes}
use Rattle.os8_dir.specs.declared.file_faults.FileFault.{FileFault}
use Rattle.os8_dir.specs.declared.file_faults.FileFault.TheVariants.{NotFound, NoRoom, DirectoryFull, Busy, BadName, TooLong, TentativeOpen, Device, Stopped, Memory, NothingWritten}
use Rattle.os8_files.specs.declared.tokens.Squeezed.{Squeezed}
use Rattle.os8_files.specs.declared.tokens.Squeezed.TheVariants.{Moved, Nothing}

pub running : {A : Type 0} (old : MountState) (result : Result A FileFault) → (result ≡ Err Stopped → ⊥) → old.stopped ≡ false → IsStopped old result
running old result other runs = ((λ is. absurd (other is)), (λ is. absurd (true≢false (sym is ∙ runs))))

pub stopped : {A : Type 0} (old : MountState) → old.stopped ≡ true → IsStopped {A = A} old (Err Stopped)
stopped old is = ((λ answer. is), (λ was. refl))

pub reads-stopped : (old new : MountState) (name k : ℕ) (before after : List ℕ) (result : Result (Unit {0}) FileFault) → ReadsBlock old name k before result new after → IsStopped old result
reads-stopped old new name k before after (Ok done) is = running old _ (λ e. cc) is.running
reads-stopped old new name k before after (Err NotFound) is = running old _ (λ e. cc) is.0
reads-stopped old new name k before after (Err (NoRoom n)) is = absurd is
reads-stopped old new name k before after (Err DirectoryFull) is = absurd is
reads-stopped old new name k before after (Err (Busy n)) is = absurd is
reads-stopped old new name k before after (Err BadName) is = absurd is
reads-stopped old new name k before after (Err TooLong) is = absurd is
reads-stopped old new name k before after (Err TentativeOpen) is = absurd is
reads-stopped old new name k before after (Err Device) is = running old _ (λ e. cc) is.0
reads-stopped old new name k before after (Err Stopped) is = stopped old is.0
reads-stopped old new name k before after (Err Memory) is = absurd is
reads-stopped old new name k before after (Err NothingWritten) is = absurd is

pub lists-stopped : (old : MountState) (result : Result (Vec (ℕ × ℕ)) FileFault) → ListsFiles old result → IsStopped old result
lists-stopped old (Ok list) is = running old _ (λ e. cc) is.0
lists-stopped old (Err NotFound) is = absurd is
lists-stopped old (Err (NoRoom n)) is = absurd is
lists-stopped old (Err DirectoryFull) is = absurd is
lists-stopped old (Err (Busy n)) is = absurd is
lists-stopped old (Err BadName) is = absurd is
lists-stopped old (Err TooLong) is = absurd is
lists-stopped old (Err TentativeOpen) is = absurd is
lists-stopped old (Err Device) is = absurd is
lists-stopped old (Err Stopped) is = stopped old is
lists-stopped old (Err Memory) is = running old _ (λ e. cc) is
lists-stopped old (Err NothingWritten) is = absurd is

pub holds-stopped : (old new : MountState) (name : ℕ) (result : Result ℕ FileFault) → HoldsFile old name result new → IsStopped old result
holds-stopped old new name (Ok hold) is = running old _ (λ e. cc) is.running
holds-stopped old new name (Err NotFound) is = running old _ (λ e. cc) is.0
holds-stopped old new name (Err (NoRoom n)) is = absurd is
holds-stopped old new name (Err DirectoryFull) is = absurd is
holds-stopped old new name (Err (Busy n)) is = absurd is
holds-stopped old new name (Err BadName) is = absurd is
holds-stopped old new name (Err TooLong) is = absurd is
holds-stopped old new name (Err TentativeOpen) is = absurd is
holds-stopped old new name (Err Device) is = absurd is
holds-stopped old new name (Err Stopped) is = stopped old is.0
holds-stopped old new name (Err Memory) is = running old _ (λ e. cc) is.0
holds-stopped old new name (Err NothingWritten) is = absurd is

pub enters-stopped : (old new : MountState) (name wish : ℕ) (result : Result ℕ FileFault) → Enters old name wish result new → IsStopped old result
enters-stopped old new name wish (Ok token) is = running old _ (λ e. cc) is.ready.running
enters-stopped old new name wish (Err NotFound) is = absurd is
enters-stopped old new name wish (Err (NoRoom n)) is = running old _ (λ e. cc) is.0.running
enters-stopped old new name wish (Err DirectoryFull) is = absurd is
enters-stopped old new name wish (Err (Busy n)) is = running old _ (λ e. cc) is.0.running
enters-stopped old new name wish (Err BadName) is = running old _ (λ e. cc) is.0
enters-stopped old new name wish (Err TooLong) is = absurd is
enters-stopped old new name wish (Err TentativeOpen) is = running old _ (λ e. cc) is.0
enters-stopped old new name wish (Err Device) is = absurd is
enters-stopped old new name wish (Err Stopped) is = stopped old is.0
enters-stopped old new name wish (Err Memory) is = absurd is
enters-stopped old new name wish (Err NothingWritten) is = absurd is

pub writes-stopped : (old new : MountState) (words : List ℕ) (result : Result (Unit {0}) FileFault) → WritesBlock old words result new → IsStopped old result
writes-stopped old new words (Ok done) is = running old _ (λ e. cc) is.running
writes-stopped old new words (Err NotFound) is = absurd is
writes-stopped old new words (Err (NoRoom n)) is = absurd is
writes-stopped old new words (Err DirectoryFull) is = absurd is
writes-stopped old new words (Err (Busy n)) is = absurd is
writes-stopped old new words (Err BadName) is = absurd is
writes-stopped old new words (Err TooLong) is = running old _ (λ e. cc) is.0
writes-stopped old new words (Err TentativeOpen) is = absurd is
writes-stopped old new words (Err Device) is = running old _ (λ e. cc) is.running
writes-stopped old new words (Err Stopped) is = stopped old is.0
writes-stopped old new words (Err Memory) is = absurd is
writes-stopped old new words (Err NothingWritten) is = absurd is

pub closes-stopped : (old new : MountState) (name : ℕ) (info : List ℕ) (result : Result (Unit {0}) FileFault) → ClosesFile old name info result new → IsStopped old result
closes-stopped old new name info (Ok done) is = running old _ (λ e. cc) is.running
closes-stopped old new name info (Err NotFound) is = absurd is
closes-stopped old new name info (Err (NoRoom n)) is = absurd is
closes-stopped old new name info (Err DirectoryFull) is = running old _ (λ e. cc) is.1.running
closes-stopped old new name info (Err (Busy n)) is = running old _ (λ e. cc) is.1.running
closes-stopped old new name info (Err BadName) is = absurd is
closes-stopped old new name info (Err TooLong) is = absurd is
closes-stopped old new name info (Err TentativeOpen) is = absurd is
closes-stopped old new name info (Err Device) is = running old _ (λ e. cc) is.1.running
closes-stopped old new name info (Err Stopped) is = stopped old is.0
closes-stopped old new name info (Err Memory) is = running old _ (λ e. cc) is.1.running
closes-stopped old new name info (Err NothingWritten) is = running old _ (λ e. cc) is.1.running

pub deletes-stopped : (old new : MountState) (name : ℕ) (result : Result (Unit {0}) FileFault) → DeletesFile old name result new → IsStopped old result
deletes-stopped old new name (Ok done) is = running old _ (λ e. cc) is.ready.running
deletes-stopped old new name (Err NotFound) is = running old _ (λ e. cc) is.0.running
deletes-stopped old new name (Err (NoRoom n)) is = absurd is
deletes-stopped old new name (Err DirectoryFull) is = running old _ (λ e. cc) is.0.running
deletes-stopped old new name (Err (Busy n)) is = running old _ (λ e. cc) is.0.running
deletes-stopped old new name (Err BadName) is = absurd is
deletes-stopped old new name (Err TooLong) is = absurd is
deletes-stopped old new name (Err TentativeOpen) is = running old _ (λ e. cc) is.0
deletes-stopped old new name (Err Device) is = running old _ (λ e. cc) is.ready.running
deletes-stopped old new name (Err Stopped) is = stopped old is.0
deletes-stopped old new name (Err Memory) is = running old _ (λ e. cc) is.0.running
deletes-stopped old new name (Err NothingWritten) is = absurd is

pub squeezes-stopped : (old new : MountState) (result : Result Squeezed FileFault) → Squeezes old result new → IsStopped old result
squeezes-stopped old new (Ok (Moved name)) is = running old _ (λ e. cc) is.ready.running
squeezes-stopped old new (Ok Nothing) is = running old _ (λ e. cc) is.0.running
squeezes-stopped old new (Err NotFound) is = absurd is
squeezes-stopped old new (Err (NoRoom n)) is = absurd is
squeezes-stopped old new (Err DirectoryFull) is = running old _ (λ e. cc) is.0.running
squeezes-stopped old new (Err (Busy n)) is = absurd is
squeezes-stopped old new (Err BadName) is = absurd is
squeezes-stopped old new (Err TooLong) is = absurd is
squeezes-stopped old new (Err TentativeOpen) is = running old _ (λ e. cc) is.0
squeezes-stopped old new (Err Device) is = elim is [ inl missed ↦ running old _ (λ e. cc) missed.0.running | inr failed ↦ running old _ (λ e. cc) failed.ready.running ]
squeezes-stopped old new (Err Stopped) is = stopped old is.0
squeezes-stopped old new (Err Memory) is = running old _ (λ e. cc) is.0.running
squeezes-stopped old new (Err NothingWritten) is = absurd is
