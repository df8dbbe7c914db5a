-- What each call leaves of the holds, of the places of files and of the count of reads.
use Rattle.std.proofs.Common.{◌≡◌, ◌≢◌, ◌≤◌, ℕ, true, false, true≢false, List, Result, Ok, Err, ap, sym, ◌∙◌, inl, inr, arith}
use Rattle.std.specs.Prelude.{◌⊎◌}
use Rattle.os8_dir.specs.Reading.{directory_of}
use Rattle.os8_files.specs.Mounted.{MountState}
use Rattle.os8_files.specs.Failed.{extent_or}
use Rattle.os8_files.specs.Calls.{ReadsBlock, HoldsFile, Enters, WritesBlock, ClosesFile, DeletesFile, Squeezes, WithoutNewFile}
use Rattle.os8_files.specs.Laws.{KeepsHeld, KeepsHolds, KeepsPlaces, MovesOne, ReadsOne, ReadsLowest, extent_on}
use Rattle.os8_dir.specs.declared.file_faults.FileFault.{FileFault}
use Rattle.os8_dir.specs.declared.file_faults.FileFault.TheVariants.{NotFound, NoRoom, DirectoryFull, Busy, BadName, TooLong, TentativeOpen, Device, Stopped, Memory, NothingWritten}
use Rattle.os8_files.specs.declared.tokens.Squeezed.{Squeezed}
use Rattle.os8_files.specs.declared.tokens.Squeezed.TheVariants.{Moved, Nothing}

-- The holds stay, a stop stays, and so do the places of these files; of the count of reads this is so.
pub record Leaves (old new : MountState) (Other : ℕ → Type 0) (Counts : Type 0) : Type 0 where
  pub holds : new.holds ≡ old.holds
  pub running : new.stopped ≡ false → old.stopped ≡ false
  pub places : (q : ℕ) → Other q → new.stopped ≡ false → extent_on new q ≡ extent_on old q
  pub counts : Counts

-- the directory that the blocks hold is the same
pub steady : (old new : MountState) (Other : ℕ → Type 0) (Counts : Type 0) → new.holds ≡ old.holds → new.stopped ≡ old.stopped → directory_of new.blocks ≡ directory_of old.blocks → Counts → Leaves old new Other Counts
steady old new Other Counts holds stopped blocks counts = record {
  holds = holds;
  running = λ runs. sym stopped ∙ runs;
  places = λ q other runs. ap (extent_or q) blocks;
  counts = counts;
}

-- nothing is changed
pub same : (old new : MountState) (Other : ℕ → Type 0) → new ≡ old → Leaves old new Other (new.reads ≡ old.reads)
same old new Other is = steady old new Other (new.reads ≡ old.reads) (ap (λ (m : MountState). m.holds) is) (ap (λ (m : MountState). m.stopped) is) (ap (λ (m : MountState). directory_of m.blocks) is) (ap (λ (m : MountState). m.reads) is)

-- a write failed
pub broken : (old new : MountState) (Other : ℕ → Type 0) → new.holds ≡ old.holds → new.stopped ≡ true → new.reads ≡ old.reads → Leaves old new Other (new.reads ≡ old.reads)
broken old new Other holds stopped counts = record {
  holds = holds;
  running = λ runs. absurd (true≢false (sym stopped ∙ runs));
  places = λ q other runs. absurd (true≢false (sym stopped ∙ runs));
  counts = counts;
}

-- the file that is being written is gone, and nothing else is changed
spent : (old new : MountState) (Other : ℕ → Type 0) → new ≡ WithoutNewFile old → Leaves old new Other (new.reads ≡ old.reads)
spent old new Other is = steady old new Other (new.reads ≡ old.reads) (ap (λ (m : MountState). m.holds) is) (ap (λ (m : MountState). m.stopped) is) (ap (λ (m : MountState). directory_of m.blocks) is) (ap (λ (m : MountState). m.reads) is)

-- all but the reads is the same
only-reads : (old new : MountState) (Other : ℕ → Type 0) (Counts : Type 0) → new.holds ≡ old.holds → new.stopped ≡ old.stopped → new.blocks ≡ old.blocks → Counts → Leaves old new Other Counts
only-reads old new Other Counts holds stopped blocks counts = steady old new Other Counts holds stopped (ap (λ bs. directory_of bs) blocks) counts

refl-few : (n : ℕ) → n ≤ n
refl-few n = omega arith

abbrev All : ℕ → Type 0
All q = Unit {0}

-- a read that was not made is at most one
no-read : (old new : MountState) → new ≡ old → Leaves old new All (ReadsOne old new)
no-read old new is = only-reads old new All (ReadsOne old new) (ap (λ (m : MountState). m.holds) is) (ap (λ (m : MountState). m.stopped) is) (ap (λ (m : MountState). m.blocks) is) (inl (ap (λ (m : MountState). m.reads) is))

pub reads-leave : (old new : MountState) (name k : ℕ) (before after : List ℕ) (result : Result (Unit {0}) FileFault) → ReadsBlock old name k before result new after → Leaves old new All (ReadsOne old new)
reads-leave old new name k before after (Ok done) is = only-reads old new All (ReadsOne old new) (ap (λ (m : MountState). m.holds) is.others) (ap (λ (m : MountState). m.stopped) is.others) (ap (λ (m : MountState). m.blocks) is.others) (inr (ap (λ (m : MountState). m.reads) is.others))
reads-leave old new name k before after (Err NotFound) is = no-read old new is.2
reads-leave old new name k before after (Err (NoRoom n)) is = absurd is
reads-leave old new name k before after (Err DirectoryFull) is = absurd is
reads-leave old new name k before after (Err (Busy n)) is = absurd is
reads-leave old new name k before after (Err BadName) is = absurd is
reads-leave old new name k before after (Err TooLong) is = absurd is
reads-leave old new name k before after (Err TentativeOpen) is = absurd is
reads-leave old new name k before after (Err Device) is = only-reads old new All (ReadsOne old new) (ap (λ (m : MountState). m.holds) is.1) (ap (λ (m : MountState). m.stopped) is.1) (ap (λ (m : MountState). m.blocks) is.1) (inr (ap (λ (m : MountState). m.reads) is.1))
reads-leave old new name k before after (Err Stopped) is = no-read old new is.1
reads-leave old new name k before after (Err Memory) is = absurd is
reads-leave old new name k before after (Err NothingWritten) is = absurd is

pub enters-leave : (old new : MountState) (name wish : ℕ) (result : Result ℕ FileFault) → Enters old name wish result new → Leaves old new All (new.reads ≡ old.reads)
enters-leave old new name wish (Ok token) is = only-reads old new All (new.reads ≡ old.reads) (ap (λ (m : MountState). m.holds) is.others) (ap (λ (m : MountState). m.stopped) is.others) (ap (λ (m : MountState). m.blocks) is.others) (ap (λ (m : MountState). m.reads) is.others)
enters-leave old new name wish (Err NotFound) is = absurd is
enters-leave old new name wish (Err (NoRoom n)) is = same old new All is.7
enters-leave old new name wish (Err DirectoryFull) is = absurd is
enters-leave old new name wish (Err (Busy n)) is = same old new All is.4
enters-leave old new name wish (Err BadName) is = same old new All is.2
enters-leave old new name wish (Err TooLong) is = absurd is
enters-leave old new name wish (Err TentativeOpen) is = same old new All is.4
enters-leave old new name wish (Err Device) is = absurd is
enters-leave old new name wish (Err Stopped) is = same old new All is.1
enters-leave old new name wish (Err Memory) is = absurd is
enters-leave old new name wish (Err NothingWritten) is = absurd is

pub writes-leave : (old new : MountState) (words : List ℕ) (result : Result (Unit {0}) FileFault) → WritesBlock old words result new → Leaves old new All (new.reads ≡ old.reads)
writes-leave old new words (Ok done) is = steady old new All (new.reads ≡ old.reads) (ap (λ (m : MountState). m.holds) is.others) (ap (λ (m : MountState). m.stopped) is.others) is.kept.directory (ap (λ (m : MountState). m.reads) is.others)
writes-leave old new words (Err NotFound) is = absurd is
writes-leave old new words (Err (NoRoom n)) is = absurd is
writes-leave old new words (Err DirectoryFull) is = absurd is
writes-leave old new words (Err (Busy n)) is = absurd is
writes-leave old new words (Err BadName) is = absurd is
writes-leave old new words (Err TooLong) is = same old new All is.4
writes-leave old new words (Err TentativeOpen) is = absurd is
writes-leave old new words (Err Device) is = broken old new All (ap (λ (m : MountState). m.holds) is.others) (ap (λ (m : MountState). m.stopped) is.others) (ap (λ (m : MountState). m.reads) is.others)
writes-leave old new words (Err Stopped) is = same old new All is.1
writes-leave old new words (Err Memory) is = absurd is
writes-leave old new words (Err NothingWritten) is = absurd is

pub closes-leave : (old new : MountState) (name : ℕ) (info : List ℕ) (result : Result (Unit {0}) FileFault) → ClosesFile old name info result new → Leaves old new (λ q. name ≢ q) (new.reads ≡ old.reads)
closes-leave old new name info (Ok done) is = record {
  holds = (ap (λ (m : MountState). m.holds) is.others);
  running = λ runs. is.running;
  places = λ q other runs. is.places q other;
  counts = (ap (λ (m : MountState). m.reads) is.others);
}
closes-leave old new name info (Err NotFound) is = absurd is
closes-leave old new name info (Err (NoRoom n)) is = absurd is
closes-leave old new name info (Err DirectoryFull) is = spent old new (λ q. name ≢ q) is.6
closes-leave old new name info (Err (Busy n)) is = spent old new (λ q. name ≢ q) is.5
closes-leave old new name info (Err BadName) is = absurd is
closes-leave old new name info (Err TooLong) is = absurd is
closes-leave old new name info (Err TentativeOpen) is = absurd is
closes-leave old new name info (Err Device) is = broken old new (λ q. name ≢ q) (ap (λ (m : MountState). m.holds) is.3.others) (ap (λ (m : MountState). m.stopped) is.3.others) (ap (λ (m : MountState). m.reads) is.3.others)
closes-leave old new name info (Err Stopped) is = spent old new (λ q. name ≢ q) is.1
closes-leave old new name info (Err Memory) is = spent old new (λ q. name ≢ q) is.4
closes-leave old new name info (Err NothingWritten) is = spent old new (λ q. name ≢ q) is.3

pub deletes-leave : (old new : MountState) (name : ℕ) (result : Result (Unit {0}) FileFault) → DeletesFile old name result new → Leaves old new (λ q. name ≢ q) (new.reads ≡ old.reads)
deletes-leave old new name (Ok done) is = record {
  holds = (ap (λ (m : MountState). m.holds) is.others);
  running = λ runs. is.ready.running;
  places = λ q other runs. is.places q other;
  counts = (ap (λ (m : MountState). m.reads) is.others);
}
deletes-leave old new name (Err NotFound) is = same old new (λ q. name ≢ q) is.2
deletes-leave old new name (Err (NoRoom n)) is = absurd is
deletes-leave old new name (Err DirectoryFull) is = same old new (λ q. name ≢ q) is.5
deletes-leave old new name (Err (Busy n)) is = same old new (λ q. name ≢ q) is.4
deletes-leave old new name (Err BadName) is = absurd is
deletes-leave old new name (Err TooLong) is = absurd is
deletes-leave old new name (Err TentativeOpen) is = same old new (λ q. name ≢ q) is.3
deletes-leave old new name (Err Device) is = broken old new (λ q. name ≢ q) (ap (λ (m : MountState). m.holds) is.others) (ap (λ (m : MountState). m.stopped) is.others) (ap (λ (m : MountState). m.reads) is.others)
deletes-leave old new name (Err Stopped) is = same old new (λ q. name ≢ q) is.1
deletes-leave old new name (Err Memory) is = same old new (λ q. name ≢ q) is.3
deletes-leave old new name (Err NothingWritten) is = absurd is

-- the file whose place a turn of squeezing may change
abbrev Beside : Result Squeezed FileFault → ℕ → Type 0
Beside (Ok (Moved name)) q = name ≢ q
Beside (Ok Nothing) q = Unit {0}
Beside (Err fault) q = Unit {0}

abbrev ReadsMoved : MountState → MountState → Type 0
ReadsMoved old new = (new.reads ≡ old.reads) ⊎ ReadsLowest old new

unread : (old new : MountState) (Other : ℕ → Type 0) → new ≡ old → Leaves old new Other (ReadsMoved old new)
unread old new Other is = only-reads old new Other (ReadsMoved old new) (ap (λ (m : MountState). m.holds) is) (ap (λ (m : MountState). m.stopped) is) (ap (λ (m : MountState). m.blocks) is) (inl (ap (λ (m : MountState). m.reads) is))

pub squeezes-leave : (old new : MountState) (result : Result Squeezed FileFault) → Squeezes old result new → Leaves old new (Beside result) (ReadsMoved old new)
squeezes-leave old new (Ok (Moved name)) is = record {
  holds = (ap (λ (m : MountState). m.holds) is.others);
  running = λ runs. is.ready.running;
  places = λ q other runs. is.places q other;
  counts = inr (record { name = name; gap = is.gap; lowest = is.lowest; place = is.place; size = is.size; extent = is.was; number = is.size; few = refl-few is.size; reads = is.reads });
}
squeezes-leave old new (Ok Nothing) is = unread old new (Beside (Ok Nothing)) is.2
squeezes-leave old new (Err NotFound) is = absurd is
squeezes-leave old new (Err (NoRoom n)) is = absurd is
squeezes-leave old new (Err DirectoryFull) is = unread old new (Beside (Err DirectoryFull)) is.7
squeezes-leave old new (Err (Busy n)) is = absurd is
squeezes-leave old new (Err BadName) is = absurd is
squeezes-leave old new (Err TooLong) is = absurd is
squeezes-leave old new (Err TentativeOpen) is = unread old new (Beside (Err TentativeOpen)) is.3
squeezes-leave old new (Err Device) is = elim is [
  | inl missed ↦ only-reads old new (Beside (Err Device)) (ReadsMoved old new) (ap (λ (m : MountState). m.holds) missed.1) (ap (λ (m : MountState). m.stopped) missed.1) (ap (λ (m : MountState). m.blocks) missed.1) (inr (record { name = missed.2.name; gap = missed.2.gap; lowest = missed.2.lowest; place = missed.2.place; size = missed.2.size; extent = missed.2.was; number = missed.2.reads.number; few = missed.2.reads.few; reads = missed.2.reads.rise }))
  | inr failed ↦ record {
    holds = (ap (λ (m : MountState). m.holds) failed.others);
    running = λ runs. absurd (true≢false (sym (ap (λ (m : MountState). m.stopped) failed.others) ∙ runs));
    places = λ q other runs. absurd (true≢false (sym (ap (λ (m : MountState). m.stopped) failed.others) ∙ runs));
    counts = inr (record { name = failed.name; gap = failed.gap; lowest = failed.lowest; place = failed.place; size = failed.size; extent = failed.was; number = failed.size; few = refl-few failed.size; reads = failed.reads });
  }
]
squeezes-leave old new (Err Stopped) is = unread old new (Beside (Err Stopped)) is.1
squeezes-leave old new (Err Memory) is = unread old new (Beside (Err Memory)) is.2
squeezes-leave old new (Err NothingWritten) is = absurd is

-- What the laws say.
pub keeps-holds : (old new : MountState) (Other : ℕ → Type 0) (Counts : Type 0) → Leaves old new Other Counts → KeepsHeld old new → KeepsHolds old new
keeps-holds old new Other Counts leaves held = record { holds = leaves.holds; running = leaves.running; held = held }

pub keeps-places : (old new : MountState) (Counts : Type 0) → Leaves old new All Counts → KeepsPlaces old new
keeps-places old new Counts leaves q runs = leaves.places q tt runs

pub moves-one : (old new : MountState) (result : Result Squeezed FileFault) → Squeezes old result new → MovesOne old result new
moves-one old new (Ok (Moved name)) is = (squeezes-leave old new (Ok (Moved name)) is).places
moves-one old new (Ok Nothing) is = λ q runs. (squeezes-leave old new (Ok Nothing) is).places q tt runs
moves-one old new (Err fault) is = λ q runs. (squeezes-leave old new (Err fault) is).places q tt runs

-- A hold that is taken changes no place, reads nothing and stops nothing.
pub holds-leave : (old new : MountState) (name : ℕ) (result : Result ℕ FileFault) → HoldsFile old name result new → KeepsPlaces old new × (new.reads ≡ old.reads) × (new.stopped ≡ old.stopped)
holds-leave old new name (Ok hold) is = ((λ q runs. ap (λ (m : MountState). extent_on m q) is.others), ap (λ (m : MountState). m.reads) is.others, ap (λ (m : MountState). m.stopped) is.others)
holds-leave old new name (Err NotFound) is = ((λ q runs. ap (λ (m : MountState). extent_on m q) is.2), ap (λ (m : MountState). m.reads) is.2, ap (λ (m : MountState). m.stopped) is.2)
holds-leave old new name (Err (NoRoom n)) is = absurd is
holds-leave old new name (Err DirectoryFull) is = absurd is
holds-leave old new name (Err (Busy n)) is = absurd is
holds-leave old new name (Err BadName) is = absurd is
holds-leave old new name (Err TooLong) is = absurd is
holds-leave old new name (Err TentativeOpen) is = absurd is
holds-leave old new name (Err Device) is = absurd is
holds-leave old new name (Err Stopped) is = ((λ q runs. ap (λ (m : MountState). extent_on m q) is.1), ap (λ (m : MountState). m.reads) is.1, ap (λ (m : MountState). m.stopped) is.1)
holds-leave old new name (Err Memory) is = ((λ q runs. ap (λ (m : MountState). extent_on m q) is.2), ap (λ (m : MountState). m.reads) is.2, ap (λ (m : MountState). m.stopped) is.2)
holds-leave old new name (Err NothingWritten) is = absurd is
