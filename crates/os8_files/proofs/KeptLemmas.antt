-- Files that are held keep their words through every call.
use Rattle.std.proofs.Common.{◌≡◌, ℕ, Bool, true, false, true≢false, cond, eqb, ◌==◌, nat_lt, if◌then◌else◌, List, [], ◌∷◌, Some, None, Result, Ok, Err, refl, ap, sym, ◌∙◌, arith, inl, inr}
use Rattle.std.specs.FinMap.{get, insert}
use Rattle.std.proofs.lemmas.Bool.Decides.{nat_tests, eqb_tells}
use Rattle.os8_dir.specs.Entries.{contains}
use Rattle.os8_dir.specs.Files.{Files, FileData, files_of}
use Rattle.os8_files.specs.Mounted.{MountState}
use Rattle.os8_files.specs.Calls.{ReadsBlock, HoldsFile, DeletesFile, Enters, WritesBlock, ClosesFile, Squeezes}
use Rattle.os8_files.specs.Holds.{with_hold, without_hold}
use Rattle.os8_files.specs.Laws.{KeepsHeld}
use Rattle.os8_dir.specs.declared.file_faults.FileFault.{FileFault}
use Rattle.os8_dir.specs.declared.file_faults.FileFault.TheVariants.{NotFound, NoRoom, DirectoryFull, Busy, BadName, TooLong, TentativeOpen, Device, Stopped, Memory, NothingWritten}
use Rattle.os8_files.specs.declared.tokens.Squeezed.{Squeezed}
use Rattle.os8_files.specs.declared.tokens.Squeezed.TheVariants.{Moved, Nothing}
use Rattle.os8_files.proofs.MapLemmas.{get-without, get-with}

-- the same blocks have the same files
same-blocks : (old new : MountState) → new.blocks ≡ old.blocks → KeepsHeld old new
same-blocks old new same name held running = ap (λ bs. get (files_of bs) name) same

pub same-files : (old new : MountState) → files_of new.blocks ≡ files_of old.blocks → KeepsHeld old new
same-files old new same name held running = ap (λ m. get m name) same

pub has-failed : (old new : MountState) → new.stopped ≡ true → KeepsHeld old new
has-failed old new stopped name held running = absurd (true≢false (sym stopped ∙ running))

pub blocks-same : (old new : MountState) → new ≡ old → KeepsHeld old new
blocks-same old new same = same-blocks old new (ap (λ (m : MountState). m.blocks) same)

-- a held name is not one that is free
pub held-other : (holds : List ℕ) (name q : ℕ) → contains holds name ≡ false → contains holds q ≡ true → eqb name q ≡ false
held-other holds name q free held = elim (eqb_tells name q) [
  | inl is ↦ absurd (true≢false (sym held ∙ ap (contains holds) (sym is.1) ∙ free))
  | inr is ↦ is.0
]

pub kept-with : (m : Files) (name : ℕ) (h : FileData) (q : ℕ) → eqb name q ≡ false → get (insert m name h) q ≡ get m q
kept-with m name h q other = get-with m name h q ∙ ap (λ b. cond b (Some h) (get m q)) other

pub reads-keep : (old new : MountState) (name k : ℕ) (before after : List ℕ) (result : Result (Unit {0}) FileFault) → ReadsBlock old name k before result new after → KeepsHeld old new
reads-keep old new name k before after (Ok done) read = same-blocks old new (ap (λ (m : MountState). m.blocks) read.others)
reads-keep old new name k before after (Err NotFound) read = blocks-same old new read.2
reads-keep old new name k before after (Err Device) read = same-blocks old new (ap (λ (m : MountState). m.blocks) read.1)
reads-keep old new name k before after (Err Stopped) read = blocks-same old new read.1
reads-keep old new name k before after (Err (NoRoom n)) read = absurd read
reads-keep old new name k before after (Err DirectoryFull) read = absurd read
reads-keep old new name k before after (Err (Busy n)) read = absurd read
reads-keep old new name k before after (Err BadName) read = absurd read
reads-keep old new name k before after (Err TooLong) read = absurd read
reads-keep old new name k before after (Err TentativeOpen) read = absurd read
reads-keep old new name k before after (Err Memory) read = absurd read
reads-keep old new name k before after (Err NothingWritten) read = absurd read

pub holds-keep : (old new : MountState) (name : ℕ) (result : Result ℕ FileFault) → HoldsFile old name result new → KeepsHeld old new
holds-keep old new name (Ok hold) held = same-blocks old new (ap (λ (m : MountState). m.blocks) held.others)
holds-keep old new name (Err NotFound) held = blocks-same old new held.2
holds-keep old new name (Err Stopped) held = blocks-same old new held.1
holds-keep old new name (Err Memory) held = blocks-same old new held.2
holds-keep old new name (Err (NoRoom n)) held = absurd held
holds-keep old new name (Err DirectoryFull) held = absurd held
holds-keep old new name (Err (Busy n)) held = absurd held
holds-keep old new name (Err BadName) held = absurd held
holds-keep old new name (Err TooLong) held = absurd held
holds-keep old new name (Err TentativeOpen) held = absurd held
holds-keep old new name (Err Device) held = absurd held
holds-keep old new name (Err NothingWritten) held = absurd held

pub enters-keep : (old new : MountState) (name wish : ℕ) (result : Result ℕ FileFault) → Enters old name wish result new → KeepsHeld old new
enters-keep old new name wish (Ok token) entered = same-blocks old new (ap (λ (m : MountState). m.blocks) entered.others)
enters-keep old new name wish (Err BadName) entered = blocks-same old new entered.2
enters-keep old new name wish (Err TentativeOpen) entered = blocks-same old new entered.4
enters-keep old new name wish (Err (Busy n)) entered = blocks-same old new entered.4
enters-keep old new name wish (Err (NoRoom n)) entered = blocks-same old new entered.7
enters-keep old new name wish (Err Stopped) entered = blocks-same old new entered.1
enters-keep old new name wish (Err NotFound) entered = absurd entered
enters-keep old new name wish (Err DirectoryFull) entered = absurd entered
enters-keep old new name wish (Err TooLong) entered = absurd entered
enters-keep old new name wish (Err Device) entered = absurd entered
enters-keep old new name wish (Err Memory) entered = absurd entered
enters-keep old new name wish (Err NothingWritten) entered = absurd entered

pub writes-keep : (old new : MountState) (words : List ℕ) (result : Result (Unit {0}) FileFault) → WritesBlock old words result new → KeepsHeld old new
writes-keep old new words (Ok done) written = same-files old new written.files
writes-keep old new words (Err TooLong) written = blocks-same old new written.4
writes-keep old new words (Err Device) written = has-failed old new (ap (λ (m : MountState). m.stopped) written.others)
writes-keep old new words (Err Stopped) written = blocks-same old new written.1
writes-keep old new words (Err NotFound) written = absurd written
writes-keep old new words (Err (NoRoom n)) written = absurd written
writes-keep old new words (Err DirectoryFull) written = absurd written
writes-keep old new words (Err (Busy n)) written = absurd written
writes-keep old new words (Err BadName) written = absurd written
writes-keep old new words (Err TentativeOpen) written = absurd written
writes-keep old new words (Err Memory) written = absurd written
writes-keep old new words (Err NothingWritten) written = absurd written

pub closes-keep : (old new : MountState) (name : ℕ) (info : List ℕ) (result : Result (Unit {0}) FileFault) → ClosesFile old name info result new → KeepsHeld old new
closes-keep old new name info (Ok done) closed = λ q held running.
    ap (λ m. get m q) closed.files ∙ kept-with (files_of old.blocks) name _ q (held-other old.holds name q closed.free held)
closes-keep old new name info (Err NothingWritten) closed = same-blocks old new (ap (λ (m : MountState). m.blocks) closed.3)
closes-keep old new name info (Err (Busy n)) closed = same-blocks old new (ap (λ (m : MountState). m.blocks) closed.5)
closes-keep old new name info (Err DirectoryFull) closed = same-blocks old new (ap (λ (m : MountState). m.blocks) closed.6)
closes-keep old new name info (Err Device) closed = has-failed old new (ap (λ (m : MountState). m.stopped) closed.3.others)
closes-keep old new name info (Err Stopped) closed = same-blocks old new (ap (λ (m : MountState). m.blocks) closed.1)
closes-keep old new name info (Err Memory) closed = same-blocks old new (ap (λ (m : MountState). m.blocks) closed.4)
closes-keep old new name info (Err NotFound) closed = absurd closed
closes-keep old new name info (Err (NoRoom n)) closed = absurd closed
closes-keep old new name info (Err BadName) closed = absurd closed
closes-keep old new name info (Err TooLong) closed = absurd closed
closes-keep old new name info (Err TentativeOpen) closed = absurd closed

pub deletes-keep : (old new : MountState) (name : ℕ) (result : Result (Unit {0}) FileFault) → DeletesFile old name result new → KeepsHeld old new
deletes-keep old new name (Ok done) deleted = λ q held running.
    ap (λ m. get m q) deleted.files ∙ get-without (files_of old.blocks) name q ∙ ap (λ b. cond b None (get (files_of old.blocks) q)) (held-other old.holds name q deleted.free held)
deletes-keep old new name (Err TentativeOpen) deleted = blocks-same old new deleted.3
deletes-keep old new name (Err NotFound) deleted = blocks-same old new deleted.2
deletes-keep old new name (Err (Busy n)) deleted = blocks-same old new deleted.4
deletes-keep old new name (Err DirectoryFull) deleted = blocks-same old new deleted.5
deletes-keep old new name (Err Device) deleted = has-failed old new (ap (λ (m : MountState). m.stopped) deleted.others)
deletes-keep old new name (Err Stopped) deleted = blocks-same old new deleted.1
deletes-keep old new name (Err Memory) deleted = blocks-same old new deleted.3
deletes-keep old new name (Err (NoRoom n)) deleted = absurd deleted
deletes-keep old new name (Err BadName) deleted = absurd deleted
deletes-keep old new name (Err TooLong) deleted = absurd deleted
deletes-keep old new name (Err NothingWritten) deleted = absurd deleted

pub squeezes-keep : (old new : MountState) (result : Result Squeezed FileFault) → Squeezes old result new → KeepsHeld old new
squeezes-keep old new (Ok (Moved name)) squeezed = same-files old new squeezed.files
squeezes-keep old new (Ok Nothing) squeezed = blocks-same old new squeezed.2
squeezes-keep old new (Err TentativeOpen) squeezed = blocks-same old new squeezed.3
squeezes-keep old new (Err DirectoryFull) squeezed = blocks-same old new squeezed.7
squeezes-keep old new (Err Device) squeezed = elim squeezed [
  | inl missed ↦ same-blocks old new (ap (λ (m : MountState). m.blocks) missed.1)
  | inr failed ↦ has-failed old new (ap (λ (m : MountState). m.stopped) failed.others)
]
squeezes-keep old new (Err Stopped) squeezed = blocks-same old new squeezed.1
squeezes-keep old new (Err Memory) squeezed = blocks-same old new squeezed.2
squeezes-keep old new (Err NotFound) squeezed = absurd squeezed
squeezes-keep old new (Err (NoRoom n)) squeezed = absurd squeezed
squeezes-keep old new (Err (Busy n)) squeezed = absurd squeezed
squeezes-keep old new (Err BadName) squeezed = absurd squeezed
squeezes-keep old new (Err TooLong) squeezed = absurd squeezed
squeezes-keep old new (Err NothingWritten) squeezed = absurd squeezed

same-number : (n : ℕ) → (n == n) ≡ true
same-number n = elim (eqb_tells n n) [ inl is ↦ is.0 | inr is ↦ absurd (is.1 refl) ]

less-number : (a b : ℕ) → nat_lt a b ≡ true → (a == b) ≡ false
less-number a b is = grind (arith, nat_tests)

-- a hold that is taken and released
pub released : (name : ℕ) (holds : List ℕ) → without_hold name (with_hold name holds) ≡ holds
released name [] = rw (same-number name) refl
released name (held ∷ holds) = following (nat_lt held name) refl (released name holds)
  where
    following : (b : Bool) → nat_lt held name ≡ b → without_hold name (with_hold name holds) ≡ holds → without_hold name (if b then held ∷ with_hold name holds else name ∷ held ∷ holds) ≡ held ∷ holds
    following true is back = rw (less-number held name is) (ap (λ l. held ∷ l) back)
    following false is back = rw (same-number name) refl
