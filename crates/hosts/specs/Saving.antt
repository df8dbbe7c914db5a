-- What becomes of a path that is to have other bytes. `old` and `new` are the changes of the path before and after.
use Rattle.std.specs.Prelude.{◌≡◌, ℕ, ◌+◌, Bool, true, false, not, List, [], ◌∷◌, take, drop, None, Some, Result, Ok, Err, ◌⊎◌}
use Rattle.hosts.specs.Event.{Change, MakeBeside, DropBeside, Claim, DropClaim, Rename, WriteOver}
use Rattle.hosts.specs.Place.{Place, Step, Remainder, Just, replay, ever}
use Rattle.hosts.specs.declared.faults.HostFault.{HostFault}
use Rattle.hosts.specs.declared.faults.Durability.{Durability}
use Rattle.hosts.specs.declared.faults.Durability.TheVariants.{Certain, Unknown}
use Rattle.hosts.specs.declared.faults.RenameFault.{RenameFault}
use Rattle.hosts.specs.declared.faults.RenameFault.TheVariants.{Mount, Failed}
use Rattle.hosts.specs.declared.faults.SaveFault.{SaveFault}
use Rattle.hosts.specs.declared.faults.Unwritten.{Unwritten}
use Rattle.hosts.specs.declared.faults.Unwritten.TheVariants.{AsItWas, InPart}

-- it has the bytes, and so it has after each crash
pub record IsSaved (bytes : List ℕ) (p : Place) : Type 0 where
  pub seen : p.seen ≡ Just (Some bytes)
  pub on_disk : p.on_disk ≡ Just (Some bytes)
  pub earlier : p.earlier ≡ []

-- it has the bytes, but a crash leaves them or what it might have left before
pub record IsUnsettled (bytes : List ℕ) (before p : Place) : Type 0 where
  pub seen : p.seen ≡ Just (Some bytes)
  pub on_disk : p.on_disk ≡ Just (Some bytes)
  pub earlier : p.earlier ≡ before.on_disk ∷ before.earlier

-- it has what it had, and a crash leaves what it might have left
pub record IsAsItWas (before p : Place) : Type 0 where
  pub seen : p.seen ≡ before.seen
  pub on_disk : p.on_disk ≡ before.on_disk
  pub earlier : p.earlier ≡ before.earlier

-- it has the bytes and the disk has them; its name is as sure as it was
pub record IsOver (bytes : List ℕ) (before p : Place) : Type 0 where
  pub seen : p.seen ≡ Just (Some bytes)
  pub on_disk : p.on_disk ≡ Just (Some bytes)
  pub earlier : p.earlier ≡ before.earlier

abbrev pub with_left : Change → Bool → Bool → Bool
with_left MakeBeside true before = false
with_left MakeBeside false before = before
with_left DropBeside ok before = not ok
with_left _ ok before = before

-- the file that was made last beside the path could not be taken away
abbrev pub stays_beside : List Step → Bool
stays_beside [] = false
stays_beside (s ∷ earlier) = with_left s.change s.ok (stays_beside earlier)

-- no file is beside the path, but for one that could not be taken away; or what is beside it is as it was
abbrev pub IsClear : List Step → List Step → Place → Place → Type 0
IsClear old new before p = (p.beside ≡ Just None) ⊎ ((stays_beside new ≡ true) ⊎ ((p.beside ≡ before.beside) × (stays_beside new ≡ stays_beside old)))

-- no file is left beside the path, unless it could not be taken away
abbrev pub ClearsBeside : List Step → List Step → Type 0
ClearsBeside old new = (start : Place) → IsClear old new (replay start old) (replay start new)

-- a file has taken the path whole
abbrev pub IsKept : Durability → List ℕ → List Step → List Step → Type 0
IsKept Certain bytes old new = (start : Place) → IsSaved bytes (replay start new)
IsKept Unknown bytes old new = (start : Place) → IsUnsettled bytes (replay start old) (replay start new)

-- the path is as it was
abbrev pub StaysAsItWas : List Step → List Step → Type 0
StaysAsItWas old new = (start : Place) → IsAsItWas (replay start old) (replay start new)

-- a file has taken the path whole, or this is as it was
abbrev pub Saves : Result Durability RenameFault → List ℕ → List Step → List Step → Type 0
Saves (Ok durability) bytes old new = IsKept durability bytes old new
Saves (Err fault) bytes old new = StaysAsItWas old new

-- a file is written in its place, of which it was known what it held
abbrev pub IsWrittenOver : List ℕ → List Step → List Step → Type 0
IsWrittenOver bytes old new = (start : Place) (was : List ℕ) → (replay start old).seen ≡ Just (Some was) → IsOver bytes (replay start old) (replay start new)

abbrev pub KeepsFile : Bool → Durability → List ℕ → List Step → List Step → Type 0
KeepsFile true durability bytes old new = IsKept durability bytes old new
KeepsFile false Certain bytes old new = IsWrittenOver bytes old new
KeepsFile false Unknown bytes old new = ⊥

abbrev pub IsUnwritten : Unwritten → Bool → List Step → List Step → Type 0
IsUnwritten AsItWas true old new = StaysAsItWas old new
IsUnwritten AsItWas false old new = ⊥
IsUnwritten InPart true old new = ⊥
IsUnwritten InPart false old new = Unit {0}

-- Where the host said that a new file may take the path, it does, whole. Where not, the file is written in its place, and nothing is
-- promised of one that is written in part.
abbrev pub SavesFile : Result Durability SaveFault → Bool → List ℕ → List Step → List Step → Type 0
SavesFile (Ok durability) is bytes old new = KeepsFile is durability bytes old new
SavesFile (Err fault) is bytes old new = IsUnwritten fault.state is old new

-- before a file is written in its place a note is printed on standard error, if there is one
abbrev pub IsPlaceNoted : Bool → List ℕ → List (Bool × List ℕ) → List (Bool × List ℕ) → Type 0
IsPlaceNoted true note old new = new ≡ old
IsPlaceNoted false [] old new = new ≡ old
IsPlaceNoted false (byte ∷ others) old new = (ok : Bool) × (new ≡ (ok, byte ∷ others) ∷ old)

-- where that note is printed the path is as it was
abbrev pub IsNotedBefore : Bool → List ℕ → List Step → List Step → Type 0
IsNotedBefore true note old noted = Unit {0}
IsNotedBefore false [] old noted = Unit {0}
IsNotedBefore false (byte ∷ others) old noted = StaysAsItWas old noted

-- after a save a new file may take the path as before, unless that was seen to be a mount's
abbrev pub still_may : Result Durability RenameFault → Bool → Bool
still_may (Ok durability) before = before
still_may (Err Mount) before = false
still_may (Err (Failed fault)) before = before

-- each crash at any moment since leaves what it might have left at one before, or else the bytes, all of them
abbrev pub IsOldOrNew : List ℕ → List Remainder → List Remainder → Type 0
IsOldOrNew bytes old new = (new ≡ old) ⊎ (new ≡ Just (Some bytes) ∷ old)

abbrev pub AnyMoment : List ℕ → List Step → List Step → Type 0
AnyMoment bytes old new = (start : Place) → IsOldOrNew bytes (ever start old) (ever start new)

-- the same, unless it was said that a new file can't take the path so; then nothing is promised of a crash meanwhile
abbrev pub AnyMomentOf : Bool → List ℕ → List Step → List Step → Type 0
AnyMomentOf is bytes old new = (start : Place) → IsOldOrNew bytes (ever start old) (ever start new) ⊎ (is ≡ false)

abbrev pub with_empty : Change → Bool → Bool → Bool
with_empty Claim ok before = false
with_empty DropClaim ok before = not ok
with_empty _ ok before = before

-- an empty file that took the path could not be taken away again
abbrev pub stays_empty : List Step → Bool
stays_empty [] = false
stays_empty (s ∷ earlier) = with_empty s.change s.ok (stays_empty earlier)

-- What becomes of a path where no file is made by these changes. It is as it was, or has no file. It has an empty one where the file system has
-- no further names, and that one could not be taken away.
abbrev pub IsUnmade : List Step → Place → Place → Type 0
IsUnmade new before p = IsAsItWas before p ⊎ ((p.seen ≡ Just None) ⊎ ((stays_empty new ≡ true) × (p.seen ≡ Just (Some []))))

-- a new file has the path whole, or there is none
abbrev pub Makes : Result Durability HostFault → List ℕ → List Step → List Step → Type 0
Makes (Ok Certain) bytes old new = (start : Place) → IsSaved bytes (replay start new)
Makes (Ok Unknown) bytes old new = (start : Place) → (replay start new).seen ≡ Just (Some bytes)
Makes (Err fault) bytes old new = (start : Place) → IsUnmade new (replay start old) (replay start new)

-- a file that is laid has the path whole; when the disk has it is left to the system
abbrev pub Lays : Result Unit HostFault → List ℕ → List Step → List Step → Type 0
Lays (Ok _) bytes old new = (start : Place) → (replay start new).seen ≡ Just (Some bytes)
Lays (Err fault) bytes old new = (start : Place) → IsUnmade new (replay start old) (replay start new)

abbrev pub with_claim : Change → Bool → Bool → Bool
with_claim Claim ok before = ok
with_claim Rename true before = false
with_claim Rename false before = before
with_claim _ ok before = false

-- the path has an empty file that took it, and no file has taken its place
abbrev pub has_claim : List Step → Bool
has_claim [] = false
has_claim (s ∷ earlier) = with_claim s.change s.ok (has_claim earlier)

abbrev pub count_unless : Bool → ℕ → ℕ
count_unless true before = before
count_unless false before = before + 1

abbrev pub with_replacement : Change → Bool → Bool → ℕ → ℕ
with_replacement Rename true is before = count_unless is before
with_replacement Rename false is before = before
with_replacement DropClaim ok is before = count_unless is before
with_replacement WriteOver ok is before = before + 1
with_replacement _ ok is before = before

-- How often the path's file may have been another's, and a file took its place, or it was to be written over there, or to be taken away. It
-- is no other's where an empty file has just taken the path as one that no file had.
abbrev pub replacements : List Step → ℕ
replacements [] = 0
replacements (s ∷ earlier) = with_replacement s.change s.ok (has_claim earlier) (replacements earlier)

abbrev pub with_write : Change → Step → List Step → List Step
with_write WriteOver s before = s ∷ before
with_write _ s before = before

-- each write of the file in its place, the newest first
abbrev pub writes_over : List Step → List Step
writes_over [] = []
writes_over (s ∷ earlier) = with_write s.change s (writes_over earlier)

-- bytes were written there from one on; or a write failed, by a fault of this number
abbrev pub over_step : ℕ → List ℕ → Step
over_step at bytes = record { change = WriteOver; ok = true; number = at; bytes = bytes }

abbrev pub failed_write : ℕ → Step
failed_write number = record { change = WriteOver; ok = false; number = number; bytes = [] }

-- the bytes after the head are one write, if there are any
abbrev pub with_rest : ℕ → List ℕ → List Step → List Step
with_rest first [] before = before
with_rest first (byte ∷ others) before = over_step first (byte ∷ others) ∷ before

-- The head of a file, its bytes before `first`, was written last: the bytes after it are one write, and the head is the next. There is no other.
abbrev pub IsHeadLast : ℕ → List ℕ → List Step → List Step → Type 0
IsHeadLast first bytes old new = writes_over new ≡ over_step 0 (take first bytes) ∷ with_rest first (drop first bytes) (writes_over old)

-- the first write failed, or that of the head did after the other; or both were made, and the file could not be brought to the disk
abbrev pub IsCutShort : ℕ → List ℕ → List Step → List Step → Type 0
IsCutShort first bytes old new = ((number : ℕ) × (writes_over new ≡ failed_write number ∷ writes_over old))
    ⊎ (((number : ℕ) × (writes_over new ≡ failed_write number ∷ with_rest first (drop first bytes) (writes_over old)))
    ⊎ IsHeadLast first bytes old new)

-- where a new file may take the path, nothing is written in its place; else its head is written last
abbrev pub IsOrdered : Bool → ℕ → List ℕ → List Step → List Step → Type 0
IsOrdered true first bytes old new = writes_over new ≡ writes_over old
IsOrdered false first bytes old new = IsHeadLast first bytes old new

-- the same of a file that could not be written
abbrev pub IsOrderCut : Bool → ℕ → List ℕ → List Step → List Step → Type 0
IsOrderCut true first bytes old new = writes_over new ≡ writes_over old
IsOrderCut false first bytes old new = IsCutShort first bytes old new
