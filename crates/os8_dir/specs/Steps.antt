-- What small steps of the code answer. No contract of a public function cites these.
use Rattle.std.specs.Prelude.{◌≡◌, ℕ, ◌+◌, ◌==◌, Bool, true, false, not, ◌&&◌, ◌||◌, List, [], ◌∷◌, nat_lt, if◌then◌else◌, slice_set, Option, Some, None, Result, Ok, Err}
use Rattle.std.specs.Ordering.{nat_cmp}
use Rattle.std.specs.BTreeSet.{BTreeSet, contains}
use Rattle.std.specs.Borrow.{Bor}
use Rattle.os8_dir.specs.declared.entries.DirEntry.{DirEntry}
use Rattle.os8_dir.specs.declared.entries.DirEntry.TheVariants.{File, Empty}
use Rattle.os8_dir.specs.Names.{with_end_zeros}
use Rattle.os8_dir.specs.Entries.{is_zero, names_of, contains as listed}
use Rattle.os8_dir.specs.Found.{room_of}
use Rattle.os8_dir.specs.declared.faults.DirFault.{DirFault}
use Rattle.os8_dir.specs.declared.faults.DirFault.TheVariants.{BadLink, BadCount, EntryPastSegment, PastVolume, SameName, WrongFirstBlock, MixedInfo, Device, Memory}
use Rattle.os8_dir.specs.Reading.{MeetsFault}
use Rattle.os8_dir.specs.Kept.{IsKept}
use Rattle.std.specs.BTreeSet as set

-- the entry is the file of a name
abbrev pub is_named : ℕ → DirEntry → Bool
is_named name (File other info size) = not (is_zero size) && other == name
is_named name (Empty size) = false

-- the information words of an entry; those of an empty are 0
abbrev pub words_in : DirEntry → List ℕ
words_in (File name info size) = info
words_in (Empty size) = with_end_zeros 10 []

-- the information words of the file of a name
abbrev pub information_in : ℕ → List DirEntry → Option (List ℕ)
information_in name [] = None
information_in name (e ∷ es) = if is_named name e then Some (words_in e) else information_in name es

-- a name is among those of a set
abbrev pub has_key : BTreeSet ℕ → ℕ → Bool
has_key names name = set.contains nat_cmp names name

-- an entry of length 0 has no name, another's name is new
abbrev pub is_new_to : (ℕ → Bool) → DirEntry → Bool
is_new_to known (File name info size) = is_zero size || not (known name)
is_new_to known (Empty size) = true

-- an entry with the words after it
abbrev pub seen_entry : DirEntry × Bor (List ℕ) → DirEntry × List ℕ
seen_entry p = (p.0, p.1.now)

-- the blocks of the last entry where it is an empty, else 0
abbrev pub last_room : List DirEntry → ℕ
last_room [] = 0
last_room (e ∷ []) = room_of e
last_room (e ∷ f ∷ es) = last_room (f ∷ es)

-- the fault that a step returned is that of the reading, but memory may be refused at any time; no step reads a block
abbrev pub FindsFault : {Y : Type 0} → DirFault → Result Y DirFault → Type 0
FindsFault (BadLink number) read = read ≡ Err (BadLink number)
FindsFault (BadCount number) read = read ≡ Err (BadCount number)
FindsFault EntryPastSegment read = read ≡ Err EntryPastSegment
FindsFault PastVolume read = read ≡ Err PastVolume
FindsFault SameName read = read ≡ Err SameName
FindsFault WrongFirstBlock read = read ≡ Err WrongFirstBlock
FindsFault MixedInfo read = read ≡ Err MixedInfo
FindsFault Device read = ⊥
FindsFault Memory read = Unit {0}

-- what a step returned is what reading gives
abbrev pub Shows : {X Y : Type 0} → (X → Y) → Result X DirFault → Result Y DirFault → Type 0
Shows view (Ok x) read = read ≡ Ok (view x)
Shows view (Err fault) read = FindsFault fault read

-- what a step left of a value is what reading gives, where it returned Ok
abbrev pub Leaves : {X Y : Type 0} → Result X DirFault → Y → Result Y DirFault → Type 0
Leaves (Ok x) new read = read ≡ Ok new
Leaves (Err fault) new read = FindsFault fault read

-- the same of a step that reads blocks
abbrev pub LeavesRead : {X Y : Type 0} → Result X DirFault → Y → Result Y DirFault → Type 0
LeavesRead (Ok x) new read = read ≡ Ok new
LeavesRead (Err fault) new read = MeetsFault fault read

-- words are written over others from a place on
abbrev pub with_words_from : List ℕ → ℕ → List ℕ → List ℕ
with_words_from segment at [] = segment
with_words_from segment at (w ∷ words) = with_words_from (slice_set segment at w) (at + 1) words

-- an empty, and the file of a name above it
abbrev pub is_gap : ℕ → DirEntry → DirEntry → Bool
is_gap name (File other info size) high = false
is_gap name (Empty gap) (File other info size) = other == name
is_gap name (Empty gap) (Empty size) = false

-- another room is a better choice for a wish
abbrev pub beats : ℕ → ℕ → ℕ → Bool
beats wish size other = if wish == 0 then nat_lt size other else nat_lt other size

-- the better of a room and one after it
abbrev pub better : ℕ → ℕ × ℕ → Option (ℕ × ℕ) → ℕ × ℕ
better wish room None = room
better wish room (Some other) = if beats wish room.1 other.1 then other else room

-- the best of the rooms that have so many blocks
abbrev pub best : ℕ → List (ℕ × ℕ) → Option (ℕ × ℕ)
best wish [] = None
best wish (room ∷ rooms) = if nat_lt room.1 wish then best wish rooms else Some (better wish room (best wish rooms))

-- the better of a room that was chosen and one after it, where either may be missing
abbrev pub or_better : ℕ → Option (ℕ × ℕ) → Option (ℕ × ℕ) → Option (ℕ × ℕ)
or_better wish None other = other
or_better wish (Some room) other = Some (better wish room other)

-- the choice, where one more entry is seen
abbrev pub with_room : ℕ → Option (ℕ × ℕ) → ℕ → DirEntry → Option (ℕ × ℕ)
with_room wish chosen place (File name info size) = chosen
with_room wish chosen place (Empty size) = if nat_lt size wish then chosen else or_better wish chosen (Some (place, size))

-- ## Kept

-- the same while segments are read: a set has the names of the files
pub record IsDraft (first info end : ℕ) (entries : List DirEntry) (names : BTreeSet ℕ) : Type 0 where
  pub kept : IsKept first info end entries
  pub known : (name : ℕ) → contains nat_cmp names name ≡ listed (names_of entries) name
