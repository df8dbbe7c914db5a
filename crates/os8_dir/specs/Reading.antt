-- How the blocks of a volume are read as a directory, with the first fault (OS/8 Software Support Manual; the order of
-- the faults is this project's profile).
use Rattle.std.specs.Prelude.{◌≡◌, ℕ, zero, suc, ◌+◌, ◌==◌, Bool, true, false, not, ◌&&◌, ◌||◌, nat_lt, if◌then◌else◌, List, [], ◌∷◌, ◌++◌, length, take, drop, slice_index_or, Result, Ok, Err, is_ok}
use Rattle.word12.specs.declared.sizes.TheConstants.{FIRST_FILE_BLOCK}
use Rattle.os8_dir.specs.declared.entries.DirEntry.{DirEntry}
use Rattle.os8_dir.specs.declared.entries.DirEntry.TheVariants.{File, Empty}
use Rattle.os8_dir.specs.declared.faults.DirFault.{DirFault}
use Rattle.os8_dir.specs.declared.faults.DirFault.TheVariants.{BadLink, BadCount, EntryPastSegment, PastVolume, SameName, WrongFirstBlock, MixedInfo, Device, Memory}
use Rattle.os8_dir.specs.Names.{name_of, with_end_zeros}
use Rattle.os8_dir.specs.Entries.{DirectoryState, minus, is_zero, contains, size_of, end_of, names_of, tidy}

infixl 10 ◌>>=◌
abbrev pub ◌>>=◌ : {A B : Type 0} → Result A DirFault → (A → Result B DirFault) → Result B DirFault
(Ok x) >>= f = f x
(Err fault) >>= f = Err fault

-- a fault where the test fails
abbrev pub needs : Bool → DirFault → Result (Unit {0}) DirFault
needs true fault = Ok tt
needs false fault = Err fault

-- a word, 0 past the end
abbrev pub word : List ℕ → ℕ → ℕ
word words k = slice_index_or words k 0

-- the words of a block
abbrev pub block : List (List ℕ) → ℕ → List ℕ
block blocks k = slice_index_or blocks k []

-- the empty entry whose words these are after its first, and the words after it
unfoldable pub empty_at : List ℕ → Result (DirEntry × List ℕ) DirFault
empty_at [] = Err EntryPastSegment
empty_at (size ∷ rest) = Ok (Empty (minus size), rest)

-- the file's entry that the words begin with, and the words after it
unfoldable pub file_at : ℕ → List ℕ → Result (DirEntry × List ℕ) DirFault
file_at info (a ∷ b ∷ c ∷ d ∷ rest) = do
  fits ← needs (nat_lt info (length rest)) EntryPastSegment
  Ok (File (name_of (a ∷ b ∷ c ∷ d ∷ [])) (with_end_zeros 10 (take info rest)) (minus (word rest info)), drop (suc info) rest)
file_at info (a ∷ b ∷ c ∷ []) = Err EntryPastSegment
file_at info (a ∷ b ∷ []) = Err EntryPastSegment
file_at info (a ∷ []) = Err EntryPastSegment
file_at info [] = Err EntryPastSegment

-- the entry that the words begin with, and the words after it
unfoldable pub entry_at : ℕ → List ℕ → Result (DirEntry × List ℕ) DirFault
entry_at info [] = Err EntryPastSegment
entry_at info (first ∷ rest) = if is_zero first then empty_at rest else file_at info (first ∷ rest)

-- an entry of length 0 has no name, another's name is new
abbrev pub is_new : List ℕ → DirEntry → Bool
is_new names (File name info size) = is_zero size || not (contains names name)
is_new names (Empty size) = true

-- one more entry
unfoldable pub with_entry : ℕ → DirectoryState → DirEntry → Result DirectoryState DirFault
with_entry volume d e = do
  inside ← needs (not (nat_lt volume (end_of d + size_of e))) PastVolume
  single ← needs (is_new (names_of d.entries) e) SameName
  Ok (record d { entries = tidy (d.entries ++ e ∷ []) })

-- so many entries more
unfoldable pub with_entries : ℕ → ℕ → DirectoryState → List ℕ → Result DirectoryState DirFault
with_entries zero volume d words = Ok d
with_entries (suc count) volume d words = do
  e ← entry_at d.info words
  more ← with_entry volume d e.0
  with_entries count volume more e.1

-- one more segment, where the directory's first block and its number of information words are known
unfoldable pub with_segment : ℕ → DirectoryState → ℕ → List ℕ → Result DirectoryState DirFault
with_segment volume d number words = do
  few ← needs (not (nat_lt 10 (minus (word words 4)))) (BadCount number)
  same ← needs (minus (word words 4) == d.info) MixedInfo
  follows ← needs (word words 1 == end_of d) WrongFirstBlock
  with_entries (minus (word words 0)) volume d (drop 5 words)

-- the block number of a segment that was not read yet
abbrev pub is_unread : List ℕ → ℕ → Bool
is_unread read number = nat_lt number FIRST_FILE_BLOCK && not (contains read number)

-- the segments from a link on, of which `left` may still come; the link stands in block `from`
unfoldable pub with_links : ℕ → DirectoryState → List (List ℕ) → List ℕ → ℕ → ℕ → Result DirectoryState DirFault
with_links left d blocks read from zero = Ok d
with_links zero d blocks read from (suc n) = Err (BadLink from)
with_links (suc left) d blocks read from (suc n) = do
  unread ← needs (is_unread read (suc n)) (BadLink from)
  more ← with_segment (length blocks) d (suc n) (block blocks (suc n))
  with_links left more blocks (suc n ∷ read) (suc n) (word (block blocks (suc n)) 2)

-- where the directory's first block may be
abbrev pub is_first : ℕ → ℕ → Bool
is_first volume first = not (nat_lt first FIRST_FILE_BLOCK) && not (nat_lt volume first)

-- what the first segment says of the whole directory
unfoldable pub head_of : ℕ → List ℕ → Result DirectoryState DirFault
head_of volume words = do
  few ← needs (not (nat_lt 10 (minus (word words 4)))) (BadCount 1)
  starts ← needs (is_first volume (word words 1)) WrongFirstBlock
  Ok (record { first = word words 1; info = minus (word words 4); entries = [] })

-- the directory that the blocks of a volume hold, or the first fault; the first segment stands in block 1, and five more may come
unfoldable pub directory_of : List (List ℕ) → Result DirectoryState DirFault
directory_of blocks = do
  head ← head_of (length blocks) (block blocks 1)
  one ← with_segment (length blocks) head 1 (block blocks 1)
  with_links 5 one blocks (1 ∷ []) 1 (word (block blocks 1) 2)

-- the blocks hold a directory with no fault
abbrev pub Sound : List (List ℕ) → Type 0
Sound blocks = is_ok (directory_of blocks) ≡ true

-- the blocks hold this fault first
abbrev pub HasFault : List (List ℕ) → DirFault → Type 0
HasFault blocks fault = directory_of blocks ≡ Err fault

-- a fault of a volume's words, and not of the device or of memory
abbrev pub IsOfWords : DirFault → Type 0
IsOfWords (BadLink number) = Unit {0}
IsOfWords (BadCount number) = Unit {0}
IsOfWords EntryPastSegment = Unit {0}
IsOfWords PastVolume = Unit {0}
IsOfWords SameName = Unit {0}
IsOfWords WrongFirstBlock = Unit {0}
IsOfWords MixedInfo = Unit {0}
IsOfWords Device = ⊥
IsOfWords Memory = ⊥

-- the fault that a function returned is that of the reading, but a block or memory may be refused at any time
abbrev pub MeetsFault : {Y : Type 0} → DirFault → Result Y DirFault → Type 0
MeetsFault (BadLink number) read = read ≡ Err (BadLink number)
MeetsFault (BadCount number) read = read ≡ Err (BadCount number)
MeetsFault EntryPastSegment read = read ≡ Err EntryPastSegment
MeetsFault PastVolume read = read ≡ Err PastVolume
MeetsFault SameName read = read ≡ Err SameName
MeetsFault WrongFirstBlock read = read ≡ Err WrongFirstBlock
MeetsFault MixedInfo read = read ≡ Err MixedInfo
MeetsFault Device read = Unit {0}
MeetsFault Memory read = Unit {0}

-- what a function returned is what reading gives
abbrev pub GivesReading : {X Y : Type 0} → (X → Y) → Result X DirFault → Result Y DirFault → Type 0
GivesReading view (Ok x) read = read ≡ Ok (view x)
GivesReading view (Err fault) read = MeetsFault fault read

-- the fault is that the device failed
abbrev pub is_device : {X : Type 0} → Result X DirFault → Bool
is_device (Ok x) = false
is_device (Err (BadLink number)) = false
is_device (Err (BadCount number)) = false
is_device (Err EntryPastSegment) = false
is_device (Err PastVolume) = false
is_device (Err SameName) = false
is_device (Err WrongFirstBlock) = false
is_device (Err MixedInfo) = false
is_device (Err Device) = true
is_device (Err Memory) = false
