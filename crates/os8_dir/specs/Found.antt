-- What is found in a list of entries (OS/8 Software Support Manual: entries stand in order of their blocks).
use Rattle.std.specs.Prelude.{◌≡◌, ℕ, suc, ◌+◌, ◌*◌, ◌/◌, ◌==◌, ◌<◌, ◌≤◌, nat_lt, if◌then◌else◌, List, [], ◌∷◌, Option, Some, None}
use Rattle.word12.specs.declared.sizes.TheConstants.{FIRST_FILE_BLOCK}
use Rattle.os8_dir.specs.declared.entries.DirEntry.{DirEntry}
use Rattle.os8_dir.specs.declared.entries.DirEntry.TheVariants.{File, Empty}
use Rattle.os8_dir.specs.Entries.{DirectoryState, is_zero, total, names_of, AreDistinct, IsTidy, AreWritable}

-- a file and where it lies
pub record FilePlace : Type 0 where
  pub name : ℕ
  pub info : List ℕ
  pub place : ℕ
  pub size : ℕ

-- the files, where the first entry begins at a place: a file's place is that plus the lengths before it
abbrev pub files_at : ℕ → List DirEntry → List FilePlace
files_at place [] = []
files_at place (File name info size ∷ es) = if is_zero size then files_at place es else record { name = name; info = info; place = place; size = size } ∷ files_at (place + size) es
files_at place (Empty size ∷ es) = files_at (place + size) es

-- the first file of a name
abbrev pub find : ℕ → List FilePlace → Option FilePlace
find name [] = None
find name (f ∷ fs) = if f.name == name then Some f else find name fs

-- a file's first block and its length
abbrev pub extent_of : Option FilePlace → Option (ℕ × ℕ)
extent_of None = None
extent_of (Some f) = Some (f.place, f.size)

-- a file's information words
abbrev pub information_of : Option FilePlace → Option (List ℕ)
information_of None = None
information_of (Some f) = Some f.info

-- the empties with their places
abbrev pub rooms_at : ℕ → List DirEntry → List (ℕ × ℕ)
rooms_at place [] = []
rooms_at place (File name info size ∷ es) = rooms_at (place + size) es
rooms_at place (Empty size ∷ es) = (place, size) ∷ rooms_at (place + size) es

-- the larger of a room and another after it, the first of equals
abbrev pub larger : ℕ × ℕ → Option (ℕ × ℕ) → ℕ × ℕ
larger room None = room
larger room (Some other) = if nat_lt room.1 other.1 then other else room

-- the largest of some rooms, the first of equals
abbrev pub largest : List (ℕ × ℕ) → Option (ℕ × ℕ)
largest [] = None
largest (room ∷ rooms) = Some (larger room (largest rooms))

-- the blocks of a room, 0 where there is none
abbrev pub size_or_zero : Option (ℕ × ℕ) → ℕ
size_or_zero None = 0
size_or_zero (Some room) = room.1

-- the blocks of an empty; a file has none
abbrev pub room_of : DirEntry → ℕ
room_of (File name info size) = 0
room_of (Empty size) = size

-- the blocks of all empties
abbrev pub free_blocks : List DirEntry → ℕ
free_blocks [] = 0
free_blocks (e ∷ es) = room_of e + free_blocks es

-- the blocks of all files
abbrev pub used_blocks : List FilePlace → ℕ
used_blocks [] = 0
used_blocks (f ∷ fs) = f.size + used_blocks fs

-- how many files
abbrev pub count_files : List DirEntry → ℕ
count_files [] = 0
count_files (File name info size ∷ es) = suc (count_files es)
count_files (Empty size ∷ es) = count_files es

-- how many empties
abbrev pub count_empties : List DirEntry → ℕ
count_empties [] = 0
count_empties (File name info size ∷ es) = count_empties es
count_empties (Empty size ∷ es) = suc (count_empties es)

-- how many files of a tidy list have an empty below them: all those after its first empty
abbrev pub above : List DirEntry → ℕ
above [] = 0
above (File name info size ∷ es) = above es
above (Empty size ∷ es) = count_files es

-- no file has
abbrev pub IsTight : List DirEntry → Type 0
IsTight es = above es ≡ 0

-- how many entries a segment takes
abbrev pub per_segment : ℕ → ℕ
per_segment info = 251 / (5 + info)

-- how many entries the six segments of a directory take
abbrev pub limit : DirectoryState → ℕ
limit d = 6 * per_segment d.info

-- files in order of their blocks, from a block on up to a bound, none of which overlap
abbrev pub AreApart : ℕ → ℕ → List FilePlace → Type 0
AreApart from bound [] = from ≤ bound
AreApart from bound (f ∷ fs) = (from ≤ f.place) × (0 < f.size) × AreApart (f.place + f.size) bound fs

-- a directory of a volume of so many blocks
pub record IsDirectory (volume : ℕ) (d : DirectoryState) : Type 0 where
  pub starts : FIRST_FILE_BLOCK ≤ d.first
  pub few : d.info ≤ 10
  pub inside : d.first + total d.entries ≤ volume
  pub neat : IsTidy d.entries
  pub single : AreDistinct (names_of d.entries)
  pub apart : AreApart d.first volume (files_at d.first d.entries)
  pub writable : AreWritable d.info d.entries
