-- The lists of entries that changes of a directory make.
use Rattle.std.specs.Prelude.{◌≡◌, ℕ, ◌+◌, ◌-◌, ◌≤◌, ◌==◌, ◌&&◌, ◌⊎◌, nat_le, nat_lt, Bool, if◌then◌else◌, List, [], ◌∷◌, ◌++◌, take, Option, Some, None}
use Rattle.os8_dir.specs.declared.entries.DirEntry.{DirEntry}
use Rattle.os8_dir.specs.declared.entries.DirEntry.TheVariants.{File, Empty}
use Rattle.os8_dir.specs.Names.{with_end_zeros}
use Rattle.os8_dir.specs.Entries.{DirectoryState, size_of, tidy}
use Rattle.os8_dir.specs.Found.{FilePlace, largest}

-- the file of a name is an empty
abbrev pub emptied_entry : ℕ → DirEntry → DirEntry
emptied_entry name (File other info size) = if other == name then Empty size else File other info size
emptied_entry name (Empty size) = Empty size

abbrev pub entries_without : ℕ → List DirEntry → List DirEntry
entries_without name [] = []
entries_without name (e ∷ es) = emptied_entry name e ∷ entries_without name es

-- a list without the file of a name, whose blocks are an empty
abbrev pub without_file : ℕ → List DirEntry → List DirEntry
without_file name es = tidy (entries_without name es)

-- so many blocks from `from` on lie among `size` blocks from a place on
abbrev pub is_within : ℕ → ℕ → ℕ → ℕ → Bool
is_within place size from count = nat_le place from && nat_le (from + count) (place + size)

-- a file lies from a block on in an empty that begins at a place, where that has its blocks
abbrev pub parts_of_empty : ℕ → ℕ → DirEntry → DirEntry → List DirEntry
parts_of_empty place from file (File name info size) = File name info size ∷ []
parts_of_empty place from file (Empty size) = if is_within place size from (size_of file) then Empty (from - place) ∷ file ∷ Empty ((place + size) - (from + size_of file)) ∷ [] else Empty size ∷ []

-- the same of each entry of a list, of which the first begins at a place
abbrev pub put : ℕ → ℕ → DirEntry → List DirEntry → List DirEntry
put place from file [] = []
put place from file (e ∷ es) = parts_of_empty place from file e ++ put (place + size_of e) from file es

-- a list with one more file; an older one of its name is an empty
abbrev pub with_new_file : ℕ → FilePlace → List DirEntry → List DirEntry
with_new_file first f es = tidy (put first f.place (File f.name f.info f.size) (entries_without f.name es))

-- so many blocks from a block on lie in one of these empties
abbrev pub LieIn : ℕ → ℕ → List (ℕ × ℕ) → Type 0
LieIn from count [] = ⊥
LieIn from count (room ∷ rooms) = ((room.0 ≤ from) × (from + count ≤ room.0 + room.1)) ⊎ LieIn from count rooms

-- so many blocks from a block on are one of these empties
abbrev pub IsRoom : ℕ → ℕ → List (ℕ × ℕ) → Type 0
IsRoom from size [] = ⊥
IsRoom from size (room ∷ rooms) = ((room.0 ≡ from) × (room.1 ≡ size)) ⊎ IsRoom from size rooms

-- the blocks of the empty directly below the file of a name; 0 where there is none
abbrev pub gap_below : ℕ → List DirEntry → ℕ
gap_below name [] = 0
gap_below name (File other info size ∷ es) = gap_below name es
gap_below name (Empty gap ∷ []) = 0
gap_below name (Empty gap ∷ Empty size ∷ es) = gap_below name (Empty size ∷ es)
gap_below name (Empty gap ∷ File other info size ∷ es) = if other == name then gap else gap_below name es

-- the file of a name and the empty directly below it change places
abbrev pub with_file_lower : ℕ → List DirEntry → List DirEntry
with_file_lower name [] = []
with_file_lower name (File other info size ∷ es) = File other info size ∷ with_file_lower name es
with_file_lower name (Empty gap ∷ []) = Empty gap ∷ []
with_file_lower name (Empty gap ∷ Empty size ∷ es) = Empty gap ∷ with_file_lower name (Empty size ∷ es)
with_file_lower name (Empty gap ∷ File other info size ∷ es) = if other == name then File other info size ∷ Empty gap ∷ es else Empty gap ∷ File other info size ∷ with_file_lower name es

-- a list in which the file of a name stands below the empty that was below it
abbrev pub moved_down : ℕ → List DirEntry → List DirEntry
moved_down name es = tidy (with_file_lower name es)

-- the smaller of a room and another after it, the first of equals
abbrev pub smaller : ℕ × ℕ → Option (ℕ × ℕ) → ℕ × ℕ
smaller room None = room
smaller room (Some other) = if nat_lt other.1 room.1 then other else room

-- the smallest of the rooms that have so many blocks, the first of equals
abbrev pub smallest : ℕ → List (ℕ × ℕ) → Option (ℕ × ℕ)
smallest wish [] = None
smallest wish (room ∷ rooms) = if nat_lt room.1 wish then smallest wish rooms else Some (smaller room (smallest wish rooms))

-- the empty for a wish: the smallest that has so many blocks, or for a wish of 0 the largest
abbrev pub fitting : ℕ → List (ℕ × ℕ) → Option (ℕ × ℕ)
fitting wish rooms = if wish == 0 then largest rooms else smallest wish rooms

-- the lowest file with an empty directly below it, and that empty's blocks
abbrev pub lowest_above : List DirEntry → Option (ℕ × ℕ)
lowest_above [] = None
lowest_above (File name info size ∷ es) = lowest_above es
lowest_above (Empty gap ∷ []) = None
lowest_above (Empty gap ∷ Empty size ∷ es) = lowest_above (Empty size ∷ es)
lowest_above (Empty gap ∷ File name info size ∷ es) = Some (name, gap)

-- a directory with another list
abbrev pub directory_with : DirectoryState → List DirEntry → DirectoryState
directory_with d es = record { first = d.first; info = d.info; entries = es }

-- a new file: of the words given the first are its information words, and missing ones are 0
abbrev pub new_file : DirectoryState → ℕ → List ℕ → ℕ → ℕ → FilePlace
new_file d name words place size = record { name = name; info = with_end_zeros 10 (take d.info words); place = place; size = size }

-- a file so many blocks further down
abbrev pub file_lower : ℕ → Option FilePlace → Option FilePlace
file_lower gap None = None
file_lower gap (Some f) = Some (record { name = f.name; info = f.info; place = f.place - gap; size = f.size })
