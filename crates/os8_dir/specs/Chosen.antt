-- What is chosen among empties and files, in terms of the whole lists.
use Rattle.std.specs.Prelude.{◌≡◌, ◌⊎◌, ℕ, ◌+◌, ◌<◌, ◌≤◌, List, [], ◌∷◌, ◌++◌, length}
use Rattle.os8_dir.specs.declared.entries.DirEntry.{DirEntry}
use Rattle.os8_dir.specs.declared.entries.DirEntry.TheVariants.{File, Empty}
use Rattle.os8_dir.specs.Found.{FilePlace, files_at}

-- the number of blocks of each of these rooms is so
abbrev pub EachRoom : (ℕ → Type 0) → List (ℕ × ℕ) → Type 0
EachRoom So [] = Unit {0}
EachRoom So (room ∷ rooms) = So room.1 × EachRoom So rooms

-- the largest of these rooms, the first of equals: those before it have fewer blocks, and those after it no more
pub record IsFirstLargest (rooms : List (ℕ × ℕ)) (room : ℕ × ℕ) : Type 0 where
  pub prefix : List (ℕ × ℕ)
  pub following : List (ℕ × ℕ)
  pub list : rooms ≡ prefix ++ room ∷ following
  pub before : EachRoom (λ size. size < room.1) prefix
  pub after : EachRoom (λ size. size ≤ room.1) following

-- The smallest of these rooms that has so many blocks, the first of equals. Those before it that have so many have more
-- than it, and those after it no fewer.
pub record IsFirstSmallest (wish : ℕ) (rooms : List (ℕ × ℕ)) (room : ℕ × ℕ) : Type 0 where
  pub prefix : List (ℕ × ℕ)
  pub following : List (ℕ × ℕ)
  pub list : rooms ≡ prefix ++ room ∷ following
  pub long : wish ≤ room.1
  pub before : EachRoom (λ size. (size < wish) ⊎ (room.1 < size)) prefix
  pub after : EachRoom (λ size. (size < wish) ⊎ (room.1 ≤ size)) following

-- a list of files alone
abbrev pub AreFiles : List DirEntry → Type 0
AreFiles [] = Unit {0}
AreFiles (File name info size ∷ es) = AreFiles es
AreFiles (Empty size ∷ es) = ⊥

-- the lowest file with an empty directly below it, and that empty's blocks: below the empty stand only files
pub record IsLowestAbove (es : List DirEntry) (name gap : ℕ) : Type 0 where
  pub prefix : List DirEntry
  pub info : List ℕ
  pub size : ℕ
  pub following : List DirEntry
  pub list : es ≡ prefix ++ Empty gap ∷ File name info size ∷ following
  pub files : AreFiles prefix

-- a block lies in none of these files
abbrev pub IsFreeBlock : ℕ → List FilePlace → Type 0
IsFreeBlock block [] = Unit {0}
IsFreeBlock block (f ∷ fs) = ((block < f.place) ⊎ (f.place + f.size ≤ block)) × IsFreeBlock block fs

-- below a file, from a block on, lies a block of none of these files
pub record HasFreeBelow (first : ℕ) (files : List FilePlace) (f : FilePlace) : Type 0 where
  pub block : ℕ
  pub covered : first ≤ block
  pub below : block < f.place
  pub free : IsFreeBlock block files

abbrev pub EachHas : ℕ → List FilePlace → List FilePlace → Type 0
EachHas first files [] = Unit {0}
EachHas first files (f ∷ fs) = HasFreeBelow first files f × EachHas first files fs

abbrev pub NoneHas : ℕ → List FilePlace → List FilePlace → Type 0
NoneHas first files [] = Unit {0}
NoneHas first files (f ∷ fs) = (HasFreeBelow first files f → ⊥) × NoneHas first files fs

-- the files with a covered block of no file below them are the highest, and there are so many
pub record IsCountAbove (first : ℕ) (es : List DirEntry) (number : ℕ) : Type 0 where
  pub low : List FilePlace
  pub high : List FilePlace
  pub files : files_at first es ≡ low ++ high
  pub none : NoneHas first (files_at first es) low
  pub each : EachHas first (files_at first es) high
  pub count : length high ≡ number
