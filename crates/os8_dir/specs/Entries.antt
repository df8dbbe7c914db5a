-- A directory as a list of entries in order of their blocks (OS/8 Software Support Manual).
use Rattle.std.specs.Prelude.{◌≡◌, ℕ, zero, suc, ◌+◌, ◌/◌, ◌<◌, ◌==◌, Bool, true, false, if◌then◌else◌, List, [], ◌∷◌, take, Option, Some, None}
use Rattle.os8_dir.specs.declared.entries.DirEntry.{DirEntry}
use Rattle.os8_dir.specs.declared.entries.DirEntry.TheVariants.{File, Empty}
use Rattle.os8_dir.specs.Names.{with_end_zeros}
pub use Rattle.volume_image.specs.Image.{minus}

-- a directory: its first block, how many information words an entry has, its entries
pub record DirectoryState : Type 0 where
  pub first : ℕ
  pub info : ℕ
  pub entries : List DirEntry

abbrev pub is_zero : ℕ → Bool
is_zero zero = true
is_zero (suc n) = false

abbrev pub contains : List ℕ → ℕ → Bool
contains [] x = false
contains (y ∷ ys) x = if y == x then true else contains ys x

-- no number stands twice
abbrev pub AreDistinct : List ℕ → Type 0
AreDistinct [] = Unit {0}
AreDistinct (x ∷ xs) = (contains xs x ≡ false) × AreDistinct xs

-- the blocks of an entry
abbrev pub size_of : DirEntry → ℕ
size_of (File name info size) = size
size_of (Empty size) = size

-- the name of a file; an empty has none
abbrev pub name_in : DirEntry → Option ℕ
name_in (File name info size) = Some name
name_in (Empty size) = None

-- the blocks of a list
abbrev pub total : List DirEntry → ℕ
total [] = 0
total (e ∷ es) = size_of e + total es

-- the block after the last entry
abbrev pub end_of : DirectoryState → ℕ
end_of d = d.first + total d.entries

-- how many blocks the directory covers
abbrev pub capacity : DirectoryState → ℕ
capacity d = total d.entries

-- the names of the files; an entry of length 0 is none
abbrev pub names_of : List DirEntry → List ℕ
names_of [] = []
names_of (File name info size ∷ es) = if is_zero size then names_of es else name ∷ names_of es
names_of (Empty size ∷ es) = names_of es

-- an entry before a list: of length 0 it is nothing, and empties that touch are one
abbrev pub before : DirEntry → List DirEntry → List DirEntry
before (File name info size) es = if is_zero size then es else File name info size ∷ es
before (Empty size) [] = if is_zero size then [] else Empty size ∷ []
before (Empty size) (Empty more ∷ es) = Empty (size + more) ∷ es
before (Empty size) (File name info more ∷ es) = if is_zero size then File name info more ∷ es else Empty size ∷ File name info more ∷ es

-- the list with no entry of length 0 and no empties that touch
abbrev pub tidy : List DirEntry → List DirEntry
tidy [] = []
tidy (e ∷ es) = before e (tidy es)

-- an entry may stand before the list: not an empty before an empty
abbrev pub Apart : DirEntry → List DirEntry → Type 0
Apart e [] = Unit {0}
Apart (File name info size) (other ∷ es) = Unit {0}
Apart (Empty size) (File name info more ∷ es) = Unit {0}
Apart (Empty size) (Empty more ∷ es) = ⊥

-- no entry has length 0, and no empties touch
abbrev pub IsTidy : List DirEntry → Type 0
IsTidy [] = Unit {0}
IsTidy (e ∷ es) = (0 < size_of e) × Apart e es × IsTidy es

-- the first of a name's four words is not 0
abbrev pub IsNamed : ℕ → Type 0
IsNamed name = 0 < name / 68719476736

-- an entry that its words can say: its name is no name of an empty, and after so many information words are zeros
abbrev pub IsWritable : ℕ → DirEntry → Type 0
IsWritable info (File name words size) = IsNamed name × (with_end_zeros 10 (take info words) ≡ words)
IsWritable info (Empty size) = Unit {0}

abbrev pub AreWritable : ℕ → List DirEntry → Type 0
AreWritable info [] = Unit {0}
AreWritable info (e ∷ es) = IsWritable info e × AreWritable info es
