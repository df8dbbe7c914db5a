-- What jobs do their work on: files, core and the other jobs. No store, entry list, segment, lexer, pass or loader is in it.
use Rattle.std.specs.Prelude.{◌≡◌, ◌⊎◌, ℕ, ◌+◌, ◌*◌, ◌<◌, ◌≤◌, Bool, true, false, Option, Some, None, List, [], ◌∷◌}
use Rattle.std.specs.FinMap.{get, insert}
use Rattle.os8_dir.specs.Entries.{contains}
use Rattle.os8_dir.specs.Files.{Files, FileData}
use Rattle.os8_dir.specs.Names.{with_end_zeros}
use Rattle.os8_files.specs.Service.{blocks_in_use, count_of}
use Rattle.os8_dir.specs.declared.file_faults.FileFault.{FileFault}
use Rattle.os8_dir.specs.declared.file_faults.FileFault.TheVariants as file
use Rattle.volume_jobs.specs.Jobs.{Job, names_of_jobs, with_disturbance}
use Rattle.pal_blocks.specs.Blocks.{blocks_in}

pub record State : Type 0 where
  -- the map from names to information words and words
  pub files : Files
  -- how many blocks the directory covers
  pub capacity : ℕ
  -- how many entries the directory may have
  pub limit : ℕ
  -- how many information words a file has
  pub info : ℕ
  -- no file has a covered block of no file below it
  pub tight : Bool
  -- the words of core, each at the number of its cell
  pub core : List ℕ
  -- the jobs by their numbers
  pub jobs : List (Option Job)

-- the words of the file of a name; none where there is no file
abbrev pub words_or : Option FileData → List ℕ
words_or None = []
words_or (Some held) = held.1

abbrev pub words_of : State → ℕ → List ℕ
words_of s name = words_or (get s.files name)

-- the words of files, one after the other
abbrev pub words_in : Files → List ℕ → List (List ℕ)
words_in files [] = []
words_in files (name ∷ names) = words_or (get files name) ∷ words_in files names

abbrev pub words_among : State → List ℕ → List (List ℕ)
words_among s names = words_in s.files names

-- there is a file of the name
abbrev pub IsIn : Files → ℕ → Type 0
IsIn files name = (held : FileData) × (get files name ≡ Some held)

abbrev pub IsThere : State → ℕ → Type 0
IsThere s name = IsIn s.files name

-- there is a file of each name
abbrev pub AreIn : Files → List ℕ → Type 0
AreIn files [] = Unit {0}
AreIn files (name ∷ names) = IsIn files name × AreIn files names

abbrev pub AreThere : State → List ℕ → Type 0
AreThere s names = AreIn s.files names

-- one of the names has no file
abbrev pub IsOneOut : Files → List ℕ → Type 0
IsOneOut files [] = ⊥
IsOneOut files (name ∷ names) = (get files name ≡ None) ⊎ IsOneOut files names

abbrev pub IsOneMissing : State → List ℕ → Type 0
IsOneMissing s names = IsOneOut s.files names

-- The largest run of free blocks has so many, fewer than are wanted. All free blocks are no fewer, no more than so many for
-- each file and once more, and exactly so many where no file has a free block below it.
pub record IsCrowded (s : State) (wanted largest : ℕ) : Type 0 where
  pub short : largest < wanted
  pub least : largest + blocks_in_use s.files ≤ s.capacity
  pub most : s.capacity ≤ blocks_in_use s.files + largest * (count_of s.files + 1)
  pub tight : s.tight ≡ true → largest + blocks_in_use s.files ≡ s.capacity

-- The directory may have fewer entries than the files after a change with an empty below each and one above all. Where no
-- file had a free block below it, they are fewer than the files before and two more.
pub record IsFull (s : State) (after : Files) : Type 0 where
  pub files : s.limit < 2 * count_of after + 1
  pub tight : s.tight ≡ true → s.limit < count_of s.files + 2

-- words as a file: its information words are 0
abbrev pub plain_file : State → List ℕ → FileData
plain_file s words = (with_end_zeros s.info [], words)

-- the state after a file is put under a name, new or old, where the jobs become others
pub record HasPut (old : State) (name : ℕ) (words : List ℕ) (jobs : List (Option Job)) (new : State) : Type 0 where
  pub free : contains (names_of_jobs old.jobs) name ≡ false
  pub tight : get old.files name ≡ None → old.tight ≡ true → new.tight ≡ true
  pub others : new ≡ record old { files = insert old.files name (plain_file old words); tight = new.tight; jobs = with_disturbance jobs }

-- a file of these words is refused under a name
abbrev pub PutRefused : State → ℕ → List ℕ → FileFault → Type 0
PutRefused s name words (file.Busy other) = (other ≡ name) × (contains (names_of_jobs s.jobs) name ≡ true)
PutRefused s name words (file.NoRoom largest) = (contains (names_of_jobs s.jobs) name ≡ false) × IsCrowded s (blocks_in words) largest
PutRefused s name words file.DirectoryFull = (contains (names_of_jobs s.jobs) name ≡ false) × IsFull s (insert s.files name (plain_file s words))
PutRefused s name words fault = ⊥
