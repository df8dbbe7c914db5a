-- What stores and deletes do to the files of a volume, and what names several bytes are.
use Rattle.std.specs.Prelude.{◌≡◌, ℕ, ◌+◌, true, false, Option, Some, None, List, [], ◌∷◌, length}
use Rattle.std.specs.FinMap.{get, remove}
use Rattle.char_pack.specs.Packing.{block_count}
use Rattle.char_pack.specs.Texts.{host_text, is_storable, words_of_text}
use Rattle.os8_dir.specs.Entries.{contains}
use Rattle.os8_dir.specs.Files.{FileData}
use Rattle.os8_dir.specs.Names.{parsed_name}
use Rattle.os8_dir.specs.declared.file_faults.FileFault.{FileFault}
use Rattle.os8_dir.specs.declared.file_faults.FileFault.TheVariants as file
use Rattle.volume_jobs.specs.Jobs.{names_of_jobs, with_disturbance}
use Rattle.volume_jobs.specs.State.{State, IsThere, IsFull, HasPut}

-- a name before others, where they are names
abbrev pub name_before : Option ℕ → Option (List ℕ) → Option (List ℕ)
name_before (Some name) (Some names) = Some (name ∷ names)
name_before name names = None

-- the names that several are, where each is one
abbrev pub parsed_names : List (List ℕ) → Option (List ℕ)
parsed_names [] = Some []
parsed_names (bytes ∷ others) = name_before (parsed_name bytes) (parsed_names others)

-- no job holds the name
abbrev pub IsUnheld : State → ℕ → Type 0
IsUnheld s name = contains (names_of_jobs s.jobs) name ≡ false

-- how many blocks a text takes
abbrev pub text_blocks : List ℕ → ℕ
text_blocks text = block_count (length (host_text text) + 1)

-- a text is stored under a name, new or old
abbrev pub HasStored : ℕ → List ℕ → State → State → Type 0
HasStored name text old new = (is_storable text ≡ true) × HasPut old name (words_of_text text) old.jobs new

-- a file is taken out
pub record HasDeleted (name : ℕ) (old new : State) : Type 0 where
  pub file : FileData
  pub there : get old.files name ≡ Some file
  pub free : IsUnheld old name
  pub others : new
      ≡ record old { files = remove old.files name; tight = new.tight; jobs = with_disturbance old.jobs }

-- a name is not taken out
abbrev pub DeleteRefused : State → ℕ → FileFault → Type 0
DeleteRefused old name file.NotFound = get old.files name ≡ None
DeleteRefused old name (file.Busy other) =
    IsThere old name × (other ≡ name) × (contains (names_of_jobs old.jobs) name ≡ true)
DeleteRefused old name file.DirectoryFull =
    IsThere old name × IsUnheld old name × IsFull old (remove old.files name)
DeleteRefused old name fault = ⊥
