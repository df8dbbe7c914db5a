-- What a job that assembles holds, and what it does.
use Rattle.std.specs.Prelude.{◌≡◌, ℕ, ◌≤◌, false, Option, Some, None, List, [], ◌∷◌}
use Rattle.os8_dir.specs.Entries.{contains, IsNamed}
use Rattle.os8_dir.specs.Files.{files_of}
use Rattle.pal_blocks.specs.Progress.{IsAssembling}
use Rattle.volume_jobs.specs.declared.assembly.Assembly.{Assembly}
use Rattle.volume_jobs.specs.State.{words_in, AreIn}

-- ## Holds at places

-- the names that places hold, in their order
abbrev pub names_of : List (Option ℕ) → List ℕ
names_of [] = []
names_of (None ∷ places) = names_of places
names_of (Some name ∷ places) = name ∷ names_of places

-- no place after an empty one holds a file
abbrev pub AreFirst : List (Option ℕ) → Type 0
AreFirst [] = Unit {0}
AreFirst (None ∷ places) = (names_of places ≡ []) × AreFirst places
AreFirst (Some name ∷ places) = AreFirst places

-- ## A job that assembles

-- what holds of a job that assembles also where a write has failed
pub record AssemblyFits (it : Assembly) (left : ℕ) : Type 0 where
  pub more : 1 ≤ left
  pub named : IsNamed it.to
  pub other : contains (names_of it.holds) it.to ≡ false
  pub first : AreFirst it.holds

-- A job that assembles stands so over blocks: its sources are there, and what it has read is the beginning of them as they are
-- now, wherever they lie.
pub record AssemblyStands (blocks : List (List ℕ)) (it : Assembly) (left : ℕ) : Type 0 where
  pub there : AreIn (files_of blocks) (names_of it.holds)
  pub reads : IsAssembling (words_in (files_of blocks) (names_of it.holds)) it.assembling left
