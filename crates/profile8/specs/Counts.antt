-- How often the word of each cell was fetched (this project's profile).
use Rattle.std.specs.Prelude.{◌≡◌, ℕ, ◌<◌, List, slice_index_or, length}
use Rattle.word12.specs.declared.sizes.TheConstants.{CORE}
use Rattle.terminal8.specs.Terminal.{Terminal}
use Rattle.terminal8.specs.Fetches.{fetch_count}

-- these are the counts of cells, one for each cell of core
pub record AreCountsOf (count_of : ℕ → ℕ) (counts : List ℕ) : Type 0 where
  pub size : length counts ≡ CORE
  pub cells : (cell : ℕ) → cell < CORE → slice_index_or counts cell 0 ≡ count_of cell

-- those of so many steps
abbrev pub AreCounts : ℕ → Terminal → List ℕ → Type 0
AreCounts steps t counts = AreCountsOf (fetch_count steps t) counts

-- all of these are 0
abbrev pub AreZero : List ℕ → Type 0
AreZero counts = (cell : ℕ) → slice_index_or counts cell 0 ≡ 0
