-- How often the word of each cell was fetched on the 8/E (this project's profile).
use Rattle.std.specs.Prelude.{ℕ, zero, suc, ◌+◌, Bool, ◌&&◌, nat_eq, if◌then◌else◌, List}
use Rattle.cpu8.specs.State.{next_cell}
use Rattle.cpu8.specs.Fetches.{is_fetch}
use Rattle.pdp8e.specs.Terminal.{Terminal, later, after_step}
use Rattle.profile8.specs.Counts.{AreCountsOf}

-- whether the step that a terminal makes next fetches the word of a cell
abbrev pub fetches : Terminal → ℕ → Bool
fetches t cell = is_fetch (after_step t).1 && nat_eq (next_cell t.machine.processor.base) cell

-- how often so many steps fetch it
unfoldable pub fetch_count : ℕ → Terminal → ℕ → ℕ
fetch_count zero t cell = 0
fetch_count (suc k) t cell = fetch_count k t cell + (if fetches (later k t) cell then 1 else 0)

-- these are the counts of so many steps, one for each cell of core
abbrev pub AreCounts : ℕ → Terminal → List ℕ → Type 0
AreCounts steps t counts = AreCountsOf (fetch_count steps t) counts
