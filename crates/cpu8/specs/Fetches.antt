-- How often the word of each cell is fetched (Small Computer Handbook). The printer is quick: it ends its character before the next
-- step.
use Rattle.std.specs.Prelude.{◌≡◌, ℕ, zero, suc, ◌+◌, ◌<◌, ◌^◌, Bool, true, false, ◌&&◌, nat_eq, if◌then◌else◌, List, length, slice_index_or}
use Rattle.word12.specs.declared.sizes.TheConstants.{CORE}
use Rattle.cpu8.specs.State.{State, next_cell}
use Rattle.cpu8.specs.Go.{after, answer}
use Rattle.cpu8.specs.declared.outcomes.Stepped.{Stepped}
use Rattle.cpu8.specs.declared.outcomes.Stepped.TheVariants.{Stopped, Interrupted, Ran, Halted, Unassigned}

-- whether a step that did this fetched a word: an instruction, a HLT and an unassigned word too, but no interrupt
abbrev pub is_fetch : Stepped → Bool
is_fetch Stopped = false
is_fetch Interrupted = false
is_fetch (Ran printed) = true
is_fetch Halted = true
is_fetch (Unassigned word) = true

-- whether the step after the first m fetches the word of a cell
abbrev pub fetches : ℕ → State → ℕ → Bool
fetches m s cell = is_fetch (answer true m s) && nat_eq (next_cell (after true m s)) cell

-- how often the first k steps fetch it
unfoldable pub fetch_count : ℕ → State → ℕ → ℕ
fetch_count zero s cell = 0
fetch_count (suc k) s cell = fetch_count k s cell + (if fetches k s cell then 1 else 0)

-- To the count of each cell of core was added how often the first k steps fetch its word.
pub record AddsFetches (k : ℕ) (s : State) (old new : List ℕ) : Type 0 where
  pub size : length new ≡ length old
  pub cells : (cell : ℕ) → cell < CORE → slice_index_or new cell 0 ≡ slice_index_or old cell 0 + fetch_count k s cell

-- each of these counts may become so much more
abbrev pub HaveRoom : ℕ → List ℕ → Type 0
HaveRoom more counts = (cell : ℕ) → slice_index_or counts cell 0 + more < 2 ^ 64
