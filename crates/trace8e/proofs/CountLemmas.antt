-- How often cells are fetched, step by step.
use Rattle.std.proofs.Common.{◌≡◌, ℕ, ◌+◌, ◌<◌, ◌≤◌, true, false, if◌then◌else◌, List, length, slice_index_or, add-one, refl, ap}
use Rattle.word12.specs.declared.sizes.TheConstants.{CORE}
use Rattle.cpu8.specs.State.{next_cell}
use Rattle.cpu8.specs.Fetches.{is_fetch}
use Rattle.pdp8e.specs.Terminal.{Terminal, later, after_step}
use Rattle.profile8.specs.Counts.{AreZero}
use Rattle.trace8e.specs.Counts.{AreCounts, fetch_count, fetches}
use Rattle.profile8.specs.CountSteps.{counts_with}
use Rattle.profile8.proofs.CellCounts.{Counts, adds-one, adds-other, adds-still, count-most, count-sum, counts-at, none-counted, room-left}

-- ## Counts of one cell

count-none : (t : Terminal) (cell : ℕ) → fetch_count 0 t cell ≡ 0
unfolding fetch_count
count-none t cell = refl

count-next : (k : ℕ) (t : Terminal) (cell : ℕ) → fetch_count (k + 1) t cell ≡ fetch_count k t cell + (if fetches (later k t) cell then 1 else 0)
unfolding fetch_count
count-next k t cell = rw add-one refl

by-steps : (t : Terminal) (cell : ℕ) → Counts (λ k. fetch_count k t cell) (λ k. fetches (later k t) cell)
by-steps t cell = record { none = count-none t cell; next = λ k. count-next k t cell }

-- the cell of a step that fetches
pub count-here : (k : ℕ) (t : Terminal) (cell : ℕ) → is_fetch (after_step (later k t)).1 ≡ true → next_cell (later k t).machine.processor.base ≡ cell
    → fetch_count (k + 1) t cell ≡ fetch_count k t cell + 1
count-here k t cell = adds-one (fetch_count k t cell) (fetch_count (k + 1) t cell) (next_cell (later k t).machine.processor.base) cell (is_fetch (after_step (later k t)).1) (count-next k t cell)

-- another cell
pub count-other : (k : ℕ) (t : Terminal) (cell : ℕ) → (next_cell (later k t).machine.processor.base ≡ cell → ⊥) → fetch_count (k + 1) t cell ≡ fetch_count k t cell
count-other k t cell = adds-other (fetch_count k t cell) (fetch_count (k + 1) t cell) (next_cell (later k t).machine.processor.base) cell (is_fetch (after_step (later k t)).1) (count-next k t cell)

-- a step that doesn't fetch
pub count-still : (k : ℕ) (t : Terminal) (cell : ℕ) → is_fetch (after_step (later k t)).1 ≡ false → fetch_count (k + 1) t cell ≡ fetch_count k t cell
count-still k t cell = adds-still (fetch_count k t cell) (fetch_count (k + 1) t cell) (next_cell (later k t).machine.processor.base) cell (is_fetch (after_step (later k t)).1) (count-next k t cell)

-- ## Counts of all cells

pub counts-none : (t : Terminal) (counts : List ℕ) → length counts ≡ CORE → AreZero counts → AreCounts 0 t counts
counts-none t counts = none-counted (fetch_count 0 t) counts (count-none t)

pub counts-next : (k : ℕ) (t : Terminal) (counts : List ℕ) → AreCounts k t counts → next_cell (later k t).machine.processor.base < CORE
    → AreCounts (k + 1) t (counts_with counts (next_cell (later k t).machine.processor.base) (is_fetch (after_step (later k t)).1))
counts-next k t counts = counts-at (fetch_count k t) (fetch_count (k + 1) t) counts (next_cell (later k t).machine.processor.base) (is_fetch (after_step (later k t)).1) (count-next k t)

-- there is room for one more
pub counts-room : (k : ℕ) (t : Terminal) (counts : List ℕ) (cell : ℕ) → AreCounts k t counts → slice_index_or counts cell 0 ≤ k
counts-room k t counts cell = room-left (fetch_count k t) k counts cell (count-most (λ k. fetch_count k t cell) (λ k. fetches (later k t) cell) k (by-steps t cell))

-- ## Steps after others

pub counts-add : ((a b : ℕ) (t : Terminal) → later (a + b) t ≡ later b (later a t)) → (a b : ℕ) (t : Terminal) (cell : ℕ)
    → fetch_count (a + b) t cell ≡ fetch_count a t cell + fetch_count b (later a t) cell
counts-add adds a b t cell =
    count-sum (λ k. fetch_count k t cell) (λ k. fetch_count k (later a t) cell) (λ k. fetches (later k t) cell) (λ k. fetches (later k (later a t)) cell) a b
    (by-steps t cell) (by-steps (later a t) cell) (λ k. ap (λ x. fetches x cell) (adds a k t))
