-- How often cells are fetched, step by step.
use Rattle.std.proofs.Common.{◌≡◌, ℕ, ◌+◌, ◌^◌, ◌<◌, ◌≤◌, ◌⊎◌, inl, inr, true, false, if◌then◌else◌, List, length, replicate, slice_index_or, add-one, refl, ap, sym, ◌∙◌, arith}
use Rattle.std.proofs.lemmas.Bool.{cases_lt}
use Rattle.std.proofs.lemmas.List.{get_or-replicate, length-replicate}
use Rattle.std.proofs.Math.ListN.{get_or-eq_default}
use Rattle.word12.specs.declared.sizes.TheConstants.{CORE}
use Rattle.cpu8.specs.State.{next_cell}
use Rattle.cpu8.specs.Fetches.{HaveRoom, is_fetch}
use Rattle.terminal8.specs.Fetches.{AddsFetches, fetch_count, fetches}
use Rattle.terminal8.specs.Terminal.{Terminal, later, after_step}
use Rattle.profile8.specs.Counts.{AreCounts, AreZero}
use Rattle.profile8.specs.CountSteps.{counts_with}
use Rattle.profile8.proofs.CellCounts.{Counts, adds-one, adds-other, adds-still, count-most, count-sum, counts-at, none-counted, room-left}

-- ## Counts of one cell

count-none : (t : Terminal) (cell : ℕ) → fetch_count 0 t cell ≡ 0
unfolding fetch_count
count-none t cell = refl

count-next : (k : ℕ) (t : Terminal) (cell : ℕ) → fetch_count (k + 1) t cell ≡ fetch_count k t cell + (if fetches (later k t) cell then 1 else 0)
unfolding fetch_count
count-next k t cell = rw add-one refl

by-steps : (t : Terminal) (cell : ℕ) → Counts (λ k. fetch_count k t cell) (λ k. fetches (later k t) cell)
by-steps t cell = record { none = count-none t cell; next = λ k. count-next k t cell }

-- the cell of a step that fetches
pub count-here : (k : ℕ) (t : Terminal) (cell : ℕ) → is_fetch (after_step (later k t)).1 ≡ true → next_cell (later k t).machine ≡ cell
    → fetch_count (k + 1) t cell ≡ fetch_count k t cell + 1
count-here k t cell = adds-one (fetch_count k t cell) (fetch_count (k + 1) t cell) (next_cell (later k t).machine) cell (is_fetch (after_step (later k t)).1) (count-next k t cell)

-- another cell
pub count-other : (k : ℕ) (t : Terminal) (cell : ℕ) → (next_cell (later k t).machine ≡ cell → ⊥) → fetch_count (k + 1) t cell ≡ fetch_count k t cell
count-other k t cell = adds-other (fetch_count k t cell) (fetch_count (k + 1) t cell) (next_cell (later k t).machine) cell (is_fetch (after_step (later k t)).1) (count-next k t cell)

-- a step that doesn't fetch
pub count-still : (k : ℕ) (t : Terminal) (cell : ℕ) → is_fetch (after_step (later k t)).1 ≡ false → fetch_count (k + 1) t cell ≡ fetch_count k t cell
count-still k t cell = adds-still (fetch_count k t cell) (fetch_count (k + 1) t cell) (next_cell (later k t).machine) cell (is_fetch (after_step (later k t)).1) (count-next k t cell)

-- ## Counts of all cells

pub counts-none : (t : Terminal) (counts : List ℕ) → length counts ≡ CORE → AreZero counts → AreCounts 0 t counts
counts-none t counts = none-counted (fetch_count 0 t) counts (count-none t)

pub counts-next : (k : ℕ) (t : Terminal) (counts : List ℕ) → AreCounts k t counts → next_cell (later k t).machine < CORE
    → AreCounts (k + 1) t (counts_with counts (next_cell (later k t).machine) (is_fetch (after_step (later k t)).1))
counts-next k t counts = counts-at (fetch_count k t) (fetch_count (k + 1) t) counts (next_cell (later k t).machine) (is_fetch (after_step (later k t)).1) (count-next k t)

-- there is room for one more
pub counts-room : (k : ℕ) (t : Terminal) (counts : List ℕ) (cell : ℕ) → AreCounts k t counts → slice_index_or counts cell 0 ≤ k
counts-room k t counts cell = room-left (fetch_count k t) k counts cell (count-most (λ k. fetch_count k t cell) (λ k. fetches (later k t) cell) k (by-steps t cell))

-- ## No counts

pub zeros_are : (count : ℕ) → AreZero (replicate count 0)
zeros_are count cell = at (cases_lt cell count)
  where
    at : (cell < count) ⊎ (count ≤ cell) → ◌≡◌ {A = ℕ} (slice_index_or (replicate count 0) cell 0) 0
    at (inl within) = get_or-replicate count cell 0 0 within
    at (inr beyond) = get_or-eq_default (replicate count 0) 0 (omega (arith, beyond, length-replicate {A = ℕ} count 0))

-- ## Steps after others

pub counts-add : ((a b : ℕ) (t : Terminal) → later (a + b) t ≡ later b (later a t)) → (a b : ℕ) (t : Terminal) (cell : ℕ)
    → fetch_count (a + b) t cell ≡ fetch_count a t cell + fetch_count b (later a t) cell
counts-add adds a b t cell =
    count-sum (λ k. fetch_count k t cell) (λ k. fetch_count k (later a t) cell) (λ k. fetches (later k t) cell) (λ k. fetches (later k (later a t)) cell) a b
    (by-steps t cell) (by-steps (later a t) cell) (λ k. ap (λ x. fetches x cell) (adds a k t))

-- the counts of steps, to which those of steps after them were added
pub counts-more : ((a b : ℕ) (t : Terminal) → later (a + b) t ≡ later b (later a t)) → (a b : ℕ) (t : Terminal) (counts counts' : List ℕ)
    → AreCounts a t counts → AddsFetches b (later a t) counts counts' → AreCounts (a + b) t counts'
counts-more adds a b t counts counts' are more = record {
  size = more.size ∙ are.size;
  cells = λ cell below. more.cells cell below ∙ ap (λ n. n + fetch_count b (later a t) cell) (are.cells cell below) ∙ sym (counts-add adds a b t cell);
}

-- there is room for all the steps that may follow
pub counts-far : (k more : ℕ) (t : Terminal) (counts : List ℕ) → AreCounts k t counts → k + more < 2 ^ 64 → HaveRoom more counts
counts-far k more t counts are room cell = let most = counts-room k t counts cell are in omega (arith, most, room)
