-- The pools of a tape: the last cells of pages, to which words before them refer as to literals (PAL8, in this project's profile).
use Rattle.std.specs.Prelude.{ℕ, zero, suc, ◌+◌, ◌-◌, ◌*◌, ◌/◌, ◌%◌, nat_eq, nat_lt, nat_le, Bool, true, false, ◌&&◌, not, if◌then◌else◌, Option, Some, None, is_some, List}
use Rattle.word12.specs.declared.sizes.TheConstants.{FIELD, PAGE}
use Rattle.flow8.specs.Flow.{word_in}
use Rattle.source_notes.specs.Notes.{is_flagged}
use Rattle.source_notes.specs.Referrers.{names_cell}

-- The words of a tape, one or none for each cell of core. Which of its cells hold instructions. Which are no pool's: those that are named, and
-- those that are reached from a start.
pub record Program : Type 0 where
  pub words : List (Option ℕ)
  pub code : List Bool
  pub exempt : List Bool

-- an instruction is a memory reference that names a cell
abbrev pub refers : Program → ℕ → ℕ → Bool
refers p cell from = is_flagged p.code from && names_cell from (word_in p.words from) cell

-- the lowest of so many cells, from the first on, of which this is true
abbrev pub lowest : (ℕ → Bool) → ℕ → ℕ → Option ℕ
lowest is first zero = None
lowest is first (suc count) = if is first then Some first else lowest is (suc first) count

-- a cell is one of the last of its page, of which the pool has so many
abbrev pub is_in_pool : (ℕ → ℕ) → ℕ → Bool
is_in_pool size cell = nat_le PAGE (cell % PAGE + size (cell / PAGE))

-- the lowest instruction of a cell's own page that refers to it
unfoldable pub own_ask : Program → ℕ → Option ℕ
own_ask p cell = lowest (refers p cell) (PAGE * (cell / PAGE)) PAGE

-- of the other pages of its field, outside of their pools; only page zero can be referred to from there
unfoldable pub later_ask : Program → (ℕ → ℕ) → ℕ → Option ℕ
later_ask p size cell =
    if nat_lt (cell % FIELD) PAGE
    then lowest (λ from. not (is_in_pool size from) && refers p cell from) (FIELD * (cell / FIELD) + PAGE) (FIELD - PAGE)
    else None

-- the first of both, where only what stands before a cell counts on the own page
abbrev pub first_ask : ℕ → Option ℕ → Option ℕ → Option ℕ
first_ask start None later = later
first_ask start (Some from) later = if nat_lt from start then Some from else later

-- the cells of a page from its last one down
abbrev pub cell_from_end : ℕ → ℕ → ℕ
cell_from_end page k = PAGE * page + (PAGE - 1) - k

-- what refers first to the cells of a page, from its last one down: of the own page, and of others
pub record Asks : Type 0 where
  pub own : ℕ → Option ℕ
  pub later : ℕ → Option ℕ

-- those of the words of a tape
abbrev pub asks_of : Program → (ℕ → ℕ) → ℕ → Asks
asks_of p size page = record { own = λ k. own_ask p (cell_from_end page k); later = λ k. later_ask p size (cell_from_end page k) }

-- what refers to such a cell for the first time, where the pool has n cells
abbrev pub ask_of : Asks → ℕ → ℕ → ℕ → Option ℕ
ask_of asks page n k = first_ask (PAGE * page + PAGE - n) (asks.own k) (asks.later k)

abbrev pub is_after : Option ℕ → Option ℕ → Bool
is_after None later = false
is_after (Some first) None = false
is_after (Some first) (Some later) = nat_lt first later

-- the cell is referred to, for the first time after the one above it
abbrev pub is_in_turn : Asks → ℕ → ℕ → ℕ → Bool
is_in_turn asks page n zero = is_some (ask_of asks page n zero)
is_in_turn asks page n (suc k) = is_after (ask_of asks page n k) (ask_of asks page n (suc k))

abbrev pub is_word : Option ℕ → ℕ → Bool
is_word None word = false
is_word (Some other) word = nat_eq other word

-- none of the last k cells of a page has this word
abbrev pub is_new : Program → ℕ → ℕ → ℕ → Bool
is_new p page word zero = true
is_new p page word (suc k) = is_new p page word k && not (is_word (word_in p.words (cell_from_end page k)) word)

-- a cell, with this word or none, can be in a pool of n cells
abbrev pub can_be : Program → Asks → ℕ → ℕ → ℕ → Option ℕ → Bool
can_be p asks page n k None = false
can_be p asks page n k (Some word) = not (is_flagged p.exempt (cell_from_end page k)) && (is_in_turn asks page n k && is_new p page word k)

-- the last k cells can be in a pool of n
abbrev pub can_all_be : Program → Asks → ℕ → ℕ → ℕ → Bool
can_all_be p asks page n zero = true
can_all_be p asks page n (suc k) = can_all_be p asks page n k && can_be p asks page n k (word_in p.words (cell_from_end page k))

-- the greatest number up to this one that fits
abbrev pub greatest : (ℕ → Bool) → ℕ → ℕ
greatest fits zero = 0
greatest fits (suc n) = if fits (suc n) then suc n else greatest fits n

-- how many cells the pool of a page has, where the pools of other pages have so many
unfoldable pub size_by : Program → (ℕ → ℕ) → ℕ → ℕ
size_by p size page = greatest (λ n. can_all_be p (asks_of p size page) page n n) PAGE

-- a field has 40 pages, of which the first is its page zero
abbrev pub is_page_zero : ℕ → Bool
is_page_zero page = nat_eq (page % 0o40) 0

-- the pools of the pages of core that are no page zero
abbrev pub upper_size : Program → ℕ → ℕ
upper_size p page = if nat_lt page 0o400 && not (is_page_zero page) then size_by p (λ other. 0) page else 0

-- and of all: that of page zero is looked for last
abbrev pub pool_size : Program → ℕ → ℕ
pool_size p page = if is_page_zero page then size_by p (upper_size p) page else upper_size p page

-- a cell is a pool's
abbrev pub is_pooled : Program → ℕ → Bool
is_pooled p cell = is_in_pool (pool_size p) cell
