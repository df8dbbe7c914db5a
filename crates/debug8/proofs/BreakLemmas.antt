-- How many breaks there are.
use Rattle.std.proofs.Common.{◌≡◌, ℕ, zero, suc, ◌+◌, ◌<◌, Bool, true, false, if◌then◌else◌, List, [], ◌∷◌, length, replicate, slice_index_or, slice_set, ◌-◌, ◌≤◌, length-set, arith, refl, ap, sym, subst, ◌∙◌}
use Rattle.std.proofs.lemmas.List.{length-replicate, get_or_default}
use Rattle.cpu8.specs.Go.{is_break}
use Rattle.debug8.specs.Breaks.{no_breaks, count_breaks}

abbrev pub bit : Bool → ℕ
bit b = if b then 1 else 0

pub length-none : (cells : ℕ) → length (no_breaks cells) ≡ cells
unfolding no_breaks
length-none cells = length-replicate cells false

count-replicate : (cells : ℕ) → count_breaks (replicate cells false) ≡ 0
count-replicate zero = refl
count-replicate (suc cells) = let h : count_breaks (replicate cells false) ≡ 0 = count-replicate cells in omega (arith, h)

pub count-none : (cells : ℕ) → count_breaks (no_breaks cells) ≡ 0
unfolding no_breaks
count-none cells = count-replicate cells

-- where no break is counted no cell has one
pub none-set : (breaks : List Bool) → count_breaks breaks ≡ 0 → (cell : ℕ) → is_break breaks cell ≡ false
none-set [] h cell = refl
none-set (true ∷ breaks) h cell = absurd (omega (arith, h))
none-set (false ∷ breaks) h zero = refl
none-set (false ∷ breaks) h (suc cell) = none-set breaks (omega (arith, h)) cell

-- a flag is counted in the place of the one that it is written over
pub count-set : (breaks : List Bool) (i : ℕ) (b : Bool) → i < length breaks
    → count_breaks (slice_set breaks i b) + bit (is_break breaks i) ≡ count_breaks breaks + bit b
count-set [] i b h = absurd (omega (arith, h))
count-set (c ∷ breaks) zero b h = omega arith
count-set (c ∷ breaks) (suc i) b h =
    let rest : count_breaks (slice_set breaks i b) + bit (is_break breaks i) ≡ count_breaks breaks + bit b = count-set breaks i b (omega (arith, h)) in
    omega (arith, rest)

pub count-set_new : (breaks : List Bool) (i : ℕ) → i < length breaks → is_break breaks i ≡ false
    → count_breaks (slice_set breaks i true) ≡ count_breaks breaks + 1
count-set_new breaks i h none =
    let all : count_breaks (slice_set breaks i true) + bit (is_break breaks i) ≡ count_breaks breaks + 1 = count-set breaks i true h in
    let old : bit (is_break breaks i) ≡ 0 = ap bit none in
    omega (arith, all, old)

pub count-set_old : (breaks : List Bool) (i : ℕ) → i < length breaks → is_break breaks i ≡ true
    → count_breaks (slice_set breaks i false) + 1 ≡ count_breaks breaks
count-set_old breaks i h one =
    let all : count_breaks (slice_set breaks i false) + bit (is_break breaks i) ≡ count_breaks breaks + 0 = count-set breaks i false h in
    let old : bit (is_break breaks i) ≡ 1 = ap bit one in
    omega (arith, all, old)

-- what is kept of the breaks and their number
abbrev pub IsKept : List Bool → ℕ → Type 0
IsKept breaks count = (length breaks ≡ 32768) × (count ≡ count_breaks breaks) × (count ≤ 64)

-- a flag that was read
pub is_break-read : (breaks : List Bool) (count i : ℕ) (r b : Bool) → IsKept breaks count → i < 32768
    → r ≡ slice_index_or breaks i r → r ≡ b → is_break breaks i ≡ b
is_break-read breaks count i r b kept below read is =
    let h : i < length breaks = subst (λ n. i < n) (sym kept.0) below in
    get_or_default breaks i false r h ∙ (sym read ∙ is)

pub kept-set : (breaks : List Bool) (count i j : ℕ) (r : Bool) → IsKept breaks count → i < 32768 → j ≡ i
    → r ≡ slice_index_or breaks i r → r ≡ false → (count ≡ 64 → ⊥) → IsKept (slice_set breaks j true) (count + 1)
kept-set breaks count i j r kept below e read is room =
    let h : j < length breaks = omega (arith, below, e, kept.0) in
    let none : is_break breaks j ≡ false = ap (λ k. is_break breaks k) e ∙ is_break-read breaks count i r false kept below read is in
    let more : count_breaks (slice_set breaks j true) ≡ count_breaks breaks + 1 = count-set_new breaks j h none in
    (length-set breaks j true ∙ kept.0, omega (arith, more, kept.1), omega (arith, kept.2, room))

pub kept-positive : (breaks : List Bool) (count i : ℕ) (r : Bool) → IsKept breaks count → i < 32768
    → r ≡ slice_index_or breaks i r → r ≡ true → 1 ≤ count
kept-positive breaks count i r kept below read is =
    let h : i < length breaks = omega (arith, below, kept.0) in
    let one : is_break breaks i ≡ true = is_break-read breaks count i r true kept below read is in
    let fewer : count_breaks (slice_set breaks i false) + 1 ≡ count_breaks breaks = count-set_old breaks i h one in
    omega (arith, fewer, kept.1)

pub kept-cleared : (breaks : List Bool) (count i j : ℕ) (r : Bool) → IsKept breaks count → i < 32768 → j ≡ i
    → r ≡ slice_index_or breaks i r → r ≡ true → IsKept (slice_set breaks j false) (count - 1)
kept-cleared breaks count i j r kept below e read is =
    let h : j < length breaks = omega (arith, below, e, kept.0) in
    let one : is_break breaks j ≡ true = ap (λ k. is_break breaks k) e ∙ is_break-read breaks count i r true kept below read is in
    let fewer : count_breaks (slice_set breaks j false) + 1 ≡ count_breaks breaks = count-set_old breaks j h one in
    (length-set breaks j false ∙ kept.0, omega (arith, fewer, kept.1), omega (arith, kept.2))
