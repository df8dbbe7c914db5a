-- Blanks, and where a terminal's line is after them.
use Rattle.std.proofs.Common.{◌≡◌, ◌∙◌, ℕ, zero, suc, ◌+◌, ◌-◌, ◌≤◌, nat_eq, Bool, true, false, List, [], ◌∷◌, ◌++◌, get_or, replicate, refl, arith}
use Rattle.index_commands.specs.TextColumns.{with_columns_from, cells_by, gap, goes_on, places_by, byte_or_gap}
use Rattle.index_commands.specs.Laws.{Fits, FitsBy, cells_of, cursor, places_of, start}

-- the place after two texts, one after the other
cursor-after : (place : ℕ) (xs ys : List ℕ) → cursor place (xs ++ ys) ≡ cursor (cursor place xs) ys
cursor-after place [] ys = refl
cursor-after place (x ∷ xs) ys = cursor-after (places_by false (nat_eq x 0o12) (goes_on x) place) xs ys

cursor-blanks : (count place : ℕ) → cursor place (replicate count 0o40) ≡ place + count
cursor-blanks zero place = omega arith
cursor-blanks (suc count) place = cursor-blanks count (suc place) ∙ omega arith

-- a byte that is no tab
moves : (ends more : Bool) (widths : List ℕ) (cells places place : ℕ) → place ≡ start widths cells + places
    → places_by false ends more place ≡ start widths (cells_by false ends cells) + places_by false ends more places
moves true more widths cells places place is = refl
moves false true widths cells places place is = is
moves false false widths cells places place is = omega (arith, is)

-- blanks up to the next column
reaches : (begins width places place : ℕ) → place ≡ begins + places → places ≤ width → place + ((width - places) + 2) ≡ begins + width + 2 + 0
reaches begins width places place is fits = omega (arith, is, fits)

abbrev pub LineUp : List ℕ → List ℕ → Type 0
LineUp widths bytes = (cells places place : ℕ) → place ≡ start widths cells + places → Fits widths cells places bytes
    → cursor place (with_columns_from widths cells places bytes) ≡ start widths (cells_of cells bytes) + places_of places bytes

step : (tab : Bool) (widths bytes : List ℕ) (byte cells places place : ℕ) → LineUp widths bytes → place ≡ start widths cells + places → FitsBy tab widths cells places
    → Fits widths (cells_by tab (nat_eq byte 0o12) cells) (places_by tab (nat_eq byte 0o12) (goes_on byte) places) bytes
    → cursor place (byte_or_gap tab (gap widths cells places) byte ++ with_columns_from widths (cells_by tab (nat_eq byte 0o12) cells) (places_by tab (nat_eq byte 0o12) (goes_on byte) places) bytes)
    ≡ start widths (cells_of (cells_by tab (nat_eq byte 0o12) cells) bytes) + places_of (places_by tab (nat_eq byte 0o12) (goes_on byte) places) bytes
step true widths bytes byte cells places place others is fits rest =
    cursor-after place (gap widths cells places) (with_columns_from widths (suc cells) 0 bytes)
    ∙ others (suc cells) 0 (cursor place (gap widths cells places))
    (cursor-blanks ((get_or widths cells 0 - places) + 2) place ∙ reaches (start widths cells) (get_or widths cells 0) places place is fits) rest
step false widths bytes byte cells places place others is fits rest =
    others (cells_by false (nat_eq byte 0o12) cells) (places_by false (nat_eq byte 0o12) (goes_on byte) places) (places_by false (nat_eq byte 0o12) (goes_on byte) place)
    (moves (nat_eq byte 0o12) (goes_on byte) widths cells places place is) rest

pub line-up : (widths bytes : List ℕ) → LineUp widths bytes
line-up widths [] cells places place is fits = is
line-up widths (byte ∷ bytes) cells places place is fits = step (nat_eq byte 0o11) widths bytes byte cells places place (line-up widths bytes) is fits.0 fits.1
