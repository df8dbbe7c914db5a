-- The lines below one cell more.
use Rattle.std.proofs.Common.{◌≡◌, ℕ, ◌+◌, add-one, refl, List, [], ◌++◌}
use Rattle.bin_tape.specs.Items.{Item, tape_map}
use Rattle.tape_reports.specs.Listing.{lines_below, line_of}

pub lines_more : (items : List Item) (cell : ℕ) → lines_below items (cell + 1) ≡ lines_below items cell ++ line_of (tape_map items cell) cell
unfolding lines_below
lines_more items cell = rw (add-one cell) refl

pub lines_none : (items : List Item) → lines_below items 0 ≡ []
unfolding lines_below
lines_none items = refl
