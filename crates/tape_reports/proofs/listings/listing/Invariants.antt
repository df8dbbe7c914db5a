use Rattle.std.proofs.Common.{◌≡◌, ℕ, List}
use Rattle.bin_tape.specs.Map.{IsMapOf}
use Rattle.tape_reports.specs.Listing.{lines_below}
use Rattle.tape_reports.proofs.listings.listing.Given as goal

abbrev pub invariant-loop-number : goal.invariant-loop-number
invariant-loop-number l = (frames : List ℕ) → (of : IsMapOf frames l.map) → l.text.items ≡ lines_below of.items l.number
