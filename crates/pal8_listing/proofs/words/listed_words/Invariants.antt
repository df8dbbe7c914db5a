use Rattle.std.proofs.Common.{◌≡◌, ◌++◌, length}
use Rattle.pal8_listing.specs.Rows.{listed_words}
use Rattle.pal8_listing.proofs.words.listed_words.Given as goal

abbrev pub invariant-loop-rest : goal.invariant-loop-rest
invariant-loop-rest l = l.words.items ++ listed_words l.rest l.marks ≡ listed_words l.fn.pairs l.fn.marks

abbrev pub decreases-loop-rest : goal.decreases-loop-rest
decreases-loop-rest l = length l.rest
