use Rattle.std.proofs.Common.{◌≡◌, ◌++◌, length}
use Rattle.source_listing.specs.Rows.{all_rows, rows_text}
use Rattle.source_listing.proofs.rows.put_rows.Given as goal

abbrev pub invariant-loop-rest : goal.invariant-loop-rest
invariant-loop-rest l =
    l.text.items ++ rows_text (all_rows l.rest l.counts l.ends) l.left ≡ l.initial.text.items ++ rows_text (all_rows l.sources l.initial.counts l.initial.ends) l.pairs

abbrev pub decreases-loop-rest : goal.decreases-loop-rest
decreases-loop-rest l = length l.rest
