use Rattle.std.proofs.Common.{◌≡◌, ◌++◌, length}
use Rattle.pal8_listing.specs.Rows.{all_lines, rows_of, rows_text}
use Rattle.pal8_listing.proofs.rows.put_rows.Given as goal

abbrev pub invariant-loop-rest : goal.invariant-loop-rest
invariant-loop-rest l =
    l.text.items ++ rows_text (rows_of (all_lines l.number l.rest l.counts l.join) l.words)
    ≡ l.initial.text.items ++ rows_text (rows_of (all_lines 1 l.sources l.fn.counts l.fn.join) l.fn.words)

abbrev pub decreases-loop-rest : goal.decreases-loop-rest
decreases-loop-rest l = length l.rest
