use Rattle.std.proofs.Common.{◌≡◌, ◌++◌, List, [], length}
use Rattle.pal8_listing.specs.Rows.{Line, numbered_lines, rows_of, rows_text}
use Rattle.pal8_listing.proofs.rows.put_source.Given as goal

abbrev pub invariant-loop-rest : goal.invariant-loop-rest
invariant-loop-rest l =
    (later : List Line) → l.text.items ++ rows_text (rows_of (numbered_lines l.line.items l.number l.left l.rest ++ later) l.words)
    ≡ l.initial.text.items ++ rows_text (rows_of (numbered_lines [] l.fn.number l.fn.left l.source ++ later) l.fn.words)

abbrev pub decreases-loop-rest : goal.decreases-loop-rest
decreases-loop-rest l = length l.rest
