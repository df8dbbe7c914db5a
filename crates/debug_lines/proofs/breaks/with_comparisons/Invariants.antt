use Rattle.std.proofs.Common.{◌≡◌, [], length}
use Rattle.debug_lines.specs.Breaks.{with_comparisons}
use Rattle.debug_lines.proofs.breaks.with_comparisons.Given as goal

-- what was to be read is what is left, after the comparisons so far
abbrev pub invariant-loop-rest : goal.invariant-loop-rest
invariant-loop-rest l =
    with_comparisons l.line l.spot [] l.before l.words ≡ with_comparisons l.line l.spot l.items.items l.place l.rest

abbrev pub decreases-loop-rest : goal.decreases-loop-rest
decreases-loop-rest l = length l.rest
