use Rattle.std.proofs.Common.{◌≡◌, ◌++◌}
use Rattle.profile8.specs.Profile.{is_flagged, is_never, never_lines}
use Rattle.profile8.proofs.unfetched.put_unfetched.Given as goal

abbrev pub invariant-loop-cell : goal.invariant-loop-cell
invariant-loop-cell l = l.text.items ≡ l.initial.text.items ++ never_lines (is_never l.counts (is_flagged l.given)) l.cell
