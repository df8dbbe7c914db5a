use Rattle.std.proofs.Common.{◌≡◌, ◌-◌, ◌≤◌, false, length, take}
use Rattle.pal_lex.specs.Steps.{has_cr}
use Rattle.pal_lex.proofs.characters.before_cr.Given as goal

abbrev pub invariant-loop-count : goal.invariant-loop-count
invariant-loop-count l = record {
  range : l.count ≤ length l.bytes;
  none : has_cr (take l.count l.bytes) ≡ false;
}

abbrev pub decreases-loop-count : goal.decreases-loop-count
decreases-loop-count l = length l.bytes - l.count
