use Rattle.std.proofs.Common.{◌≡◌, ◌-◌, true, length}
use Rattle.host_sources.proofs.PauseLemmas.{Stands}
use Rattle.host_sources.proofs.pauses.prefix_of.Given as goal

abbrev pub invariant-loop-taken : goal.invariant-loop-taken
invariant-loop-taken l = record {
  stands : Stands l.text l.taken l.end l.lexer;
  may : l.lexer.may_pause ≡ true;
}

abbrev pub decreases-loop-taken : goal.decreases-loop-taken
decreases-loop-taken l = length l.text - l.taken
