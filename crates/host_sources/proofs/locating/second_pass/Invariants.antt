use Rattle.std.proofs.Common.{◌-◌, length}
use Rattle.host_sources.proofs.LocateLemmas.{SecondStands}
use Rattle.host_sources.proofs.locating.second_pass.Given as goal

abbrev pub invariant-loop-taken : goal.invariant-loop-taken
invariant-loop-taken l = SecondStands l.text l.taken l.lexer l.assembler

abbrev pub decreases-loop-taken : goal.decreases-loop-taken
decreases-loop-taken l = length l.text - l.taken
