use Rattle.std.proofs.Common.{◌-◌, length}
use Rattle.host_sources.proofs.LocateLemmas.{FirstStands}
use Rattle.host_sources.proofs.locating.first_pass.Given as goal

abbrev pub invariant-loop-taken : goal.invariant-loop-taken
invariant-loop-taken l = FirstStands l.text l.taken l.lexer l.assembler

abbrev pub decreases-loop-taken : goal.decreases-loop-taken
decreases-loop-taken l = length l.text - l.taken
