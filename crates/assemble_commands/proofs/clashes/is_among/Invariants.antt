use Rattle.std.proofs.Common.{◌≡◌, length}
use Rattle.assemble_commands.specs.Clashes.{is_among}
use Rattle.assemble_commands.proofs.clashes.is_among.Given as goal

abbrev pub invariant-loop-rest : goal.invariant-loop-rest
invariant-loop-rest l = is_among l.fn.name l.rest ≡ is_among l.fn.name l.fn.words

abbrev pub decreases-loop-rest : goal.decreases-loop-rest
decreases-loop-rest l = length l.rest
