use Rattle.std.proofs.Common.{◌≡◌, ◌++◌, length, map}
use Rattle.assemble_commands.proofs.sources.slices_of.Given as goal

abbrev pub invariant-loop-rest : goal.invariant-loop-rest
invariant-loop-rest l = map (λ it. it.now) l.lent.items ++ map (λ text. text.items) l.rest ≡ map (λ text. text.items) l.fn.texts

abbrev pub decreases-loop-rest : goal.decreases-loop-rest
decreases-loop-rest l = length l.rest
