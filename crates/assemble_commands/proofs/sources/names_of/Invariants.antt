use Rattle.std.proofs.Common.{◌≡◌, ◌++◌, length, map}
use Rattle.assemble_commands.proofs.sources.names_of.Given as goal

abbrev pub invariant-loop-rest : goal.invariant-loop-rest
invariant-loop-rest l = map (λ it. it.now) l.lent.items ++ map (λ word. word.bytes.items) l.rest ≡ map (λ word. word.bytes.items) l.fn.words

abbrev pub decreases-loop-rest : goal.decreases-loop-rest
decreases-loop-rest l = length l.rest
