use Rattle.std.proofs.Common.{◌≡◌, ◌++◌, length}
use Rattle.std.specs.Prelude.{map}
use Rattle.archive_many.specs.Naming as spec
use Rattle.archive_many.proofs.naming.name_is_among.Given as goal

abbrev pub invariant-loop-rest : goal.invariant-loop-rest
invariant-loop-rest l = spec.name_is_among l.name (map (λ word. word.bytes.items) l.rest) ≡ spec.name_is_among l.name (map (λ word. word.bytes.items) l.words)

abbrev pub decreases-loop-rest : goal.decreases-loop-rest
decreases-loop-rest l = length l.rest
