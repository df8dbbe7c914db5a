use Rattle.std.proofs.Common.{◌≡◌, length, map}
use Rattle.index_commands.specs.Columns.{larger, longest}
use Rattle.index_commands.proofs.columns.longest.Given as goal

-- the longest so far, or of those that are left, is the longest of all
abbrev pub invariant-loop-rest : goal.invariant-loop-rest
invariant-loop-rest l = larger l.most (longest (map (λ image. image.bytes.items) l.rest)) ≡ longest (map (λ image. image.bytes.items) l.fn.images)

abbrev pub decreases-loop-rest : goal.decreases-loop-rest
decreases-loop-rest l = length l.rest
