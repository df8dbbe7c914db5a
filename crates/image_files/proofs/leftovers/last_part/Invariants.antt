use Rattle.std.proofs.Common.{◌≡◌, length}
use Rattle.image_files.specs.Leftovers.{part_after}
use Rattle.image_files.proofs.leftovers.last_part.Given as goal

-- the part so far, or one of what is left
abbrev pub invariant-loop-rest : goal.invariant-loop-rest
invariant-loop-rest l = part_after l.part l.rest ≡ part_after l.fn.name l.fn.name

abbrev pub decreases-loop-rest : goal.decreases-loop-rest
decreases-loop-rest l = length l.rest
