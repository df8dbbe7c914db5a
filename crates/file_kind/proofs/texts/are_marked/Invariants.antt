use Rattle.std.proofs.Common.{◌≡◌, length}
use Rattle.file_kind.specs.Texts.{are_marked}
use Rattle.file_kind.proofs.texts.are_marked.Given as goal

abbrev pub invariant-loop-rest : goal.invariant-loop-rest
invariant-loop-rest l = are_marked l.rest ≡ are_marked l.fn.frames

abbrev pub decreases-loop-rest : goal.decreases-loop-rest
decreases-loop-rest l = length l.rest
