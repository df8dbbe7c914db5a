use Rattle.std.proofs.Common.{◌≡◌, length}
use Rattle.file_kind.specs.Texts.{has_graphic}
use Rattle.file_kind.proofs.texts.has_graphic.Given as goal

abbrev pub invariant-loop-rest : goal.invariant-loop-rest
invariant-loop-rest l = has_graphic l.rest ≡ has_graphic l.fn.frames

abbrev pub decreases-loop-rest : goal.decreases-loop-rest
decreases-loop-rest l = length l.rest
