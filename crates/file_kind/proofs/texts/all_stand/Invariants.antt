use Rattle.std.proofs.Common.{◌≡◌, length}
use Rattle.file_kind.specs.Texts.{all_stand}
use Rattle.file_kind.proofs.texts.all_stand.Given as goal

abbrev pub invariant-loop-rest : goal.invariant-loop-rest
invariant-loop-rest l = all_stand l.rest ≡ all_stand l.fn.frames

abbrev pub decreases-loop-rest : goal.decreases-loop-rest
decreases-loop-rest l = length l.rest
