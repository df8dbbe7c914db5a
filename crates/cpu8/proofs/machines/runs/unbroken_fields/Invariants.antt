use Rattle.std.proofs.Common.{◌≡◌, length}
use Rattle.cpu8.specs.QuietSteps.{AreUnbroken}
use Rattle.cpu8.proofs.machines.runs.unbroken_fields.Given as goal

abbrev pub invariant-loop-field : goal.invariant-loop-field
invariant-loop-field l = AreUnbroken l.breaks l.unbroken × (length l.unbroken ≡ 8)
