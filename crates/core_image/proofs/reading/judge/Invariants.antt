use Rattle.core_image.specs.ReadSteps.{HasReadSome}
use Rattle.core_image.proofs.reading.judge.Given as goal

abbrev pub invariant-loop-number : goal.invariant-loop-number
invariant-loop-number l = HasReadSome l.words l.number l.block
