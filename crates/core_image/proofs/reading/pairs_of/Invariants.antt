use Rattle.core_image.specs.ReadSteps.{HasKept}
use Rattle.core_image.proofs.reading.pairs_of.Given as goal

abbrev pub invariant-loop-number : goal.invariant-loop-number
invariant-loop-number l = HasKept l.words l.number l.block l.pairs.items
