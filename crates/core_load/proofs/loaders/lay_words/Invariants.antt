use Rattle.std.proofs.Common.{◌≡◌, drop}
use Rattle.core_load.specs.Steps.{core_with}
use Rattle.core_load.proofs.loaders.lay_words.Given as goal

abbrev pub invariant-loop-cell : goal.invariant-loop-cell
invariant-loop-cell l = core_with (drop l.cell-index l.words) l.core ≡ core_with l.fn.words l.fn.core
