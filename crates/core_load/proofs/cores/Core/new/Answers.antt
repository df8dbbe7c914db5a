use Rattle.std.proofs.Common.{◌∙◌, ap, length}
use Rattle.core_load.proofs.CoreLemmas.{length-zeros}
use Rattle.core_load.proofs.cores.Core.new.Goals as goal

pub invariant_of-result : goal.invariant_of-result
invariant_of-result c = ap length c.in_ok-words.ensures ∙ length-zeros 32768
