use Rattle.std.proofs.Common.{length}
use Rattle.bin_tape.specs.MapSteps.{HasReadTo}
use Rattle.bin_tape.proofs.maps.read_words.Given as goal

abbrev pub invariant-loop-rest : goal.invariant-loop-rest
invariant-loop-rest l = HasReadTo l.fn.frames l.rest l.reader l.words

abbrev pub decreases-loop-rest : goal.decreases-loop-rest
decreases-loop-rest l = length l.rest
