use Rattle.std.proofs.Common.{take}
use Rattle.flow8.specs.Flow.{word_in}
use Rattle.tape_source.specs.Sources.{AllGiven}
use Rattle.tape_source.proofs.sources.first_without.Given as goal

abbrev pub invariant-loop-start : goal.invariant-loop-start
invariant-loop-start l = AllGiven (word_in l.words) (take l.start-index l.starts)
