use Rattle.std.proofs.Common.{◌≡◌, take}
use Rattle.os8_dir.specs.Names.{with_end_zeros}
use Rattle.os8_dir.proofs.reading.information.Given as goal

abbrev pub invariant-loop-k : goal.invariant-loop-k
invariant-loop-k l = l.kept ≡ with_end_zeros 10 (take l.k l.words)
