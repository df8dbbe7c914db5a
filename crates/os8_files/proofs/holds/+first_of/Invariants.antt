use Rattle.std.proofs.Common.{length}
use Rattle.os8_files.proofs.holds.+first_of.Given as goal

abbrev pub decreases-first_of : goal.decreases-first_of
decreases-first_of l = length l.holds.now
