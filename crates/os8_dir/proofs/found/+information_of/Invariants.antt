use Rattle.std.proofs.Common.{length}
use Rattle.os8_dir.proofs.found.+information_of.Given as goal

abbrev pub decreases-information_of : goal.decreases-information_of
decreases-information_of l = length l.entries.now
