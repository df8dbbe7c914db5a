use Rattle.std.proofs.Common.{length}
use Rattle.archive_many.proofs.extensions.+comma_in.Given as goal

abbrev pub decreases-comma_in : goal.decreases-comma_in
decreases-comma_in l = length l.list.now
