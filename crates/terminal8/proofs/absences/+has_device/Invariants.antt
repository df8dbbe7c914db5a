use Rattle.std.proofs.Common.{length}
use Rattle.terminal8.proofs.absences.+has_device.Given as goal

abbrev pub decreases-has_device : goal.decreases-has_device
decreases-has_device l = length l.list.now
