-- Runs in which no block call fails, in parts.
use Rattle.std.proofs.Common.{arith, ◌≡◌, false}
use Rattle.system_session.specs.Session.{SessionView, NoCallFailed, IsLater, IsSame}

-- the first part of a run that is quiet
pub quiet_first : (old mid new : SessionView) → NoCallFailed old new → IsLater old mid → IsLater mid new → NoCallFailed old mid
quiet_first old mid new quiet first second = record {
  running = quiet.running;
  reads = omega (arith, quiet.reads, first.reads, second.reads);
  writes = omega (arith, quiet.writes, first.writes, second.writes);
}

-- the second part
pub quiet_second : (old mid new : SessionView) → NoCallFailed old new → IsLater old mid → IsLater mid new → mid.volume.stopped ≡ false → NoCallFailed mid new
quiet_second old mid new quiet first second running = record {
  running = running;
  reads = omega (arith, quiet.reads, first.reads, second.reads);
  writes = omega (arith, quiet.writes, first.writes, second.writes);
}

pub later_trans : (old mid new : SessionView) → IsLater old mid → IsLater mid new → IsLater old new
later_trans old mid new first second = record { reads = omega (arith, first.reads, second.reads); writes = omega (arith, first.writes, second.writes) }

-- before a part that changed nothing
pub quiet_same : (old mid new : SessionView) → NoCallFailed old new → IsSame mid new → NoCallFailed old mid
quiet_same old mid new quiet same = record {
  running = quiet.running;
  reads = omega (arith, quiet.reads, same.reads);
  writes = omega (arith, quiet.writes, same.writes);
}
