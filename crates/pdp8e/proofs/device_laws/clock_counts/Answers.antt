use Rattle.pdp8e.proofs.DeviceLemmas.{clock_passes, clock_waits, ticks}
use Rattle.pdp8e.proofs.device_laws.clock_counts.Goals as goal

pub returns-clause-ticks : goal.returns-clause-ticks
returns-clause-ticks c = λ m is. ticks m.devices.clock is

pub returns-clause-instruction : goal.returns-clause-instruction
returns-clause-instruction c = clock_passes

pub returns-clause-interrupt : goal.returns-clause-interrupt
returns-clause-interrupt c = clock_waits
