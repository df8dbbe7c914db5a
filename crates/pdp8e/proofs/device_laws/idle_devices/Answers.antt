use Rattle.pdp8e.proofs.StillLemmas.{idle_is}
use Rattle.pdp8e.proofs.IdleLemmas.{idle_step}
use Rattle.pdp8e.proofs.device_laws.idle_devices.Goals as goal

pub returns : goal.returns
returns c = λ m d idle none not_device not_caf. idle_step m d (idle_is d idle) none not_device not_caf
