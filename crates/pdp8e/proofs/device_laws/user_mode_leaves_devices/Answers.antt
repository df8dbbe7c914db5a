use Rattle.pdp8e.proofs.DeviceLemmas.{user_leaves_devices}
use Rattle.pdp8e.proofs.device_laws.user_mode_leaves_devices.Goals as goal

pub returns : goal.returns
returns c = user_leaves_devices
