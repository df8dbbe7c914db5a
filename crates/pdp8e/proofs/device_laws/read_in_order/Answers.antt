use Rattle.pdp8e.proofs.DeviceLemmas.{frame_comes, none_comes, no_tape}
use Rattle.pdp8e.proofs.device_laws.read_in_order.Goals as goal

pub returns-clause-frame : goal.returns-clause-frame
returns-clause-frame c = λ m frame others asked is. frame_comes m.devices.reader frame others asked is

pub returns-clause-end : goal.returns-clause-end
returns-clause-end c = λ m asked is. none_comes m.devices.reader asked is

pub returns-clause-none : goal.returns-clause-none
returns-clause-none c = λ m asked is. no_tape m.devices.reader asked is
