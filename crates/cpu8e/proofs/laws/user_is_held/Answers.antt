use Rattle.cpu8e.specs.State.{new_machine, after_start}
use Rattle.cpu8e.proofs.UserLemmas.{unflagged, step-settles, step-leaves-devices, step-leaves-fields}
use Rattle.std.proofs.Common.{refl}
use Rattle.cpu8e.proofs.laws.user_is_held.Goals as goal

pub returns : goal.returns
returns c = record {
  new = λ core. unflagged (new_machine core) refl;
  start = λ s cell. unflagged (after_start s cell) refl;
  keeps = step-settles;
  devices = step-leaves-devices;
  fields = step-leaves-fields;
}
