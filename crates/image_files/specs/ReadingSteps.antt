-- What steps of reading do. No contract of a public function cites these.
use Rattle.std.specs.Prelude.{◌≡◌, ◌≤◌, ◌<◌, ℕ, Result, Ok, Err, List, length}
use Rattle.std.specs.Global.{Vec}
use Rattle.hosts.specs.Event.{Event}
use Rattle.hosts.specs.declared.faults.HostFault.{HostFault}
use Rattle.refusals.specs.declared.faults.TheConstants.{MOST}
use Rattle.outcome.specs.declared.endings.Ending.{Ending}
use Rattle.image_files.specs.Reading.{IsTooLong, ending_of_image}
use Rattle.image_files.specs.Reasons.{TellsFault}

-- what is answered of bytes that were read, or not
abbrev pub IsAnswer : List ℕ → Result (Vec ℕ) HostFault → List Event → Result (Vec ℕ) Ending → List Event → Type 0
IsAnswer name (Ok bytes) old (Ok it) new = (it ≡ bytes) × (length bytes.items ≤ MOST) × (new ≡ old)
IsAnswer name (Err fault) old (Ok it) new = ⊥
IsAnswer name (Ok bytes) old (Err ending) new = (MOST < length bytes.items) × IsTooLong name old ending new
IsAnswer name (Err fault) old (Err ending) new = (ending ≡ ending_of_image fault) × TellsFault fault name old new
