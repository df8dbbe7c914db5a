-- A file that is not held, by a fault that is no want of a permission.
use Rattle.std.specs.Prelude.{◌≡◌, refl}
use Rattle.hosts.specs.declared.faults.HostFault.{HostFault}
use Rattle.hosts.specs.declared.faults.HostFault.TheVariants as host
use Rattle.outcome.specs.declared.endings.Ending.{Ending}
use Rattle.image_files.specs.Reading.{IsUnheld, ending_of_image}

pub unheld : (fault : HostFault) (ending : Ending) → ending ≡ ending_of_image fault → (fault ≡ host.Denied → ⊥) → (fault ≡ host.ReadOnly → ⊥) → IsUnheld fault ending
unheld host.Denied ending same denied read_only = denied refl
unheld host.ReadOnly ending same denied read_only = read_only refl
unheld host.Busy ending same denied read_only = same
unheld host.Memory ending same denied read_only = same
unheld host.Absent ending same denied read_only = same
unheld host.Folder ending same denied read_only = same
unheld host.NoFolder ending same denied read_only = same
unheld host.Full ending same denied read_only = same
unheld host.Links ending same denied read_only = same
unheld host.Large ending same denied read_only = same
unheld host.Changed ending same denied read_only = same
unheld host.Pipe ending same denied read_only = same
unheld host.Owner ending same denied read_only = same
unheld host.Failed ending same denied read_only = same
