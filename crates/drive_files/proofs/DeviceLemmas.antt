-- How a command ends that wants memory for the name of a paper's file.
use Rattle.std.proofs.Common.{◌≡◌, ◌∙◌, Result, Ok, Err, IsErrAnd, List, refl}
use Rattle.std.specs.Result.{IsErr}
use Rattle.hosts.specs.Event.{Event}
use Rattle.refusals.specs.declared.faults.SessionFault.TheVariants.{Memory}
use Rattle.outcome.specs.declared.endings.Ending.{Ending}
use Rattle.outcome.specs.declared.endings.Ending.TheVariants.{Fault}
use Rattle.drive_files.specs.Devices.{WantsMemory}
use Rattle.drive_files.specs.declared.devices.PaperPlace.{PaperPlace}

pub name-memory : (old : List Event) (result : Result PaperPlace Ending) (ending : Ending) → ending ≡ Fault Memory → IsErr result × IsErrAnd result (λ it. it ≡ ending) → WantsMemory old result old
name-memory old (Ok place) ending memory ends = absurd ends.1
name-memory old (Err it) ending memory ends = (ends.1 ∙ memory, refl)
