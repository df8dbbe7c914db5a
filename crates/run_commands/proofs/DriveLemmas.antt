-- What is known of counted steps of an 8/E with disks and devices.
use Rattle.std.proofs.Common.{◌≡◌, ◌∙◌, ℕ, Bool, Result, Ok, Err, IsErrAnd, List}
use Rattle.std.specs.Global.{Vec}
use Rattle.std.specs.Result.{IsErr}
use Rattle.pdp8e.specs.Terminal.{Terminal}
use Rattle.pdp8e.specs.Papers.{PapersState}
use Rattle.trace8e.proofs.PaperLemmas.{some-none}
use Rattle.refusals.specs.declared.faults.SessionFault.TheVariants.{Memory}
use Rattle.outcome.specs.declared.endings.Ending.{Ending}
use Rattle.outcome.specs.declared.endings.Ending.TheVariants.{Fault}
use Rattle.run_commands.specs.Drives8e.{CountsSteps}

-- no step was made, since memory was wanted for the counts
pub none-counted : (most : ℕ) (t : Terminal) (papers : PapersState) (flags : List Bool) (result : Result (Vec ℕ) Ending) (ending : Ending) → ending ≡ Fault Memory
    → IsErr result × IsErrAnd result (λ it. it ≡ ending) → CountsSteps most t t papers papers flags result
none-counted most t papers flags (Ok text) ending memory ends = absurd ends.1
none-counted most t papers flags (Err it) ending memory ends = (ends.1 ∙ memory, some-none t papers)
