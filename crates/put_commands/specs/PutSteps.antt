-- What steps of putting files do. No contract of a public function cites these.
use Rattle.std.specs.Prelude.{◌≡◌, ◌⊎◌, ℕ, List, slice_get}
use Rattle.hosts.specs.Event.{Event}
use Rattle.refusals.specs.declared.faults.SessionFault.{SessionFault}
use Rattle.refusals.specs.declared.faults.SessionFault.TheVariants.{Memory}
use Rattle.archive_many.specs.declared.faults.ManyFault.{ManyFault}
use Rattle.archive_many.specs.declared.putting.NewFile.{NewFile}
use Rattle.outcome.specs.declared.endings.Ending.{Ending}
use Rattle.outcome.specs.declared.endings.Ending.TheVariants.{Fault}
use Rattle.image_files.specs.Work.{OrLacks, EndsBy}
use Rattle.image_files.specs.Stored.{is_bad}
use Rattle.put_commands.specs.Putting.{RefusesMany, TellsPath, TellsText, WantsMemory}

-- why no file is put; where memory is wanted for what is printed, that
abbrev pub IsNotPut : List (List ℕ) → List NewFile → ManyFault → ℕ → List Event → Ending → List Event → Type 0
IsNotPut paths files fault size old ending new = RefusesMany paths files fault size old ending new ⊎ WantsMemory paths fault old ending new

-- the text at a place is refused, if it is one
abbrev pub IsTextRefused : List NewFile → ℕ → SessionFault → List Event → Ending → List Event → Type 0
IsTextRefused files place fault = OrLacks (EndsBy (Fault fault) (TellsText (is_bad fault) (slice_get files place)))

-- the file at a place is refused
abbrev pub IsFileRefused : List (List ℕ) → List NewFile → ℕ → SessionFault → List Event → Ending → List Event → Type 0
IsFileRefused paths files place fault old ending new = ((ending ≡ Fault fault) × (between : List Event) × TellsPath (slice_get paths place) old between × TellsText (is_bad fault) (slice_get files place) between new)
    ⊎ ((ending ≡ Fault Memory) × ((new ≡ old) ⊎ TellsPath (slice_get paths place) old new))
