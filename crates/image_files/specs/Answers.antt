-- The result of a call on the bytes of an image for a command.
use Rattle.std.specs.Prelude.{◌≡◌, ℕ, Result, Ok, Err, List, ◌++◌, codes}
use Rattle.std.specs.Global.{Vec}
use Rattle.shown_text.specs.Showing.{shown_text}
use Rattle.hosts.specs.Event.{Event}
use Rattle.archive_files.specs.declared.faults.ArchiveFault.{ArchiveFault}
use Rattle.refusals.specs.declared.faults.SessionFault.TheVariants.{Memory}
use Rattle.outcome.specs.Endings.{ending_of_archive}
use Rattle.outcome.specs.Hints.{image_note}
use Rattle.outcome.specs.declared.endings.Ending.{Ending}
use Rattle.outcome.specs.declared.endings.Ending.TheVariants.{Fault, Line}
use Rattle.image_files.specs.Notes.{TellsOfImage}
use Rattle.archive_many.specs.declared.faults.BlocksFault.{BlocksFault}
use Rattle.archive_many.specs.declared.faults.BlocksFault.TheVariants.{Archive, NoBlocks}
use Rattle.program_reports.specs.declared.programs.ProgramLine.TheVariants as line
use Rattle.program_reports.specs.Prefixes.{with_prefixes}

-- a command ends since an image of so many bytes, or a file of it, is refused; what may help is printed on standard error
abbrev pub Refuses : ArchiveFault → ℕ → List Event → Ending → List Event → Type 0
Refuses fault size old ending new = (ending ≡ ending_of_archive fault) × TellsOfImage (image_note size fault) old new

-- why blocks of an image of so many bytes are not given
abbrev pub RefusesBlocks : BlocksFault → ℕ → List Event → Ending → List Event → Type 0
RefusesBlocks (Archive fault) size old ending new = Refuses fault size old ending new
RefusesBlocks (NoBlocks has) size old ending new = (ending ≡ Line (line.OnlyBlocks has)) × (new ≡ old)

-- an image of so many bytes gives this, or else is refused
abbrev pub Answers : {A : Type 0} → (Result A ArchiveFault → Type 0) → ℕ → List Event → Result A Ending → List Event → Type 0
Answers gives size old (Ok it) new = gives (Ok it) × (new ≡ old)
Answers gives size old (Err ending) new = (fault : ArchiveFault) × gives (Err fault) × Refuses fault size old ending new

-- what a call answered, as a command takes it
abbrev pub IsTaken : {A : Type 0} → ℕ → Result A ArchiveFault → List Event → Result A Ending → List Event → Type 0
IsTaken size (Ok it) old (Ok given) new = (given ≡ it) × (new ≡ old)
IsTaken size (Ok it) old (Err ending) new = ⊥
IsTaken size (Err fault) old (Ok given) new = ⊥
IsTaken size (Err fault) old (Err ending) new = Refuses fault size old ending new

-- lines, unless memory is wanted for them
abbrev pub AreLines : List ℕ → Result (Vec ℕ) Ending → Type 0
AreLines text (Ok lines) = lines.items ≡ text
AreLines text (Err ending) = ending ≡ Fault Memory

-- each line has the name of its file or volume before it, as that is shown
abbrev pub named_lines : List ℕ → List ℕ → List ℕ
named_lines file text = with_prefixes (shown_text file ++ codes ": ") text
