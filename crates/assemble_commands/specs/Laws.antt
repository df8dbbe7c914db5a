-- In which endings the command that assembles sources has written nothing, and what it asked before it wrote.
use Rattle.std.specs.Prelude.{◌≡◌, ◌⊎◌, ℕ, Bool, true, false, Option, None, Some, String, Result, List, [], ◌∷◌, map}
use Rattle.std.specs.Global.{Global}
use Rattle.hosts.specs.Event.{Event}
use Rattle.hosts.specs.Streams.{read, changes_at}
use Rattle.program_reports.specs.declared.programs.ProgramLine.TheVariants.{HostRead, OneFile}
use Rattle.outcome.specs.declared.endings.Ending.{Ending}
use Rattle.outcome.specs.declared.endings.Ending.TheVariants.{Line, Fault, Failure, Busy, NotWritten, FullOutput, NoReader, Misuse, Unreported}
use Rattle.program_tasks.specs.declared.forms.ImageForm.{ImageForm}
use Rattle.program_tasks.specs.declared.tasks.AssembleForm.{AssembleForm}
use Rattle.image_files.specs.Places.{IsSaidApart}
use Rattle.assemble_commands.specs.Places.{input_place, output_place, tape_of}

-- words clash, a file can't be read, the sources have a fault, or an output is an input
abbrev pub is_refusal : Ending → Bool
is_refusal Misuse = true
is_refusal Failure = true
is_refusal (Line HostRead) = true
is_refusal (Line OneFile) = true
is_refusal (Line _) = false
is_refusal (Fault fault) = false
is_refusal (Busy content) = false
is_refusal (NotWritten content left) = false
is_refusal FullOutput = false
is_refusal Unreported = false
is_refusal NoReader = false

-- ## What was read

-- of an output and each of some inputs
abbrev pub AreSaidApart : List ℕ → List (List ℕ) → List Event → Type 0
AreSaidApart output [] events = Unit {0}
AreSaidApart output (input ∷ inputs) events = IsSaidApart output (input_place input) events × AreSaidApart output inputs events

-- of an output and what the command read: the image that has the sources, or each source
abbrev pub KeepsRead : AssembleForm → Option ImageForm → List ℕ → List Event → Type 0
KeepsRead form None output events = AreSaidApart output (map (λ name. name.bytes.items) form.sources.items) events
KeepsRead form (Some image) output events = IsSaidApart output image.file.bytes.items events

abbrev pub KeepsReadIf : AssembleForm → Option (List ℕ) → List Event → Type 0
KeepsReadIf form None events = Unit {0}
KeepsReadIf form (Some output) events = KeepsRead form form.from output events

-- where the listing goes, if there is one
abbrev pub listing_of : Option (String Global) → Option (List ℕ)
listing_of None = None
listing_of (Some name) = Some (output_place name.bytes.items)

abbrev pub AreTwo : Option (List ℕ) → Option (List ℕ) → List Event → Type 0
AreTwo None listing events = Unit {0}
AreTwo (Some tape) None events = Unit {0}
AreTwo (Some tape) (Some listing) events = IsSaidApart tape listing events

-- The host said of the listing and of the tape that neither would be written over what the command read, nor one over the other. It goes by
-- the files themselves, and not by their names.
pub record AreOutputsApart (form : AssembleForm) (events : List Event) : Type 0 where
  pub listing : KeepsReadIf form (listing_of form.list) events
  pub tape : KeepsReadIf form (tape_of form.onto form.output) events
  pub two : AreTwo (tape_of form.onto form.output) (listing_of form.list) events

-- the file of each path is as it was and no folder was made, or the host has said so
abbrev pub KeepsOrAsks : {A : Type 0} → AssembleForm → (List Event → Result A Ending → List Event → Type 0) → Type 0
KeepsOrAsks {A} form step = (old : List Event) (result : Result A Ending) (new : List Event) → step old result new → (path : List ℕ) → (changes_at path new ≡ changes_at path old) ⊎ AreOutputsApart form (read new)
