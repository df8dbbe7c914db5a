-- The files of the host that get a tape and a listing: none of them is one that was read, and they are two (this project's profile).
use Rattle.std.specs.Prelude.{◌≡◌, ℕ, Bool, true, false, codes, if◌then◌else◌, Option, None, Some, String, Result, List, [], ◌∷◌, map}
use Rattle.std.specs.Global.{Global}
use Rattle.hosts.specs.Event.{Event}
use Rattle.outcome.specs.declared.contents.Content.{Content}
use Rattle.outcome.specs.declared.contents.Content.TheVariants.{Tape, Listing}
use Rattle.outcome.specs.declared.endings.Ending.{Ending}
use Rattle.program_tasks.specs.declared.forms.ImageForm.{ImageForm}
use Rattle.program_tasks.specs.declared.tasks.AssembleForm.{AssembleForm}
use Rattle.image_files.specs.Places.{IsApart}
use Rattle.image_files.specs.Saving.{IsDone}
use Rattle.image_files.specs.Work.{Then, Purely}
use Rattle.assemble_commands.specs.Clashes.{tape_place}
use Rattle.assemble_commands.specs.Sources.{is_standard}

-- the name of what is read, and of what is written: `-` is a standard stream, which may be a file
abbrev pub input_place : List ℕ → List ℕ
input_place name = if is_standard name then codes "/dev/stdin" else name

abbrev pub output_place : List ℕ → List ℕ
output_place name = if is_standard name then codes "/dev/stdout" else name

-- where the tape goes, unless a volume gets it
abbrev pub tape_of : Option (String Global) → Option (String Global) → Option (List ℕ)
tape_of (Some file) output = None
tape_of None output = Some (output_place (tape_place output))

-- an output for this is none of some inputs, as the host says of each
abbrev pub AreApart : Content → List ℕ → List (List ℕ) → List Event → Result (Unit {0}) Ending → List Event → Type 0
AreApart content output [] = Purely IsDone
AreApart content output (input ∷ inputs) = Then (IsApart content output (input_place input)) (λ it. AreApart content output inputs)

-- it is not the image that has the sources, or none of the sources
abbrev pub IsApartFromInputs : Content → List ℕ → AssembleForm → Option ImageForm → List Event → Result (Unit {0}) Ending → List Event → Type 0
IsApartFromInputs content output form None old result new = AreApart content output (map (λ name. name.bytes.items) form.sources.items) old result new
IsApartFromInputs content output form (Some image) old result new = IsApart content output image.file.bytes.items old result new

-- the listing, if there is one, is nothing that was read
abbrev pub KeepsListing : AssembleForm → Option (String Global) → List Event → Result (Unit {0}) Ending → List Event → Type 0
KeepsListing form None old result new = IsDone result × (new ≡ old)
KeepsListing form (Some name) old result new = IsApartFromInputs Listing (output_place name.bytes.items) form form.from old result new

-- a tape is not the listing, if there is one
abbrev pub IsApartFromListing : List ℕ → Option (String Global) → List Event → Result (Unit {0}) Ending → List Event → Type 0
IsApartFromListing tape None old result new = IsDone result × (new ≡ old)
IsApartFromListing tape (Some name) old result new = IsApart Tape tape (output_place name.bytes.items) old result new

-- it is nothing that was read, and not the listing
abbrev pub KeepsTapeAt : AssembleForm → List ℕ → List Event → Result (Unit {0}) Ending → List Event → Type 0
KeepsTapeAt form tape = Then (IsApartFromInputs Tape tape form form.from) (λ it. IsApartFromListing tape form.list)

abbrev pub KeepsTape : AssembleForm → Option (List ℕ) → List Event → Result (Unit {0}) Ending → List Event → Type 0
KeepsTape form None old result new = IsDone result × (new ≡ old)
KeepsTape form (Some tape) old result new = KeepsTapeAt form tape old result new

-- Before anything is written the host is asked whether the listing or the tape would be written over what was read, or over each other. It
-- goes by the files themselves, and not by their names. Where that is so, or the host can't say, the command ends.
abbrev pub KeepsInputs : AssembleForm → List Event → Result (Unit {0}) Ending → List Event → Type 0
KeepsInputs form = Then (KeepsListing form form.list) (λ it. KeepsTape form (tape_of form.onto form.output))
