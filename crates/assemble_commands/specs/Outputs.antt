-- Where a listing and a tape are written: to a file of the host, to standard output, or to a file of a volume.
use Rattle.std.specs.Prelude.{◌≡◌, ℕ, Bool, true, false, Option, None, Some, String, Result, List, length}
use Rattle.std.specs.Global.{Vec, Global}
use Rattle.hosts.specs.Event.{Event}
use Rattle.archive_files.specs.declared.forms.PutForm.TheVariants.{Frames}
use Rattle.archive_files.specs.Putting.{PutsFile}
use Rattle.outcome.specs.declared.contents.Content.{Content}
use Rattle.outcome.specs.declared.contents.Content.TheVariants.{Tape, Listing}
use Rattle.outcome.specs.declared.endings.Ending.{Ending}
use Rattle.image_files.specs.Work.{Then, Purely}
use Rattle.image_files.specs.Answers.{Answers, AreLines}
use Rattle.image_files.specs.Making.{MakesFile}
use Rattle.image_files.specs.Stored.{stored_line}
use Rattle.image_files.specs.Saving.{IsDone, Prints, Stores}
use Rattle.image_files.specs.declared.images.Image.{Image}
use Rattle.assemble_commands.specs.Sources.{is_standard}

abbrev pub WritesIf : Bool → Content → List ℕ → List ℕ → List Event → Result (Unit {0}) Ending → List Event → Type 0
WritesIf true content name bytes old result new = Prints bytes old result new
WritesIf false content name bytes old result new = MakesFile content name bytes old result new

-- a file of the host for this is made, or gets these bytes; `-` is standard output
abbrev pub WritesTo : Content → List ℕ → List ℕ → List Event → Result (Unit {0}) Ending → List Event → Type 0
WritesTo content name bytes old result new = WritesIf (is_standard name) content name bytes old result new

-- a listing is written, if there is one and a name is given for it
abbrev pub WritesListing : Option (String Global) → Option (Vec ℕ) → List Event → Result (Unit {0}) Ending → List Event → Type 0
WritesListing None listing old result new = IsDone result × (new ≡ old)
WritesListing (Some name) None old result new = IsDone result × (new ≡ old)
WritesListing (Some name) (Some listing) old result new = WritesTo Listing name.bytes.items listing.items old result new

-- a tape is written to the file of a name, or to standard output where none is given
abbrev pub WritesTape : Option (String Global) → List ℕ → List Event → Result (Unit {0}) Ending → List Event → Type 0
WritesTape None tape old result new = Prints tape old result new
WritesTape (Some name) tape old result new = WritesTo Tape name.bytes.items tape old result new

-- The image with a tape as the file of a name is saved, and only then its line is printed.
abbrev pub PutsTape : List ℕ → List ℕ → Image → List Event → Result (Unit {0}) Ending → List Event → Type 0
PutsTape name tape image = Then (Answers (PutsFile image.bytes.items name Frames tape None) (length image.bytes.items)) (λ made. Then (Purely (AreLines (stored_line made))) (λ line. Stores image made.bytes.items line.items))
