-- The command that assembles sources to a tape, and lists them if that is asked for.
use Rattle.std.specs.Prelude.{◌≡◌, ℕ, Bool, true, false, Option, None, Some, String, is_some, Result, Ok, Err, List, [], ◌∷◌, map}
use Rattle.std.specs.Borrow.{Bor}
use Rattle.std.specs.Global.{Vec, Global}
use Rattle.hosts.specs.Event.{Event}
use Rattle.host_sources.specs.Answers as pal3
use Rattle.host_sources.specs.declared.faults.SourceFault as pal3_fault
use Rattle.host_sources.specs.declared.faults.SourceFault.TheVariants as pal3_is
use Rattle.source_listing.specs.Listings.{IsListed}
use Rattle.source_listing.specs.declared.listing.ListingForm.{ListingForm}
use Rattle.source_listing.specs.declared.listing.ListingForm.TheVariants.{Symbols, Cross}
use Rattle.pal8_places.specs.declared.options.Options.{Options}
use Rattle.pal8_listing.specs.Listings as pal8_listing
use Rattle.pal8_listing.specs.NotesTexts.{notes_text}
use Rattle.pal8_tape.specs.Answers as pal8
use Rattle.pal8_tape.specs.declared.faults.SourceFault as pal8_fault
use Rattle.pal8_tape.specs.declared.faults.SourceFault.TheVariants as pal8_is
use Rattle.outcome.specs.declared.endings.Ending.{Ending}
use Rattle.outcome.specs.declared.endings.Ending.TheVariants.{Failure}
use Rattle.program_tasks.specs.declared.forms.ImageForm.{ImageForm}
use Rattle.program_tasks.specs.declared.tasks.AssembleForm.{AssembleForm}
use Rattle.image_files.specs.Work.{Then, Purely, Lacks, OrLacks, EndsBy}
use Rattle.image_files.specs.Ending.{TellsLine}
use Rattle.image_files.specs.Reading.{LooksAt, Opens}
use Rattle.image_files.specs.Saving.{IsDone}
use Rattle.assemble_commands.specs.Clashes.{RefusesClash}
use Rattle.assemble_commands.specs.Faults.{faults_text, pal8_faults_text}
use Rattle.assemble_commands.specs.Outputs.{PutsTape, WritesListing, WritesTape}
use Rattle.assemble_commands.specs.Places.{KeepsInputs}
use Rattle.assemble_commands.specs.Sources.{AreLent, ReadsEach}
use Rattle.assemble_commands.specs.declared.assembling.Assembled.{Assembled}

-- ## What sources come to

-- the faults of sources are printed on standard error, unless memory is wanted for their text
abbrev pub PrintsFaults : List ℕ → List Event → Ending → List Event → Type 0
PrintsFaults text = OrLacks (EndsBy Failure (TellsLine text))

-- why sources of PAL III are not assembled
abbrev pub RefusesSources : List (Bor (List ℕ)) → List (Bor (List ℕ)) → pal3_fault.SourceFault → List Event → Ending → List Event → Type 0
RefusesSources sources names (pal3_is.At fault) old ending new = PrintsFaults (faults_text sources names fault) old ending new
RefusesSources sources names pal3_is.Memory old ending new = Lacks old ending new

-- the form of a listing
abbrev pub listing_form : Bool → ListingForm
listing_form true = Cross
listing_form false = Symbols

-- the listing of sources, if it is asked for
abbrev pub IsListing : Bool → Bool → List (Bor (List ℕ)) → Option (Vec ℕ) → Type 0
IsListing true is_cross sources None = ⊥
IsListing true is_cross sources (Some listing) = IsListed (listing_form is_cross) sources listing.items
IsListing false is_cross sources listing = listing ≡ None

-- PAL III sources are assembled as one, and listed if that is asked for; or their faults are printed
abbrev pub MakesPal3 : Bool → Bool → List (Bor (List ℕ)) → List (Bor (List ℕ)) → List Event → Result Assembled Ending → List Event → Type 0
MakesPal3 is_listed is_cross sources names old (Ok made) new = pal3.IsAssembled sources made.tape.items × IsListing is_listed is_cross sources made.listing × (new ≡ old)
MakesPal3 is_listed is_cross sources names old (Err ending) new = (fault : pal3_fault.SourceFault) × pal3.IsTold sources fault × RefusesSources sources names fault old ending new

-- why sources of PAL8 are not assembled
abbrev pub RefusesPal8 : Options → List (Bor (List ℕ)) → List (Bor (List ℕ)) → pal8_fault.SourceFault → List Event → Ending → List Event → Type 0
RefusesPal8 options sources names (pal8_is.At fault) old ending new = PrintsFaults (pal8_faults_text options sources names fault) old ending new
RefusesPal8 options sources names pal8_is.Memory old ending new = Lacks old ending new

-- how PAL8 is read
abbrev pub options_of : AssembleForm → Options
options_of form = record {
  is_without_links = form.is_without_links;
  is_without_zero = form.is_without_zero;
  is_without_origin = form.is_without_origin;
  has_stays = form.has_stays;
}

-- the listing of PAL8 sources, if it is asked for
abbrev pub IsPal8Listing : Bool → Bool → Options → List (Bor (List ℕ)) → Option (Vec ℕ) → Type 0
IsPal8Listing true is_cross options sources None = ⊥
IsPal8Listing true is_cross options sources (Some listing) = pal8_listing.IsListed (listing_form is_cross) options sources listing.items
IsPal8Listing false is_cross options sources listing = listing ≡ None

-- PAL8 sources are assembled as one, and listed if that is asked for; or their faults are printed
abbrev pub MakesPal8 : Bool → Bool → Options → List (Bor (List ℕ)) → List (Bor (List ℕ)) → List Event → Result Assembled Ending → List Event → Type 0
MakesPal8 is_listed is_cross options sources names old (Ok made) new = pal8.IsTape options sources made.tape.items × IsPal8Listing is_listed is_cross options sources made.listing × (new ≡ old)
MakesPal8 is_listed is_cross options sources names old (Err ending) new = (fault : pal8_fault.SourceFault) × pal8.IsTold options sources fault × RefusesPal8 options sources names fault old ending new

-- ## Notes

-- lines are printed on standard error, if there are any
abbrev pub TellsAny : List ℕ → List Event → List Event → Type 0
TellsAny [] old new = new ≡ old
TellsAny (b ∷ lines) old new = TellsLine (b ∷ lines) old new

-- the notes on PAL8 sources are printed, unless memory is wanted for their text
abbrev pub TellsNotes : Options → List (Bor (List ℕ)) → List (Bor (List ℕ)) → List Event → Result (Unit {0}) Ending → List Event → Type 0
TellsNotes options sources names old (Ok it) new = TellsAny (notes_text options sources names) old new
TellsNotes options sources names old (Err ending) new = Lacks old ending new

-- they are printed if they are asked for
abbrev pub NotesIf : Bool → Options → List (Bor (List ℕ)) → List (Bor (List ℕ)) → List Event → Result (Unit {0}) Ending → List Event → Type 0
NotesIf true options sources names old result new = TellsNotes options sources names old result new
NotesIf false options sources names old result new = IsDone result × (new ≡ old)

abbrev pub IsMade : Assembled → Result Assembled Ending → Type 0
IsMade made (Ok it) = it ≡ made
IsMade made (Err ending) = ⊥

-- PAL8 sources are assembled as a form asks for it, and then the notes on them are printed
abbrev pub MakesNoted : AssembleForm → List (Bor (List ℕ)) → List (Bor (List ℕ)) → List Event → Result Assembled Ending → List Event → Type 0
MakesNoted form sources names =
    Then (MakesPal8 (is_some form.list) form.is_cross (options_of form) sources names)
    (λ made. Then (NotesIf form.has_notes (options_of form) sources names) (λ it. Purely (IsMade made)))

abbrev pub MakesIf : Bool → AssembleForm → List (Bor (List ℕ)) → List (Bor (List ℕ)) → List Event → Result Assembled Ending → List Event → Type 0
MakesIf true form sources names old result new = MakesNoted form sources names old result new
MakesIf false form sources names old result new = MakesPal3 (is_some form.list) form.is_cross sources names old result new

-- what texts come to in the language that is asked for
abbrev pub Makes : AssembleForm → List (List ℕ) → List Event → Result Assembled Ending → List Event → Type 0
Makes form texts = Then (Purely (AreLent texts)) (λ sources. Then (Purely (AreLent (map (λ name. name.bytes.items) form.sources.items))) (λ names. MakesIf form.is_pal8 form sources.items names.items))

-- ## The command

abbrev pub IsTapeOf : Assembled → Result (Vec ℕ) Ending → Type 0
IsTapeOf made (Ok tape) = tape ≡ made.tape
IsTapeOf made (Err ending) = ⊥

-- The sources are read in their order, of the volume in an image if there is one, and assembled. Where they have no fault, their listing is
-- written, if one is asked for. Before that the host says that nothing is written over what was read.
abbrev pub ListsTape : Option (List ℕ) → AssembleForm → List Event → Result (Vec ℕ) Ending → List Event → Type 0
ListsTape volume form = Then (ReadsEach volume [] (map (λ name. name.bytes.items) form.sources.items)) (λ texts. Then (Makes form (map (λ text. text.items) texts.items)) (λ made. Then (KeepsInputs form) (λ it. Then (WritesListing form.list made.listing) (λ it. Purely (IsTapeOf made)))))

-- and then the tape is written to a file of the host, or to standard output
abbrev pub AssemblesTo : Option (List ℕ) → AssembleForm → List Event → Result (Unit {0}) Ending → List Event → Type 0
AssemblesTo volume form = Then (ListsTape volume form) (λ tape. WritesTape form.output tape.items)

-- the image file of a volume with the sources is read
abbrev pub AssemblesSeen : AssembleForm → ImageForm → List Event → Result (Unit {0}) Ending → List Event → Type 0
AssemblesSeen form image = Then (LooksAt image) (λ bytes. AssemblesTo (Some bytes.items) form)

-- it is held before it is read where the volume gets the tape
abbrev pub AssemblesOnto : AssembleForm → ImageForm → List ℕ → List Event → Result (Unit {0}) Ending → List Event → Type 0
AssemblesOnto form image name = Then (Opens image) (λ held. Then (ListsTape (Some held.bytes.items) form) (λ tape. PutsTape name tape.items held))

abbrev pub AssemblesFrom : AssembleForm → ImageForm → Option (String Global) → List Event → Result (Unit {0}) Ending → List Event → Type 0
AssemblesFrom form image None old result new = AssemblesSeen form image old result new
AssemblesFrom form image (Some name) old result new = AssemblesOnto form image name.bytes.items old result new

abbrev pub AssemblesAll : AssembleForm → Option ImageForm → List Event → Result (Unit {0}) Ending → List Event → Type 0
AssemblesAll form None old result new = AssemblesTo None form old result new
AssemblesAll form (Some image) old result new = AssemblesFrom form image form.onto old result new

-- Words that clash are refused before anything is read. Then the sources are read and assembled. Where they have a fault, that is printed on
-- standard error, and nothing is written. Else the listing is written, and then the tape.
abbrev pub Assembles : AssembleForm → List Event → Result (Unit {0}) Ending → List Event → Type 0
Assembles form = Then (RefusesClash form) (λ it. AssemblesAll form form.from)
