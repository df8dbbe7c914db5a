-- What `assemble` leaves that puts its tape, and its listing, on standard output or in files of the host.
use Rattle.std.specs.Prelude.{◌≡◌, ◌⊎◌, ℕ, Bool, true, false, Option, None, Some, String, Ok, List, [], ◌∷◌, map}
use Rattle.std.specs.Borrow.{Bor}
use Rattle.std.specs.Global.{Vec, Global}
use Rattle.hosts.specs.Event.{Event}
use Rattle.hosts.specs.Place.{Place, about}
use Rattle.hosts.specs.Saving.{replacements}
use Rattle.hosts.specs.Streams.{asked_name, output, path_of_name}
use Rattle.outcome.specs.declared.contents.Content.{Content}
use Rattle.outcome.specs.declared.contents.Content.TheVariants.{Tape, Listing}
use Rattle.program_tasks.specs.declared.forms.ImageForm.{ImageForm}
use Rattle.program_tasks.specs.declared.tasks.AssembleForm.{AssembleForm}
use Rattle.image_files.specs.Laws.{ChangesNothing}
use Rattle.image_files.specs.Reading.{LooksAt, hold_calls, with_lock_note}
use Rattle.assemble_commands.specs.Assembling.{IsListing, IsPal8Listing, options_of}
use Rattle.assemble_commands.specs.Clashes.{name_given, tape_place}
use Rattle.assemble_commands.specs.Sources.{ReadsEach, is_standard}
use Rattle.keeper_laws.specs.Changed.{ChangesNoOther}
use Rattle.keeper_laws.specs.Ended.{DoesNothing, TouchesOne}
use Rattle.keeper_laws.specs.Seen.{IsSeen}
use Rattle.program_laws.specs.Assembled.{IsTapeIn}

-- ## A file

-- The file of a name, which is for this, was held at its path. It has these bytes now, and no other path is changed.
pub record GetsHeld (content : Content) (name bytes : List ℕ) (old new : List Event) : Type 0 where
  pub path : List ℕ
  pub begun : List Event
  pub has_lock : Bool
  pub ok : Bool
  pub held : begun ≡ with_lock_note content has_lock ok (hold_calls name path has_lock old)
  pub now : (start : Place) (was : List ℕ) → IsSeen start path begun was → IsSeen start path new bytes
  pub alone : ChangesNoOther path begun new

-- A file of these bytes was made at the path that the host gave for a name that had none. It replaced none, and no other path is changed.
pub record IsNewFile (name bytes : List ℕ) (old new : List Event) : Type 0 where
  pub asked : asked_name new ≡ name
  pub now : (start : Place) → IsSeen start (path_of_name new) new bytes
  pub first : replacements (about (path_of_name new) new) ≡ replacements (about (path_of_name new) old)
  pub alone : ChangesNoOther (path_of_name new) old new

-- the file of a name has these bytes now, and standard output got nothing
abbrev pub HasFile : Content → List ℕ → List ℕ → List Event → List Event → Type 0
HasFile content name bytes old new = (GetsHeld content name bytes old new ⊎ IsNewFile name bytes old new) × (output new ≡ output old)

-- ## The outputs

-- bytes are where they were to go: standard output took them, and no file is changed; or the file of this name has them
abbrev pub WentIf : Bool → Content → List ℕ → List ℕ → List Event → List Event → Type 0
WentIf true content name bytes old new = ChangesNothing old new × (output new ≡ (true, bytes) ∷ output old)
WentIf false content name bytes old new = HasFile content name bytes old new

abbrev pub WentTo : Content → List ℕ → List ℕ → List Event → List Event → Type 0
WentTo content name = WentIf (is_standard name) content name

-- the listing of sources, in the language that is asked for
abbrev pub IsListingIn : Bool → AssembleForm → List (Bor (List ℕ)) → Vec ℕ → Type 0
IsListingIn true form sources listing = IsPal8Listing true form.is_cross (options_of form) sources (Some listing)
IsListingIn false form sources listing = IsListing true form.is_cross sources (Some listing)

-- it is where it was to go, if it is asked for
abbrev pub ListsTo : Bool → AssembleForm → List (Bor (List ℕ)) → Option (String Global) → List Event → List Event → Type 0
ListsTo is_pal8 form sources None old new = DoesNothing old new
ListsTo is_pal8 form sources (Some name) old new = (listing : Vec ℕ) × IsListingIn is_pal8 form sources listing × WentTo Listing name.bytes.items listing.items old new

-- the volume that has the sources, if they are files of one
abbrev pub IsVolumeFor : Option ImageForm → Option (List ℕ) → List Event → List Event → Type 0
IsVolumeFor None volume old new = (volume ≡ None) × (new ≡ old)
IsVolumeFor (Some image) volume old new = (bytes : Vec ℕ) × LooksAt image old (Ok bytes) new × (volume ≡ Some bytes.items)

-- these sources were read, one after another
pub record AreRead (form : AssembleForm) (sources : List (Bor (List ℕ))) (old new : List Event) : Type 0 where
  pub volume : Option (List ℕ)
  pub opened : List Event
  pub from : IsVolumeFor form.from volume old opened
  pub texts : Vec (Vec ℕ)
  pub reads : ReadsEach volume [] (map (λ source. source.bytes.items) form.sources.items) opened (Ok texts) new
  pub are : map (λ source. source.now) sources ≡ map (λ text. text.items) texts.items

-- Sources are assembled. They were read, and so far nothing was changed or printed on standard output. Then their listing went to its place, if it
-- is asked for, and then their tape.
pub record HasOutputs (form : AssembleForm) (old new : List Event) : Type 0 where
  pub sources : List (Bor (List ℕ))
  pub read : List Event
  pub are : AreRead form sources old read
  pub tape : Vec ℕ
  pub assembled : IsTapeIn form.is_pal8 form sources tape.items
  pub begun : List Event
  pub quiet : DoesNothing old begun
  pub listed : List Event
  pub lists : ListsTo form.is_pal8 form sources form.list begun listed
  pub went : WentTo Tape (tape_place form.output) tape.items listed new

-- this is done, and what follows changes no file
abbrev pub HasLeft : (List Event → List Event → Type 0) → List Event → List Event → Type 0
HasLeft done old new = (mid : List Event) × done old mid × ChangesNothing mid new

-- ## Which files are touched

-- one at most for an output that a file is to get
abbrev pub TouchesIf : Bool → List Event → List Event → Type 0
TouchesIf true old new = ChangesNothing old new
TouchesIf false old new = TouchesOne old new

abbrev pub TouchesAt : Option (List ℕ) → List Event → List Event → Type 0
TouchesAt None old new = ChangesNothing old new
TouchesAt (Some name) old new = TouchesIf (is_standard name) old new

-- that of the listing first, and then that of the tape, or the image that gets this
abbrev pub TouchesOutputs : AssembleForm → (List Event → List Event → Type 0) → List Event → List Event → Type 0
TouchesOutputs form touches old new = (mid : List Event) × TouchesAt (name_given form.list) old mid × touches mid new
