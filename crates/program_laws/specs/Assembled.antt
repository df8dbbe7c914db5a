-- What it means that a tape is stored on the volume that has its sources.
use Rattle.std.specs.Prelude.{◌≡◌, ℕ, Bool, true, false, None, Ok, List, [], ◌∷◌, map}
use Rattle.std.specs.Borrow.{Bor}
use Rattle.std.specs.Global.{Vec}
use Rattle.hosts.specs.Event.{Event, look_call}
use Rattle.hosts.specs.Streams.{output, read}
use Rattle.archive_files.specs.declared.forms.GetForm.TheVariants.{Text}
use Rattle.archive_files.specs.declared.forms.PutForm.TheVariants.{Frames}
use Rattle.bin_tape.specs.Pairs.{ArePairs, IsTapeOf}
use Rattle.pal_asm.specs.Faults.{fault_of}
use Rattle.pal_asm.specs.Words.{pairs_of}
use Rattle.host_sources.specs.Answers as pal3
use Rattle.host_sources.specs.Sources.{newest_first}
use Rattle.pal8_asm.specs.Assembling.{IsAssembled}
use Rattle.pal8_tape.specs.Joins.{bytes_in}
use Rattle.pal8_tape.specs.Answers as pal8
use Rattle.archive_files.specs.Asking.{OfName}
use Rattle.archive_files.specs.Getting.{Gets}
use Rattle.archive_files.specs.Putting.{PutsFile}
use Rattle.archive_files.specs.declared.putting.NewImage.{NewImage}
use Rattle.program_tasks.specs.declared.forms.ImageForm.{ImageForm}
use Rattle.program_tasks.specs.declared.tasks.AssembleForm.{AssembleForm}
use Rattle.image_files.specs.Stored.{stored_line}
use Rattle.image_files.specs.declared.images.Image.{Image}
use Rattle.assemble_commands.specs.Assembling.{options_of}
use Rattle.keeper_laws.specs.Changed.{GetsVolume, IsOpened}

-- these are the texts of files of a volume, in their order
abbrev pub AreTextsOf : List ℕ → List (List ℕ) → List (List ℕ) → Type 0
AreTextsOf image [] [] = Unit {0}
AreTextsOf image [] (text ∷ texts) = ⊥
AreTextsOf image (name ∷ names) [] = ⊥
AreTextsOf image (name ∷ names) (text ∷ texts) = ((found : Vec ℕ) × Gets image (OfName name) Text (Ok found) × (text ≡ found.items)) × AreTextsOf image names texts

-- a tape is that of sources, in the language that is asked for
abbrev pub IsTapeIn : Bool → AssembleForm → List (Bor (List ℕ)) → List ℕ → Type 0
IsTapeIn true form sources tape = pal8.IsTape (options_of form) sources tape
IsTapeIn false form sources tape = pal3.IsAssembled sources tape

-- these are the words of sources with their cells, in that language
abbrev pub AreWordsIn : Bool → AssembleForm → List (Bor (List ℕ)) → List (ℕ × ℕ) → Type 0
AreWordsIn true form sources pairs = IsAssembled (pal8.result_of (options_of form) (bytes_in sources)) pairs
AreWordsIn false form sources pairs = (fault_of (newest_first sources) ≡ None) × (pairs ≡ pairs_of (newest_first sources))

-- Frames are a tape of the words of sources, if these are cells and words of the machine. So each cell has the word of the last pair there.
pub record IsMapOf (form : AssembleForm) (sources : List (Bor (List ℕ))) (frames : List ℕ) : Type 0 where
  pub pairs : List (ℕ × ℕ)
  pub are : AreWordsIn form.is_pal8 form sources pairs
  pub tape : ArePairs pairs → IsTapeOf frames pairs

-- A tape is stored. The image file was read, and nothing else; the sources are files of its volume. It has its volume now with their tape under
-- a name, and with each other file as it was. The line STORED was to be printed, and nothing else. Whether it was is `ok`.
pub record HasAssembled (form : AssembleForm) (named : ImageForm) (name : List ℕ) (ok : Bool) (old new : List Event) : Type 0 where
  pub image : Image
  pub path : List ℕ
  pub was : List ℕ
  pub opened : IsOpened named path was image old
  pub reads : read new ≡ look_call path was ∷ read old
  pub sources : List (Bor (List ℕ))
  pub are : AreTextsOf image.bytes.items (map (λ source. source.bytes.items) form.sources.items) (map (λ source. source.now) sources)
  pub tape : Vec ℕ
  pub assembled : IsTapeIn form.is_pal8 form sources tape.items
  pub stored : NewImage
  pub puts : PutsFile image.bytes.items name Frames tape.items None (Ok stored)
  pub has : GetsVolume named image path was stored.bytes.items old new
  pub prints : output new ≡ (ok, stored_line stored) ∷ output old
