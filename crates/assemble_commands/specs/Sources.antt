-- How sources are read: files of the host, standard input, or files of a volume.
use Rattle.std.specs.Prelude.{◌≡◌, ◌⊎◌, ℕ, Bool, true, false, codes, Option, None, Some, Result, Ok, Err, List, [], ◌∷◌, ◌++◌, length, map}
use Rattle.std.specs.Borrow.{Bor}
use Rattle.std.specs.Global.{Vec}
use Rattle.std.specs.Str.{bytes_eq}
use Rattle.hosts.specs.Event.{Event, tell_call}
use Rattle.archive_files.specs.declared.forms.GetForm.TheVariants.{Text}
use Rattle.archive_files.specs.Asking.{Target, OfName, target_of}
use Rattle.archive_files.specs.Getting.{Gets}
use Rattle.archive_files.specs.declared.asking.Asked.{Asked}
use Rattle.archive_files.specs.declared.faults.ArchiveFault.{ArchiveFault}
use Rattle.refusals.specs.declared.faults.SessionFault.TheVariants.{Memory}
use Rattle.program_reports.specs.LineEnds.{with_line_feeds}
use Rattle.outcome.specs.Notes.{name_text}
use Rattle.outcome.specs.declared.notes.NameNote.TheVariants.{NoSource}
use Rattle.outcome.specs.declared.endings.Ending.{Ending}
use Rattle.outcome.specs.declared.endings.Ending.TheVariants as ending
use Rattle.image_files.specs.Work.{Then, Purely, Lacks, OrLacks, EndsTelling}
use Rattle.image_files.specs.Answers.{Refuses}
use Rattle.image_files.specs.Inputs.{TakesInput}
use Rattle.image_files.specs.Reading.{Looks}

-- ## One source

-- a file can't be read, or has too many bytes
abbrev pub is_unread : Ending → Bool
is_unread (ending.Line line) = true
is_unread (ending.Fault fault) = false
is_unread ending.Failure = false
is_unread (ending.Busy content) = false
is_unread (ending.NotWritten content left) = false
is_unread ending.FullOutput = false
is_unread ending.Unreported = false
is_unread ending.NoReader = false
is_unread ending.Misuse = false

-- a source that can't be read is named, unless memory is wanted for that or was wanted before
abbrev pub NamesIf : Bool → List ℕ → Ending → List Event → Ending → List Event → Type 0
NamesIf false name why old ended new = (ended ≡ why) × (new ≡ old)
NamesIf true name why old ended new = OrLacks (EndsTelling why (name_text NoSource name)) old ended new

abbrev pub NamesUnread : List ℕ → Ending → List Event → Ending → List Event → Type 0
NamesUnread name why old ended new = NamesIf (is_unread why) name why old ended new

-- a file of the host is read whole
abbrev pub ReadsFile : List ℕ → List Event → Result (Vec ℕ) Ending → List Event → Type 0
ReadsFile name old (Ok bytes) new = Looks name name old (Ok bytes) new
ReadsFile name old (Err ended) new = (why : Ending) × (between : List Event) × Looks name name old (Err why) between × NamesUnread name why between ended new

-- a name is that of a standard stream
abbrev pub is_standard : List ℕ → Bool
is_standard name = bytes_eq name (codes "-")

abbrev pub ReadsIf : Bool → List ℕ → List Event → Result (Vec ℕ) Ending → List Event → Type 0
ReadsIf true name old result new = TakesInput old result new
ReadsIf false name old result new = ReadsFile name old result new

-- a file of a volume that is no source is named, and refused
abbrev pub RefusesSource : List ℕ → ArchiveFault → ℕ → List Event → Ending → List Event → Type 0
RefusesSource name fault size old ended new = ((ok : Bool) × Refuses fault size (tell_call ok (name_text NoSource name) ∷ old) ended new) ⊎ Lacks old ended new

-- the file of a name, unless memory is wanted for that
abbrev pub IsAsked : List ℕ → Result Asked Ending → Type 0
IsAsked name (Ok asked) = target_of asked ≡ OfName name
IsAsked name (Err ended) = ended ≡ ending.Fault Memory

-- the text of a file of a volume, or why it has none
abbrev pub GetsText : List ℕ → List ℕ → Target → List Event → Result (Vec ℕ) Ending → List Event → Type 0
GetsText image name wanted old (Ok text) new = Gets image wanted Text (Ok text) × (new ≡ old)
GetsText image name wanted old (Err ended) new = (fault : ArchiveFault) × Gets image wanted Text (Err fault) × RefusesSource name fault (length image) old ended new

abbrev pub ReadsMember : List ℕ → List ℕ → List Event → Result (Vec ℕ) Ending → List Event → Type 0
ReadsMember image name = Then (Purely (IsAsked name)) (λ asked. GetsText image name (target_of asked))

-- the bytes of a source: a file of the volume in an image, or else one of the host, where `-` is standard input
abbrev pub ReadsBytes : Option (List ℕ) → List ℕ → List Event → Result (Vec ℕ) Ending → List Event → Type 0
ReadsBytes None name old result new = ReadsIf (is_standard name) name old result new
ReadsBytes (Some image) name old result new = ReadsMember image name old result new

-- the text of a source: in one of the host LF ends each line then, as in one of a volume it does already
abbrev pub source_text : Option (List ℕ) → List ℕ → List ℕ
source_text None bytes = with_line_feeds bytes
source_text (Some image) bytes = bytes

-- a text, unless memory is wanted to keep it
abbrev pub IsText : List ℕ → Result (Vec ℕ) Ending → Type 0
IsText text (Ok kept) = kept.items ≡ text
IsText text (Err ended) = ended ≡ ending.Fault Memory

abbrev pub ReadsSource : Option (List ℕ) → List ℕ → List Event → Result (Vec ℕ) Ending → List Event → Type 0
ReadsSource volume name = Then (ReadsBytes volume name) (λ bytes. Purely (IsText (source_text volume bytes.items)))

-- ## All of them

-- these are the texts
abbrev pub AreTexts : List (Vec ℕ) → Result (Vec (Vec ℕ)) Ending → Type 0
AreTexts texts (Ok it) = it.items ≡ texts
AreTexts texts (Err ended) = ⊥

-- sources are read in their order
abbrev pub ReadsEach : Option (List ℕ) → List (Vec ℕ) → List (List ℕ) → List Event → Result (Vec (Vec ℕ)) Ending → List Event → Type 0
ReadsEach volume texts [] = Purely (AreTexts texts)
ReadsEach volume texts (name ∷ names) = Then (ReadsSource volume name) (λ text. ReadsEach volume (texts ++ text ∷ []) names)

-- what is lent of some bytes, as the functions on sources take them, unless memory is wanted for that
abbrev pub AreLent : List (List ℕ) → Result (Vec (Bor (List ℕ))) Ending → Type 0
AreLent texts (Ok lent) = map (λ it. it.now) lent.items ≡ texts
AreLent texts (Err ended) = ended ≡ ending.Fault Memory
