-- The command that prints the texts of several files of the volume in an image file, one after another.
use Rattle.std.specs.Prelude.{◌≡◌, ℕ, ◌&&◌, not, nat_lt, Bool, true, false, codes, decimal, Some, String, Result, Ok, Err, List, [], ◌∷◌, ◌++◌, length}
use Rattle.std.specs.Global.{Global, Vec}
use Rattle.hosts.specs.Event.{Event}
use Rattle.archive_files.specs.declared.forms.GetForm.TheVariants as get_as
use Rattle.os8_dir.specs.declared.file_faults.FileFault.TheVariants.{NotFound}
use Rattle.refusals.specs.declared.faults.SessionFault.{SessionFault}
use Rattle.refusals.specs.declared.faults.SessionFault.TheVariants.{Memory}
use Rattle.archive_many.specs.HostNames.{NamesHost}
use Rattle.archive_many.specs.Opened.{GetsFile, OpensVolume, files_on}
use Rattle.archive_many.specs.Wishing.{found_files, wishes_of}
use Rattle.archive_many.specs.declared.opened.VolumeFile.{VolumeFile}
use Rattle.archive_many.specs.declared.wishes.Wish.{Wish}
use Rattle.archive_many.specs.declared.wishes.Wish.TheVariants as wish
use Rattle.outcome.specs.declared.endings.Ending.{Ending}
use Rattle.outcome.specs.declared.endings.Ending.TheVariants.{Fault}
use Rattle.program_tasks.specs.declared.forms.ImageForm.{ImageForm}
use Rattle.image_files.specs.Work.{After, Then, Purely}
use Rattle.image_files.specs.Reading.{LooksAt}
use Rattle.image_files.specs.Answers.{Answers, AreLines}
use Rattle.image_files.specs.Ending.{EndsSound, TellsLine}
use Rattle.image_files.specs.Saving.{Prints}
use Rattle.asked_files.specs.UnfoundWords.{refusal_for, refusal_of}

-- ## A text

-- the line before a text among several, as `head` has it before a file: its name, with an empty line before all but the first
abbrev pub head_of : Bool → Bool → List ℕ → List ℕ
head_of false is_first name = []
head_of true true name = codes "==> " ++ name ++ codes " <==\n"
head_of true false name = codes "\n==> " ++ name ++ codes " <==\n"

-- the name that a file has on a host, unless memory is wanted for that
abbrev pub IsHostName : VolumeFile → Result (String Global) Ending → Type 0
IsHostName file (Ok name) = NamesHost file name.bytes.items
IsHostName file (Err ending) = ending ≡ Fault Memory

-- the text that it has on the volume, or why that is not got
abbrev pub TakesText : List (List ℕ) → VolumeFile → Result (Vec ℕ) Ending → Type 0
TakesText blocks file (Ok text) = GetsFile blocks file get_as.Text (Ok text)
TakesText blocks file (Err ending) = (fault : SessionFault) × GetsFile blocks file get_as.Text (Err fault) × (ending ≡ Fault fault)

-- a text is printed after the line before it, and it is answered that it is there
abbrev pub ShowsText : Bool → Bool → List (List ℕ) → VolumeFile → List Event → Result Bool Ending → List Event → Type 0
ShowsText is_several is_first blocks file = Then (Purely (IsHostName file)) (λ name. Then (Purely (TakesText blocks file)) (λ text.
    Then (Purely (AreLines (head_of is_several is_first name.bytes.items ++ text.items))) (λ bytes. Then (Prints bytes.items) (λ it. Purely (λ result. result ≡ Ok true)))))

-- ## What asks for no file

-- the line of a block at which no file begins
abbrev pub block_refusal : ℕ → List ℕ
block_refusal block = refusal_of (Some (codes "--at " ++ decimal block)) NotFound

-- the line of a word, and why it is refused, or of a block
abbrev pub refusal_line : List (List ℕ) → Wish → List ℕ
refusal_line words (wish.File file) = []
refusal_line words (wish.BadWord place) = refusal_for words (wish.BadWord place)
refusal_line words (wish.NotFound place) = refusal_for words (wish.NotFound place)
refusal_line words (wish.Block block) = block_refusal block

-- a line is printed on standard error, and it is answered that no file is there
abbrev pub TellsNone : List ℕ → List Event → Result Bool Ending → List Event → Type 0
TellsNone line old result new = (result ≡ Ok false) × TellsLine line old new

abbrev pub RefusesWish : List (List ℕ) → Wish → List Event → Result Bool Ending → List Event → Type 0
RefusesWish words one = Then (Purely (AreLines (refusal_line words one))) (λ line. TellsNone line.items)

-- ## All that is asked for

abbrev pub ShowsWish : Bool → Bool → List (List ℕ) → List (List ℕ) → Wish → List Event → Result Bool Ending → List Event → Type 0
ShowsWish is_several is_first blocks words (wish.File file) = ShowsText is_several is_first blocks file
ShowsWish is_several is_first blocks words (wish.BadWord place) = RefusesWish words (wish.BadWord place)
ShowsWish is_several is_first blocks words (wish.NotFound place) = RefusesWish words (wish.NotFound place)
ShowsWish is_several is_first blocks words (wish.Block block) = RefusesWish words (wish.Block block)

-- each text is printed before the next one is made, and it is answered whether all is there
abbrev pub ShowsEach : Bool → Bool → Bool → List (List ℕ) → List (List ℕ) → List Wish → List Event → Result Bool Ending → List Event → Type 0
ShowsEach is_several is_first are_there blocks words [] = Purely (λ result. result ≡ Ok are_there)
ShowsEach is_several is_first are_there blocks words (one ∷ wishes) = Then (After are_there (ShowsWish is_several is_first blocks words one))
    (λ is_there. ShowsEach is_several (is_first && not is_there) (are_there && is_there) blocks words wishes)

-- what is asked for of a volume, each file once, unless memory is wanted for that
abbrev pub AreAsked : Bool → List (List ℕ) → List ℕ → List (List ℕ) → Result (Vec Wish) Ending → Type 0
AreAsked is_all words places blocks (Ok wishes) = wishes.items ≡ wishes_of (files_on blocks) is_all words places
AreAsked is_all words places blocks (Err ending) = ending ≡ Fault Memory

-- whether more than one file is chosen, unless memory is wanted for that
abbrev pub AreSeveral : List Wish → Result Bool Ending → Type 0
AreSeveral wishes (Ok are) = are ≡ nat_lt 1 (length (found_files wishes))
AreSeveral wishes (Err ending) = ending ≡ Fault Memory

-- An image file is looked at, and it is found which files are asked for. Their texts are printed, each after a line with its name where more than
-- one is chosen. What asks for no file is printed on standard error, and the work goes on. No file changes.
abbrev pub ShowsTexts : ImageForm → Bool → List (List ℕ) → List ℕ → List Event → Result (Unit {0}) Ending → List Event → Type 0
ShowsTexts image is_all words places = Then (LooksAt image) (λ bytes. Then (Answers (OpensVolume bytes.items) (length bytes.items)) (λ blocks.
    Then (Purely (AreAsked is_all words places blocks)) (λ wishes. Then (Purely (AreSeveral wishes.items)) (λ are_several.
    Then (ShowsEach are_several true true blocks words wishes.items) (λ are_there. Purely (EndsSound are_there))))))
