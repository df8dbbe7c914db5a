-- The command that reports on the volumes in image files.
use Rattle.std.specs.Prelude.{ℕ, ◌+◌, Bool, true, false, nat_eq, ◌≡◌, ◌⊎◌, Result, Ok, Err, List, [], ◌∷◌, length, map}
use Rattle.hosts.specs.Event.{Event, DropLeftovers, failed_call, leftovers_call, tell_call}
use Rattle.hosts.specs.declared.faults.HostFault.{HostFault}
use Rattle.outcome.specs.Notes.{leftovers_text}
use Rattle.program_reports.specs.Program.{program_line}
use Rattle.program_reports.specs.declared.programs.ProgramLine.TheVariants as line
use Rattle.outcome.specs.declared.endings.Ending.{Ending}
use Rattle.program_tasks.specs.declared.forms.CheckForm.{CheckForm}
use Rattle.image_files.specs.Work.{After, Then, Purely, Lacks}
use Rattle.image_files.specs.Answers.{AreLines}
use Rattle.image_files.specs.Leftovers.{ChoosesImages}
use Rattle.image_files.specs.Saving.{Prints}
use Rattle.image_files.specs.Reading.{file_named, reading_named}
use Rattle.image_files.specs.declared.mending.ImageReading.{ImageReading}
use Rattle.host_progress.specs.Progressing.{TellsProgress, WithProgress}
use Rattle.image_files.specs.Ending.{EndsSound}
use Rattle.show_commands.specs.Volumes.{ReportsNext, ReportsOne}
use Rattle.show_commands.specs.declared.reports.ReportKind.{ReportKind}
use Rattle.show_commands.specs.declared.reports.ReportKind.TheVariants as kinds

-- what is asked for of each volume: its directory with the first fault, or with each
abbrev pub kind_of_check : Bool → ReportKind
kind_of_check true = kinds.Survey
kind_of_check false = kinds.Directory

-- how the image files of a check are read
abbrev pub reading_of_check : CheckForm → ImageReading
reading_of_check form = record { layout = form.layout; is_plain = form.is_plain; is_lenient = form.is_lenient }

-- one of several image files is reported
abbrev pub ChecksNext : CheckForm → Bool → ℕ → ℕ → List ℕ → List Event → Result Bool Ending → List Event → Type 0
ChecksNext form is_told done all name =
    Then (TellsProgress is_told done all) (λ it. ReportsNext (kind_of_check form.is_all) (reading_named (reading_of_check form) name) (file_named (reading_of_check form) name) name)

-- how many images are refused with this one
abbrev pub with_refusal : Bool → ℕ → ℕ
with_refusal true refused = refused
with_refusal false refused = refused + 1

-- the images are reported in their order, and it is counted how many are refused
abbrev pub ChecksEach : CheckForm → Bool → ℕ → ℕ → ℕ → List (List ℕ) → List Event → Result ℕ Ending → List Event → Type 0
ChecksEach form is_told done all refused [] = Purely (λ result. result ≡ Ok refused)
ChecksEach form is_told done all refused (file ∷ files) = Then (After (nat_eq refused 0) (ChecksNext form is_told done all file)) (λ is_sound. ChecksEach form is_told (done + 1) all (with_refusal is_sound refused) files)

-- the last line counts the images
abbrev pub PrintsCount : ℕ → ℕ → List Event → Result (Unit {0}) Ending → List Event → Type 0
PrintsCount count refused = Then (Purely (AreLines (program_line (line.Images count refused)))) (λ line. Then (After (nat_eq refused 0) (Prints line.items)) (λ it. Purely (EndsSound (nat_eq refused 0))))

abbrev pub ChecksSeveral : CheckForm → List (List ℕ) → List Event → Result (Unit {0}) Ending → List Event → Type 0
ChecksSeveral form files = Then (WithProgress (λ is_told. ChecksEach form is_told 0 (length files) 0 files)) (PrintsCount (length files))

-- one file is reported as it is, and others with a line that counts them
abbrev pub ChecksFiles : CheckForm → List (List ℕ) → List Event → Result (Unit {0}) Ending → List Event → Type 0
ChecksFiles form [] = ChecksSeveral form []
ChecksFiles form (name ∷ []) = ReportsOne (kind_of_check form.is_all) (reading_named (reading_of_check form) name) (file_named (reading_of_check form) name)
ChecksFiles form (file ∷ other ∷ files) = ChecksSeveral form (file ∷ other ∷ files)

-- ## What is taken away beside the images: files of writers that were ended

-- how many files these were is noted, where there were any; memory may be wanted for that
abbrev pub TellsDropped : Bool → List ℕ → ℕ → List Event → Result (Unit {0}) Ending → List Event → Type 0
TellsDropped true name count old result new = (result ≡ Ok tt) × (new ≡ old)
TellsDropped false name count old (Ok it) new = (ok : Bool) × (new ≡ tell_call ok (leftovers_text name count) ∷ old)
TellsDropped false name count old (Err ending) new = Lacks old ending new

-- the host is asked to take away what lies beside the file of a name; where it can't the work goes on
abbrev pub DropsBeside : List ℕ → List Event → Result (Unit {0}) Ending → List Event → Type 0
DropsBeside name old result new = ((count : ℕ) × TellsDropped (nat_eq count 0) name count (leftovers_call name count ∷ old) result new)
    ⊎ ((fault : HostFault) × (result ≡ Ok tt) × (new ≡ failed_call DropLeftovers name fault ∷ old))

-- the same of each image file
abbrev pub DropsEach : CheckForm → List (List ℕ) → List Event → Result (Unit {0}) Ending → List Event → Type 0
DropsEach form [] = Purely (λ result. result ≡ Ok tt)
DropsEach form (name ∷ names) = Then (DropsBeside (file_named (reading_of_check form) name)) (λ it. DropsEach form names)

-- Of several names those of such files are left out. What lies beside the images is taken away first. Then each image file is looked at in its
-- order, and its lines are printed before the next one is looked at. Of several each line has the name of the file or volume before it, a
-- refused one has its line among them, and the last line counts the files.
abbrev pub ChecksEachImage : CheckForm → List (List ℕ) → List Event → Result (Unit {0}) Ending → List Event → Type 0
ChecksEachImage form files = Then (DropsEach form files) (λ it. ChecksFiles form files)

abbrev pub ChecksImages : CheckForm → List Event → Result (Unit {0}) Ending → List Event → Type 0
ChecksImages form = Then (Purely (ChoosesImages (map (λ file. file.bytes.items) form.images.items))) (λ images. ChecksEachImage form (map (λ file. file.bytes.items) images.items))
