-- The command that writes several files of the volume in an image file to a folder of the host.
use Rattle.std.specs.Prelude.{◌≡◌, ◌⊎◌, ◌<◌, ◌&&◌, ℕ, ◌+◌, Bool, true, false, not, if◌then◌else◌, Option, None, Some, Result, Ok, Err, List, [], ◌∷◌, ◌++◌, codes, decimal, length, slice_get, OnOk, String}
use Rattle.std.specs.Global.{Vec, Global}
use Rattle.hosts.specs.Event.{Event, MakeFolder, failed_call, failed_same, folder_call, same_call, there_call, tell_call}
use Rattle.outcome.specs.Notes.{name_text}
use Rattle.outcome.specs.declared.notes.NameNote.TheVariants.{GotAsFrames}
use Rattle.hosts.specs.Faults.{class_of, fault_number}
use Rattle.hosts.specs.Place.{about}
use Rattle.hosts.specs.Saving.{Lays, replacements}
use Rattle.hosts.specs.Streams.{errors, failures, last_fault}
use Rattle.hosts.specs.Times.{file_time}
use Rattle.hosts.specs.declared.faults.FaultClass.{FaultClass}
use Rattle.hosts.specs.declared.faults.FaultClass.TheVariants as class
use Rattle.hosts.specs.declared.faults.HostFault.{HostFault}
use Rattle.archive_files.specs.declared.forms.GetForm.{GetForm}
use Rattle.os8_dates.specs.declared.days.TheConstants.{NO_DATE}
use Rattle.os8_dates.specs.Days.{time_of_word}
use Rattle.os8_dir.specs.declared.file_faults.FileFault.{FileFault}
use Rattle.os8_dir.specs.declared.file_faults.FileFault.TheVariants.{BadName, NotFound}
use Rattle.refusals.specs.Faults.{fault_line}
use Rattle.refusals.specs.declared.faults.SessionFault.{SessionFault}
use Rattle.refusals.specs.declared.faults.SessionFault.TheVariants.{File, Memory}
use Rattle.archive_many.specs.HostNames.{NamesHost, is_slash}
use Rattle.archive_many.specs.Opened.{GetsFile, OpensVolume, files_on, first_word}
use Rattle.archive_many.specs.declared.opened.VolumeFile.{VolumeFile}
use Rattle.volume_index.specs.Years.{last_in}
use Rattle.program_reports.specs.Program.{program_line}
use Rattle.program_reports.specs.declared.programs.ProgramLine.{ProgramLine}
use Rattle.program_reports.specs.declared.programs.ProgramLine.TheVariants as line
use Rattle.outcome.specs.declared.endings.Ending.{Ending}
use Rattle.outcome.specs.declared.endings.Ending.TheVariants.{Line, Fault}
use Rattle.program_tasks.specs.declared.forms.GetManyForm.{GetManyForm}
use Rattle.image_files.specs.Work.{After, Then, Purely, Lacks}
use Rattle.image_files.specs.Places.{TellsPair}
use Rattle.image_files.specs.Reading.{LooksAt}
use Rattle.image_files.specs.Answers.{Answers, AreLines, named_lines}
use Rattle.image_files.specs.Reasons.{TellsFault, TellsFirst}
use Rattle.image_files.specs.Saving.{Prints, TouchesOnly, IsDone}
use Rattle.image_files.specs.Ending.{EndsSound}
use Rattle.host_progress.specs.Progressing.{TellsProgress, WithProgress}
use Rattle.asked_files.specs.Texts.{TakesLists, get_form, is_got_noted}
use Rattle.get_commands.specs.Wishing.{AreWishes, words_of}
use Rattle.archive_many.specs.declared.wishes.Wish.{Wish}
use Rattle.archive_many.specs.declared.wishes.Wish.TheVariants as wish

-- ## A file of the host

-- a slash is needed after these characters and others: the last of all is another one
abbrev pub needs_slash_after : Bool → List ℕ → Bool
needs_slash_after needs [] = needs
needs_slash_after needs (character ∷ text) = needs_slash_after (not (is_slash character)) text

abbrev pub slash_after : List ℕ → List ℕ
slash_after folder = if needs_slash_after false folder then codes "/" else []

-- the path of a file of this name in a folder
abbrev pub path_in : List ℕ → List ℕ → List ℕ
path_in folder name = folder ++ slash_after folder ++ name

-- no file took a path that another may have had, unless that is asked for
abbrev pub ReplacesIf : Bool → List ℕ → List Event → List Event → Type 0
ReplacesIf true path old new = Unit {0}
ReplacesIf false path old new = replacements (about path new) ≡ replacements (about path old)

-- The file of a path has these bytes whole, and the time that was asked for it is the one that is given, if one is. Or it is as it was. When the
-- disk has the bytes is left to the system.
pub record HasLaid (path bytes : List ℕ) (seconds : Option ℕ) (is_forced : Bool) (result : Result (Unit {0}) HostFault) (old new : List Event) : Type 0 where
  pub lays : Lays result bytes (about path old) (about path new)
  pub dated : OnOk result (file_time (about path new) ≡ seconds)
  pub replaces : ReplacesIf is_forced path old new
  pub tells : errors new ≡ errors old
  pub only : TouchesOnly path old new

-- a call failed, or it was reported that there is a file of the path
abbrev pub IsRefused : List ℕ → List Event → List Event → Type 0
IsRefused path old new = (failures old < failures new) ⊎ (new ≡ there_call path true ∷ old)

-- the file of a path is to have these bytes and this time
abbrev pub LaysFile : List ℕ → List ℕ → Option ℕ → Bool → List Event → Result (Unit {0}) HostFault → List Event → Type 0
LaysFile path bytes seconds is_forced old (Ok it) new = HasLaid path bytes seconds is_forced (Ok it) old new
LaysFile path bytes seconds is_forced old (Err fault) new = HasLaid path bytes seconds is_forced (Err fault) old new × IsRefused path old new × (fault_number fault ≡ last_fault new)

-- lines are printed, and it is answered whether a file is there
abbrev pub PrintsAnswer : Bool → List ℕ → List Event → Result Bool Ending → List Event → Type 0
PrintsAnswer is_there text = Then (Purely (AreLines text)) (λ lines. Then (After is_there (Prints lines.items)) (λ it. Purely (λ result. result ≡ Ok is_there)))

-- the line of a file that is not laid by this fault; want of memory ends the command
abbrev pub laid_line : FaultClass → Option ProgramLine
laid_line class.Busy = Some line.HostExists
laid_line class.Memory = None
laid_line class.Other = Some line.HostWrite

abbrev pub line_of_laid : HostFault → Option ProgramLine
line_of_laid fault = laid_line (class_of fault)

-- why is printed with its path, and then its line after its name
abbrev pub TellsUnlaid : Option ProgramLine → HostFault → List ℕ → List ℕ → List Event → Result Bool Ending → List Event → Type 0
TellsUnlaid None fault name path old result new = (result ≡ Err (Fault Memory)) × (new ≡ old)
TellsUnlaid (Some said) fault name path old result new = (between : List Event) × TellsFirst fault path old between × PrintsAnswer false (named_lines name (program_line said)) between result new

-- what becomes of a file that is laid, or not: its line is printed; one that is not there is reported after its name
abbrev pub TellsLaid : VolumeFile → List ℕ → List ℕ → Result (Unit {0}) HostFault → List Event → Result Bool Ending → List Event → Type 0
TellsLaid file name path (Ok it) old result new = PrintsAnswer true (program_line (line.Got file.name file.blocks)) old result new
TellsLaid file name path (Err fault) old result new = TellsUnlaid (line_of_laid fault) fault name path old result new

-- a file is laid, and only then its line is printed
pub record LaysAndTells (form : GetManyForm) (file : VolumeFile) (name path bytes : List ℕ) (seconds : Option ℕ) (old : List Event) (result : Result Bool Ending) (new : List Event) : Type 0 where
  pub done : Result (Unit {0}) HostFault
  pub between : List Event
  pub lays : LaysFile path bytes seconds form.is_forced old done between
  pub tells : TellsLaid file name path done between result new

-- a file that would be laid over the image is reported after its name, and a note names both
abbrev pub RefusesOver : List ℕ → List ℕ → List ℕ → List Event → Result Bool Ending → List Event → Type 0
RefusesOver name path image = Then (TellsPair path image) (λ it. PrintsAnswer false (named_lines name (program_line line.OneFile)))

-- A file is laid where its path doesn't lead to the image. Of that the host is asked, by the files themselves and not by their names, right
-- before. Where it can't say, the file isn't laid.
pub record LaysApart (form : GetManyForm) (file : VolumeFile) (name path bytes : List ℕ) (seconds : Option ℕ) (old : List Event) (result : Result Bool Ending) (new : List Event) : Type 0 where
  pub way : LaysAndTells form file name path bytes seconds (same_call path form.image.file.bytes.items false ∷ old) result new
      ⊎ (RefusesOver name path form.image.file.bytes.items (same_call path form.image.file.bytes.items true ∷ old) result new
      ⊎ ((fault : HostFault) × TellsLaid file name path (Err fault) (failed_same path form.image.file.bytes.items fault ∷ old) result new))

-- ## A file of the volume

-- what a file has on the volume, or why that is not got
abbrev pub TakesFile : List (List ℕ) → VolumeFile → GetForm → Result (Vec ℕ) Ending → Type 0
TakesFile blocks file how (Ok bytes) = GetsFile blocks file how (Ok bytes)
TakesFile blocks file how (Err ending) = (fault : SessionFault) × GetsFile blocks file how (Err fault) × (ending ≡ Fault fault)

-- the name that it has on the host, unless memory is wanted for that
abbrev pub IsHostName : VolumeFile → Result (String Global) Ending → Type 0
IsHostName file (Ok name) = NamesHost file name.bytes.items
IsHostName file (Err ending) = ending ≡ Fault Memory

abbrev pub IsPath : List ℕ → List ℕ → Result (String Global) Ending → Type 0
IsPath folder name (Ok path) = path.bytes.items ≡ path_in folder name
IsPath folder name (Err ending) = ending ≡ Fault Memory

-- the time of a date, or that of a file with none
abbrev pub time_or_none : Option ℕ → Option ℕ
time_or_none (Some seconds) = Some seconds
time_or_none None = Some NO_DATE

abbrev pub time_if : ℕ → Option ℕ → Option ℕ
time_if last None = Some NO_DATE
time_if last (Some word) = time_or_none (time_of_word last word)

-- the time for the file of the host: that of the date which the first information word means, as a long list shows it. Where it
-- means none, that is the begin of 1970
abbrev pub time_of_file : Option ℕ → List (List ℕ) → VolumeFile → Option ℕ
time_of_file year blocks file = time_if (last_in year blocks) (first_word blocks file.name)

-- a file of the volume is written to the folder, and reported; it is answered whether it is there
abbrev pub GivesFile : GetManyForm → List (List ℕ) → VolumeFile → List Event → Result Bool Ending → List Event → Type 0
GivesFile form blocks file = Then (Purely (TakesFile blocks file (get_form form file))) (λ bytes. Then (Purely (IsHostName file)) (λ name.
    Then (Purely (IsPath form.folder.bytes.items name.bytes.items)) (λ path. LaysApart form file name.bytes.items path.bytes.items bytes.items (time_of_file form.year blocks file))))

-- the name is printed as that of a file that goes as frames, unless memory is wanted for that
abbrev pub TellsGot : List ℕ → List Event → Result (Unit {0}) Ending → List Event → Type 0
TellsGot name old (Ok it) new = (ok : Bool) × (new ≡ tell_call ok (name_text GotAsFrames name) ∷ old)
TellsGot name old (Err ending) new = Lacks old ending new

abbrev pub NotesGot : Bool → VolumeFile → List Event → Result (Unit {0}) Ending → List Event → Type 0
NotesGot false file = Purely IsDone
NotesGot true file = Then (Purely (IsHostName file)) (λ name. TellsGot name.bytes.items)

-- a file is given, and before that it is printed if it goes as frames, and others as texts
abbrev pub GivesNoted : GetManyForm → List (List ℕ) → VolumeFile → List Event → Result Bool Ending → List Event → Type 0
GivesNoted form blocks file = Then (NotesGot (is_got_noted form file) file) (λ it. GivesFile form blocks file)

-- ## What is asked for

-- the word is printed with why it is refused
abbrev pub RefusesWord : Option (List ℕ) → FileFault → List Event → Result Bool Ending → List Event → Type 0
RefusesWord None why = Purely (λ result. result ≡ Ok false)
RefusesWord (Some word) why = PrintsAnswer false (named_lines word (fault_line (File why)))

-- a file is given, and before that it is printed which of all it is; or a word, or a block, is refused
abbrev pub GivesWish : GetManyForm → List (List ℕ) → Bool → ℕ → ℕ → Wish → List Event → Result Bool Ending → List Event → Type 0
GivesWish form blocks is_told all done (wish.File file) = Then (TellsProgress is_told (done + 1) all) (λ it. GivesNoted form blocks file)
GivesWish form blocks is_told all done (wish.BadWord place) = RefusesWord (slice_get (words_of form) place) BadName
GivesWish form blocks is_told all done (wish.NotFound place) = RefusesWord (slice_get (words_of form) place) NotFound
GivesWish form blocks is_told all done (wish.Block block) = PrintsAnswer false (named_lines (codes "--at " ++ decimal block) (fault_line (File NotFound)))

-- how many files are done with this
abbrev pub count_after : Wish → ℕ → ℕ
count_after (wish.File file) done = done + 1
count_after (wish.BadWord place) done = done
count_after (wish.NotFound place) done = done
count_after (wish.Block block) done = done

-- what is asked for is given in its order, and it is answered whether all is there
abbrev pub GivesEach : GetManyForm → List (List ℕ) → Bool → ℕ → ℕ → Bool → List Wish → List Event → Result Bool Ending → List Event → Type 0
GivesEach form blocks is_told all done are_there [] = Purely (λ result. result ≡ Ok are_there)
GivesEach form blocks is_told all done are_there (one ∷ wishes) = Then (After are_there (GivesWish form blocks is_told all done one)) (λ is_there. GivesEach form blocks is_told all (count_after one done) (are_there && is_there) wishes)

-- ## The command

-- a folder can't be made
abbrev pub folder_ending : FaultClass → Ending
folder_ending class.Memory = Fault Memory
folder_ending class.Busy = Line line.HostWrite
folder_ending class.Other = Line line.HostWrite

abbrev pub ending_of_folder : HostFault → Ending
ending_of_folder fault = folder_ending (class_of fault)

-- the folder is made, unless there is one of its name
abbrev pub MakesFolder : List ℕ → List Event → Result (Unit {0}) Ending → List Event → Type 0
MakesFolder folder old (Ok it) new = new ≡ folder_call folder ∷ old
MakesFolder folder old (Err ending) new = (fault : HostFault) × (ending ≡ ending_of_folder fault) × TellsFault fault folder (failed_call MakeFolder folder fault ∷ old) new

-- the files of a volume, unless memory is wanted for them
abbrev pub AreFilesOn : List (List ℕ) → Result (Vec VolumeFile) Ending → Type 0
AreFilesOn blocks (Ok files) = files.items ≡ files_on blocks
AreFilesOn blocks (Err ending) = ending ≡ Fault Memory

-- the files that are asked for of a volume are given
abbrev pub GivesAsked : GetManyForm → List (List ℕ) → List Event → Result (Unit {0}) Ending → List Event → Type 0
GivesAsked form blocks = Then (Purely (AreFilesOn blocks)) (λ files. Then (Purely (AreWishes form files.items)) (λ wishes. Then (MakesFolder form.folder.bytes.items) (λ it.
    Then (WithProgress (λ is_told. GivesEach form blocks is_told (length files.items) 0 true wishes.items)) (λ are_there. Purely (EndsSound are_there)))))

-- An image file is looked at, and the folder is made. Each file that is asked for is laid there, and its line is printed before the next one
-- is. It has its bytes whole, or is as it was. It is refused where there is one of its name, unless older ones may go. A file that can't be
-- laid, and a word that asks for none, are reported, and the work goes on.
abbrev pub GetsMany : GetManyForm → List Event → Result (Unit {0}) Ending → List Event → Type 0
GetsMany form = Then (TakesLists form.texts) (λ it. Then (LooksAt form.image) (λ image. Then (Answers (OpensVolume image.items) (length image.items)) (GivesAsked form)))
