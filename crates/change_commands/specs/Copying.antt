-- The command that copies files of the volume in an image file to the volume in another, or one under a new name in the same one, all or none.
use Rattle.std.specs.Prelude.{◌≡◌, ◌⊎◌, ℕ, Bool, true, false, Option, None, Some, Result, Ok, Err, List, [], ◌∷◌, ◌++◌, length, map, option_map}
use Rattle.std.specs.Global.{Vec}
use Rattle.hosts.specs.Event.{Event}
use Rattle.os8_dir.specs.declared.file_faults.FileFault.{FileFault}
use Rattle.refusals.specs.declared.faults.SessionFault.TheVariants.{File}
use Rattle.program_reports.specs.Program.{program_line}
use Rattle.program_reports.specs.declared.programs.ProgramLine.TheVariants as line
use Rattle.archive_files.specs.Asking.{Target, target_of}
use Rattle.archive_files.specs.declared.faults.ArchiveFault.{ArchiveFault}
use Rattle.archive_files.specs.declared.faults.ArchiveFault.TheVariants.{Refused}
use Rattle.archive_many.specs.Choosing.{file_asked}
use Rattle.archive_many.specs.Copying.{CopiesAll}
use Rattle.archive_many.specs.Cutting.{CutsFiles}
use Rattle.archive_many.specs.Naming.{copy_name}
use Rattle.archive_many.specs.Opened.{OpensVolume, files_on}
use Rattle.archive_many.specs.Wishing.{first_unfound, found_files}
use Rattle.archive_many.specs.declared.faults.CopyAllFault.{CopyAllFault}
use Rattle.archive_many.specs.declared.opened.VolumeFile.{VolumeFile}
use Rattle.archive_many.specs.declared.wishes.Wish.{Wish}
use Rattle.volume_salvage.specs.Salvaging.{cut_line}
use Rattle.outcome.specs.declared.endings.Ending.{Ending}
use Rattle.program_tasks.specs.declared.forms.CopyChoice.{CopyChoice}
use Rattle.program_tasks.specs.declared.forms.CopyChoice.TheVariants.{One, Like}
use Rattle.program_tasks.specs.declared.forms.CopyForm.{CopyForm}
use Rattle.program_tasks.specs.declared.forms.ImageForm.{ImageForm}
use Rattle.asked_files.specs.Wishing.{AreWished}
use Rattle.image_files.specs.Work.{Then, Purely, Lacks}
use Rattle.image_files.specs.Reading.{Opens, LooksAt}
use Rattle.image_files.specs.Answers.{Answers, AreLines}
use Rattle.image_files.specs.Pairs.{IsOneRefused, is_one_image}
use Rattle.image_files.specs.Saving.{Stores}
use Rattle.image_files.specs.declared.images.Image.{Image}
use Rattle.change_commands.specs.Refusing.{RefusesCopies, RefusesWish}

-- ## What is asked

-- the name that the copy of one file gets, if it is another one
abbrev pub new_name : CopyChoice → Option (List ℕ)
new_name (One asked name) = option_map (λ text. text.bytes.items) name
new_name (Like words is_forced) = None

-- older files may go
abbrev pub may_replace : CopyChoice → Bool
may_replace (One asked name) = true
may_replace (Like words is_forced) = is_forced

-- ## The files

-- the volume in the image that has them, which must be sound; else that image is printed as the one that refuses
abbrev pub OpensFrom : CopyForm → List ℕ → List Event → Result (List (List ℕ)) Ending → List Event → Type 0
OpensFrom form from old (Ok blocks) new = OpensVolume from (Ok blocks) × (new ≡ old)
OpensFrom form from old (Err ending) new = (fault : ArchiveFault) × OpensVolume from (Err fault) × IsOneRefused form.image.file.bytes.items fault (length from) old ending new

-- the one file that is asked for; else its image, of so many bytes, is printed as the one that refuses
abbrev pub FindsOne : ImageForm → ℕ → Target → List (List ℕ) → List Event → Result (Vec VolumeFile) Ending → List Event → Type 0
FindsOne image size wanted blocks old (Ok files) new = (file : VolumeFile) × (file_asked wanted (files_on blocks) ≡ Ok file) × (files.items ≡ file ∷ []) × (new ≡ old)
FindsOne image size wanted blocks old (Err ending) new =
    ((why : FileFault) × (file_asked wanted (files_on blocks) ≡ Err why) × IsOneRefused image.file.bytes.items (Refused (File why)) size old ending new) ⊎ Lacks old ending new

-- the files that are asked for, where each word asks for one; else the first word that asks for none is refused, unless memory is wanted
abbrev pub FindsAll : List (List ℕ) → List Wish → List Event → Result (Vec VolumeFile) Ending → List Event → Type 0
FindsAll words wishes old (Ok files) new = (first_unfound wishes ≡ None) × (files.items ≡ found_files wishes) × (new ≡ old)
FindsAll words wishes old (Err ending) new = ((one : Wish) × (first_unfound wishes ≡ Some one) × RefusesWish words one old ending new) ⊎ Lacks old ending new

-- those that the words choose, each once
abbrev pub FindsLike : List (List ℕ) → List (List ℕ) → List Event → Result (Vec VolumeFile) Ending → List Event → Type 0
FindsLike words blocks = Then (Purely (AreWished words blocks)) (λ wishes. FindsAll words wishes.items)

abbrev pub FindsChosen : ImageForm → CopyChoice → ℕ → List (List ℕ) → List Event → Result (Vec VolumeFile) Ending → List Event → Type 0
FindsChosen image (One asked name) size blocks = FindsOne image size (target_of asked) blocks
FindsChosen image (Like words is_forced) size blocks = FindsLike (map (λ word. word.bytes.items) words.items) blocks

abbrev pub FindsFiles : CopyForm → List ℕ → List Event → Result (Vec VolumeFile) Ending → List Event → Type 0
FindsFiles form from = Then (OpensFrom form from) (λ blocks. FindsChosen form.image form.files (length from) blocks)

-- ## The image with them

-- all of them are put into an image, or none, and it is printed what is refused
abbrev pub PutsFiles : CopyForm → List ℕ → List VolumeFile → List ℕ → List Event → Result (Vec ℕ) Ending → List Event → Type 0
PutsFiles form from files to old (Ok new_image) new = CopiesAll from to (new_name form.files) files (may_replace form.files) (Ok new_image) × (new ≡ old)
PutsFiles form from files to old (Err ending) new =
    (fault : CopyAllFault) × CopiesAll from to (new_name form.files) files (may_replace form.files) (Err fault) × RefusesCopies form fault (length from) (length to) old ending new

-- the line of a copy, and that of its file if the copy lacks some of its information words
abbrev pub cut_line_if : Bool → VolumeFile → List ℕ
cut_line_if true file = cut_line file.name file.place file.blocks
cut_line_if false file = []

abbrev pub copy_lines : Option (List ℕ) → VolumeFile → Bool → List ℕ
copy_lines other file is_cut = program_line (line.Stored (copy_name other file.name) file.blocks) ++ cut_line_if is_cut file

-- those of each
abbrev pub stored_lines : Option (List ℕ) → List VolumeFile → List Bool → List ℕ
stored_lines other [] cuts = []
stored_lines other (file ∷ files) [] = []
stored_lines other (file ∷ files) (is_cut ∷ cuts) = copy_lines other file is_cut ++ stored_lines other files cuts

abbrev pub TellsCopies : CopyForm → List ℕ → List VolumeFile → List ℕ → List Event → Result (Vec ℕ) Ending → List Event → Type 0
TellsCopies form from files to = Then (Answers (CutsFiles from to files) (length from)) (λ cuts. Purely (AreLines (stored_lines (new_name form.files) files cuts.items)))

-- ## The command

-- the files of an image are put on the volume in the one that is held, and that is saved
abbrev pub CopiesInto : CopyForm → Image → List ℕ → List Event → Result (Unit {0}) Ending → List Event → Type 0
CopiesInto form image from = Then (FindsFiles form from) (λ files. Then (PutsFiles form from files.items image.bytes.items) (λ made. Then (TellsCopies form from files.items image.bytes.items) (λ lines. Stores image made.items lines.items)))

-- where both images are one, it is not read again; else the other one is only looked at
abbrev pub CopiesFrom : Bool → CopyForm → Image → List Event → Result (Unit {0}) Ending → List Event → Type 0
CopiesFrom true form image = CopiesInto form image image.bytes.items
CopiesFrom false form image = Then (LooksAt form.image) (λ from. CopiesInto form image from.items)

-- The image file that gets the files is held and read, and then the other one is read. The image with all files is saved once, and only then the
-- lines of the files are printed.
abbrev pub Copies : CopyForm → List Event → Result (Unit {0}) Ending → List Event → Type 0
Copies form = Then (Opens form.to) (λ image. CopiesFrom (is_one_image form.image form.to) form image)
