-- The command that shows blocks of a volume (this project's profile).
use Rattle.std.specs.Prelude.{◌≡◌, ℕ, zero, suc, ◌+◌, ◌-◌, ◌*◌, ◌/◌, ◌%◌, nat_le, nat_lt, Bool, true, false, ◌&&◌, if◌then◌else◌, codes, decimal, min, Option, Some, None, Result, Ok, Err, List, [], ◌∷◌, ◌++◌, length}
use Rattle.std.specs.Global.{Vec}
use Rattle.hosts.specs.Event.{Event}
use Rattle.word12.specs.declared.sizes.TheConstants.{BLOCK}
use Rattle.block_words.specs.Rows.{rows}
use Rattle.block_words.specs.declared.dumping.DumpForm.{DumpForm}
use Rattle.block_words.specs.declared.dumping.DumpForm.TheVariants.{Sixbit, Text}
use Rattle.volume_image.specs.Image.{image_word}
use Rattle.name_spelling.specs.Spelling.{text_of}
use Rattle.refusals.specs.declared.faults.SessionFault.TheVariants.{Memory}
use Rattle.archive_files.specs.declared.faults.ArchiveFault.{ArchiveFault}
use Rattle.archive_many.specs.Opened.{OpensVolume, files_on}
use Rattle.archive_many.specs.declared.opened.VolumeFile.{VolumeFile}
use Rattle.program_reports.specs.declared.programs.ProgramLine.TheVariants as line
use Rattle.program_tasks.specs.declared.forms.ImageForm.{ImageForm}
use Rattle.outcome.specs.declared.endings.Ending.{Ending}
use Rattle.outcome.specs.declared.endings.Ending.TheVariants.{Line, Fault}
use Rattle.image_files.specs.Work.{Then, Purely}
use Rattle.image_files.specs.Reading.{LooksAt}
use Rattle.image_files.specs.Saving.{Prints}
use Rattle.block_words.specs.Lines.{bits_text}

-- ## The lines of a block

-- the name of the first file that has a block
abbrev pub owner_in : List VolumeFile → ℕ → Option ℕ
owner_in [] block = None
owner_in (file ∷ files) block =
    if nat_le file.place block && nat_lt (block - file.place) file.blocks then Some file.name else owner_in files block

abbrev pub owner_text : Option ℕ → List ℕ
owner_text None = []
owner_text (Some name) = 0o40 ∷ text_of name

-- a block's number, and the file that has it
abbrev pub heading : List VolumeFile → ℕ → List ℕ
heading files block = codes "BLOCK " ++ decimal block ++ owner_text (owner_in files block) ++ 0o12 ∷ []

-- a word with more than twelve bits, by its number in the block
abbrev pub bad_line : ℕ → ℕ → List ℕ
bad_line bits number = if nat_lt bits 0o10000 then [] else codes "BAD WORD " ++ decimal number ++ 0o40 ∷ bits_text bits ++ 0o12 ∷ []

-- those among the first words of a block, so many of them
abbrev pub bad_lines : List ℕ → ℕ → ℕ → List ℕ
bad_lines image block zero = []
bad_lines image block (suc k) = bad_lines image block k ++ bad_line (image_word image (BLOCK * block + k)) k

-- the low twelve bits of the first words of a block, so many of them
abbrev pub block_words : List ℕ → ℕ → ℕ → List ℕ
block_words image block zero = []
block_words image block (suc k) = block_words image block k ++ (image_word image (BLOCK * block + k) % 0o10000) ∷ []

-- 32 lines of eight of its words each
unfoldable pub block_rows : DumpForm → List ℕ → ℕ → List ℕ
block_rows form image block = rows form (block_words image block BLOCK) 32

-- its heading, its words with more than twelve bits, and the lines of all words
unfoldable pub block_text : DumpForm → List VolumeFile → List ℕ → ℕ → List ℕ
block_text form files image block = heading files block ++ bad_lines image block BLOCK ++ block_rows form image block

-- the lines of so many blocks
abbrev pub block_lines : DumpForm → List VolumeFile → List ℕ → ℕ → ℕ → List ℕ
block_lines form files image first zero = []
block_lines form files image first (suc k) = block_lines form files image first k ++ block_text form files image (first + k)

-- ## The command

-- the files of a volume; an image that is refused has none
abbrev pub IsFilesOf : List ℕ → List VolumeFile → Result (List (List ℕ)) ArchiveFault → Type 0
IsFilesOf image files (Ok blocks) = files ≡ files_on blocks
IsFilesOf image files (Err fault) = files ≡ []

-- the files of the volume in an image, unless memory is wanted for them
abbrev pub HasFiles : List ℕ → Result (Vec VolumeFile) Ending → Type 0
HasFiles image (Ok files) = (opened : Result (List (List ℕ)) ArchiveFault) × OpensVolume image opened × IsFilesOf image files.items opened
HasFiles image (Err ending) = ending ≡ Fault Memory

-- of so many blocks these are wanted: the first and the last that are given, else all
abbrev pub span_or : Option (ℕ × ℕ) → ℕ → ℕ × ℕ
span_or None count = if nat_lt 0 count then (0, count - 1) else (0, 0)
span_or (Some span) count = (min span.0 span.1, span.1)

-- what stands beside the words
abbrev pub form_of : Bool → DumpForm
form_of true = Sixbit
form_of false = Text

-- the lines of the blocks that are wanted, where the image has them all, with the files that have them
abbrev pub IsDumpOf : DumpForm → List ℕ → ℕ × ℕ → Result (Vec ℕ) Ending → Type 0
IsDumpOf form image span (Ok text) = (nat_lt span.1 (length image / 0o1000) ≡ true) × (files : Vec VolumeFile) × HasFiles image (Ok files)
    × (text.items ≡ block_lines form files.items image span.0 (span.1 - span.0 + 1))
IsDumpOf form image span (Err (Line (line.OnlyBlocks count))) = (count ≡ length image / 0o1000) × (nat_lt span.1 count ≡ false)
IsDumpOf form image span (Err (Fault Memory)) = nat_lt span.1 (length image / 0o1000) ≡ true
IsDumpOf form image span (Err _) = ⊥

abbrev pub IsDump : Option (ℕ × ℕ) → DumpForm → List ℕ → Result (Vec ℕ) Ending → Type 0
IsDump span form image result = IsDumpOf form image (span_or span (length image / 0o1000)) result

-- an image file is read, and the lines of its blocks are printed, with nothing else on standard output; no file changes
abbrev pub Dumps : Option (ℕ × ℕ) → Bool → ImageForm → List Event → Result (Unit {0}) Ending → List Event → Type 0
Dumps span is_sixbit form =
    Then (LooksAt form) (λ image. Then (Purely (IsDump span (form_of is_sixbit) image.items)) (λ text. Prints text.items))
