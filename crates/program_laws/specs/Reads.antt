-- What commands read of the host, and what they print or run of it.
use Rattle.std.specs.Prelude.{◌≡◌, ◌⊎◌, ℕ, Bool, true, false, Option, Some, Result, Ok, List, ◌∷◌, option_map}
use Rattle.std.specs.Global.{Vec}
use Rattle.hosts.specs.Event.{Event, look_call, print_call}
use Rattle.hosts.specs.Streams.{read}
use Rattle.word12.specs.declared.sizes.TheConstants.{CORE}
use Rattle.bin_tape.specs.Items.{Item, words_of}
use Rattle.bin_tape.specs.Tape.{IsTape}
use Rattle.core_load.specs.Core.{zeros}
use Rattle.archive_files.specs.Asking.{Target}
use Rattle.archive_files.specs.Getting.{IsFile}
use Rattle.image_kind.specs.Mending.{IsMended}
use Rattle.image_kind.specs.declared.mending.MendedFile.{MendedFile}
use Rattle.volume_salvage.specs.Scanning.{Scans, scan_text}
use Rattle.volume_salvage.specs.declared.scans.Scan.{Scan}
use Rattle.outcome.specs.Notes.{name_text}
use Rattle.outcome.specs.declared.endings.Ending.{Ending}
use Rattle.outcome.specs.declared.notes.NameNote.TheVariants.{TooLong}
use Rattle.program_tasks.specs.declared.forms.TapeForm.{TapeForm}
use Rattle.program_tasks.specs.declared.tasks.SourceForm.{SourceForm}
use Rattle.image_files.specs.declared.mending.ImageReading.{ImageReading}
use Rattle.tape_commands.specs.Programs.{ReadsGiven, ReadsProgram}
use Rattle.tape_commands.specs.Sources.{IsTextOf, ReadsNames, starts_or}
use Rattle.tape_commands.specs.declared.programs.Program.{Program}
use Rattle.program_laws.specs.Ends.{HasReason, HasTold}
use Rattle.program_laws.specs.Tapes.{AreLaid}

-- ## Image files

-- bytes are those of a file; or of what it is once its faults are mended, where this is asked for
abbrev pub IsOnceMended : Bool → ImageReading → List ℕ → List ℕ → Type 0
IsOnceMended false reading file bytes = bytes ≡ file
IsOnceMended true reading file bytes = (it : MendedFile) × IsMended reading.layout reading.is_plain file it × (bytes ≡ it.bytes.items)

-- these are the bytes of the file of a name, which was read, and nothing else
pub record IsOfFile (reading : ImageReading) (name bytes : List ℕ) (old new : List Event) : Type 0 where
  pub file : List ℕ
  pub reads : read new ≡ look_call name file ∷ read old
  pub is : IsOnceMended reading.is_lenient reading file bytes

-- ## What is printed

-- a step gives something, and what that gives is printed, with nothing else
pub record PrintsOf {A : Type 0} (takes : List Event → Result A Ending → List Event → Type 0) (gives : A → List ℕ → Type 0) (old new : List Event) : Type 0 where
  pub given : A
  pub taken : List Event
  pub took : takes old (Ok given) taken
  pub text : List ℕ
  pub gave : gives given text
  pub prints : new ≡ print_call true 0 text ∷ taken

-- bytes are what the words of the file that is wanted of a volume give
abbrev pub IsOfWords : Target → (List ℕ → List ℕ → Type 0) → Vec ℕ → List ℕ → Type 0
IsOfWords wanted gives image bytes = (words : List ℕ) × IsFile image.items wanted words × gives words bytes

-- a text is that of the pieces of a volume
abbrev pub IsOfPieces : Vec ℕ → List ℕ → Type 0
IsOfPieces image lines = (scan : Scan) × Scans image.items (Ok scan) × (lines ≡ scan_text scan)

-- a text is the source of a program's tape, with these names of cells
abbrev pub IsSourceOf : SourceForm → Option (Vec ℕ) → Program → List ℕ → Type 0
IsSourceOf form names program text =
    (made : Vec ℕ) × IsTextOf form.is_pal8 program.frames.items (starts_or form.starts.items program.start) (option_map (λ names. names.items) names) (Ok made) × (text ≡ made.items)

-- names of cells are read first, and then the tape, whose source is printed
pub record PrintsSource (form : SourceForm) (old new : List Event) : Type 0 where
  pub names : Option (Vec ℕ)
  pub named : List Event
  pub reads : ReadsNames form.names old (Ok names) named
  pub prints : PrintsOf (ReadsGiven form.tape) (IsSourceOf form names) named new

-- ## What is run

-- core has the words of a tape, each in its cell, and else zeros; the program starts at the cell that is given, if one is
pub record IsInCore (frames : List ℕ) (given : Option ℕ) (core : List ℕ) (start : ℕ) : Type 0 where
  pub items : List Item
  pub is_tape : IsTape frames items
  pub laid : AreLaid (words_of items) (zeros CORE) core
  pub starts : (cell : ℕ) → given ≡ Some cell → start ≡ cell

-- the program that is named was read, and is in core so
pub record HasProgram (named : TapeForm) (start_of : Option ℕ → Option ℕ) (core : List ℕ) (start : ℕ) (old : List Event) : Type 0 where
  pub tape : Program
  pub taken : List Event
  pub reads : ReadsProgram named old (Ok tape) taken
  pub loaded : IsInCore tape.frames.items (start_of tape.start) core start

-- ## What is not read

-- standard error has the reason of the call that failed, or that the file of a name has more bytes than are read
abbrev pub SaysWhyUnread : List ℕ → List Event → List Event → Type 0
SaysWhyUnread name old new = HasReason name old new ⊎ HasTold (name_text TooLong name) old new
