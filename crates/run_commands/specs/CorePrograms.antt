-- The program of a tape in core, and where it starts (this project's profile).
use Rattle.std.specs.Prelude.{◌≡◌, ◌⊎◌, ℕ, nat_eq, Bool, true, false, Option, None, Some, Result, Ok, Err, List}
use Rattle.word12.specs.declared.sizes.TheConstants.{CORE}
use Rattle.bin_tape.specs.Items.{Item, words_of}
use Rattle.bin_tape.specs.Tape.{IsTape}
use Rattle.bin_tape.specs.declared.faults.TapeFault.{TapeFault}
use Rattle.core_load.specs.Core.{zeros}
use Rattle.core_load.specs.Load.{IsLoaded, LoadsTape}
use Rattle.hosts.specs.Event.{Event}
use Rattle.tape_reports.specs.Starts.{first_cell, gives_word, start_cell}
use Rattle.program_reports.specs.declared.programs.ProgramLine.TheVariants.{NothingToRun, Start}
use Rattle.outcome.specs.Endings.{ending_of_tape}
use Rattle.outcome.specs.Hints.{given_note, start_note}
use Rattle.outcome.specs.declared.endings.Ending.{Ending}
use Rattle.outcome.specs.declared.endings.Ending.TheVariants.{Line}
use Rattle.image_files.specs.Notes.{Tells}
use Rattle.image_files.specs.Saving.{IsDone}
use Rattle.image_files.specs.Work.{Then, Purely, Lacks, IsJust}
use Rattle.tape_commands.specs.Kinds.{RefusesFrames}
use Rattle.run_commands.specs.Lines.{TellsProgram, IsEnding}
use Rattle.run_commands.specs.declared.core_programs.CoreProgram.{CoreProgram}

-- ## Core

-- The tape is laid over core whose words are 0. Frames that are none are refused, and standard error gets what they are.
abbrev pub LoadsCore : List ℕ → List Event → Result (List ℕ) Ending → List Event → Type 0
LoadsCore frames old (Ok core) new = IsLoaded frames (zeros CORE) core × (new ≡ old)
LoadsCore frames old (Err ending) new = Lacks old ending new
    ⊎ ((fault : TapeFault) × LoadsTape frames (zeros CORE) (zeros CORE) (Err fault) × RefusesFrames frames (ending_of_tape fault) old ending new)

-- ## Where the program starts

-- at 00200 nothing more is said; else the line of the cell is printed on standard error
abbrev pub TellsCell : Bool → ℕ → List Event → Result (Unit {0}) Ending → List Event → Type 0
TellsCell true start old result new = IsDone result × (new ≡ old)
TellsCell false start old result new = TellsProgram (Start start) old result new

-- of a start that isn't given standard error gets a note, unless the first word goes to 00200 and the program starts there
abbrev pub TellsStart : ℕ → ℕ → List Event → Result (Unit {0}) Ending → List Event → Type 0
TellsStart first start old result new = (between : List Event) × Tells (start_note first start) old between × TellsCell (nat_eq start 0o200) start between result new

-- a program starts at the cell that is given, with a note where its tape, of these words, gives that no word; or else where the tape alone says
abbrev pub StartsAt : List (ℕ × ℕ) → Option ℕ → ℕ → ℕ → List Event → Result ℕ Ending → List Event → Type 0
StartsAt words (Some cell) first usual old result new = IsJust cell result × Tells (given_note (gives_word words cell)) old new
StartsAt words None first usual old result new = Then (TellsStart first usual) (λ it. Purely (IsJust usual)) old result new

-- a tape that gives no word has nothing to run
abbrev pub StartsIf : List (ℕ × ℕ) → Option ℕ → Option ℕ → Option ℕ → List Event → Result ℕ Ending → List Event → Type 0
StartsIf words given (Some first) (Some usual) old result new = StartsAt words given first usual old result new
StartsIf words given (Some first) None old result new = Purely (IsEnding (Line NothingToRun)) old result new
StartsIf words given None usual old result new = Purely (IsEnding (Line NothingToRun)) old result new

-- where the program of a tape starts: if it isn't given at 00200, where that has a word, and else at the cell of the first word
abbrev pub FindsStart : List ℕ → Option ℕ → List Event → Result ℕ Ending → List Event → Type 0
FindsStart frames given old result new = (items : List Item) → IsTape frames items → StartsIf (words_of items) given (first_cell (words_of items)) (start_cell (words_of items)) old result new

-- ## The program

-- a program in this core, which starts at this cell, and for which the switches are set so
abbrev pub program_in : List ℕ → Option ℕ → ℕ → CoreProgram
program_in core switches start = record { core = core; start = start; switches = switches }

-- the tape is laid over core, and it is found where its program starts
abbrev pub LoadsProgram : List ℕ → Option ℕ → Option ℕ → List Event → Result CoreProgram Ending → List Event → Type 0
LoadsProgram frames given switches = Then (LoadsCore frames) (λ core. Then (FindsStart frames given) (λ start. Purely (IsJust (program_in core switches start))))
