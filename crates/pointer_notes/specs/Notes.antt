-- What a listing by pointers shows beside its words (this project's profile), in comments and empty lines.
use Rattle.std.specs.Prelude.{ℕ, ◌/◌, nat_lt, nat_eq, min, Bool, ◌&&◌, ◌||◌, not, if◌then◌else◌, is_some, Option, Some, None, List, [], ◌++◌, codes}
use Rattle.word12.specs.declared.sizes.TheConstants.{CORE}
use Rattle.word12.specs.Octal.{octal5}
use Rattle.flow8.specs.Exits.{referred_cell}
use Rattle.source_notes.specs.Notes as notes
use Rattle.source_notes.specs.Notes.{cells_line}
use Rattle.source_notes.specs.Referrers.{cells_below}
use Rattle.pointer_flow.specs.Programs.{cells_from, is_auto_index, is_listed}
use Rattle.pointer_notes.specs.Views.{View}
use Rattle.pointer_notes.specs.References.{callers, is_jms, lowest, referrers, shown_target}

-- ## Lines above a cell's

abbrev pub above : View → ℕ → List (List ℕ)
above view cell = cells_line (codes " SUBROUTINE, CALLED FROM") (callers view cell) ++ cells_line (codes " FROM") (referrers view cell)

-- ## Remarks on instructions

-- a cell by its name, spelled so, where it has a word, else by its field and address
abbrev pub shown_cell : View → (ℕ → List ℕ) → ℕ → List ℕ
shown_cell view name cell = if is_some (view.words cell) then name cell else octal5 cell

-- ` AT` a cell for AND, TAD, ISZ and DCA, ` TO` it for JMS and JMP
abbrev pub preposition : Option ℕ → List ℕ
preposition None = []
preposition (Some word) = if nat_lt word 0o4000 then codes " AT " else codes " TO "

-- JMS and JMP through a pointer, 4400 to 4777 and 5400 to 5777
abbrev pub jumps_through : ℕ → Bool
jumps_through word = nat_eq (word / 0o400) 0o11 || nat_eq (word / 0o400) 0o13

-- a pointer whose writer is shown: it has a word, is no auto-index, and holds no return
abbrev pub has_shown_writer : View → ℕ → Bool
has_shown_writer view pointer = is_some (view.words pointer) && not (is_auto_index pointer || (view.answers pointer).is_return)

-- the lowest cell that may write the pointer of a jump that is no call of the monitor
abbrev pub shown_writer : View → ℕ → Option ℕ → Option ℕ
shown_writer view cell None = None
shown_writer view cell (Some word) =
    if (jumps_through word && not (view.answers cell).is_call) && has_shown_writer view (referred_cell cell word)
    then (view.answers (referred_cell cell word)).writer else None

abbrev pub writer_text : Option ℕ → List ℕ
writer_text None = []
writer_text (Some cell) = codes " WRITTEN AT " ++ octal5 cell

-- what stands beside an instruction with this target: the target, or who may write its pointer
abbrev pub instruction_remark : View → (ℕ → List ℕ) → ℕ → Option ℕ → List ℕ
instruction_remark view name cell None = writer_text (shown_writer view cell (view.words cell))
instruction_remark view name cell (Some target) = preposition (view.words cell) ++ shown_cell view name target

-- ## Remarks on data

-- the first cell of the subroutine that a JMS in a cell calls
abbrev pub first_called : View → ℕ → Option ℕ
first_called view cell = if is_jms (view.words cell) then (view.answers cell).place else None

-- the cells whose words a JMS passes to a subroutine: as many after it as that takes, of which there are three at most
abbrev pub cells_passed : View → ℕ → Option ℕ → List ℕ
cells_passed view from None = []
cells_passed view from (Some first) = cells_from from 1 (min 3 (view.answers first).inline_count)

-- a JMS passes the word of a cell
abbrev pub passes : View → ℕ → ℕ → Bool
passes view cell from = is_listed cell (cells_passed view from (first_called view from))

abbrev pub subroutine_of : View → Option ℕ → Option ℕ
subroutine_of view None = None
subroutine_of view (Some from) = first_called view from

-- The first cell of the subroutine of which the word of a cell is an argument. The lowest JMS that passes it decides.
abbrev pub argument_of : View → ℕ → Option ℕ
argument_of view cell = subroutine_of view (lowest (cells_below (passes view cell) CORE))

-- what stands beside a datum: the subroutine of which it is an argument, else the datum's characters
abbrev pub datum_remark : View → (ℕ → List ℕ) → ℕ → Option ℕ → List ℕ
datum_remark view name cell None = notes.remark view.words view.is_code cell
datum_remark view name cell (Some first) = codes " ARGUMENT OF " ++ shown_cell view name first

-- what stands in the comment of a cell after its word
abbrev pub remark : View → (ℕ → List ℕ) → ℕ → List ℕ
remark view name cell =
    if view.is_code cell then instruction_remark view name cell (shown_target view cell)
    else datum_remark view name cell (argument_of view cell)

-- ## Empty lines

abbrev pub has_gap : View → ℕ → Bool
has_gap view cell = notes.has_gap view.words view.is_code cell
