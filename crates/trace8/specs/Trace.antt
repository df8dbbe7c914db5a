-- The lines of a trace (this project's profile): a line for each step of a machine at a terminal.
use Rattle.std.specs.Prelude.{ℕ, zero, suc, ◌%◌, Bool, ◌&&◌, nat_eq, nat_le, nat_lt, if◌then◌else◌, Some, None, List, [], ◌∷◌, ◌++◌, codes, slice_index}
use Rattle.word12.specs.Octal.{octal_digit, octal4, octal5}
use Rattle.cpu8.specs.State.{State, next_cell}
use Rattle.cpu8.specs.Step.{next_word}
use Rattle.cpu8.specs.declared.outcomes.Stepped.{Stepped}
use Rattle.cpu8.specs.declared.outcomes.Stepped.TheVariants.{Stopped, Interrupted, Ran, Halted, Unassigned}
use Rattle.tape_source.specs.Lines.{with_lead}
use Rattle.tape_source.specs.Statements.{instruction}
use Rattle.terminal8.specs.Terminal.{Terminal, later, after_step}
use Rattle.trace8.specs.Stores.{changing_cells}

-- the cell of the next instruction, its word, and the instruction as a source spells it where these cells are tagged
abbrev pub instruction_text : (ℕ → Bool) → State → List ℕ
instruction_text tagged s = octal5 (next_cell s) ++ 0o40 ∷ octal4 (next_word s) ++ with_lead 9 (instruction tagged (next_cell s) (next_word s))

-- what the step was: an interrupt, or an instruction
abbrev pub step_text : (ℕ → Bool) → State → Stepped → List ℕ
step_text tagged s Stopped = instruction_text tagged s
step_text tagged s Interrupted = codes "INTERRUPT"
step_text tagged s (Ran printed) = instruction_text tagged s
step_text tagged s Halted = instruction_text tagged s
step_text tagged s (Unassigned word) = instruction_text tagged s

-- AC and L
abbrev pub registers_text : State → List ℕ
registers_text s = codes "\tAC " ++ octal4 s.ac ++ codes " L " ++ octal_digit s.l ∷ []

-- a cell whose word was changed, and its new word
abbrev pub change_text : List ℕ → List ℕ → ℕ → List ℕ
change_text old new cell =
    if nat_eq (slice_index old cell) (slice_index new cell) then [] else 9 ∷ octal5 cell ++ 0o40 ∷ octal4 (slice_index new cell)

abbrev pub changes_text : List ℕ → List ℕ → List ℕ → List ℕ
changes_text old new [] = []
changes_text old new (cell ∷ cells) = change_text old new cell ++ changes_text old new cells

-- a character that was printed: between quotes without its top bit where it is a graphic one, else by its code in octal
abbrev pub character_text : ℕ → List ℕ
character_text c = if nat_le 0o40 (c % 0o200) && nat_lt (c % 0o200) 0o177 then 0o47 ∷ c % 0o200 ∷ 0o47 ∷ [] else octal4 c

abbrev pub printed_text : Stepped → List ℕ
printed_text (Ran (Some c)) = 9 ∷ character_text c
printed_text (Ran None) = []
printed_text Stopped = []
printed_text Interrupted = []
printed_text Halted = []
printed_text (Unassigned word) = []

-- The line of a step: what it was, AC and L after it, the cells whose words it changed, and the character that it printed.
abbrev pub step_line : (ℕ → Bool) → State → Stepped → State → List ℕ
step_line tagged s did s' =
    step_text tagged s did ++ registers_text s' ++ changes_text s.core s'.core (changing_cells s (next_word s) did) ++ printed_text did ++ 10 ∷ []

-- the line of the step that a terminal makes next
unfoldable pub next_line : (ℕ → Bool) → Terminal → List ℕ
next_line tagged t = step_line tagged t.machine (after_step t).1 (after_step t).0

-- The lines of so many steps: the last is that of the last step.
unfoldable pub trace_lines : (ℕ → Bool) → ℕ → Terminal → List ℕ
trace_lines tagged zero t = []
trace_lines tagged (suc k) t = trace_lines tagged k t ++ next_line tagged (later k t)
