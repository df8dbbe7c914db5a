-- What a line shows of the machine before its step, for private clauses.
use Rattle.std.specs.Prelude.{◌≡◌, ℕ, Bool, codes, Some, List, [], ◌∷◌, ◌++◌, option_to_list, slice_index}
use Rattle.word12.specs.Octal.{octal4, octal5}
use Rattle.cpu8.specs.State.{State, next_cell}
use Rattle.cpu8.specs.Step.{next_word}
use Rattle.cpu8e.specs.State.{State8e}
use Rattle.cpu8.specs.declared.outcomes.Stepped.{Stepped}
use Rattle.cpu8.specs.declared.outcomes.Stepped.TheVariants.{Stopped, Interrupted, Ran, Halted, Unassigned}
use Rattle.tape_source.specs.Lines.{with_lead}
use Rattle.trace8.specs.Stores.{instruction_cells}
use Rattle.trace8.specs.StoresSteps.{word_at, change_line}
use Rattle.trace8.specs.Trace.{printed_text}
use Rattle.trace8e.specs.Names.{instruction_of_8e}
use Rattle.trace8e.specs.Trace.{registers_text}
use Rattle.trace8e.specs.declared.stores.Before.{Before}

-- ## The machine before a step

-- the next instruction of the 8/I in a machine, and the cells that it may change, with their words
pub record IsBefore (s : State) (before : Before) : Type 0 where
  pub cell : before.cell ≡ next_cell s
  pub word : before.word ≡ next_word s
  pub cells : option_to_list before.pointer ++ option_to_list before.stored_cell ≡ instruction_cells s (next_word s)
  pub pointer_word : before.pointer_word ≡ word_at s.core before.pointer
  pub stored_word : before.stored_word ≡ word_at s.core before.stored_cell
  pub first_word : before.first_word ≡ slice_index s.core 0

-- ## Its line

abbrev pub instruction_line : (ℕ → Bool) → Before → List ℕ
instruction_line tagged b = octal5 b.cell ++ 0o40 ∷ octal4 b.word ++ with_lead 9 (instruction_of_8e tagged b.cell b.word)

abbrev pub step_report : (ℕ → Bool) → Before → Stepped → List ℕ
step_report tagged b Stopped = instruction_line tagged b
step_report tagged b Interrupted = codes "INTERRUPT"
step_report tagged b (Ran printed) = instruction_line tagged b
step_report tagged b Halted = instruction_line tagged b
step_report tagged b (Unassigned word) = instruction_line tagged b

abbrev pub change_lines : Before → Stepped → List ℕ → List ℕ
change_lines b Stopped new = []
change_lines b Interrupted new = change_line (Some 0) b.first_word new
change_lines b (Ran printed) new = change_line b.pointer b.pointer_word new ++ change_line b.stored_cell b.stored_word new
change_lines b Halted new = []
change_lines b (Unassigned word) new = []

abbrev pub trace_line : (ℕ → Bool) → Before → Stepped → State8e → List ℕ
trace_line tagged b did s' = step_report tagged b did ++ registers_text s' ++ change_lines b did s'.base.core ++ printed_text did ++ 10 ∷ []
