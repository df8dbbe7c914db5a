-- The lines of a trace of the 8/E (this project's profile): a line for each step of a machine at a terminal, the 8/I's with MQ after L. Before it
-- comes a line of the transfer that ends in the beginning of the step.
use Rattle.std.specs.Prelude.{ℕ, zero, suc, Bool, List, [], ◌∷◌, ◌++◌, codes}
use Rattle.word12.specs.Octal.{octal4, octal5}
use Rattle.cpu8.specs.State.{State, next_cell}
use Rattle.cpu8.specs.declared.outcomes.Stepped.{Stepped}
use Rattle.cpu8.specs.declared.outcomes.Stepped.TheVariants.{Stopped, Interrupted, Ran, Halted, Unassigned}
use Rattle.cpu8e.specs.State.{State8e}
use Rattle.cpu8e.specs.Step.{next_word}
use Rattle.cpu8.specs.Step as Pdp8i
use Rattle.tape_source.specs.Lines.{with_lead}
use Rattle.pdp8e.specs.Terminal.{Terminal, later, after_step, at_step, move_at}
use Rattle.pdp8e.specs.Transfers.{moved_text}
use Rattle.trace8.specs.Stores.{changing_cells}
use Rattle.trace8.specs.Trace.{changes_text, printed_text}
use Rattle.trace8.specs.Trace as Trace8i
use Rattle.trace8e.specs.Names.{instruction_of_8e}

-- the cell of the next instruction, its word, and the instruction by its name, where these cells are tagged
abbrev pub instruction_text : (ℕ → Bool) → State → List ℕ
instruction_text tagged s = octal5 (next_cell s) ++ 0o40 ∷ octal4 (Pdp8i.next_word s) ++ with_lead 9 (instruction_of_8e tagged (next_cell s) (Pdp8i.next_word s))

-- what the step was: an interrupt, or an instruction
abbrev pub step_text : (ℕ → Bool) → State → Stepped → List ℕ
step_text tagged s Stopped = instruction_text tagged s
step_text tagged s Interrupted = codes "INTERRUPT"
step_text tagged s (Ran printed) = instruction_text tagged s
step_text tagged s Halted = instruction_text tagged s
step_text tagged s (Unassigned word) = instruction_text tagged s

-- AC, L and MQ
abbrev pub registers_text : State8e → List ℕ
registers_text s = Trace8i.registers_text s.base ++ codes " MQ " ++ octal4 s.mq

-- The line of a step: what it was, AC, L and MQ after it, the cells whose words it changed, and the character that it printed.
abbrev pub step_line : (ℕ → Bool) → State8e → Stepped → State8e → List ℕ
step_line tagged s did s' =
    step_text tagged s.base did ++ registers_text s'
    ++ changes_text s.base.core s'.base.core (changing_cells s.base (next_word s) did) ++ printed_text did ++ 10 ∷ []

-- what the step that a terminal makes next prints: the line of the transfer that ends in its beginning, if one does, and its own
unfoldable pub next_line : (ℕ → Bool) → Terminal → List ℕ
next_line tagged t = moved_text (move_at t) ++ step_line tagged (at_step t).processor (after_step t).1 (after_step t).0.processor

-- The lines of so many steps: the last is that of the last step.
unfoldable pub trace_lines : (ℕ → Bool) → ℕ → Terminal → List ℕ
trace_lines tagged zero t = []
trace_lines tagged (suc k) t = trace_lines tagged k t ++ next_line tagged (later k t)
