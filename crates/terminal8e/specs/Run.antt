-- A run of an 8/E whose keys a reader gives, and whose printed characters a writer gets (this project's profile).
use Rattle.std.specs.Prelude.{ℕ, List, Option, Result}
use Rattle.cpu8e.specs.State.{State8e}
use Rattle.terminal8.specs.declared.absences.Absence.{Absence}
use Rattle.terminal8.specs.declared.inputs.Input.{Input}
use Rattle.terminal8.specs.declared.keyboards.Form.{Form}
use Rattle.terminal8.specs.declared.outcomes.Ended.{Ended}
use Rattle.terminal8.specs.declared.outcomes.TerminalFault.{TerminalFault}
use Rattle.terminal8e.specs.AnyRun as any
use Rattle.terminal8e.specs.Terminal.{terminal_acts}

-- What a run of at most n steps answers, and the IOTs of absent devices that it did. Where the reader fails the writer got what was printed so far.
abbrev pub RunsProgram : Form → Input → ℕ → State8e → State8e → Option (List ℕ) → Option (List ℕ) → Option (List ℕ) → Option (List ℕ) → List Absence → Result Ended TerminalFault → Type 0
RunsProgram form input n old new reader reader' writer writer' absences result =
    any.RunsProgram terminal_acts form input n old new reader reader' writer writer' absences result
