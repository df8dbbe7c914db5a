-- What the laws of an 8/E at a terminal say.
use Rattle.std.specs.Prelude.{◌≡◌, ◌⊎◌, ℕ, List, Option}
use Rattle.cpu8.specs.Reference.{after_fetch}
use Rattle.cpu8e.specs.State.{State8e, with_base}
use Rattle.terminal8.specs.declared.absences.Absence.{Absence}
use Rattle.terminal8.specs.declared.keyboards.Form.{Form}
use Rattle.terminal8.specs.declared.outcomes.Ended.{Ended}
use Rattle.terminal8e.specs.AnyLaws as any
use Rattle.terminal8e.specs.Terminal.{Terminal, terminal_acts}

-- a machine is as before, or has gone on by one instruction that changed nothing but PC
abbrev pub IsInLoop : State8e → State8e → Type 0
IsInLoop s now = (now ≡ s) ⊎ (now ≡ with_base s (after_fetch s.base))

-- ## Whole runs

-- a terminal at which the keys of these bytes are struck
abbrev pub terminal_of : Form → State8e → List ℕ → Terminal
terminal_of form s bytes = any.terminal_of form s bytes

-- A run of at most n steps of a terminal, the machine that it leaves, what a writer got, and the IOTs of absent devices that it did.
abbrev pub IsWholeRun : Terminal → ℕ → State8e → Option (List ℕ) → Option (List ℕ) → List Absence → Ended → Type 0
IsWholeRun t n new writer writer' absences ended = any.IsWholeRun terminal_acts t n new writer writer' absences ended
