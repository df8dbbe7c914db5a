-- An 8/E at a terminal (this project's profile). An operator strikes a key only where the program waits or looks for one, and a quick
-- printer ends its character before each step. `AnyTerminal` says it of every machine.
use Rattle.std.specs.Prelude.{ℕ, List}
use Rattle.cpu8e.specs.State.{State8e, key_struck}
use Rattle.cpu8e.specs.Runs.{printing_step}
use Rattle.terminal8.specs.declared.outcomes.TerminalEnd.{TerminalEnd}
use Rattle.terminal8e.specs.Acts.{Acts}
use Rattle.terminal8e.specs.AnyTerminal as any
use Rattle.terminal8e.specs.Absences.{absence_at}
use Rattle.terminal8e.specs.Asks.{asks_for_key, waits_for_key}

-- what a terminal asks of an 8/E
abbrev pub terminal_acts : Acts State8e
terminal_acts = record {
  is_running = λ s. s.base.running;
  asks_for_key = asks_for_key;
  waits_for_key = waits_for_key;
  key_struck = key_struck;
  printing_step = printing_step;
  absence_at = absence_at;
}

-- a machine, what the operator's next looks find, and the steps since the last look
abbrev pub Terminal : Type 0
Terminal = any.Terminal State8e

-- the terminal after so many steps, and what they print
abbrev pub later : ℕ → Terminal → Terminal
later k t = any.later terminal_acts k t

abbrev pub characters_of : ℕ → Terminal → List ℕ
characters_of k t = any.characters_of terminal_acts k t

-- a run of at most n steps ends at the first end that comes
abbrev pub IsRun : Terminal → ℕ → ℕ → TerminalEnd → Type 0
IsRun t n steps why = any.IsRun terminal_acts t n steps why
