-- The whole 8/E at a terminal (this project's profile). An operator strikes a key only where the program waits or looks for one, and a quick
-- printer ends its character before each step. `AnyTerminal` says it of every machine.
use Rattle.std.specs.Prelude.{ℕ, ◌+◌, Bool, List, Option}
use Rattle.cpu8.specs.declared.outcomes.Stepped.{Stepped}
use Rattle.rk8e.specs.declared.moves.Moved.{Moved}
use Rattle.terminal8.specs.declared.outcomes.TerminalEnd.{TerminalEnd}
use Rattle.terminal8e.specs.Acts.{Acts}
use Rattle.terminal8e.specs.AnyLaws as laws
use Rattle.terminal8e.specs.AnyTerminal as any
use Rattle.pdp8e.specs.State.{Pdp8e, key_struck}
use Rattle.pdp8e.specs.Step.{after_beginning, move_in, rest_of_step}
use Rattle.pdp8e.specs.Runs.{with_printer_done, printing_step}
use Rattle.pdp8e.specs.Absences.{absence_at}
use Rattle.pdp8e.specs.Asks.{asks_for_key, waits_for_key}

-- what a terminal asks of it
abbrev pub terminal_acts : Acts Pdp8e
terminal_acts = record {
  is_running = λ m. m.processor.base.running;
  asks_for_key = asks_for_key;
  waits_for_key = waits_for_key;
  key_struck = key_struck;
  printing_step = printing_step;
  absence_at = absence_at;
}

-- a machine, what the operator's next looks find, and the steps since the last look
abbrev pub Terminal : Type 0
Terminal = any.Terminal Pdp8e

-- a terminal at which these keys are struck, one at each look
abbrev pub terminal_with_keys : Pdp8e → List ℕ → Terminal
terminal_with_keys m keys = laws.terminal_with_keys m keys

abbrev pub after_step : Terminal → Pdp8e × Stepped
after_step t = any.after_step terminal_acts t

abbrev pub next : Terminal → Terminal
next t = any.next terminal_acts t

-- the terminal after so many steps
abbrev pub later : ℕ → Terminal → Terminal
later k t = any.later terminal_acts k t

-- the keys have ended, and the program asks for one and does nothing but wait for it
abbrev pub starves : Terminal → Bool
starves t = any.starves terminal_acts t

-- after so many steps the run goes on
abbrev pub GoesOn : Terminal → ℕ → Type 0
GoesOn t k = any.GoesOn terminal_acts t k

-- a run of at most n steps ends at the first end that comes
abbrev pub IsRun : Terminal → ℕ → ℕ → TerminalEnd → Type 0
IsRun t n steps why = any.IsRun terminal_acts t n steps why

-- ## The parts of a step

-- the operator strikes the next key where the program asks for one
abbrev pub after_attention : Terminal → Terminal
after_attention t = any.after_attention terminal_acts t

-- The machine then, when the printer has ended its character, and what has no time left has ended. The rest of the step follows.
abbrev pub at_step : Terminal → Pdp8e
at_step t = after_beginning (with_printer_done (after_attention t).machine)

-- what a transfer moves there, if one ends
abbrev pub move_at : Terminal → Option Moved
move_at t = move_in (with_printer_done (after_attention t).machine)

-- the terminal in the midst of a step: its beginning is made
abbrev pub in_step : Terminal → Terminal
in_step t = record (after_attention t) { machine = at_step t; since = (after_attention t).since + 1 }

-- and the rest of the step is made
abbrev pub out_of_step : Terminal → Terminal
out_of_step t = record t { machine = (rest_of_step t.machine).0 }
