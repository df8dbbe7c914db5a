-- What the steps of a run at a terminal give, for private clauses.
use Rattle.std.specs.Prelude.{ℕ, List, Option}
use Rattle.cpu8.specs.declared.outcomes.Stepped.{Stepped}
use Rattle.terminal8.specs.declared.outcomes.TerminalEnd.{TerminalEnd}
use Rattle.terminal8e.specs.AnyTerminal as any
use Rattle.pdp8e.specs.State.{Pdp8e}
use Rattle.pdp8e.specs.Terminal.{Terminal, terminal_acts}

-- the operator looks for the next key, and strikes it if there is one
abbrev pub after_look : Pdp8e → List (Option ℕ) → Terminal
after_look m looks = any.after_look terminal_acts m looks

-- what the last of so many steps did
abbrev pub last_did : ℕ → Terminal → Stepped
last_did k t = any.last_did terminal_acts k t

-- why a run of at most n steps ends after so many of them
abbrev pub Ends : Terminal → ℕ → ℕ → TerminalEnd → Type 0
Ends t n steps why = any.Ends terminal_acts t n steps why
