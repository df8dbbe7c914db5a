-- The steps of a part of a run, for private clauses.
use Rattle.std.specs.Prelude.{ℕ, List, Option, None, Some, Result, Ok, Err}
use Rattle.terminal8.specs.declared.inputs.Input.{Input}
use Rattle.terminal8.specs.declared.keyboards.Form.{Form}
use Rattle.terminal8.specs.declared.outcomes.Ended.{Ended}
use Rattle.terminal8.specs.declared.outcomes.TerminalFault.{TerminalFault}
use Rattle.terminal8e.specs.Acts.{Acts}
use Rattle.terminal8e.specs.AnySteps.{RunsInto}
use Rattle.terminal8e.specs.Parts.{HasComeTo}
use Rattle.terminal8e.specs.declared.sittings.Sitting.{Sitting}

-- what a part of a run comes to whose last printed characters may still be on the paper
abbrev pub ComesInto : {S : Type 0} → Acts S → Form → Input → ℕ → S → S → Sitting → Option (List ℕ) → Option (List ℕ) → Option (List ℕ) → Option (List ℕ) → List ℕ → Result (Option Ended) TerminalFault → Type 0
ComesInto {S} acts form input n first now sitting reader reader' writer writer' paper (Ok None) = HasComeTo acts form input first now sitting reader reader' writer writer' paper
ComesInto {S} acts form input n first now sitting reader reader' writer writer' paper (Ok (Some ended)) = RunsInto acts form input n first now reader reader' writer writer' paper sitting.absences (Ok ended)
ComesInto {S} acts form input n first now sitting reader reader' writer writer' paper (Err fault) = RunsInto acts form input n first now reader reader' writer writer' paper sitting.absences (Err fault)
