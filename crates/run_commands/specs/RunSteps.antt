-- The cells to which a tape gives a word, and the text of counts. No contract of a public function cites these.
use Rattle.std.specs.Prelude.{◌≡◌, ℕ, Bool, Result, Ok, Err, List, ◌++◌}
use Rattle.std.specs.Global.{Vec}
use Rattle.terminal8.specs.declared.outcomes.Ended.{Ended}
use Rattle.profile8.specs.Profile.{IsProfile, is_flagged}
use Rattle.refusals.specs.declared.faults.SessionFault.TheVariants.{Memory}
use Rattle.tape_reports.specs.Given.{AreGiven}
use Rattle.run_commands.specs.RunLines.{run_line}
use Rattle.run_commands.specs.declared.run_lines.RunLine.TheVariants.{Steps}
use Rattle.outcome.specs.declared.endings.Ending.{Ending}
use Rattle.outcome.specs.declared.endings.Ending.TheVariants.{Fault}

-- the flags of a tape's cells, unless memory is wanted for them
abbrev pub AreFlags : List ℕ → Result (Vec Bool) Ending → Type 0
AreFlags frames (Ok flags) = AreGiven frames flags.items
AreFlags frames (Err ending) = ending ≡ Fault Memory

-- the profile of these counts, and the line of their end, unless memory is wanted for them
abbrev pub ShowsCounts : List ℕ → List Bool → Ended → ℕ → Result (Vec ℕ) Ending → Type 0
ShowsCounts counts flags ended cell (Ok text) = (profile : List ℕ) × IsProfile counts (is_flagged flags) profile × (text.items ≡ profile ++ run_line (Steps ended cell))
ShowsCounts counts flags ended cell (Err ending) = ending ≡ Fault Memory
