-- The lines for how far a machine at a terminal went, and why no further (this project's profile).
use Rattle.std.specs.Prelude.{ℕ, codes, decimal, List, [], ◌∷◌, ◌++◌}
use Rattle.word12.specs.Octal.{octal_digit, octal4, octal5}
use Rattle.terminal8.specs.declared.outcomes.Ended.{Ended}
use Rattle.terminal8.specs.declared.outcomes.TerminalEnd.{TerminalEnd}
use Rattle.terminal8.specs.declared.outcomes.TerminalEnd.TheVariants as why
use Rattle.run_commands.specs.declared.run_lines.RunLine.{RunLine}
use Rattle.run_commands.specs.declared.run_lines.RunLine.TheVariants as line

-- where a machine halted: the cell before which it stands, AC and L
abbrev pub halted_text : ℕ → ℕ → ℕ → List ℕ
halted_text cell ac l = codes "HALT " ++ octal5 cell ++ codes " AC " ++ octal4 ac ++ codes " L " ++ octal_digit l ∷ []

-- and MQ, on a machine that has one
abbrev pub halted_with_mq_text : ℕ → ℕ → ℕ → ℕ → List ℕ
halted_with_mq_text cell ac l mq = halted_text cell ac l ++ codes " MQ " ++ octal4 mq

abbrev pub why_text : TerminalEnd → List ℕ
why_text why.Halt = codes "HALT"
why_text why.Unassigned = codes "UNASSIGNED"
why_text why.Keys = codes "KEYS"
why_text why.Limit = codes "LIMIT"

-- how many steps a machine made, why no more, and the cell before which it stands
abbrev pub steps_text : Ended → ℕ → List ℕ
steps_text ended cell = codes "STEPS " ++ decimal ended.steps ++ codes " " ++ why_text ended.why ++ codes " " ++ octal5 cell

abbrev pub run_text : RunLine → List ℕ
run_text (line.Halted cell ac l) = halted_text cell ac l
run_text (line.HaltedWithMq cell ac l mq) = halted_with_mq_text cell ac l mq
run_text (line.Unassigned cell word) = codes "UNASSIGNED " ++ octal5 cell ++ codes " " ++ octal4 word
run_text (line.KeysEnd cell) = codes "KEYS END " ++ octal5 cell
run_text (line.Limit cell) = codes "LIMIT " ++ octal5 cell
run_text (line.Steps ended cell) = steps_text ended cell
run_text (line.NoDevice absence) = codes "note: no device " ++ octal4 absence.word ++ codes " at " ++ octal5 absence.cell

-- a line of a run
abbrev pub run_line : RunLine → List ℕ
run_line line = run_text line ++ 0o12 ∷ []
