use Rattle.std.proofs.Common.{◌≡◌, drop, map}
use Rattle.command_refusals.specs.Refusals.{first_bad}
use Rattle.command_table.specs.Tables.{row_of}
use Rattle.command_table.specs.Values.{values_in}
use Rattle.command_refusals.proofs.judging.first_bad.Given as goal

-- no value so far is refused
abbrev pub invariant-loop-row : goal.invariant-loop-row
invariant-loop-row l = first_bad (map row_of l.rows) (values_in l.found) ≡ first_bad (map row_of (drop l.row-index l.rows)) (values_in l.found)
