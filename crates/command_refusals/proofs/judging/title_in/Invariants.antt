use Rattle.std.proofs.Common.{◌≡◌, drop, map}
use Rattle.command_refusals.specs.Refusals.{title_in}
use Rattle.command_table.specs.Tables.{row_of}
use Rattle.command_table.specs.Values.{values_in}
use Rattle.command_refusals.proofs.judging.title_in.Given as goal

-- no argument so far has the name
abbrev pub invariant-loop-row : goal.invariant-loop-row
invariant-loop-row l = title_in (map row_of l.rows) l.id (values_in l.found) ≡ title_in (map row_of (drop l.row-index l.rows)) l.id (values_in l.found)
