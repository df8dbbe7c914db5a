use Rattle.std.proofs.Common.{◌≡◌, drop, map}
use Rattle.command_refusals.specs.Refusals.{first_pair}
use Rattle.command_table.specs.Tables.{pair_of, row_of}
use Rattle.command_table.specs.Values.{values_in}
use Rattle.command_refusals.proofs.judging.first_pair.Given as goal

-- of none of the pairs so far both were given
abbrev pub invariant-loop-pair : goal.invariant-loop-pair
invariant-loop-pair l = first_pair (map pair_of l.pairs) (map row_of l.rows) (values_in l.found) ≡ first_pair (map pair_of (drop l.pair-index l.pairs)) (map row_of l.rows) (values_in l.found)
