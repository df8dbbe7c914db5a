use Rattle.std.proofs.Common.{◌≡◌, Ok, length}
use Rattle.pal8_grammar.specs.SourceNames.{own_value}
use Rattle.pal8_values.specs.Sums.{early_value, direct_value, with_plains}
use Rattle.pal8_values.proofs.sums.early_value.Given as goal

-- the steps that are left come to what all of them come to
abbrev pub invariant-loop-rest : goal.invariant-loop-rest
invariant-loop-rest l =
    direct_value l.spot.here (with_plains (own_value l.names) l.spot l.rest (Ok l.sum)) ≡ early_value (own_value l.fn.names) l.fn.spot l.fn.steps

abbrev pub decreases-loop-rest : goal.decreases-loop-rest
decreases-loop-rest l = length l.rest
