use Rattle.std.proofs.Common.{◌≡◌, length}
use Rattle.pal8_grammar.specs.Permanent.{is_one_of}
use Rattle.pal8_grammar.proofs.permanent_names.is_one_of.Given as goal

-- the number isn't among those that were looked at
abbrev pub invariant-loop-rest : goal.invariant-loop-rest
invariant-loop-rest l = record {
  same : is_one_of l.rest l.number ≡ is_one_of l.fn.list l.number;
}

abbrev pub decreases-loop-rest : goal.decreases-loop-rest
decreases-loop-rest l = length l.rest
