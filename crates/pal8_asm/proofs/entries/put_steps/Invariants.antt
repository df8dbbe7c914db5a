use Rattle.std.proofs.Common.{◌≡◌, ◌+◌, ◌≤◌, ◌++◌, length}
use Rattle.std.specs.Prelude.{vec_len, vec_capacity}
use Rattle.pal8_asm.specs.Steps.{entry_meaning}
use Rattle.pal8_asm.specs.Sources.{with_values}
use Rattle.pal8_asm.proofs.entries.put_steps.Given as goal

-- the steps that are left come after those that were put
abbrev pub invariant-loop-rest : goal.invariant-loop-rest
invariant-loop-rest l = record {
  same : l.to.items ++ with_values (entry_meaning l.names l.is_late) l.rest ≡ l.fn.to.items ++ with_values (entry_meaning l.fn.names l.fn.is_late) l.fn.steps;
  room : vec_len l.to + length l.rest ≤ vec_capacity l.to;
}

abbrev pub decreases-loop-rest : goal.decreases-loop-rest
decreases-loop-rest l = length l.rest
