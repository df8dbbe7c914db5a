use Rattle.std.proofs.Common.{◌≡◌, ◌≤◌, length}
use Rattle.host_sources.specs.RunSteps.{base_of}
use Rattle.host_sources.specs.RunSteps.{is_number_by}
use Rattle.host_sources.proofs.runs.is_number.Given as goal

abbrev pub invariant-loop-rest : goal.invariant-loop-rest
invariant-loop-rest l = record {
  same : is_number_by (base_of l.is_decimal) l.value l.rest ≡ is_number_by (base_of l.is_decimal) 0 l.run;
  range : l.value ≤ 0o7777;
}

abbrev pub decreases-loop-rest : goal.decreases-loop-rest
decreases-loop-rest l = length l.rest
