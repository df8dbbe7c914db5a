use Rattle.std.proofs.Common.{◌≡◌, ◌≤◌, ◌++◌, length}
use Rattle.volume_index.specs.Json.{json_from}
use Rattle.volume_index.proofs.json.json_lines.Given as goal

abbrev pub invariant-loop-rest : goal.invariant-loop-rest
invariant-loop-rest l = record {
  text : l.text.items ++ json_from l.column l.rest ≡ json_from 0 l.fn.lines;
  few : l.column ≤ 8;
}

abbrev pub decreases-loop-rest : goal.decreases-loop-rest
decreases-loop-rest l = length l.rest
