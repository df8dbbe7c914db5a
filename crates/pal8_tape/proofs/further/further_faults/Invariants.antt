use Rattle.std.proofs.Common.{◌≡◌, ◌≤◌, ◌++◌, length, map}
use Rattle.pal8_tape.specs.Joins.{bytes_in}
use Rattle.pal8_tape.specs.Further.{ended_texts, faults_after}
use Rattle.pal8_tape.specs.declared.further.TheConstants.{MOST_HARMLESS}
use Rattle.pal8_tape.proofs.further.further_faults.Given as goal

abbrev pub invariant-loop-left : goal.invariant-loop-left
invariant-loop-left l = record {
  same : l.faults.items ++ faults_after l.fn.options l.passed l.sources l.left (map (λ text. text.items) l.texts.items)
      ≡ faults_after l.fn.options l.passed l.sources MOST_HARMLESS (ended_texts (bytes_in l.sources));
  few : length l.faults.items ≤ l.fn.most;
}

abbrev pub decreases-loop-left : goal.decreases-loop-left
decreases-loop-left l = l.left
