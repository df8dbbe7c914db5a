use Rattle.std.proofs.Common.{◌≡◌, ℕ, ◌+◌, ◌<◌, ◌≤◌, ◌++◌, min, List, [], length, slice_index}
use Rattle.archive_survey.specs.Findings.{files_found, findings_of}
use Rattle.archive_survey.specs.Lines.{finding_lines, loss_lines, count_faults, claims}
use Rattle.archive_survey.specs.Steps.{KnowsNames}
use Rattle.archive_survey.proofs.surveys.put_findings.Given as goal

abbrev pub invariant-loop-rest : goal.invariant-loop-rest
invariant-loop-rest l = record {
  few : l.faults + length l.rest ≤ length l.parts;
  told : (known : List ℕ)
      × KnowsNames l.names known
      × (l.text.items ++ finding_lines (findings_of l.volume known l.rest) ≡ l.fn.text.items ++ finding_lines (findings_of l.volume [] l.parts))
      × (l.losses.items ++ loss_lines (findings_of l.volume known l.rest) ≡ l.fn.losses.items ++ loss_lines (findings_of l.volume [] l.parts))
      × (l.files.items ++ files_found (findings_of l.volume known l.rest) ≡ l.fn.files.items ++ files_found (findings_of l.volume [] l.parts))
      × (l.faults + count_faults (findings_of l.volume known l.rest) ≡ count_faults (findings_of l.volume [] l.parts))
      × ((k : ℕ) → k < length l.fn.counts → min 2 (slice_index l.counts k + claims (findings_of l.volume known l.rest) k) ≡ min 2 (slice_index l.fn.counts k + claims (findings_of l.volume [] l.parts) k));
}

abbrev pub decreases-loop-rest : goal.decreases-loop-rest
decreases-loop-rest l = length l.rest
