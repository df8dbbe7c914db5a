use Rattle.std.proofs.Common.{◌≡◌, ◌∙◌, ℕ, [], false, length, ap, arith}
use Rattle.archive_survey.specs.Findings.{findings_of}
use Rattle.archive_survey.specs.Lines.{finding_lines, loss_lines, count_runs, is_twice}
use Rattle.archive_survey.specs.Steps.{is_two}
use Rattle.archive_survey.proofs.ClaimLemmas.{runs-following, count_runs-same, tests_same}
use Rattle.archive_survey.proofs.surveys.put_all.Goals as goal

pub returns-clause-lines : goal.returns-clause-lines
returns-clause-lines c =
    let volume = c.args.volume in
    let counts = c.put_findings.new.counts in
    let found = findings_of volume [] c.args.parts.now in
    let size : length counts ≡ volume = omega (arith, c.put_findings.auto.counts, c.requires.size) in
    let same = tests_same c.args.counts.now counts found volume c.requires.size c.requires.zeros c.in_ok-faults.ensures.counts in
    runs-following (is_two counts) (is_twice found) volume (length counts) c.args.text.now.items (finding_lines found) _ _ size same c.in_ok-faults.ensures.text c.in_ok-runs.ensures.lines

pub returns-clause-losses : goal.returns-clause-losses
returns-clause-losses c =
    let volume = c.args.volume in
    let counts = c.put_findings.new.counts in
    let found = findings_of volume [] c.args.parts.now in
    let size : length counts ≡ volume = omega (arith, c.put_findings.auto.counts, c.requires.size) in
    let same = tests_same c.args.counts.now counts found volume c.requires.size c.requires.zeros c.in_ok-faults.ensures.counts in
    runs-following (is_two counts) (is_twice found) volume (length counts) c.args.losses.now.items (loss_lines found) _ _ size same c.in_ok-faults.ensures.losses c.in_ok-put_runs.ensures.lines

pub returns-clause-faults : goal.returns-clause-faults
returns-clause-faults c =
    let volume = c.args.volume in
    let counts = c.put_findings.new.counts in
    let found = findings_of volume [] c.args.parts.now in
    let size : length counts ≡ volume = omega (arith, c.put_findings.auto.counts, c.requires.size) in
    let same = tests_same c.args.counts.now counts found volume c.requires.size c.requires.zeros c.in_ok-faults.ensures.counts in
    let runs = ap (λ (n : ℕ). count_runs (is_two counts) false n 0) size ∙ count_runs-same (is_two counts) (is_twice found) false volume 0 same in
    omega (arith, c.in_ok-runs.ensures.count, c.in_ok-faults.ensures.faults, runs)
