use Rattle.std.proofs.Common.{◌≡◌, ◌+◌, ◌-◌, ◌<◌, length, arith}
use Rattle.archive_survey.specs.Steps.{is_two}
use Rattle.archive_survey.proofs.ClaimLemmas.{runs_more, counts_more}
use Rattle.archive_survey.proofs.claims.put_runs.Goals as goal

pub loop-block-preserved : goal.loop-block-preserved
loop-block-preserved c =
    let l = c.loop-block in
    let left = length c.args.counts.now - l.block in
    let some : 0 < left = omega arith in
    let less : length c.args.counts.now - (l.block + 1) ≡ left - 1 = omega arith in
    record {
      lines = rw less (runs_more (is_two c.args.counts.now) l.before c.is_two-two.result left l.block l.out.items c.put_run.new.out.items _ some c.is_two-two.ensures c.in_ok-begun.ensures.line l.invariant.lines);
      count = rw less (counts_more (is_two c.args.counts.now) l.before c.is_two-two.result left l.block l.runs c.in_ok-begun.begun _ some c.is_two-two.ensures c.in_ok-begun.ensures.count l.invariant.count);
      most = omega (arith, c.in_ok-begun.ensures.one, l.invariant.most);
    }
