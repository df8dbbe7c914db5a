use Rattle.std.proofs.Common.{◌≡◌, ◌+◌, ◌-◌, ◌<◌, length, arith, sym, ◌∙◌}
use Rattle.archive_survey.specs.Steps.{is_two}
use Rattle.archive_survey.proofs.ClaimLemmas.{run_more}
use Rattle.archive_survey.proofs.claims.run_length.Goals as goal

pub loop-place-preserved : goal.loop-place-preserved
loop-place-preserved c =
    let l = c.loop-place in
    let some : 0 < length c.args.counts.now - l.place = omega arith in
    let less : length c.args.counts.now - (l.place + 1) ≡ length c.args.counts.now - l.place - 1 = omega arith in
    record {
      most = omega arith;
      least = omega arith;
      run = rw less (run_more (is_two c.args.counts.now) (length c.args.counts.now - l.place) l.place _ some (sym c.is_two.ensures ∙ c.if-is_two.true) l.invariant.run);
    }
