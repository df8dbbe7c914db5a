use Rattle.std.proofs.Common.{◌-◌, length, take, drop, ap, arith}
use Rattle.archive_survey.specs.Findings.{files_found, names_after}
use Rattle.archive_survey.specs.Lines.{finding_lines, loss_lines}
use Rattle.archive_survey.proofs.JudgingLemmas.{first_item, told_more, lines-append, losses-append, files-append, faults_more, claims_more}
use Rattle.archive_survey.proofs.surveys.put_findings.Goals as goal

pub loop-rest-preserved : goal.loop-rest-preserved
loop-rest-preserved c =
    let l = c.loop-rest in
    let i = l.invariant.told in
    let parts = l.rest.now in
    let part = c.part-item.result in
    let rest = take (length parts - 1) (drop 1 parts) in
    let whole = first_item parts part (omega (arith, c.in-len1-up.len_at_least)) c.part-item.is in
    let v = c.in_ok-verdict.verdict in
    let is = c.in_ok-verdict.ensures.verdict i.0 i.1 in
    let volume = c.args.volume in
    record {
      few = omega (arith, l.invariant.few, c.count_of_faults-faults.ensures.one, ap length whole);
      told = (
        names_after volume i.0 part,
        c.in_ok-verdict.ensures.names i.0 i.1,
        told_more finding_lines lines-append volume i.0 v part rest parts l.text.items c.put_part_lines.new.out.items _ whole is c.in_ok-put_part_lines.ensures i.2,
        told_more loss_lines losses-append volume i.0 v part rest parts l.losses.items c.put_loss.new.out.items _ whole is c.in_ok-put_loss.ensures i.3,
        told_more files_found files-append volume i.0 v part rest parts l.files.items c.put_found.new.files.items _ whole is c.in_ok-put_found.ensures i.4,
        faults_more volume i.0 v part rest parts l.faults c.count_of_faults-faults.result _ whole is c.count_of_faults-faults.ensures.count i.5,
        (λ k low. claims_more volume i.0 v part rest parts k _ _ _ whole is (c.claim.ensures k (omega (arith, l.auto.counts))) (i.6 k low)),
      );
    }
