use Rattle.std.proofs.Common.{◌∙◌, length, ap, arith}
use Rattle.std.proofs.Math.ListN.{length-set}
use Rattle.volume_jobs.proofs.TableLemmas.{disturbed_more}
use Rattle.volume_jobs.proofs.table.disturb_all.Goals as goal

pub loop-place-preserved : goal.loop-place-preserved
loop-place-preserved c =
    let i = c.loop-place.invariant in
    record {
      size = ap length c.disturb_at.ensures ∙ length-set c.loop-place.places c.loop-place.place _ ∙ i.size;
      done = c.disturb_at.ensures ∙ disturbed_more c.loop-place.places c.args.places.now c.loop-place.place _ (omega (arith, c.loop-place-test.true, i.size)) i.done;
    }
