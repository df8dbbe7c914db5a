use Rattle.std.proofs.Common.{◌∙◌, None, [], ◌∷◌, length, get_or, take, ap}
use Rattle.std.proofs.Math.ListN.{length-set}
use Rattle.os8_files.specs.Mounted.{MountState}
use Rattle.volume_jobs.specs.Steps.{without_holds}
use Rattle.volume_jobs.proofs.EndLemmas.{cleared_more, at_place, none_left}
use Rattle.volume_jobs.proofs.PlaceLemmas.{without_next}
use Rattle.volume_jobs.proofs.places.release_each.Goals as goal

pub loop-place-preserved : goal.loop-place-preserved
loop-place-preserved g c =
    let i = c.loop-place.invariant in
    let k = c.loop-place.place in
    let old = c.args.places.now in
    record {
      size = ap length c.release_at.ensures.rest ∙ length-set c.loop-place.places k None ∙ i.size;
      done = c.release_at.ensures.rest ∙ cleared_more c.loop-place.places old k c.loop-place-test.true i.done;
      gone =
          c.release_at.ensures.files
          ∙ ap (λ (m : MountState). record m { holds = without_holds (get_or c.loop-place.places k None ∷ []) m.holds }) i.gone
          ∙ ap (λ h. record c.args.files.now { holds = h })
          (ap (λ o. without_holds (o ∷ []) (without_holds (take k old) c.args.files.now.holds)) (at_place c.loop-place.places old k c.loop-place-test.true i.done)
          ∙ without_next old k c.args.files.now.holds c.loop-place-test.true);
    }

pub returns-clause-none : goal.returns-clause-none
returns-clause-none g c = λ place job short. none_left c.loop-place.places c.args.places.now c.loop-place.place place job c.loop-place-test.false c.loop-place.invariant.done short
