use Rattle.std.proofs.Common.{◌∙◌, slice_set, ap}
use Rattle.volume_jobs.specs.Settled.{disturbed_job}
use Rattle.volume_jobs.proofs.TableLemmas.{set_twice}
use Rattle.volume_jobs.proofs.table.disturb_at.Goals as goal

pub returns : goal.returns
returns c =
    c.put_at.ensures
    ∙ ap (λ l. slice_set l c.args.place c.disturbed_job.result) c.take_at-job.ensures.rest
    ∙ set_twice c.args.places.now c.args.place _ c.disturbed_job.result
    ∙ ap (λ o. slice_set c.args.places.now c.args.place o) (c.disturbed_job.ensures ∙ ap disturbed_job c.take_at-job.ensures.job)
