use Rattle.std.proofs.Common.{◌≤◌, sym, subst}
use Rattle.os8_files.specs.Holds.{times}
use Rattle.volume_jobs.specs.Jobs.{held_by_work}
use Rattle.volume_jobs.specs.Steps.{TurnsJob}
use Rattle.volume_jobs.specs.Settled.{Fits, Stands, work_of}
use Rattle.volume_jobs.proofs.SqueezeLemmas.{squeezed_turn}
use Rattle.volume_jobs.proofs.JobLemmas.{loading_job}
use Rattle.volume_jobs.proofs.turns.job_turn.Goals as goal

pub returns-in-Loading : goal.returns-in-Loading
returns-in-Loading g c =
    subst (λ w. TurnsJob c.args.files.now c.args.core.now (record { work = w; turns = c.args.job.turns }) c.loading_turn.result.0 c.loading_turn.result.1 c.loading_turn.new.files c.loading_turn.new.core) (sym c.in-Loading.is)
    (loading_job c.counted_holds.ensures.released c.args.files.now c.loading_turn.new.files c.args.core.now c.loading_turn.new.core c.in-Loading.loading c.args.job.turns c.loading_turn.result.0 c.loading_turn.result.1 c.requires.none
    (λ name. subst (λ w. times name (held_by_work (work_of w)) ≤ times name c.args.files.now.holds) c.in-Loading.is (c.requires.held name)) c.loading_turn.ensures)

pub returns-in-Assembling : goal.returns-in-Assembling
returns-in-Assembling g c =
    subst (λ w. TurnsJob c.args.files.now c.args.core.now (record { work = w; turns = c.args.job.turns }) c.assembling_turn.result.0 c.assembling_turn.result.1 c.assembling_turn.new.files c.args.core.now) (sym c.in-Assembling.is)
    (c.assembling_turn.ensures c.args.core.now)

pub returns-in-Squeezing : goal.returns-in-Squeezing
returns-in-Squeezing g c =
    let call = c.squeezing_turn.ensures in
    subst (λ w. TurnsJob c.args.files.now c.args.core.now (record { work = w; turns = c.args.job.turns }) c.squeezing_turn.result.0 c.squeezing_turn.result.1 c.squeezing_turn.new.files c.args.core.now) (sym c.in-Squeezing.is)
    (squeezed_turn c.args.files.now c.squeezing_turn.new.files c.args.core.now c.in-Squeezing.clean c.args.job.turns call.0 c.squeezing_turn.result.0 c.squeezing_turn.result.1 c.requires.none
    (subst (λ w. Fits w c.args.job.turns) c.in-Squeezing.is c.requires.fits)
    (λ running. subst (λ w. Stands c.args.files.now.blocks w c.args.job.turns) c.in-Squeezing.is (c.requires.stands running))
    (c.kept_holds.ensures.squeeze_turn c.args.files.now c.squeezing_turn.new.files call.0 call.1)
    (c.failed_writes.ensures.squeeze_turn c.args.files.now c.squeezing_turn.new.files call.0 call.1) call.1 call.2)
