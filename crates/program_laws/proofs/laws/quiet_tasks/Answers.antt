use Rattle.program_laws.proofs.QuietLemmas.{does-keep, runs-keep}
use Rattle.program_laws.proofs.laws.quiet_tasks.Goals as goal

pub returns-clause-does : goal.returns-clause-does
returns-clause-does g c it is_typed before after quiet =
    does-keep c.shown_files.ensures.gets c.shown_files.ensures.blocks c.shown_files.ensures.tape c.shown_images.ensures.reports c.shown_images.ensures.checks
    c.unchanged_files.ensures.lists c.unchanged_files.ensures.texts c.unchanged_files-2.ensures c.unchanged_files-3.ensures.tape c.unchanged_files-3.ensures.rim c.unchanged_files-3.ensures.source
    c.unchanged_files-6.ensures c.unchanged_files-4.ensures.profile c.unchanged_files-4.ensures.trace
    it is_typed _ (λ form none. c.unchanged_files-4.ensures.teletype form before after none) (λ named form never. c.unchanged_files-5.ensures named form is_typed before after never)
    (λ form none. c.unchanged_files-4.ensures.boot form before after none) quiet

pub returns-clause-runs : goal.returns-clause-runs
returns-clause-runs g c it is_typed before after old new status quiet runs = runs-keep it is_typed _ old new status (returns-clause-does g c it is_typed before after quiet) runs
