use Rattle.rk8e.specs.Laws.{AreGuarded, IsSettled}
use Rattle.pdp8e.proofs.StepLemmas.{disk_step}
use Rattle.pdp8e.proofs.laws.disk_is_settled.Goals as goal

pub returns-clause-settled : goal.returns-clause-settled
returns-clause-settled c =
    let kept = c.one_transfer.ensures in
    λ m settled.
    disk_step IsSettled m (λ _. settled) (λ _. kept.ends m.disk m.processor.base.core settled) (λ d h. kept.time d 1 h)
    (λ d pulses ac h. kept.instructions d pulses ac h) (λ d _. kept.clearing d)

pub returns-clause-guarded : goal.returns-clause-guarded
returns-clause-guarded c =
    let kept = c.locked_drive_is_kept.ensures in
    λ m guarded.
    disk_step AreGuarded m (λ _. guarded) (λ _. kept.ends m.disk m.processor.base.core guarded) (λ d h. kept.time d 1 h)
    (λ d pulses ac h. kept.instructions d pulses ac h) (λ d _. kept.clearing d)
