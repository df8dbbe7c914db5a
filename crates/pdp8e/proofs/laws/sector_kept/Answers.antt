use Rattle.std.proofs.Common.{◌≡◌, true, refl, ◌∙◌}
use Rattle.rk8e.specs.State.{drive_of}
use Rattle.rk8e.specs.Laws.{map_word}
use Rattle.pdp8e.proofs.StepLemmas.{disk_step, pack_words}
use Rattle.pdp8e.proofs.laws.sector_kept.Goals as goal

pub returns-clause-words : goal.returns-clause-words
returns-clause-words c =
    let kept = c.sector_kept.ensures in
    λ m n sector k small other.
    disk_step (λ d. map_word d n sector k ≡ map_word m.disk n sector k) m (λ _. refl)
    (λ runs. kept.ends m.disk m.processor.base.core n sector k small (other runs))
    (λ d h. pack_words (kept.time d 1 n) sector k ∙ h)
    (λ d pulses ac h. pack_words (kept.instructions d pulses ac n) sector k ∙ h)
    (λ d h. pack_words (kept.clearing d n) sector k ∙ h)

pub returns-clause-locked : goal.returns-clause-locked
returns-clause-locked c =
    let kept = c.sector_kept.ensures in
    λ m n sector k guarded locked small.
    disk_step (λ d. map_word d n sector k ≡ map_word m.disk n sector k) m (λ _. refl)
    (λ _. c.locked_drive_is_kept.ensures.words m.disk m.processor.base.core n sector k guarded locked small)
    (λ d h. pack_words (kept.time d 1 n) sector k ∙ h)
    (λ d pulses ac h. pack_words (kept.instructions d pulses ac n) sector k ∙ h)
    (λ d h. pack_words (kept.clearing d n) sector k ∙ h)

pub returns-clause-lock : goal.returns-clause-lock
returns-clause-lock c =
    let kept = c.locked_drive_is_kept.ensures in
    λ m n locked.
    disk_step (λ d. (drive_of d n).locked ≡ true) m (λ _. locked)
    (λ _. kept.locks_at_ends m.disk m.processor.base.core n ∙ locked)
    (λ d h. kept.locks_in_time d 1 n ∙ h)
    (λ d pulses ac h. kept.locks d pulses ac n h)
    (λ d h. kept.locks_cleared d n ∙ h)
