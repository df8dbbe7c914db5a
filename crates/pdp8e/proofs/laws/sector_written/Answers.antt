use Rattle.std.proofs.Common.{◌≡◌, ◌∙◌, true≢false, sym}
use Rattle.rk8e.specs.Command.{sector_of}
use Rattle.rk8e.specs.Transfer.{word_written}
use Rattle.rk8e.specs.Laws.{map_word}
use Rattle.pdp8e.proofs.StepLemmas.{disk_step, pack_words}
use Rattle.pdp8e.proofs.laws.sector_written.Goals as goal

pub returns : goal.returns
returns c =
    let kept = c.sector_kept.ensures in
    λ m n k pack runs settled small ends is size within.
    let sector = sector_of m.disk.control in
    disk_step (λ d. map_word d n sector k ≡ word_written m.disk.control m.processor.base.core k) m
    (λ stopped. absurd (true≢false (sym runs ∙ stopped)))
    (λ _. c.transfer_in_step.ensures.written m.disk m.processor.base.core n k pack settled small ends is size within)
    (λ d h. pack_words (kept.time d 1 n) sector k ∙ h)
    (λ d pulses ac h. pack_words (kept.instructions d pulses ac n) sector k ∙ h)
    (λ d h. pack_words (kept.clearing d n) sector k ∙ h)
