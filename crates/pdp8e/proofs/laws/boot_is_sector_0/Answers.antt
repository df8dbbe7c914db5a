use Rattle.std.proofs.Common.{ℕ, ◌+◌, ◌*◌, ◌/◌, ◌%◌, ◌<◌, ◌≡◌, length, slice_index, refl, ap, sym, ◌∙◌, arith}
use Rattle.pdp8e.specs.State.{Pdp8e}
use Rattle.pdp8e.specs.Step.{at_beginning}
use Rattle.pdp8e.specs.Boot.{with_bootstrap}
use Rattle.pdp8e.proofs.BootLemmas.{boot_steps, looping, not_reached, others, reading, reading_settled, size_kept}
use Rattle.pdp8e.proofs.laws.boot_is_sector_0.Goals as goal

pub returns-clause-pc : goal.returns-clause-pc
returns-clause-pc c = λ core d pack size is. ap (λ (m : Pdp8e). (at_beginning m).processor.base.pc) (boot_steps core d pack size is)

pub returns-clause-words : goal.returns-clause-words
returns-clause-words c = λ core d pack k size is small.
    let b = with_bootstrap core in
    let kept = size_kept core in
    let least : 0 < 4 = omega arith in
    let address : 0 < 4096 = omega arith in
    let cell : 4096 * (0 / 8 % 8) + (0 + k) % 4096 ≡ k = omega (arith, small) in
    let within : 4096 * (0 / 8 % 8) + (0 + k) % 4096 < length b = omega (arith, kept, size, small) in
    ap (λ (m : Pdp8e). slice_index (at_beginning m).processor.base.core k) (boot_steps core d pack size is)
    ∙ ap (λ (x : ℕ). slice_index (at_beginning (looping core d 0)).processor.base.core x) (sym cell)
    ∙ c.transfer_in_step.ensures.read (reading d 0) b 0 k pack (reading_settled d 0) least refl is address within small

pub returns-clause-others : goal.returns-clause-others
returns-clause-others c = λ core d pack cell size is past within.
    let b = with_bootstrap core in
    let kept = size_kept core in
    ap (λ (m : Pdp8e). slice_index (at_beginning m).processor.base.core cell) (boot_steps core d pack size is)
    ∙ c.transfer_in_step.ensures.others (reading d 0) b cell (reading_settled d 0) (omega (arith, kept, size, within)) (not_reached d 0 cell past)
    ∙ others core cell past
