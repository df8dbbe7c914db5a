use Rattle.std.proofs.Common.{◌≡◌, length, arith, ap, sym, ◌∙◌}
use Rattle.debug8.specs.Breaks.{count_breaks, no_breaks}
use Rattle.debug8.proofs.BreakLemmas.{length-none, count-none}
use Rattle.debug8.proofs.debuggers.Debugger.new.Goals as goal

pub invariant_of-result : goal.invariant_of-result
invariant_of-result c =
    let none : c.in_ok-breaks.breaks.items ≡ no_breaks 32768 = c.in_ok-breaks.ensures in (
      ap (λ bs. length bs) none ∙ length-none 32768,
      sym (ap (λ bs. count_breaks bs) none ∙ count-none 32768),
      omega arith,
    )
