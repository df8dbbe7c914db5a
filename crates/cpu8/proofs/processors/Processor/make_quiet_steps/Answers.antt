use Rattle.std.proofs.Common.{◌≡◌, ◌-◌, ap, arith, refl, sym, subst, ◌∙◌}
use Rattle.cpu8.specs.State.{next_cell, with_core}
use Rattle.cpu8.proofs.GoLemmas.{after-none}
use Rattle.cpu8.proofs.LeftLemmas.{none-made, one-more}
use Rattle.cpu8.proofs.QuietLemmas.{none-quiet, after-goes, after-quiet, quiet-goes, quiet-next, stays-quiet, fields-same}
use Rattle.cpu8.specs.Go.{after, is_break}
use Rattle.cpu8.specs.QuietSteps.{AreMinded, AreQuiet, is_quiet}
use Rattle.cpu8.specs.Unasked.{AreUnasked}
use Rattle.cpu8.proofs.UnaskedLemmas.{none-unasked, unasked-on}
use Rattle.cpu8.proofs.processors.Processor.make_quiet_steps.Goals as goal

pub loop-left-init : goal.loop-left-init
loop-left-init g c =
    let s = with_core c.args.self.now c.args.core.now in
    let none = none-made c.args.n in (
      subst (λ k. s ≡ after c.args.quick k s) none (sym (after-none c.args.quick s)),
      subst (λ k. AreQuiet c.args.quick c.args.breaks.now s k) none (none-quiet c.args.quick c.args.breaks.now s),
      c.requires.quiet,
      λ below. absurd (omega (arith, below)),
      refl,
      c.requires.field,
      λ quick asks. subst (λ k. AreUnasked s k) none (none-unasked s),
      refl,
      omega arith,
    )

pub is_at_break-requires : goal.is_at_break-requires
is_at_break-requires g c =
    let same : c.step_quietly.new.self.instruction_field ≡ c.args.self.now.instruction_field =
    (c.if-not-step_quietly.ensures.does).stays.field c.loop-left.invariant.5 ∙ c.loop-left.invariant.4 in
    subst (λ field. AreMinded c.args.breaks.now field _) (sym same) c.requires.breaks

pub returns-then-is_at_break-clause-state : goal.returns-then-is_at_break-clause-state
returns-then-is_at_break-clause-state g c =
    let s = with_core c.args.self.now c.args.core.now in
    let new = with_core c.step_quietly.new.self c.step_quietly.new.core in
    subst (λ k. new ≡ after c.args.quick k s) (one-more c.args.n c.loop-left.left c.loop-left-test.true c.loop-left.invariant.8)
    (after-quiet c.args.quick (c.args.n - c.loop-left.left) s (with_core c.loop-left.self c.loop-left.core) new
    c.loop-left.invariant.0 c.loop-left.invariant.2 c.if-not-step_quietly.ensures.does)

pub returns-then-is_at_break-clause-quiet : goal.returns-then-is_at_break-clause-quiet
returns-then-is_at_break-clause-quiet g c =
    let s = with_core c.args.self.now c.args.core.now in
    subst (λ k. AreQuiet c.args.quick c.args.breaks.now s k)
    (one-more c.args.n c.loop-left.left c.loop-left-test.true c.loop-left.invariant.8)
    (quiet-next c.args.quick c.args.breaks.now (c.args.n - c.loop-left.left) s (with_core c.loop-left.self c.loop-left.core)
    (with_core c.step_quietly.new.self c.step_quietly.new.core) c.loop-left.invariant.0 c.loop-left.invariant.2 c.loop-left.invariant.3
    c.if-not-step_quietly.ensures.does c.loop-left.invariant.1)

pub loop-left-preserved : goal.loop-left-preserved
loop-left-preserved g c =
    let s = with_core c.args.self.now c.args.core.now in
    let old = with_core c.loop-left.self c.loop-left.core in
    let new = with_core c.step_quietly.new.self c.step_quietly.new.core in
    let made = c.args.n - c.loop-left.left in
    let more = one-more c.args.n c.loop-left.left c.loop-left-test.true c.loop-left.invariant.8 in
    let fits = c.loop-left.invariant.8 in (
      subst (λ k. new ≡ after c.args.quick k s) more
          (after-quiet c.args.quick made s old new c.loop-left.invariant.0 c.loop-left.invariant.2 c.if-not-step_quietly.ensures.does),
      subst (λ k. AreQuiet c.args.quick c.args.breaks.now s k) more
          (quiet-next c.args.quick c.args.breaks.now made s old new c.loop-left.invariant.0 c.loop-left.invariant.2 c.loop-left.invariant.3
          c.if-not-step_quietly.ensures.does c.loop-left.invariant.1),
      stays-quiet c.args.quick old new c.loop-left.invariant.2 (c.if-not-step_quietly.ensures.does).stays,
      λ _. sym c.is_at_break.ensures ∙ c.if-is_at_break.false,
      (c.if-not-step_quietly.ensures.does).stays.field c.loop-left.invariant.5 ∙ c.loop-left.invariant.4,
      fields-same old new (c.if-not-step_quietly.ensures.does).stays c.loop-left.invariant.5,
      λ quick asks. subst (λ k. AreUnasked s k) more
          (unasked-on c.args.quick quick made s old new c.loop-left.invariant.0 c.loop-left.invariant.2
          (c.if-not-step_quietly.ensures.asks asks refl) (c.if-not-step_quietly.ensures.there asks refl) c.loop-left.invariant.7 c.if-not-step_quietly.ensures.does
          (c.loop-left.invariant.6 quick asks)),
      (c.if-not-step_quietly.ensures.does).stays.interrupts_on ∙ c.loop-left.invariant.7,
      omega (arith, fits),
    )

pub returns-then-is_at_break-clause-unasked : goal.returns-then-is_at_break-clause-unasked
returns-then-is_at_break-clause-unasked g c = λ quick asks.
    let s = with_core c.args.self.now c.args.core.now in
    subst (λ k. AreUnasked s k) (one-more c.args.n c.loop-left.left c.loop-left-test.true c.loop-left.invariant.8)
    (unasked-on c.args.quick quick (c.args.n - c.loop-left.left) s (with_core c.loop-left.self c.loop-left.core)
    (with_core c.step_quietly.new.self c.step_quietly.new.core) c.loop-left.invariant.0 c.loop-left.invariant.2
    (c.if-not-step_quietly.ensures.asks asks refl) (c.if-not-step_quietly.ensures.there asks refl) c.loop-left.invariant.7 c.if-not-step_quietly.ensures.does
    (c.loop-left.invariant.6 quick asks))

pub returns-then-end_by_transfer-clause-state : goal.returns-then-end_by_transfer-clause-state
returns-then-end_by_transfer-clause-state g c =
    let s = with_core c.args.self.now c.args.core.now in
    let same = c.if-not-step_quietly.ensures.does in
    let new = with_core c.end_by_transfer.new.self c.step_quietly.new.core in
    subst (λ k. new ≡ after c.args.quick k s) (one-more c.args.n c.loop-left.left c.loop-left-test.true c.loop-left.invariant.8)
    (after-goes c.args.quick (c.args.n - c.loop-left.left) s (with_core c.step_quietly.new.self c.step_quietly.new.core) new
    (same ∙ c.loop-left.invariant.0) (ap (λ x. is_quiet c.args.quick x) same ∙ c.loop-left.invariant.2) c.if-end_by_transfer.ensures)

pub returns-then-end_by_transfer-clause-quiet : goal.returns-then-end_by_transfer-clause-quiet
returns-then-end_by_transfer-clause-quiet g c =
    let s = with_core c.args.self.now c.args.core.now in
    let same = c.if-not-step_quietly.ensures.does in
    subst (λ k. AreQuiet c.args.quick c.args.breaks.now s k)
    (one-more c.args.n c.loop-left.left c.loop-left-test.true c.loop-left.invariant.8)
    (quiet-goes c.args.quick c.args.breaks.now (c.args.n - c.loop-left.left) s (with_core c.step_quietly.new.self c.step_quietly.new.core)
    (with_core c.end_by_transfer.new.self c.step_quietly.new.core) (same ∙ c.loop-left.invariant.0)
    (ap (λ x. is_quiet c.args.quick x) same ∙ c.loop-left.invariant.2)
    (λ more. ap (λ x. is_break c.args.breaks.now (next_cell x)) same ∙ c.loop-left.invariant.3 more) c.if-end_by_transfer.ensures
    c.loop-left.invariant.1)
