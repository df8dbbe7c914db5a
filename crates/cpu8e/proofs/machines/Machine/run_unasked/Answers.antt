use Rattle.std.proofs.Common.{◌≡◌, ◌-◌, true, arith, refl, sym, subst, ◌∙◌}
use Rattle.cpu8e.specs.State.{State8e}
use Rattle.cpu8e.specs.Runs.{after}
use Rattle.cpu8e.specs.Unasked.{AreUnasked}
use Rattle.cpu8e.specs.QuickSteps.{is_quiet}
use Rattle.cpu8e.proofs.QuickLemmas.{after-more, after-none, after-quick, more-made, none-made, none-unasked, one-more, stays-on, stays-quiet, stays-same, unasked-more, unasked-next}
use Rattle.cpu8e.proofs.machines.Machine.run_unasked.Goals as goal

pub returns-then-not-is_quiet-clause-state : goal.returns-then-not-is_quiet-clause-state
returns-then-not-is_quiet-clause-state c = sym (after-none c.args.self.now)

pub loop-left-init : goal.loop-left-init
loop-left-init c =
    let s = c.args.self.now in
    let none = none-made c.args.n in
    record {
      state = subst (λ k. s ≡ after k s) none (sym (after-none s));
      unasked = subst (λ k. AreUnasked c.args.looks s k) none (none-unasked c.args.looks s);
      quiet = subst (λ (m : State8e). is_quiet m ≡ true) c.self.view_is (sym c.if-not-is_quiet.ensures);
      stays = stays-same s;
      within = omega arith;
    }

pub returns-then-not-make_quick_step-clause-state :
    goal.returns-then-not-make_quick_step-clause-state
returns-then-not-make_quick_step-clause-state c =
    let s = c.args.self.now in
    let run = c.run_settled-left in
    let i = c.loop-left.invariant in
    let more = more-made c.args.n c.loop-left.left run.result run.ensures.within i.within in
    c.if-not-make_quick_step.ensures.does
    ∙ subst (λ k. run.new.self ≡ after k s) more
    (after-more (c.args.n - c.loop-left.left) (c.loop-left.left - run.result) s c.loop-left.self run.new.self i.state run.ensures.state)

pub returns-then-not-make_quick_step-clause-unasked :
    goal.returns-then-not-make_quick_step-clause-unasked
returns-then-not-make_quick_step-clause-unasked c =
    let s = c.args.self.now in
    let run = c.run_settled-left in
    let i = c.loop-left.invariant in
    let more = more-made c.args.n c.loop-left.left run.result run.ensures.within i.within in
    subst (λ k. AreUnasked c.args.looks s k) more
    (unasked-more c.args.looks (c.args.n - c.loop-left.left) (c.loop-left.left - run.result) s c.loop-left.self i.state i.stays i.unasked run.ensures.unasked)

pub loop-left-preserved : goal.loop-left-preserved
loop-left-preserved c =
    let s = c.args.self.now in
    let run = c.run_settled-left in
    let old = run.new.self in
    let new = c.make_quick_step.new.self in
    let i = c.loop-left.invariant in
    let made = c.args.n - c.loop-left.left in
    let steps = c.loop-left.left - run.result in
    let more = more-made c.args.n c.loop-left.left run.result run.ensures.within i.within in
    let state = subst (λ k. old ≡ after k s) more (after-more made steps s c.loop-left.self old i.state run.ensures.state) in
    let unasked = subst (λ k. AreUnasked c.args.looks s k) more
    (unasked-more c.args.looks made steps s c.loop-left.self i.state i.stays i.unasked run.ensures.unasked) in
    let stays = stays-on s c.loop-left.self old i.stays run.ensures.stays in
    let did = c.if-not-make_quick_step.ensures.does in
    let some = c.if-not-make_quick_step.ensures.left refl in
    let one = one-more c.args.n run.result some (omega (arith, i.within, run.ensures.within)) in
    record {
      state = subst (λ k. new ≡ after k s) one (after-quick (c.args.n - run.result) s old new state run.ensures.quiet did);
      unasked = subst (λ k. AreUnasked c.args.looks s k) one
          (unasked-next c.args.looks (c.args.n - run.result) s old new state run.ensures.quiet (c.if-not-make_quick_step.ensures.asks refl) stays did unasked);
      quiet = stays-quiet old new run.ensures.quiet did.stays;
      stays = stays-on s old new stays did.stays;
      within = omega (arith, i.within, run.ensures.within);
    }
