use Rattle.std.proofs.Common.{◌≡◌, ◌-◌, arith, refl, sym, subst}
use Rattle.cpu8e.specs.State.{with_core}
use Rattle.cpu8e.specs.Runs.{after}
use Rattle.cpu8e.specs.Unasked.{AreUnasked}
use Rattle.cpu8e.proofs.QuickLemmas.{after-none, after-quick, none-made, none-unasked, one-more, stays-on, stays-quiet, stays-same, unasked-next}
use Rattle.cpu8e.proofs.processors.Processor.make_quick_steps.Goals as goal

pub loop-left-init : goal.loop-left-init
loop-left-init c =
    let s = with_core c.args.self.now c.args.core.now in
    let none = none-made c.args.n in
    record {
      state = subst (λ k. s ≡ after k s) none (sym (after-none s));
      unasked = subst (λ k. AreUnasked c.args.looks s k) none (none-unasked c.args.looks s);
      quiet = c.requires;
      stays = stays-same s;
      within = omega arith;
    }

pub loop-left-preserved : goal.loop-left-preserved
loop-left-preserved c =
    let s = with_core c.args.self.now c.args.core.now in
    let old = with_core c.loop-left.self c.loop-left.core in
    let new = with_core c.step_quickly.new.self c.step_quickly.new.core in
    let made = c.args.n - c.loop-left.left in
    let i = c.loop-left.invariant in
    let did = c.if-not-step_quickly.ensures.does in
    let more = one-more c.args.n c.loop-left.left c.loop-left-test.true i.within in
    record {
      state = subst (λ k. new ≡ after k s) more (after-quick made s old new i.state i.quiet did);
      unasked = subst (λ k. AreUnasked c.args.looks s k) more
          (unasked-next c.args.looks made s old new i.state i.quiet (c.if-not-step_quickly.ensures.asks refl) i.stays did i.unasked);
      quiet = stays-quiet old new i.quiet did.stays;
      stays = stays-on s old new i.stays did.stays;
      within = omega (arith, i.within);
    }
