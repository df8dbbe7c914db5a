use Rattle.std.proofs.Common.{◌-◌, ◌<◌, ◌∙◌, None, Some, arith, length, refl, subst, sym, ap}
use Rattle.history8.specs.Checkpoints.{first_state}
use Rattle.history8.proofs.CheckpointLemmas.{are-at, viewed-place}
use Rattle.history8.proofs.SearchLemmas.{HeldNot, found-viewed, held-begun, held-found, held-next, held-nowhere}
use Rattle.history8.proofs.searches.last_place.Goals as goal

pub loop-left-init : goal.loop-left-init
loop-left-init g c =
    let cps = c.args.checkpoints.now in
    let held = subst (λ e. HeldNot (g.W.Watch.condition c.args.watch.now) c.args.entries.now cps (c.args.count - 1) e (length cps)) (sym c.saturating_sub-end.ensures)
    (held-begun (g.W.Watch.condition c.args.watch.now) c.args.entries.now cps (c.args.count - 1) c.requires.checkpoints) in
    record { held = held; room = refl }

pub bounds-checkpoints-left : goal.bounds-checkpoints-left
bounds-checkpoints-left g c = omega (arith, c.loop-left.invariant.held.left_within, c.loop-left-test.true)

pub last_after-requires-clause-place : goal.last_after-requires-clause-place
last_after-requires-clause-place g c =
    let cps = c.args.checkpoints.now in
    let below : c.loop-left.left - 1 < length cps = omega (arith, c.loop-left.invariant.held.left_within, c.loop-left-test.true) in
    viewed-place c.args.entries.now (first_state cps) _ c.index-checkpoints-left.result c.checkpoint.view_is
    (are-at c.args.entries.now (first_state cps) cps (c.loop-left.left - 1) c.index-checkpoints-left.result c.requires.checkpoints below c.index-checkpoints-left.is)

pub last_after-requires-clause-end : goal.last_after-requires-clause-end
last_after-requires-clause-end g c = omega (arith, c.loop-left.invariant.held.within, c.requires.count)

pub returns-in-Some-clause-place : goal.returns-in-Some-clause-place
returns-in-Some-clause-place g c =
    let cps = c.args.checkpoints.now in
    let below : c.loop-left.left - 1 < length cps = omega (arith, c.loop-left.invariant.held.left_within, c.loop-left-test.true) in
    held-found (g.W.Watch.condition c.args.watch.now) c.args.entries.now cps (c.args.count - 1) c.loop-left.end c.loop-left.left c.index-checkpoints-left.result.count c.in-Some.place c.loop-left.invariant.held
    (found-viewed (g.W.Watch.condition c.args.watch.now) c.args.entries.now cps (c.loop-left.left - 1) c.loop-left.end _ c.index-checkpoints-left.result c.restore.new.machine (Some c.in-Some.place)
    c.requires.checkpoints below c.index-checkpoints-left.is c.restore.ensures c.checkpoint.view_is c.in-Some.ensures.place)

pub loop-left-preserved : goal.loop-left-preserved
loop-left-preserved g c =
    let cps = c.args.checkpoints.now in
    let below : c.loop-left.left - 1 < length cps = omega (arith, c.loop-left.invariant.held.left_within, c.loop-left-test.true) in
    let view = ap (λ x. x.count) c.checkpoint.view_is in
    let none = found-viewed (g.W.Watch.condition c.args.watch.now) c.args.entries.now cps (c.loop-left.left - 1) c.loop-left.end _ c.index-checkpoints-left.result c.restore.new.machine None
    c.requires.checkpoints below c.index-checkpoints-left.is c.restore.ensures c.checkpoint.view_is c.in_default.ensures.place in
    record {
      held = held-next (g.W.Watch.condition c.args.watch.now) c.args.entries.now cps (c.args.count - 1) c.loop-left.end c.loop-left.left _ c.index-checkpoints-left.result c.requires.checkpoints c.loop-left.invariant.held (omega (arith, c.loop-left-test.true)) c.index-checkpoints-left.is none (omega (arith, view));
      room = c.last_after.ensures.room ∙ c.loop-left.invariant.room;
    }

pub returns-clause-place : goal.returns-clause-place
returns-clause-place g c =
    held-nowhere (g.W.Watch.condition c.args.watch.now) c.args.entries.now c.args.checkpoints.now (c.args.count - 1) c.loop-left.end c.loop-left.left c.loop-left.invariant.held (omega (arith, c.loop-left-test.false))
