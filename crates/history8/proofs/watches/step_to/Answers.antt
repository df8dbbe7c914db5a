use Rattle.std.proofs.Common.{◌+◌, ◌∙◌, arith, refl, sym}
use Rattle.history8.proofs.WatchLemmas.{none-printed, printed-few, printed-next, watched-all, watched-end, watched-next, watched-none}
use Rattle.history8.proofs.watches.step_to.Goals as goal

pub loop-count-init : goal.loop-count-init
loop-count-init g c = record {
  watched = watched-none (g.S.Stop.condition c.args.stop.now) c.args.quick c.args.machine.now;
  within = omega arith;
  printed = none-printed c.args.quick c.args.machine.now c.args.printed.now.items;
  room = refl;
}

pub push_character-requires : goal.push_character-requires
push_character-requires g c =
    let i = c.loop-count.invariant in
    let few = printed-few c.args.quick c.args.machine.now c.loop-count.count c.args.printed.now.items c.loop-count.printed.items i.printed in
    omega (arith, few, c.requires.room, c.loop-count-test.true, i.room, c.loop-count.printed.ok.0, c.args.printed.now.ok.0)

pub returns-then-is_met-clause-steps : goal.returns-then-is_met-clause-steps
returns-then-is_met-clause-steps g c =
    let m = c.make_watched_step-did in
    watched-end (g.S.Stop.condition c.args.stop.now) c.args.quick c.args.machine.now c.loop-count.machine m.new.machine c.loop-count.count (c.loop-count.count + 1) c.args.most m.result.1
    c.loop-count.invariant.watched c.loop-count-test.true m.ensures.state m.ensures.is_met refl

pub returns-then-is_met-clause-printed : goal.returns-then-is_met-clause-printed
returns-then-is_met-clause-printed g c =
    let m = c.make_watched_step-did in
    printed-next c.args.quick c.args.machine.now c.loop-count.machine c.loop-count.count (c.loop-count.count + 1) m.result.0 c.args.printed.now.items c.loop-count.printed.items
    c.push_character.new.characters.items c.loop-count.invariant.printed c.loop-count.invariant.watched.state m.ensures.answer c.push_character.ensures.items refl

pub loop-count-preserved : goal.loop-count-preserved
loop-count-preserved g c =
    let i = c.loop-count.invariant in
    let m = c.make_watched_step-did in
    record {
      watched = watched-next (g.S.Stop.condition c.args.stop.now) c.args.quick c.args.machine.now c.loop-count.machine m.new.machine c.loop-count.count (c.loop-count.count + 1) m.result.1
          i.watched m.ensures.state m.ensures.is_met c.if-is_met.false (sym c.is_running.ensures ∙ c.if-not-is_running.false) refl;
      within = omega (arith, c.loop-count-test.true);
      printed = printed-next c.args.quick c.args.machine.now c.loop-count.machine c.loop-count.count (c.loop-count.count + 1) m.result.0 c.args.printed.now.items
          c.loop-count.printed.items c.push_character.new.characters.items i.printed i.watched.state m.ensures.answer c.push_character.ensures.items refl;
      room = c.push_character.ensures.capacity ∙ i.room;
    }

pub returns-clause-steps : goal.returns-clause-steps
returns-clause-steps g c =
    watched-all (g.S.Stop.condition c.args.stop.now) c.args.quick c.args.machine.now c.loop-count.machine c.loop-count.count c.args.most c.loop-count.invariant.watched c.requires.some
    (omega (arith, c.loop-count-test.false)) c.loop-count.invariant.within
